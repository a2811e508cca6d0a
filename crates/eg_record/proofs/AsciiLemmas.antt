-- The line of a row is ASCII, and so it is text.
use Rattle.std.proofs.Common.{◌≡◌, ◌++◌, ◌+◌, ◌∷◌, [], ◌<◌, List, ℕ, zero, suc, Bool, true, false, ◌&&◌, refl, sym, map, length, drop, get_or, Option, Some, None, subst, arith}
use Rattle.std.proofs.lemmas.Bool.Decides.{nat_tests}
use Rattle.std.specs.Prelude.{codes, decimal, nat_lt}
use Rattle.std.specs.List.{filter, join_with_byte}
use Rattle.std.specs.Str.{IsAscii, IsUtf8}
use Rattle.std.proofs.lemmas.Str.{IsAscii-append, IsUtf8-from_ascii}
use Rattle.std.proofs.lemmas.Str.Ascii.{IsAscii-nil}
use Rattle.eg_num.specs.declared.watches.Watches.{Watches}
use Rattle.eg_answer.specs.declared.marks.AnswerMark.{AnswerMark}
use Rattle.eg_answer.specs.declared.marks.AnswerMark.TheVariants.{Absent, Good, Bad}
use Rattle.eg_answer.specs.declared.marks.Verdict.{Verdict}
use Rattle.eg_answer.specs.declared.marks.Verdict.TheVariants.{Right, Wrong}
use Rattle.eg_record.specs.declared.row.Row.{Row}
use Rattle.eg_record.specs.declared.watch.Watch.{Watch}
use Rattle.eg_record.specs.declared.watch.Watch.TheVariants.{Mirror, Pedal, Plate, Load, Speed, Torque, Answers, Start}
use Rattle.eg_record.specs.Detection.{watches, is_found}
use Rattle.eg_record.specs.Texts.{plus, watch_name, names, found_text, answer_text, verdict_text, numbers_text, row_numbers, events_text, row_columns, row_line}
use Rattle.eg_record.proofs.ColumnsLemmas.{numbers-step}

-- ---- bytes and pieces ----

-- one byte more
more : (b : ℕ) (bs : List ℕ) → b < 128 → IsAscii bs → IsAscii (b ∷ bs)
more b bs small rest zero = small
more b bs small rest (suc i) = rest i

-- whether all bytes are below 128
unfoldable are_small : List ℕ → Bool
are_small [] = true
are_small (b ∷ bs) = nat_lt b 128 && are_small bs

small : (bs : List ℕ) → are_small bs ≡ true → IsAscii bs
unfolding are_small
small [] are = IsAscii-nil
small (b ∷ bs) are = more b bs (first (nat_lt b 128) (are_small bs) are) (small bs (rest (nat_lt b 128) (are_small bs) are))
  where
    rest : (x y : Bool) → (x && y) ≡ true → y ≡ true
    rest true y e = e
    rest false y e = absurd cc

    first : (x y : Bool) → (x && y) ≡ true → b < 128
    first x y e = grind (arith, nat_tests)

-- the number at a place, a comma and those behind it
pub number-more : (numbers : List ℕ) (i j d : ℕ) → j ≡ i + 1 → i < length numbers → IsAscii (decimal (get_or numbers i d)) → IsAscii (numbers_text (drop j numbers))
    → IsAscii (numbers_text (drop i numbers))
unfolding are_small
number-more numbers i j d next below first rest =
    subst IsAscii (sym (numbers-step numbers i j d next below))
    (IsAscii-append (decimal (get_or numbers i d) ++ codes ",") (numbers_text (drop j numbers)) (IsAscii-append (decimal (get_or numbers i d)) (codes ",") first (small (codes ",") refl)) rest)

-- ---- the columns ----

name : (watch : Watch) → IsAscii (watch_name watch)
unfolding watch_name are_small
name Mirror = small (codes "mirror") refl
name Pedal = small (codes "pedal") refl
name Plate = small (codes "plate") refl
name Load = small (codes "load") refl
name Speed = small (codes "speed") refl
name Torque = small (codes "torque") refl
name Answers = small (codes "answers") refl
name Start = small (codes "start") refl

joined_names : (w : Watch) (ws : List Watch) → IsAscii (join_with_byte plus (map watch_name (w ∷ ws)))
joined_names w [] = name w
joined_names w (v ∷ ws) =
    let others = join_with_byte plus (map watch_name (v ∷ ws)) in
    IsAscii-append (watch_name w) (plus ∷ others) (name w) (more plus others (omega arith) (joined_names v ws))

all_names : (ws : List Watch) → IsAscii (names ws)
unfolding names are_small
all_names [] = small (codes "-") refl
all_names (w ∷ ws) = joined_names w ws

found_names : (found : Watches) → IsAscii (found_text found)
unfolding found_text
found_names found = all_names (filter (is_found found) watches)

answer : (mark : AnswerMark) → IsAscii (answer_text mark)
unfolding answer_text are_small
answer Absent = small (codes "-") refl
answer Good = small (codes "good") refl
answer Bad = small (codes "bad") refl

verdict : (verdict : Option Verdict) → IsAscii (verdict_text verdict)
unfolding verdict_text are_small
verdict None = small (codes "-") refl
verdict (Some Right) = small (codes "right") refl
verdict (Some Wrong) = small (codes "wrong") refl

-- ---- the line ----

events : (row : Row) → IsAscii (events_text row)
unfolding events_text are_small
events row =
    let comma = small (codes ",") refl in
    let found = IsAscii-append (found_text row.found) (codes ",") (found_names row.found) comma in
    let heard = IsAscii-append (found_text row.found ++ codes ",") (answer_text row.answer) found (answer row.answer) in
    IsAscii-append ((found_text row.found ++ codes ",") ++ answer_text row.answer ++ codes ",") (verdict_text row.verdict)
    (IsAscii-append ((found_text row.found ++ codes ",") ++ answer_text row.answer) (codes ",") heard comma) (verdict row.verdict)

pub line_is_text : (row : Row) → IsAscii (numbers_text (row_numbers row)) → IsUtf8 (row_line row)
unfolding row_line row_columns are_small
line_is_text row numbers = IsUtf8-from_ascii _
    (IsAscii-append (row_columns row) (codes "\n") (IsAscii-append (numbers_text (row_numbers row)) (events_text row) numbers (events row)) (small (codes "\n") refl))
