-- What reading a source finds, in the bytes of the source: it answers each of its answers exactly if that answer's words hold.
use Rattle.std.proofs.Common.{◌≡◌, ◌∙◌, sym, ap, refl, subst, ℕ, ◌+◌, ◌≤◌, List, [], ◌∷◌, ◌++◌, length, map, true, false, cond, Option, Some, None, Result, Ok, Err, arith, append-nil, append_assoc, inl, inr}
use Rattle.std.specs.Prelude.{◌==◌, nat_le}
use Rattle.std.specs.List.{AllByRecursion, concat, flat_map}
use Rattle.std.specs.Option.{option_map_or}
use Rattle.std.proofs.lemmas.Bool.Decides.{nat_tests}
use Rattle.std.proofs.lemmas.Bool.{cases_Bool}
use Rattle.std.proofs.lemmas.Option.{cond_some, option_and_then_some}
use Rattle.eg_input.specs.Images.{Line, lines_of}
use Rattle.eg_input.proofs.LineLemmas.{lines_of-nothing, concat-lines_of, HasFirst, first_of}
use Rattle.eg_asm.specs.declared.fault.AsmFault.{AsmFault}
use Rattle.eg_asm.specs.declared.fault.AsmFault.TheVariants as fault
use Rattle.eg_asm.specs.Grammar.{Item, Nothing, Comment, Label, Instruction, IsItem, IsLineOf, IsTextOf, line_of}
use Rattle.eg_asm.specs.Words.{size, word_count, first_fault}
use Rattle.eg_asm.specs.Sources.{GoesWrong, Assembles}
use Rattle.eg_asm.specs.Reading.{item_in, with_room, item_behind, refusal, item_before, items_from, linked, words_read, assembled}
use Rattle.eg_asm.proofs.CutLaws.{AreCut, lines_of-cut, lines_of-concat, lines_of-item, item_in-written, item_in-back, cut-more}
use Rattle.eg_asm.proofs.FormLemmas.{none_if}

-- ---- good lines ----

-- items before those of a rest, or the fault of the rest
abbrev pub onto : List Item → Result (List Item) AsmFault → Result (List Item) AsmFault
onto good (Ok items) = Ok (good ++ items)
onto good (Err e) = Err e

onto-more : (e : AsmFault) (item : Item) (good : List Item) (read : Result (List Item) AsmFault) → item_before e (Some item) (onto good read) ≡ onto (item ∷ good) read
unfolding item_before
onto-more e item good (Ok items) = refl
onto-more e item good (Err later) = refl

pub onto-nothing : (read : Result (List Item) AsmFault) → onto [] read ≡ read
onto-nothing (Ok items) = refl
onto-nothing (Err e) = refl

-- an item is at most one word
size-most : (item : Item) → size item ≤ 1
unfolding size
size-most Nothing = omega arith
size-most (Comment bytes) = omega arith
size-most (Label name) = omega arith
size-most (Instruction mnemonic values) = omega arith

-- the line of an item for which there is room
behind-written : (words : ℕ) (item : Item) → IsItem item → words + size item ≤ 1024 → item_behind words (line_of item) ≡ Some item
unfolding item_behind
behind-written words item may few =
    let room : nat_le (words + size item) 1024 ≡ true = grind (arith, nat_tests) in
    rw (item_in-written item may, room) refl

-- the item of a line that may come
pub behind-back : (words : ℕ) (line : Line) (item : Item) → item_behind words line ≡ Some item → (item_in line ≡ Some item) × (words + size item ≤ 1024)
unfolding item_behind
behind-back words line item is = option_and_then_some (with_room words) (item_in line) item is (λ found said fits.
    let room = cond_some (nat_le (words + size found) 1024) found item fits in rw (← room.1) (said, grind (arith, nat_tests)))

-- lines of items are read as them, before the rest
items_from-good : (words place : ℕ) (good : List Item) (lines : List Line) → AllByRecursion IsItem good → words + word_count good ≤ 1024
    → items_from words place (map line_of good ++ lines) ≡ onto good (items_from (words + word_count good) (place + length good) lines)
unfolding items_from word_count
items_from-good words place [] lines may few =
    let same_words : words + 0 ≡ words = omega arith in
    let same_place : place + 0 ≡ place = omega arith in
    rw (same_words, same_place) (sym (onto-nothing (items_from words place lines)))
items_from-good words place (item ∷ good) lines may few =
    let words_are : words + size item + word_count good ≡ words + (size item + word_count good) = omega arith in
    let place_is : place + 1 + length good ≡ place + length (item ∷ good) = omega arith in
    rw (behind-written words item may.0 (omega arith), items_from-good (words + size item) (place + 1) good lines may.1 (omega arith), words_are, place_is)
    (onto-more (refusal words place) item good (items_from (words + (size item + word_count good)) (place + length (item ∷ good)) lines))

-- the lines of a text that begins with those of items
lines_of-items : (good : List Item) (rest : List ℕ) → AllByRecursion IsItem good → lines_of (flat_map line_of good ++ rest) ≡ map line_of good ++ lines_of rest
lines_of-items [] rest may = refl
lines_of-items (item ∷ good) rest may =
    ap lines_of (append_assoc (line_of item) (flat_map line_of good) rest) ∙ lines_of-item item (flat_map line_of good ++ rest) may.0
    ∙ ap (λ (ls : List Line). line_of item ∷ ls) (lines_of-items good rest may.1)

-- a text that begins so is read so
begins : (source front rest : List ℕ) (good : List Item) → source ≡ front ++ rest → IsTextOf front good → word_count good ≤ 1024
    → items_from 0 1 (lines_of source) ≡ onto good (items_from (word_count good) (length good + 1) (lines_of rest))
begins source front rest good parts text few =
    let cut : lines_of source ≡ map line_of good ++ lines_of rest =
    ap lines_of (parts ∙ ap (λ (l : List ℕ). l ++ rest) text.written) ∙ lines_of-items good rest text.may in
    let words_are : 0 + word_count good ≡ word_count good = omega arith in
    let place_is : 1 + length good ≡ length good + 1 = omega arith in
    ap (items_from 0 1) cut ∙ items_from-good 0 1 good (lines_of rest) text.may (omega arith) ∙ rw (words_are, place_is) refl

-- a text that is all of items
whole : (source : List ℕ) (items : List Item) → IsTextOf source items → word_count items ≤ 1024 → items_from 0 1 (lines_of source) ≡ Ok items
unfolding items_from
whole source items text few =
    begins source source [] items (sym (append-nil source)) text few ∙ rw lines_of-nothing (ap (λ (l : List Item). Ok l) (append-nil items))

-- ---- a line that stops the reading ----

-- a line stops it where nothing that it says may come
stops-if : (words : ℕ) (may_come : Item → Type 0) (rest : List ℕ) → ((item : Item) → words + size item ≤ 1024 → may_come item) → GoesWrong may_come rest
    → (f : HasFirst rest) → item_behind words f.line ≡ None
stops-if words may_come rest allows wrong f = none_if (item_behind words f.line) (λ item is.
    let back = behind-back words f.line item is in
    wrong.wrong f.line (concat f.others) item f.parts (item_in-back f.line f.others item (subst AreCut f.are (lines_of-cut rest)) back.0) (allows item back.1))

-- the fault of the line that comes then
stopped : (source front rest : List ℕ) (good : List Item) (may_come : Item → Type 0) → source ≡ front ++ rest → IsTextOf front good → word_count good ≤ 1024
    → ((item : Item) → word_count good + size item ≤ 1024 → may_come item) → GoesWrong may_come rest
    → items_from 0 1 (lines_of source) ≡ Err (refusal (word_count good) (length good + 1))
unfolding items_from item_before
stopped source front rest good may_come parts text few allows wrong =
    let f = first_of rest wrong.more in
    let none = stops-if (word_count good) may_come rest allows wrong f in
    begins source front rest good parts text few ∙ rw (f.are, none) refl

-- ---- each answer's words give the answer ----

pub assembled-then : (source : List ℕ) (answer : Result (List ℕ) AsmFault) → Assembles source answer → assembled source ≡ answer
unfolding assembled words_read linked refusal
assembled-then source (Ok words) h = rw (whole source h.items h.text h.most, h.sound, h.words_are) refl
assembled-then source (Err fault.Memory) h = absurd h
assembled-then source (Err (fault.Label place)) h = rw (whole source h.items h.text h.most, h.at) refl
assembled-then source (Err (fault.Line place)) h =
    let few = h.few in
    let room : (word_count h.good == 1024) ≡ false = grind (arith, nat_tests) in
    rw (stopped source h.front h.rest h.good (λ item. Unit {0}) h.parts h.text (omega arith) (λ item fits. tt) h.bad, room, h.at) refl
assembled-then source (Err fault.Long) h =
    let full = h.full in
    let none : (word_count h.good == 1024) ≡ true = grind (arith, nat_tests) in
    rw (stopped source h.front h.rest h.good (λ item. size item ≡ 0) h.parts h.text (omega arith) (λ item fits. omega arith) h.bad, none) refl

-- ---- what is read holds of the source ----

-- lines that are read up to one that may not come
pub record Stops (words place : ℕ) (lines : List Line) (e : AsmFault) : Type 0 where
  pub good : List Item
  pub line : Line
  pub others : List Line
  pub may : AllByRecursion IsItem good
  pub parts : concat lines ≡ flat_map line_of good ++ concat (line ∷ others)
  pub cut : AreCut (line ∷ others)
  pub few : words + word_count good ≤ 1024
  pub stops : item_behind (words + word_count good) line ≡ None
  pub fault_is : e ≡ refusal (words + word_count good) (place + length good)

-- lines that are all read
pub record Reads (words : ℕ) (lines : List Line) (items : List Item) : Type 0 where
  pub may : AllByRecursion IsItem items
  pub parts : concat lines ≡ flat_map line_of items
  pub few : words + word_count items ≤ 1024

abbrev pub Finds : ℕ → ℕ → List Line → Result (List Item) AsmFault → Type 0
Finds words place lines (Ok items) = Reads words lines items
Finds words place lines (Err e) = Stops words place lines e

-- a good line more
finds-more : (words place : ℕ) (line : Line) (lines : List Line) (item : Item) (read : Result (List Item) AsmFault) → IsLineOf line item
    → Finds (words + size item) (place + 1) lines read → Finds words place (line ∷ lines) (item_before (refusal words place) (Some item) read)
unfolding item_before word_count
finds-more words place line lines item (Ok items) is h = record {
  may = (is.may, h.may);
  parts = ap (λ (l : List ℕ). l ++ concat lines) is.written ∙ ap (λ (l : List ℕ). line_of item ++ l) h.parts;
  few = let few = h.few in omega arith;
}
finds-more words place line lines item (Err e) is h =
    let words_are : words + size item + word_count h.good ≡ words + (size item + word_count h.good) = omega arith in
    let place_is : place + 1 + length h.good ≡ place + length (item ∷ h.good) = omega arith in
    record {
      good = item ∷ h.good;
      line = h.line;
      others = h.others;
      may = (is.may, h.may);
      parts = ap (λ (l : List ℕ). l ++ concat lines) is.written ∙ ap (λ (l : List ℕ). line_of item ++ l) h.parts
          ∙ sym (append_assoc (line_of item) (flat_map line_of h.good) (concat (h.line ∷ h.others)));
      cut = h.cut;
      few = let few = h.few in omega arith;
      stops = ap (λ n. item_behind n h.line) (sym words_are) ∙ h.stops;
      fault_is = h.fault_is ∙ rw (words_are, place_is) refl;
    }

-- a line that may not come
finds-none : (words place : ℕ) (line : Line) (lines : List Line) (read : Result (List Item) AsmFault) → AreCut (line ∷ lines) → words ≤ 1024 → item_behind words line ≡ None
    → Finds words place (line ∷ lines) (item_before (refusal words place) None read)
unfolding item_before word_count
finds-none words place line lines read cut few none =
    let words_are : words + 0 ≡ words = omega arith in
    let place_is : place + 0 ≡ place = omega arith in
    record {
      good = [];
      line = line;
      others = lines;
      may = tt;
      parts = refl;
      cut = cut;
      few = omega arith;
      stops = ap (λ n. item_behind n line) words_are ∙ none;
      fault_is = rw (words_are, place_is) refl;
    }

pub finds : (words place : ℕ) (lines : List Line) → AreCut lines → words ≤ 1024 → Finds words place lines (items_from words place lines)
unfolding items_from word_count
finds words place [] cut few = record { may = tt; parts = refl; few = omega arith }
finds words place (line ∷ lines) cut few = at (item_behind words line) refl (λ words place. finds words place lines (cut-more line lines cut))
  where
    at : (o : Option Item) → item_behind words line ≡ o → ((words place : ℕ) → words ≤ 1024 → Finds words place lines (items_from words place lines))
        → Finds words place (line ∷ lines) (item_before (refusal words place) o (items_from (words + option_map_or size o 0) (place + 1) lines))
    at None none more = finds-none words place line lines (items_from (words + 0) (place + 1) lines) cut few none
    at (Some item) some more =
        let back = behind-back words line item some in
        finds-more words place line lines item (items_from (words + size item) (place + 1) lines) (item_in-back line lines item cut back.0)
        (more (words + size item) (place + 1) back.1)

-- where the reading stops, what is left goes wrong
goes_wrong : (source : List ℕ) (e : AsmFault) (may_come : Item → Type 0) (h : Stops 0 1 (lines_of source) e)
    → ((item : Item) → may_come item → word_count h.good + size item ≤ 1024) → GoesWrong may_come (concat (h.line ∷ h.others))
goes_wrong source e may_come h allows = record {
  more = λ none. let lines = sym (lines_of-concat (h.line ∷ h.others) h.cut) ∙ ap lines_of none ∙ lines_of-nothing in absurd cc;
  wrong = λ line rest item parts is may.
      let again : h.line ∷ h.others ≡ line_of item ∷ lines_of rest =
      sym (lines_of-concat (h.line ∷ h.others) h.cut) ∙ ap lines_of (parts ∙ ap (λ (l : List ℕ). l ++ rest) is.written) ∙ lines_of-item item rest is.may in
      let same : h.line ≡ line_of item = cc in
      let words_are : 0 + word_count h.good ≡ word_count h.good = omega arith in
      let none : item_behind (word_count h.good) (line_of item) ≡ None = ap (item_behind (word_count h.good)) (sym same)
      ∙ ap (λ n. item_behind n h.line) (sym words_are) ∙ h.stops in
      let some = behind-written (word_count h.good) item is.may (allows item may) in
      absurd cc;
}

-- the fault that stops it
stops-gives : (source : List ℕ) (e : AsmFault) → Stops 0 1 (lines_of source) e → Assembles source (Err e)
unfolding refusal
stops-gives source e h = subst P (sym e_is) (elim (cases_Bool (word_count h.good == 1024)) [
  | inl full ↦ rw full (record {
    good = h.good;
    front = flat_map line_of h.good;
    rest = concat (h.line ∷ h.others);
    parts = parts;
    text = record { may = h.may; written = refl };
    full = grind (arith, nat_tests);
    bad = goes_wrong source e (λ item. size item ≡ 0) h (λ item none. omega arith);
  })
  | inr room ↦ rw room (record {
    good = h.good;
    front = flat_map line_of h.good;
    rest = concat (h.line ∷ h.others);
    parts = parts;
    text = record { may = h.may; written = refl };
    few = (let few = h.few in grind (arith, nat_tests));
    bad = goes_wrong source e (λ item. Unit {0}) h (λ item any. let fewer = h.few in let most = size-most item in grind (arith, nat_tests));
    at = refl;
  })
])
  where
    parts : source ≡ flat_map line_of h.good ++ concat (h.line ∷ h.others)
    parts = sym (concat-lines_of source) ∙ h.parts

    words_are : 0 + word_count h.good ≡ word_count h.good
    words_are = omega arith

    place_is : 1 + length h.good ≡ length h.good + 1
    place_is = omega arith

    e_is : e ≡ cond (word_count h.good == 1024) fault.Long (fault.Line (length h.good + 1))
    e_is = h.fault_is ∙ rw (words_are, place_is) refl

    P : AsmFault → Type 0
    P f = Assembles source (Err f)

-- what is found of items that were read
reads-gives : (source : List ℕ) (items : List Item) → Reads 0 (lines_of source) items → (o : Option ℕ) → first_fault items ≡ o → Assembles source (linked items o)
unfolding linked
reads-gives source items h None sound = record {
  items = items;
  text = record { may = h.may; written = sym (concat-lines_of source) ∙ h.parts };
  most = let few = h.few in omega arith;
  sound = sound;
  words_are = refl;
}
reads-gives source items h (Some place) at = record {
  items = items;
  text = record { may = h.may; written = sym (concat-lines_of source) ∙ h.parts };
  most = let few = h.few in omega arith;
  at = at;
}

pub assembled-gives : (source : List ℕ) → Assembles source (assembled source)
unfolding assembled words_read
assembled-gives source = at (items_from 0 1 (lines_of source)) (finds 0 1 (lines_of source) (lines_of-cut source) (omega arith))
  where
    at : (read : Result (List Item) AsmFault) → Finds 0 1 (lines_of source) read → Assembles source (words_read read)
    at (Ok items) h = reads-gives source items h (first_fault items) refl
    at (Err e) h = stops-gives source e h
