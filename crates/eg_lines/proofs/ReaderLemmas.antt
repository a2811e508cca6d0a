-- What a source over a buffered reader makes of what the reader shows.
use Rattle.std.proofs.Common.{◌≡◌, ◌≢◌, ◌∙◌, sym, ap, refl, subst, ℕ, suc, ◌+◌, ◌-◌, ◌<◌, ◌≤◌, List, [], ◌∷◌, ◌++◌, length, take, drop, arith, Bool, true, false, cond, Option, None, Some, append_assoc, append-nil, take_all, get_or, inl, inr, length-append}
use Rattle.std.specs.Prelude.{All, IsTrue, IsSome, IfSome, Result, Ok, Err, OnErr, option_map}
use Rattle.std.proofs.Math.Seq.{drop-cons}
use Rattle.std.proofs.lemmas.Bool.{cases_lt}
use Rattle.std.proofs.lemmas.List.{take-append-drop, take-append-le, take-take, length-take, length-take-le, get_or-take}
use Rattle.std.proofs.lemmas.List.Elements.{All-append}
use Rattle.std.specs.Io.{StartsWith}
use Rattle.std.specs.Io.KnownBytes.{Keeps}
use Rattle.std.specs.Io.BufRead.{DropsConsumable}
use Rattle.eg_base.specs.declared.store.ReadRefusal.{ReadRefusal}
use Rattle.eg_lines.specs.Lines.{lines_in, NextLine, EndsLines}
use Rattle.eg_lines.specs.Readers.{ReaderState, lines_left, KeepsLines, GivesLine, HasEnded, ReadsPiece, is_cut, shown_by}
use Rattle.eg_lines.specs.declared.read_lines.Piece.{Piece}
use Rattle.eg_lines.specs.declared.read_lines.Piece.TheVariants.{Part, Line, Cut, End}
use Rattle.eg_lines.proofs.LineLemmas.{lines_in-nothing, lines_in-line, lines_in-last, lines_in-passed, IsLonger, is_longer}

-- ---- what a reader shows ----

-- what a reader showed of what it has left, and what it has left then
pub record Shows (a b : Option (List ℕ)) (buffered : Option ℕ) (shown : List ℕ) : Type 0 where
  pub front : IfSome a (λ text. StartsWith text shown)
  pub kept : Keeps a b
  pub fits : IfSome a (λ _. IfSome buffered (λ k. length shown ≤ k))

-- what is consumed of what was shown is gone
gone : (text : List ℕ) (b c : Option (List ℕ)) (buffered : Option ℕ) (shown : List ℕ) (n : ℕ) → Shows (Some text) b buffered shown → n ≤ length shown
    → DropsConsumable b c buffered n → c ≡ Some (drop n text)
gone text None c buffered shown n shows few drops = absurd shows.kept
gone text (Some y) c buffered shown n shows few drops = drops (room_in buffered n (length shown) few shows.fits) ∙ ap (λ bytes. Some (drop n bytes)) shows.kept
  where
    room_in : (buffered : Option ℕ) (n long : ℕ) → n ≤ long → IfSome buffered (λ k. long ≤ k) → IfSome buffered (λ k. n ≤ k)
    room_in None n long most fits = tt
    room_in (Some k) n long most fits = omega arith

-- the first bytes that were shown are the first that are left
first : (text shown : List ℕ) (count : ℕ) → count ≤ length shown → StartsWith text shown → take count shown ≡ take count text
first text shown count few front = ap (take count) (sym front) ∙ take-take count (length shown) text few

-- a byte that was shown stands behind those before it
stands : (text shown : List ℕ) (count : ℕ) → count < length shown → StartsWith text shown → drop count text ≡ get_or shown count 0 ∷ drop (suc count) text
stands text shown count within front =
    let same : get_or text count 0 ≡ get_or shown count 0 = sym (get_or-take (length shown) text count 0 within) ∙ ap (λ bytes. get_or bytes count 0) front in
    let reaches : count < length text = let e = ap length front in let f = length-take (length shown) text in omega arith in
    drop-cons text count 0 reaches ∙ ap (λ byte. byte ∷ drop (suc count) text) same

cut_at : (text shown : List ℕ) (count : ℕ) → count < length shown → StartsWith text shown → text ≡ take count shown ++ get_or shown count 0 ∷ drop (suc count) text
cut_at text shown count within front =
    sym (take-append-drop count text) ∙ ap (λ bytes. bytes ++ drop count text) (sym (first text shown count (omega arith) front))
    ∙ ap (λ bytes. take count shown ++ bytes) (stands text shown count within front)

next_to : (count n : ℕ) → n ≡ count + 1 → n ≡ suc count
next_to count n is = omega arith

-- as many bytes of what was begun as are asked for, and then a piece for which there is room
both-taken : (most : ℕ) (x y : List ℕ) → length y ≤ most - length x → take most x ++ y ≡ take most (x ++ y)
both-taken most x y room = elim (cases_lt most (length x)) [
  | inl less ↦
      let none : y ≡ [] = empty y (omega arith) in
      ap (λ l. take most x ++ l) none ∙ append-nil (take most x) ∙ sym (take-append-le most x y (omega arith))
  | inr all ↦
      let whole : take most x ≡ x = take_all most x (omega arith) in
      let short : length (x ++ y) ≤ most = let e = length-append x y in omega arith in
      ap (λ l. l ++ y) whole ∙ sym (take_all most (x ++ y) short)
]
  where
    empty : (y : List ℕ) → length y ≤ 0 → y ≡ []
    empty [] few = refl
    empty (b ∷ y) few = absurd (omega arith)

-- ---- what is left of the lines ----

-- a line whose line feed was shown
pub reads-line : (most : ℕ) (a b c : Option (List ℕ)) (buffered : Option ℕ) (shown was now old new : List ℕ) (count n : ℕ) → Shows a b buffered shown
    → count < length shown → get_or shown count 0 ≡ 10 → n ≡ count + 1 → count ≤ most - length was → All (λ byte. byte ≢ 10) was → All (λ byte. byte ≢ 10) (take count shown)
    → new ≡ old ++ (take most was ++ take count shown) → now ≡ [] → DropsConsumable b c buffered n
    → GivesLine most (lines_left was false a) (lines_left now false c) old new
reads-line most a b c buffered shown was now old new count n shows within feed next room none_was none got nothing drops =
    (was ++ take count shown, got ∙ ap (λ l. old ++ l) (both-taken most was (take count shown) (let e = length-take-le count shown (omega arith) in omega arith)), at a shows)
  where
    at : (a : Option (List ℕ)) → Shows a b buffered shown → IfSome (lines_left was false a) (λ lines. option_map (λ rest. (was ++ take count shown) ∷ rest) (lines_left now false c) ≡ Some lines)
    at None shows = tt
    at (Some text) shows =
        let line : List ℕ = was ++ take count shown in
        let left : c ≡ Some (drop (suc count) text) = gone text b c buffered shown n shows (omega arith) drops ∙ ap (λ k. Some (drop k text)) (next_to count n next) in
        let whole : was ++ text ≡ line ++ 10 ∷ drop (suc count) text =
        ap (λ l. was ++ l) (cut_at text shown count within shows.front ∙ ap (λ byte. take count shown ++ byte ∷ drop (suc count) text) feed)
        ∙ sym (append_assoc was (take count shown) (10 ∷ drop (suc count) text)) in
        ap (λ begun. option_map (λ rest. line ∷ rest) (lines_left begun false c)) nothing
        ∙ ap (λ l. option_map (λ rest. line ∷ rest) (lines_left [] false l)) left
        ∙ ap Some (sym (ap lines_in whole ∙ lines_in-line line (drop (suc count) text) (All-append (λ byte. byte ≢ 10) was (take count shown) none_was none)))

-- a line of which as much was shown as was asked for, and that goes on
pub reads-cut : (most : ℕ) (a b c : Option (List ℕ)) (buffered : Option ℕ) (shown was now old new : List ℕ) (count : ℕ) → Shows a b buffered shown
    → count < length shown → get_or shown count 0 ≢ 10 → count ≡ most - length was → All (λ byte. byte ≢ 10) was → All (λ byte. byte ≢ 10) (take count shown)
    → new ≡ old ++ (take most was ++ take count shown) → DropsConsumable b c buffered count
    → GivesLine most (lines_left was false a) (lines_left now true c) old new
reads-cut most a b c buffered shown was now old new count shows within other room none_was none got drops = at a shows
  where
    front : List ℕ
    front = was ++ take count shown

    taken : new ≡ old ++ take most front
    taken = got ∙ ap (λ l. old ++ l) (both-taken most was (take count shown) (let e = length-take-le count shown (omega arith) in omega arith))

    at : (a : Option (List ℕ)) → Shows a b buffered shown → GivesLine most (lines_left was false a) (lines_left now true c) old new
    at None shows = (front, taken, tt)
    at (Some text) shows =
        let next : ℕ = get_or shown count 0 in
        let rest : List ℕ = drop (suc count) text in
        let whole : was ++ text ≡ front ++ next ∷ rest =
        ap (λ l. was ++ l) (cut_at text shown count within shows.front) ∙ sym (append_assoc was (take count shown) (next ∷ rest)) in
        let no_feed : All (λ byte. byte ≢ 10) front = All-append (λ byte. byte ≢ 10) was (take count shown) none_was none in
        let more : IsLonger front (front ++ next ∷ rest) = is_longer front next rest no_feed other in
        let long : most ≤ length front = let e = length-append was (take count shown) in let f = length-take-le count shown (omega arith) in omega arith in
        let begins : take most more.line ≡ take most front = sym (take-take most (length front) more.line long) ∙ ap (take most) more.begins in
        let left : c ≡ Some (drop count text) = gone text b c buffered shown count shows (omega arith) drops in
        let others : drop 1 (lines_in (next ∷ rest)) ≡ more.lines = sym (lines_in-passed front (next ∷ rest) no_feed) ∙ ap (drop 1) more.are in (
          more.line,
          taken ∙ ap (λ l. old ++ l) (sym begins),
          ap (λ l. option_map (λ lines. more.line ∷ lines) (lines_left now true l)) (left ∙ ap Some (stands text shown count within shows.front))
              ∙ ap (λ lines. Some (more.line ∷ lines)) others ∙ ap Some (sym (ap lines_in whole ∙ more.are)),
        )

-- ---- at the end ----

-- what was taken of the last line is given
pub reads-last : (most : ℕ) (was now old new : List ℕ) → 0 < length was → All (λ byte. byte ≢ 10) was → new ≡ old ++ (take most was ++ []) → now ≡ []
    → GivesLine most (lines_left was false (Some [])) (lines_left now false (Some [])) old new
reads-last most was now old new some none got nothing = (
  was,
  got ∙ ap (λ l. old ++ l) (append-nil (take most was)),
  ap (λ begun. option_map (λ rest. was ∷ rest) (lines_left begun false (Some []))) nothing ∙ ap (λ lines. Some (was ∷ lines)) lines_in-nothing
      ∙ ap Some (sym (ap lines_in (append-nil was) ∙ lines_in-last was some none)),
)

-- nothing was taken, and nothing is left
pub reads-end : (most : ℕ) (was now held : List ℕ) → was ≡ [] → now ≡ was → HasEnded (lines_left was false (Some [])) (lines_left now false (Some [])) held held
reads-end most was now held nothing same =
    (ap (λ begun. lines_in (begun ++ [])) nothing ∙ lines_in-nothing, ap (λ begun. Some (lines_in (begun ++ []))) same, refl)

-- ---- what is passed over ----

-- the rest of a line goes on
pub passes-part : (a b c : Option (List ℕ)) (buffered : Option ℕ) (shown : List ℕ) (count : ℕ) → Shows a b buffered shown → count ≤ length shown
    → All (λ byte. byte ≢ 10) (take count shown) → DropsConsumable b c buffered count → KeepsLines (lines_left [] true a) (lines_left [] true c)
passes-part None b c buffered shown count shows few none drops = tt
passes-part (Some text) b c buffered shown count shows few none drops =
    ap (lines_left [] true) (gone text b c buffered shown count shows few drops)
    ∙ ap Some (sym (lines_in-passed (take count shown) (drop count text) none)
    ∙ ap (λ bytes. drop 1 (lines_in bytes)) (ap (λ l. l ++ drop count text) (first text shown count few shows.front) ∙ take-append-drop count text))

-- its line feed was shown
pub passes-line : (a b c : Option (List ℕ)) (buffered : Option ℕ) (shown : List ℕ) (count n : ℕ) → Shows a b buffered shown → count < length shown
    → get_or shown count 0 ≡ 10 → n ≡ count + 1 → All (λ byte. byte ≢ 10) (take count shown) → DropsConsumable b c buffered n
    → KeepsLines (lines_left [] true a) (lines_left [] false c)
passes-line None b c buffered shown count n shows within feed next none drops = tt
passes-line (Some text) b c buffered shown count n shows within feed next none drops =
    let rest : List ℕ = drop (suc count) text in
    let left : c ≡ Some rest = gone text b c buffered shown n shows (omega arith) drops ∙ ap (λ k. Some (drop k text)) (next_to count n next) in
    let whole : text ≡ take count shown ++ 10 ∷ rest = cut_at text shown count within shows.front ∙ ap (λ byte. take count shown ++ byte ∷ rest) feed in
    ap (lines_left [] false) left
    ∙ ap Some (sym (ap (λ bytes. drop 1 (lines_in bytes)) whole ∙ ap (drop 1) (lines_in-line (take count shown) rest none)))

-- the reader has nothing more
pub passes-end : (a c : Option (List ℕ)) → IfSome a (λ text. text ≡ []) → Keeps a c → KeepsLines (lines_left [] true a) (lines_left [] false c)
passes-end None c end kept = tt
passes-end (Some x) None end kept = absurd kept
passes-end (Some x) (Some y) end kept =
    ap (λ bytes. Some (lines_in bytes)) (kept ∙ end) ∙ ap Some lines_in-nothing ∙ ap Some (sym (ap (λ bytes. drop 1 (lines_in bytes)) end ∙ ap (drop 1) lines_in-nothing))

-- ---- what is told ----

-- a reader that tells its bytes tells its lines
pub known : (begun : List ℕ) (is_within : Bool) (left : Option (List ℕ)) (is_told : Bool) (faults : ℕ) (state : ReaderState)
    → record { lines = lines_left begun is_within left; is_told = is_told; faults = faults } ≡ state → (IsTrue is_told → IsSome left)
    → IsTrue state.is_told → IsSome state.lines
known begun is_within left is_told faults state is told = subst (λ s. IsTrue s.is_told → IsSome s.lines) is (λ yes. some left (told yes))
  where
    some : (left : Option (List ℕ)) → IsSome left → IsSome (lines_left begun is_within left)
    some None none = absurd (let clash : false ≡ true = none in cc)
    some (Some bytes) is = refl

-- a source that tells its lines, before a call and after it
pub record Tells (before now : ReaderState) : Type 0 where
  pub same : now.is_told ≡ before.is_told
  pub some : IsTrue before.is_told → IsSome before.lines

line-told : (most : ℕ) (told now : Bool) (a b : Option (List (List ℕ))) (old new : List ℕ) → now ≡ told → (IsTrue told → IsSome a) → GivesLine most a b old new
    → (line : List ℕ) × (cond told a None ≡ option_map (λ rest. line ∷ rest) (cond now b None)) × (new ≡ old ++ take most line)
line-told most false false a b old new same some gives = (gives.0, refl, gives.1)
line-told most true true None b old new same some gives = absurd (let clash : false ≡ true = some refl in cc)
line-told most true true (Some x) b old new same some gives = (gives.0, sym gives.2, gives.1)
line-told most true false a b old new same some gives = absurd cc
line-told most false true a b old new same some gives = absurd cc

kept-told : (told now : Bool) (a b : Option (List (List ℕ))) → now ≡ told → (IsTrue told → IsSome a) → KeepsLines a b → cond now b None ≡ cond told a None
kept-told false false a b same some kept = refl
kept-told true true None b same some kept = absurd (let clash : false ≡ true = some refl in cc)
kept-told true true (Some x) b same some kept = kept
kept-told true false a b same some kept = absurd cc
kept-told false true a b same some kept = absurd cc

none-told : (told : Bool) (a : Option (List (List ℕ))) → IfSome a (λ lines. lines ≡ []) → IfSome (cond told a None) (λ lines. lines ≡ [])
none-told false a none = tt
none-told true a none = none

-- a line came, as the trait says
pub tells-line : (most : ℕ) (before now : ReaderState) (old new : List ℕ) → Tells before now → GivesLine most before.lines now.lines old new
    → NextLine most (shown_by before) (shown_by now) old new
tells-line most before now old new tells gives = line-told most before.is_told now.is_told before.lines now.lines old new tells.same tells.some gives

-- none was left
pub tells-end : (before now : ReaderState) (old new : List ℕ) → Tells before now → HasEnded before.lines now.lines old new → EndsLines (shown_by before) (shown_by now) old new
tells-end before now old new tells ended =
    (none-told before.is_told before.lines ended.0, kept-told before.is_told now.is_told before.lines now.lines tells.same tells.some ended.1, ended.2)

-- none was lost
pub tells-kept : (result : Result Bool ReadRefusal) (before now : ReaderState) → Tells before now → OnErr result (KeepsLines before.lines now.lines)
    → OnErr result ((shown_by now).lines ≡ (shown_by before).lines)
tells-kept (Ok came) before now tells kept = tt
tells-kept (Err refusal) before now tells kept = kept-told before.is_told now.is_told before.lines now.lines tells.same tells.some kept
