-- How a text is cut into lines, and what a source in memory gives of them.
use Rattle.std.proofs.Common.{◌≡◌, ◌≢◌, ◌∙◌, sym, ap, refl, subst, ℕ, suc, ◌+◌, ◌<◌, ◌≤◌, List, [], ◌∷◌, ◌++◌, length, take, drop, true, false, arith, ne_eqb, take_all, get_or, min, drop_of_length-le, inl, inr}
use Rattle.std.specs.Prelude.{All}
use Rattle.std.specs.List.{onto_first}
use Rattle.std.proofs.Math.Seq.{drop-cons}
use Rattle.std.proofs.lemmas.Bool.{cases_lt}
use Rattle.std.proofs.lemmas.List.{take-append-drop, take-take, length-take}
use Rattle.std.proofs.lemmas.List.Elements.{All-head, All-tail}
use Rattle.eg_lines.specs.Sources.{Gives}
use Rattle.eg_lines.specs.Lines.{lines_in}

-- no bytes are no lines
pub lines_in-nothing : lines_in [] ≡ []
unfolding lines_in
lines_in-nothing = refl

-- a line feed ends a line
lines_in-feed : (bytes : List ℕ) → lines_in (10 ∷ bytes) ≡ [] ∷ lines_in bytes
unfolding lines_in
lines_in-feed bytes = refl

-- another byte belongs to the line that comes
lines_in-byte : (b : ℕ) (bytes : List ℕ) → b ≢ 10 → lines_in (b ∷ bytes) ≡ onto_first b (lines_in bytes)
unfolding lines_in
lines_in-byte b bytes other = rw (ne_eqb b 10 other) refl

-- bytes up to the first line feed are the first line
pub lines_in-line : (line rest : List ℕ) → All (λ b. b ≢ 10) line → lines_in (line ++ 10 ∷ rest) ≡ line ∷ lines_in rest
lines_in-line [] rest none = lines_in-feed rest
lines_in-line (b ∷ line) rest none =
    lines_in-byte b (line ++ 10 ∷ rest) (All-head (λ b. b ≢ 10) b line none)
    ∙ ap (onto_first b) (lines_in-line line rest (All-tail (λ b. b ≢ 10) b line none))

-- bytes without a line feed are one line
pub lines_in-last : (line : List ℕ) → 0 < length line → All (λ b. b ≢ 10) line → lines_in line ≡ line ∷ []
lines_in-last [] some none = absurd (omega arith)
lines_in-last (b ∷ []) some none = lines_in-byte b [] (All-head (λ b. b ≢ 10) b [] none) ∙ ap (onto_first b) lines_in-nothing
lines_in-last (b ∷ c ∷ line) some none =
    lines_in-byte b (c ∷ line) (All-head (λ b. b ≢ 10) b (c ∷ line) none)
    ∙ ap (onto_first b) (lines_in-last (c ∷ line) (omega arith) (All-tail (λ b. b ≢ 10) b (c ∷ line) none))

-- bytes without a line feed only begin a line
pub lines_in-passed : (bytes rest : List ℕ) → All (λ b. b ≢ 10) bytes → drop 1 (lines_in (bytes ++ rest)) ≡ drop 1 (lines_in rest)
lines_in-passed [] rest none = refl
lines_in-passed (b ∷ bytes) rest none =
    ap (drop 1) (lines_in-byte b (bytes ++ rest) (All-head (λ b. b ≢ 10) b bytes none)) ∙ begun b (lines_in (bytes ++ rest))
    ∙ lines_in-passed bytes rest (All-tail (λ b. b ≢ 10) b bytes none)
  where
    begun : (b : ℕ) (lines : List (List ℕ)) → drop 1 (onto_first b lines) ≡ drop 1 lines
    begun b [] = refl
    begun b (line ∷ lines) = refl

-- a text whose first line is longer than this front of it
pub record IsLonger (front text : List ℕ) : Type 0 where
  pub line : List ℕ
  pub lines : List (List ℕ)
  pub are : lines_in text ≡ line ∷ lines
  pub longer : length front < length line
  pub begins : take (length front) line ≡ front

-- behind a front without a line feed something else stands
pub is_longer : (front : List ℕ) (next : ℕ) (rest : List ℕ) → All (λ b. b ≢ 10) front → next ≢ 10 → IsLonger front (front ++ next ∷ rest)
is_longer [] next rest none other = at (lines_in rest) refl
  where
    at : (lines : List (List ℕ)) → lines_in rest ≡ lines → IsLonger [] (next ∷ rest)
    at [] are = record { line = next ∷ []; lines = []; are = lines_in-byte next rest other ∙ ap (onto_first next) are; longer = omega arith; begins = refl }
    at (line ∷ lines) are = record { line = next ∷ line; lines = lines; are = lines_in-byte next rest other ∙ ap (onto_first next) are; longer = omega arith; begins = refl }
is_longer (b ∷ front) next rest none other =
    let more : IsLonger front (front ++ next ∷ rest) = is_longer front next rest (All-tail (λ b. b ≢ 10) b front none) other in
    let more_are : lines_in (front ++ next ∷ rest) ≡ more.line ∷ more.lines = more.are in
    record {
      line = b ∷ more.line;
      lines = more.lines;
      are = lines_in-byte b (front ++ next ∷ rest) (All-head (λ b. b ≢ 10) b front none) ∙ ap (onto_first b) more_are;
      longer = let longer = more.longer in omega arith;
      begins = ap (λ (bytes : List ℕ). b ∷ bytes) more.begins;
    }

-- ---- a source in memory ----

-- of no text there is no line
pub gives-none : (most : ℕ) (text held : List ℕ) → text ≡ [] → Gives most (lines_in text) false (lines_in text) held held
gives-none most text held none =
    let nothing : lines_in text ≡ [] = ap lines_in none ∙ lines_in-nothing in
    subst (λ lines. Gives most lines false lines held held) (sym nothing) (refl, refl, refl)

-- the first line of a text, and what stands behind it
first_line : (text : List ℕ) (n : ℕ) → 0 < length text → n ≤ length text → All (λ b. b ≢ 10) (take n text)
    → (n < length text → get_or text n 0 ≡ 10) → lines_in text ≡ take n text ∷ lines_in (drop (min (length text) (n + 1)) text)
first_line text n some within before stops = elim (cases_lt n (length text)) [
  | inl more ↦
      let cut : text ≡ take n text ++ 10 ∷ drop (suc n) text =
      sym (take-append-drop n text) ∙ ap (λ rest. take n text ++ rest) (drop-cons text n 0 more ∙ ap (λ b. b ∷ drop (suc n) text) (stops more)) in
      let behind : suc n ≡ min (length text) (n + 1) = omega arith in
      ap lines_in cut ∙ lines_in-line (take n text) (drop (suc n) text) before ∙ ap (λ k. take n text ∷ lines_in (drop k text)) behind
  | inr last ↦
      let whole : take n text ≡ text = take_all n text (omega arith) in
      let nothing : drop (min (length text) (n + 1)) text ≡ [] = drop_of_length-le text (omega arith) in
      lines_in-last text some (subst (All (λ b. b ≢ 10)) whole before)
      ∙ ap (λ line. line ∷ []) (sym whole) ∙ ap (λ lines. take n text ∷ lines) (sym (ap lines_in nothing ∙ lines_in-nothing))
]

-- two limits, one after the other
take-min : (n most : ℕ) (text : List ℕ) → take (min n most) text ≡ take most (take n text)
take-min n most text = elim (cases_lt most n) [
  | inl less ↦
      let least : min n most ≡ most = omega arith in
      ap (λ k. take k text) least ∙ sym (take-take most n text (omega arith))
  | inr all ↦
      let least : min n most ≡ n = omega arith in
      let few = length-take n text in
      ap (λ k. take k text) least ∙ sym (take_all most (take n text) (omega arith))
]

-- the first `most` bytes of the first line of a text are given
pub gives-line : (most : ℕ) (text old new : List ℕ) (n : ℕ) → 0 < length text → n ≤ length text → All (λ b. b ≢ 10) (take n text)
    → (n < length text → get_or text n 0 ≡ 10) → new ≡ old ++ take (min n most) text
    → Gives most (lines_in text) true (lines_in (drop (min (length text) (n + 1)) text)) old new
gives-line most text old new n some within before stops are =
    let left : List (List ℕ) = lines_in (drop (min (length text) (n + 1)) text) in
    let cut : lines_in text ≡ take n text ∷ left = first_line text n some within before stops in
    subst (λ lines. Gives most lines true left old new) (sym cut)
    (refl, refl, are ∙ ap (λ bytes. old ++ bytes) (take-min n most text))
