-- The lines of a text, and which of them say something.
use Rattle.std.proofs.Common.{◌≡◌, ◌∙◌, sym, ap, refl, ℕ, ◌<◌, List, [], ◌∷◌, ◌++◌, length, false, Some, None, ◌⊎◌, inl, inr, arith, append-nil}
use Rattle.std.specs.Prelude.{◌==◌}
use Rattle.std.specs.List.{list_any, concat, onto_first}
use Rattle.std.proofs.lemmas.Bool.Decides.{nat_tests}
use Rattle.std.proofs.lemmas.Bool.{or_parts, cases_Bool}
use Rattle.eg_input.specs.Images.{Line, lines_of}
use Rattle.eg_input.proofs.LineLemmas.{lines_of-nothing, lines_of-line}
use Rattle.eg_asm.specs.Grammar.{Item, IsItem, IsLineOf, text_of, line_of}
use Rattle.eg_asm.specs.Reading.{is_byte, item_in}
use Rattle.eg_asm.proofs.TextLaws.{Lacks, lacks-all, before_last-there, before_last-nowhere}
use Rattle.eg_asm.proofs.LineLaws.{text_of-feed, item_of_text-written, item_of_text-back}

-- each line but the last ends at its only line feed, and none is empty
abbrev pub AreCut : List Line → Type 0
AreCut [] = Unit {0}
AreCut (line ∷ lines) = ((front : List ℕ) × (line ≡ front ++ 10 ∷ []) × Lacks 10 front × AreCut lines) ⊎ (Lacks 10 line × (lines ≡ []) × (0 < length line))

-- a byte more before the first line
cut-byte : (b : ℕ) → (b == 10) ≡ false → (lines : List Line) → AreCut lines → AreCut (onto_first b lines)
cut-byte b other [] cut = inr (rw other refl, refl, omega arith)
cut-byte b other (line ∷ lines) (inl (front, is, lacks, cut)) = inl (b ∷ front, rw is refl, rw other lacks, cut)
cut-byte b other (line ∷ lines) (inr (lacks, none, some)) = inr (rw other lacks, none, omega arith)

pub lines_of-cut : (bytes : List ℕ) → AreCut (lines_of bytes)
unfolding lines_of
lines_of-cut [] = tt
lines_of-cut (b ∷ bytes) = elim (cases_Bool (b == 10)) [
  | inl is ↦ (let same : b ≡ 10 = grind (arith, nat_tests) in rw is (inl ([], rw same refl, refl, lines_of-cut bytes)))
  | inr is ↦ rw is (cut-byte b is (lines_of bytes) (lines_of-cut bytes))
]

-- ---- what lines say ----

-- the line of an item says it
pub item_in-written : (item : Item) → IsItem item → item_in (line_of item) ≡ Some item
unfolding item_in line_of
item_in-written item may = rw (before_last-there 10 (text_of item)) (item_of_text-written item may)

-- a line that ends at its only line feed is the line of the item that it says
item_in-fed : (front : List ℕ) (item : Item) → Lacks 10 front → item_in (front ++ 10 ∷ []) ≡ Some item → IsLineOf (front ++ 10 ∷ []) item
unfolding item_in line_of
item_in-fed front item lacks is =
    let back = item_of_text-back front item lacks (sym (rw (before_last-there 10 front) refl) ∙ is) in
    record { may = back.0; written = ap (λ (l : List ℕ). l ++ 10 ∷ []) back.1 }

-- a line without one says nothing
item_in-unfed : (line : List ℕ) → Lacks 10 line → item_in line ≡ None
unfolding item_in
item_in-unfed line lacks = rw (before_last-nowhere 10 line lacks) refl

pub item_in-back : (line : Line) (lines : List Line) (item : Item) → AreCut (line ∷ lines) → item_in line ≡ Some item → IsLineOf line item
item_in-back line lines item (inl (front, is, lacks, cut)) said = rw is (item_in-fed front item lacks (rw is at said))
item_in-back line lines item (inr (lacks, none, some)) said = let nothing = item_in-unfed line lacks in absurd cc

pub cut-more : (line : Line) (lines : List Line) → AreCut (line ∷ lines) → AreCut lines
cut-more line lines (inl (front, is, lacks, cut)) = cut
cut-more line lines (inr (lacks, none, some)) = rw none tt

-- the line of an item is the first line of a text that begins with it
pub lines_of-item : (item : Item) (rest : List ℕ) → IsItem item → lines_of (line_of item ++ rest) ≡ line_of item ∷ lines_of rest
unfolding line_of
lines_of-item item rest may = lines_of-line (text_of item) 10 rest (lacks-all 10 (text_of item) (text_of-feed item may)) refl

-- ---- lines that are put together ----

-- a text without a line feed is one line
lines_of-unfed : (b : ℕ) (bytes : List ℕ) → Lacks 10 (b ∷ bytes) → lines_of (b ∷ bytes) ≡ (b ∷ bytes) ∷ []
unfolding lines_of
lines_of-unfed b [] lacks = rw (or_parts (b == 10) false lacks).0 refl
lines_of-unfed b (c ∷ bytes) lacks =
    let parts = or_parts (b == 10) (list_any (is_byte 10) (c ∷ bytes)) lacks in
    rw parts.0 (ap (onto_first b) (lines_of-unfed c bytes parts.1))

pub lines_of-concat : (lines : List Line) → AreCut lines → lines_of (concat lines) ≡ lines
lines_of-concat [] cut = lines_of-nothing
lines_of-concat (line ∷ lines) (inl (front, is, lacks, cut)) =
    ap (λ (l : List ℕ). lines_of (l ++ concat lines)) is ∙ lines_of-line front 10 (concat lines) (lacks-all 10 front lacks) refl
    ∙ rw (← is) (ap (λ (ls : List Line). line ∷ ls) (lines_of-concat lines cut))
lines_of-concat ([] ∷ lines) (inr (lacks, none, some)) = absurd (omega arith)
lines_of-concat ((b ∷ bytes) ∷ lines) (inr (lacks, none, some)) =
    ap (λ (ls : List Line). lines_of (concat ((b ∷ bytes) ∷ ls))) none ∙ ap lines_of (append-nil (b ∷ bytes)) ∙ lines_of-unfed b bytes lacks ∙ ap (λ (ls : List Line). (b ∷ bytes) ∷ ls) (sym none)
