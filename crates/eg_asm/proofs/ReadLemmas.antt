-- How lines are read, one after the other.
use Rattle.std.proofs.Common.{◌≡◌, ◌∙◌, sym, ap, refl, subst, ℕ, ◌+◌, ◌<◌, ◌≤◌, List, [], ◌∷◌, ◌++◌, length, Option, Some, None, Result, Ok, Err, option_map, arith, append-nil, append_assoc, length-append}
use Rattle.std.specs.Prelude.{min}
use Rattle.std.specs.List.{AllByRecursion}
use Rattle.eg_input.specs.Images.{lines_of}
use Rattle.eg_input.proofs.LineLemmas.{lines_of-nothing}
use Rattle.eg_asm.specs.declared.fault.AsmFault.{AsmFault}
use Rattle.eg_asm.specs.declared.source.Source.{Source}
use Rattle.eg_asm.specs.Grammar.{Item, Nothing, Comment, Label, Instruction, IsItem}
use Rattle.eg_asm.specs.Words.{size, word_count}
use Rattle.eg_asm.specs.Inner.Encodings.{Told, told}
use Rattle.eg_asm.specs.Inner.Kept.{HasForm, HoldsItems, ReadsMore, StopsAt}
use Rattle.eg_asm.specs.Reading.{item_in, item_behind, refusal, item_before, items_from}
use Rattle.eg_asm.proofs.LineLaws.{said-form}
use Rattle.eg_asm.proofs.CutLaws.{lines_of-cut}
use Rattle.eg_asm.proofs.KeepsLemmas.{word_count-one}
use Rattle.eg_asm.proofs.SourceLaws.{behind-back, onto, Finds, finds, onto-nothing}

-- an item that is told of
pub told-some : (t : Told) (o : Option Item) → Some t ≡ option_map told o → (item : Item) × (o ≡ Some item) × (told item ≡ t)
told-some t None is = absurd cc
told-some t (Some item) is = let same : told item ≡ t = cc in (item, refl, same)

-- an item that a line says is of a form, if it is an instruction
said-has_form : (line : List ℕ) (item : Item) → item_in line ≡ Some item → HasForm item
unfolding HasForm
said-has_form line Nothing said = tt
said-has_form line (Comment bytes) said = tt
said-has_form line (Label name) said = tt
said-has_form line (Instruction mnemonic values) said = let f = said-form line mnemonic values said in rw f.1 refl

pub behind-has_form : (words : ℕ) (line : List ℕ) (item : Item) → item_behind words line ≡ Some item → HasForm item
behind-has_form words line item is = said-has_form line item (behind-back words line item is).0

-- ---- so many lines ----

-- The lines up to a rest were read: they said these items, and this is kept of them.
pub record IsRead (bytes rest : List ℕ) (source : Source) (place : ℕ) : Type 0 where
  pub items : List Item
  pub holds : HoldsItems source items
  pub count : place ≡ length items
  pub few : word_count items ≤ 1024
  pub told : onto items (items_from (word_count items) (length items + 1) (lines_of rest)) ≡ items_from 0 1 (lines_of bytes)
  pub room : place + length rest ≤ length bytes

-- nothing is read yet
pub read-start : (bytes rest : List ℕ) (source : Source) → rest ≡ bytes → HoldsItems source [] → IsRead bytes rest source 0
unfolding word_count
read-start bytes rest source same holds = record {
  items = [];
  holds = holds;
  count = refl;
  few = omega arith;
  told = ap (λ (l : List ℕ). onto [] (items_from 0 1 (lines_of l))) same ∙ onto-nothing (items_from 0 1 (lines_of bytes));
  room = omega (arith, ap length same);
}

-- the items that are read behind others
onto-one : (e : AsmFault) (items : List Item) (item : Item) (read : Result (List Item) AsmFault) → onto items (item_before e (Some item) read) ≡ onto (items ++ item ∷ []) read
unfolding item_before
onto-one e items item (Ok more) = ap (λ (l : List Item). Ok l) (sym (append_assoc items (item ∷ []) more))
onto-one e items item (Err later) = refl

-- a step takes something
pub shorter : (rest line after : List ℕ) (i : ℕ) → rest ≡ line ++ after → length line ≡ min (i + 1) (length rest) → 0 < length rest → length after < length rest
shorter rest line after i parts long some = omega (arith, ap length parts, length-append line after)

-- a line more
pub read-more : (bytes rest line after : List ℕ) (old new : Source) (place : ℕ) → lines_of rest ≡ line ∷ lines_of after → length after < length rest
    → ReadsMore (place + 1) line old new → IsRead bytes rest old place → IsRead bytes after new (place + 1)
unfolding items_from
read-more bytes rest line after old new place cut shorter reads r =
    let counted = r.count in
    let one = reads r.items (omega arith) r.holds in
    let fits = behind-back (word_count r.items) line one.0 one.1 in
    let long : length (r.items ++ one.0 ∷ []) ≡ length r.items + 1 = length-append r.items (one.0 ∷ []) ∙ omega arith in
    let step : items_from (word_count r.items) (length r.items + 1) (lines_of rest)
    ≡ item_before (refusal (word_count r.items) (length r.items + 1)) (Some one.0) (items_from (word_count r.items + size one.0) (length r.items + 1 + 1) (lines_of after)) =
    rw (cut, one.1) refl in
    record {
      items = r.items ++ one.0 ∷ [];
      holds = one.2;
      count = omega (arith, long);
      few = omega (arith, fits.1, word_count-one r.items one.0);
      told =
          rw (word_count-one r.items one.0, long)
          (sym (onto-one (refusal (word_count r.items) (length r.items + 1)) r.items one.0 (items_from (word_count r.items + size one.0) (length r.items + 1 + 1) (lines_of after)))
          ∙ ap (onto r.items) (sym step) ∙ r.told);
      room = (let room = r.room in omega arith);
    }

-- a line that may not come
pub read-stops : (bytes rest line after : List ℕ) (source : Source) (place : ℕ) (e : AsmFault) → lines_of rest ≡ line ∷ lines_of after → StopsAt (place + 1) line source e → IsRead bytes rest source place
    → items_from 0 1 (lines_of bytes) ≡ Err e
unfolding items_from item_before
read-stops bytes rest line after source place e cut stops r =
    let h = stops r.items r.holds in
    let counted = r.count in
    let same : place + 1 ≡ length r.items + 1 = omega arith in
    sym r.told ∙ rw (cut, h.0, h.1, same) refl

-- no line is left
pub read-end : (bytes rest : List ℕ) (source : Source) (place : ℕ) → rest ≡ [] → IsRead bytes rest source place → (items : List Item) × (items_from 0 1 (lines_of bytes) ≡ Ok items) × HoldsItems source items
unfolding items_from
read-end bytes rest source place none r =
    let end : lines_of rest ≡ [] = ap lines_of none ∙ lines_of-nothing in
    (r.items, sym r.told ∙ rw end (ap (λ (l : List Item). Ok l) (append-nil r.items)), r.holds)

-- ---- what was read ----

-- items that were read may be said, and are not too many
pub read-may : (bytes : List ℕ) (items : List Item) → items_from 0 1 (lines_of bytes) ≡ Ok items → AllByRecursion IsItem items × (word_count items ≤ 1024)
read-may bytes items is =
    let P : Result (List Item) AsmFault → Type 0 = Finds 0 1 (lines_of bytes) in
    let h = subst P is (finds 0 1 (lines_of bytes) (lines_of-cut bytes) (omega arith)) in
    (h.may, let few = h.few in omega arith)
