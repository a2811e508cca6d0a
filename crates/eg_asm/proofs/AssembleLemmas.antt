-- From what is kept of a source to its answer.
use Rattle.std.proofs.Common.{◌≡◌, ◌∙◌, sym, ap, subst, ℕ, List, [], map, Result, Ok, Err, ◌⊎◌, inl, inr}
use Rattle.std.specs.Prelude.{IfOk, IfErr}
use Rattle.std.specs.declared.vec.Vec.{Vec}
use Rattle.std.specs.declared.alloc.Global.{Global}
use Rattle.eg_input.specs.Images.{lines_of}
use Rattle.eg_asm.specs.declared.fault.AsmFault.{AsmFault}
use Rattle.eg_asm.specs.declared.fault.AsmFault.TheVariants as fault
use Rattle.eg_asm.specs.declared.source.Source.{Source}
use Rattle.eg_asm.specs.Grammar.{Item}
use Rattle.eg_asm.specs.Words.{Labels, labels_of}
use Rattle.eg_asm.specs.Inner.Encodings.{Encoded}
use Rattle.eg_asm.specs.Inner.Kept.{HoldsItems, placed_shown, instructions_from, repeat_behind}
use Rattle.eg_asm.specs.Inner.Linking.{linked_kept, HasLabels}
use Rattle.eg_asm.specs.Sources.{Assembles}
use Rattle.eg_asm.specs.Reading.{items_from, words_read, assembled, IsAssembled}
use Rattle.eg_asm.proofs.LinkLaws.{same_answer}
use Rattle.eg_asm.proofs.ReadLemmas.{read-may}
use Rattle.eg_asm.proofs.SourceLaws.{assembled-gives}

-- a line that may not come
pub read-fault : (source : List ℕ) (e : AsmFault) → items_from 0 1 (lines_of source) ≡ Err e → Assembles source (Err e)
unfolding assembled words_read
read-fault source e is =
    let P : Result (List ℕ) AsmFault → Type 0 = Assembles source in
    let answer : assembled source ≡ Err e = ap words_read is in
    subst P answer (assembled-gives source)

-- what is linked is the answer
pub linked-answer : (bytes : List ℕ) (source : Source) (items : List Item) (result : Result (Vec ℕ Global) AsmFault)
    → items_from 0 1 (lines_of bytes) ≡ Ok items → HoldsItems source items
    → ((labels : Labels) → HasLabels source.labels labels
    → IsAssembled (linked_kept labels (map placed_shown source.instructions.items) source.repeated) result) → IsAssembled (assembled bytes) result
unfolding assembled words_read
linked-answer bytes source items result read holds links =
    let kept : linked_kept (labels_of items) (map placed_shown source.instructions.items) source.repeated
    ≡ linked_kept (labels_of items) (instructions_from 1 items) (repeat_behind [] items) =
    ap (λ (is : List (ℕ × Encoded)). linked_kept (labels_of items) is source.repeated) holds.all ∙ ap (linked_kept (labels_of items) (instructions_from 1 items)) holds.repeat in
    let answer : linked_kept (labels_of items) (map placed_shown source.instructions.items) source.repeated ≡ assembled bytes =
    kept ∙ same_answer items (read-may bytes items read).0 ∙ sym (ap words_read read) in
    let P : Result (List ℕ) AsmFault → Type 0 = λ expected. IsAssembled expected result in
    subst P answer (links (labels_of items) holds.labels)

-- an answer that was found is one of the source
pub answer-words : (source : List ℕ) (result : Result (Vec ℕ Global) AsmFault) → IsAssembled (assembled source) result → IfOk result (λ words. Assembles source (Ok words.items))
answer-words source (Ok words) is = let P : Result (List ℕ) AsmFault → Type 0 = Assembles source in subst P is (assembled-gives source)
answer-words source (Err e) is = tt

pub answer-faults : (source : List ℕ) (result : Result (Vec ℕ Global) AsmFault) → IsAssembled (assembled source) result
    → IfErr result (λ e. (e ≡ fault.Memory) ⊎ Assembles source (Err e))
answer-faults source (Ok words) is = tt
answer-faults source (Err e) (inl memory) = inl memory
answer-faults source (Err e) (inr is) = let P : Result (List ℕ) AsmFault → Type 0 = Assembles source in inr (subst P is (assembled-gives source))
