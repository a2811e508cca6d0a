use Rattle.std.proofs.Common.{arith, inl, inr}
use Rattle.std.proofs.lemmas.List.{length-map}
use Rattle.std.proofs.lemmas.Result.{err_from_is_err_and}
use Rattle.eg_asm.specs.Inner.Kept.{placed_shown}
use Rattle.eg_asm.proofs.ReadLemmas.{read-may}
use Rattle.eg_asm.proofs.AssembleLemmas.{read-fault, linked-answer, answer-words, answer-faults}
use Rattle.eg_asm.proofs.assembler.assemble.Goals as goal

pub returns-in_err-read_source-clause-faults : goal.returns-in_err-read_source-clause-faults
returns-in_err-read_source-clause-faults c =
    let p = err_from_is_err_and c.from_residual.result c.from_residual.ensures.1 in rw (p.1, p.2)
    (elim c.in_err-read_source.ensures.fault [ inl memory ↦ inl memory | inr is ↦ inr (read-fault _ _ is) ])

pub link-requires : goal.link-requires
link-requires c =
    let source = c.in_ok-read_source.field-0 in
    let kept = c.in_ok-read_source.ensures.kept in
    let counted = kept.2.count in
    omega (arith, (read-may _ kept.0 kept.1).1, length-map source.instructions.items placed_shown, source.instructions.ok.0)

pub returns-clause-words : goal.returns-clause-words
returns-clause-words c =
    let kept = c.in_ok-read_source.ensures.kept in
    answer-words _ _ (linked-answer _ c.in_ok-read_source.field-0 kept.0 _ kept.1 kept.2 c.link.ensures)

pub returns-clause-faults : goal.returns-clause-faults
returns-clause-faults c =
    let kept = c.in_ok-read_source.ensures.kept in
    answer-faults _ _ (linked-answer _ c.in_ok-read_source.field-0 kept.0 _ kept.1 kept.2 c.link.ensures)
