use Rattle.std.proofs.Common.{rules, ◌≡◌, ◌∷◌, inl, inr}
use Rattle.std.proofs.lemmas.List.{nil_from_length}
use Rattle.std.proofs.iter.Serving.{serving}
use Rattle.std.proofs.lemmas.Result.{err_from_is_err_and}
use Rattle.std.specs.Slice.Iter.{split_inclusive_rest}
use Rattle.eg_input.specs.Images.{lines_of}
use Rattle.eg_input.proofs.LineLemmas.{took_line}
use Rattle.eg_asm.proofs.ReadLemmas.{shorter, read-start, read-more, read-stops, read-end}
use Rattle.eg_asm.proofs.assembler.read_source.Goals as goal

pub loop-line-preserved : goal.loop-line-preserved
loop-line-preserved c =
    let taken : lines_of (split_inclusive_rest c.loop-line.line-iterator) ≡ c.in-Some.line.now ∷ lines_of (split_inclusive_rest c.next.new.self) =
    took_line _ _ _ _ _ _ c.in-Some.ensures.steps (λ a r f called. search rules) in
    record {
      can = search rules;
      finite = tt;
      read = read-more _ _ c.in-Some.line.now _ _ _ _ taken (shorter _ _ _ _ c.in-Some.ensures.steps.0 c.in-Some.ensures.steps.1.1 c.in-Some.ensures.steps.2) c.in_ok-read.ensures.kept c.loop-line.invariant.read;
    }

pub returns-in_err-read-clause-fault : goal.returns-in_err-read-clause-fault
returns-in_err-read-clause-fault c =
    let taken : lines_of (split_inclusive_rest c.loop-line.line-iterator) ≡ c.in-Some.line.now ∷ lines_of (split_inclusive_rest c.next.new.self) =
    took_line _ _ _ _ _ _ c.in-Some.ensures.steps (λ a r f called. search rules) in
    let p = err_from_is_err_and c.from_residual.result c.from_residual.ensures.1 in rw (p.1, p.2)
    (elim c.in_err-read.ensures.fault [ inl memory ↦ inl memory | inr stops ↦ inr (read-stops _ _ c.in-Some.line.now _ _ _ _ taken stops c.loop-line.invariant.read) ])

pub returns-clause-kept : goal.returns-clause-kept
returns-clause-kept c = read-end _ _ _ _ (nil_from_length _ c.in-None.ensures.steps.0) c.loop-line.invariant.read

pub loop-line-init : goal.loop-line-init
loop-line-init c = record {
  can = grind serving;
  finite = tt;
  read = read-start _ _ _ (rw c.into_iter-line-iterator.ensures.into_iter_gives c.split_inclusive-line-items.ensures.rest) c.new-source.ensures;
}
