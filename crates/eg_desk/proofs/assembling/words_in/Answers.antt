use Rattle.std.proofs.Common.{List, ℕ, sym, subst}
use Rattle.std.specs.Prelude.{Ok, Err}
use Rattle.eg_outcome.specs.Outcomes.{TellsNoMemory}
use Rattle.eg_desk.specs.Ends.{SourceComes}
use Rattle.eg_desk.proofs.SourceLemmas.{fault_comes, fault_tells}
use Rattle.eg_desk.proofs.assembling.words_in.Goals as goal

pub returns-in-Ok-clause-comes : goal.returns-in-Ok-clause-comes
returns-in-Ok-clause-comes c = subst (λ (words : List ℕ). SourceComes c.args.bytes.now (Ok words)) (sym c.new.ensures) c.in-Ok.ensures.words

pub returns-in-Err-clause-comes : goal.returns-in-Err-clause-comes
returns-in-Err-clause-comes c =
    subst (λ end. SourceComes c.args.bytes.now (Err end)) (sym c.end_of.ensures) (fault_comes c.args.bytes.now c.in-Err.fault c.in-Err.ensures.faults)

pub returns-in-Err-clause-no_memory : goal.returns-in-Err-clause-no_memory
returns-in-Err-clause-no_memory c = subst TellsNoMemory (sym c.end_of.ensures) (fault_tells c.in-Err.fault)
