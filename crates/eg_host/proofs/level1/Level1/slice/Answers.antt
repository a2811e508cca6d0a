use Rattle.std.proofs.Common.{subst, sym, rules}
use Rattle.std.specs.Prelude.{Ok}
use Rattle.eg_base.specs.declared.no_memory.NoMemory.{NoMemory}
use Rattle.eg_word.specs.Program.{IsProgramOf}
use Rattle.eg_host.specs.Slices.{IsSlice}
use Rattle.eg_host.specs.Level1.{Level1Parts}
use Rattle.eg_host.proofs.RestLemmas.{rest-slice}
use Rattle.eg_host.proofs.level1.Level1.slice.Goals as goal

pub returns-then-self-budget-clause-slice : goal.returns-then-self-budget-clause-slice
returns-then-self-budget-clause-slice g c =
    let memory : _ = g.M.Guarded.shows c.args.memory.now in
    let of : IsProgramOf memory.words c.self.inside.program =
    subst (λ (l : Level1Parts). IsProgramOf memory.words l.program) (sym c.self.view_is) c.requires in
    subst (λ (l : Level1Parts). IsSlice {T = Unit {0}} {E = NoMemory} c.args.budget l.registers l.registers memory memory (Ok tt))
    c.self.view_is (rest-slice _ _ _ _ _ _ c.self.invariant of c.if-self-budget.true (search rules))
