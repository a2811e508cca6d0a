use Rattle.std.proofs.Common.{◌∙◌, ap}
use Rattle.eg_guard.specs.Memory.{ShownMemory}
use Rattle.eg_tick.proofs.controller.Controller.branch.Goals as goal

pub branch_over-requires-clause-words : goal.branch_over-requires-clause-words
branch_over-requires-clause-words g c =
    ap (λ (m : ShownMemory). m.words) (c.in_ok-memory.ensures ∙ ap (λ v. v.kept.memory) c.self.view_is)
