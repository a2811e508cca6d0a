use Rattle.std.proofs.Common.{◌≡◌, drop}
use Rattle.std.specs.Prelude.{max}
use Rattle.std.specs.List.{fold}
use Rattle.eg_soak.proofs.summary.longest.Given as goal

-- the longest of all is that of these and the rest
abbrev pub invariant-loop-facts : goal.invariant-loop-facts
invariant-loop-facts l = fold (λ most facts. max most facts.reaction) l.longest (drop l.facts-index l.all)
    ≡ fold (λ most facts. max most facts.reaction) 0 l.all
