use Rattle.std.proofs.Common.{◌∙◌, ◌+◌, ◌∷◌, sym, ap, subst, arith}
use Rattle.eg_replay.specs.declared.findings.Findings.{Findings}
use Rattle.eg_replay.specs.Inner.TickMore.{findings_with}
use Rattle.eg_replay.specs.Tallies.{TallyParts, IsTallyOf}
use Rattle.eg_replay.proofs.TallyLemmas.{lasts-few, fed_tally}
use Rattle.eg_replay.proofs.tally.Tally.feed.Goals as goal

pub lasting_with-self-inside-requires : goal.lasting_with-self-inside-requires
lasting_with-self-inside-requires c =
    let few = lasts-few _ c.self.invariant.0 c.self.invariant.1 in
    let ticks = ap (λ (v : TallyParts). v.findings.ticks) c.self.view_is in
    let fewer = c.requires.fewer in
    record { fewer = omega arith }

pub invariant_of-self : goal.invariant_of-self
invariant_of-self c =
    (c.args.told.now ∷ c.self.invariant.0, fed_tally _ c.args.told.now _ _ c.self.invariant.0 c.lasting_with-self-inside.ensures c.add.ensures c.self.invariant.1)

pub returns-clause-ticks : goal.returns-clause-ticks
unfolding findings_with
returns-clause-ticks c = ap (λ (f : Findings). f.ticks) c.add.ensures ∙ ap (λ (v : TallyParts). v.findings.ticks + 1) c.self.view_is

pub returns-clause-stands : goal.returns-clause-stands
returns-clause-stands c ticks stands =
    fed_tally _ c.args.told.now _ _ ticks c.lasting_with-self-inside.ensures c.add.ensures (subst (λ v. IsTallyOf v ticks) (sym c.self.view_is) stands)
