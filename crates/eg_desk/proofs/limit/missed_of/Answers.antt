use Rattle.std.proofs.Common.{◌≤◌, ◌<◌, ap₂, ◌∙◌, subst, sym, arith}
use Rattle.eg_num.specs.Windows.{WeightParts, AreWeights}
use Rattle.eg_answer.specs.Times.{TimeParts, feeds_to_confirm, longest_missed_of}
use Rattle.eg_answer.specs.declared.rules.Rules.{Rules}
use Rattle.eg_answer.proofs.QuotientLemmas.{div_ceil-quotient_up, div_ceil_within}
use Rattle.eg_values.specs.Excess.{longest_missed}
use Rattle.eg_desk.proofs.LimitLemmas.{missed-small}
use Rattle.eg_desk.proofs.limit.missed_of.Goals as goal

few : (w : WeightParts) → AreWeights w → feeds_to_confirm w ≤ 10000
unfolding feeds_to_confirm
few w are =
    let within = div_ceil_within w.limit w.up (omega (arith, are.0)) in
    let same = div_ceil-quotient_up w.limit w.up (omega (arith, are.0)) in
    omega (arith, within, same, are.4)

pub returns-then-bounds_missed-clause-longest : goal.returns-then-bounds_missed-clause-longest
unfolding longest_missed
returns-then-bounds_missed-clause-longest c = (
  c.bounds_missed.ensures.0 c.if-bounds_missed.true,
  c.longest_missed.ensures ∙ ap₂ (λ (r : Rules) (t : TimeParts). longest_missed_of r.torque t) c.rules.ensures.rules c.times.ensures.times,
)

pub returns-then-bounds_missed-clause-within : goal.returns-then-bounds_missed-clause-within
returns-then-bounds_missed-clause-within c =
    let cal = c.args.calibration.now in
    let accepted = c.rules.ensures.accepted in
    let same = c.longest_missed.ensures ∙ ap₂ (λ (r : Rules) (t : TimeParts). longest_missed_of r.torque t) c.rules.ensures.rules c.times.ensures.times in
    subst (λ n. n < 200000000) (sym same)
    (missed-small cal.rules.torque cal.times (few cal.rules.torque accepted.torque) (few cal.times.weights accepted.answers)
    accepted.times.shortest accepted.times.longest)
