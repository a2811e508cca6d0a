use Rattle.std.proofs.Common.{◌≡◌, ◌∙◌, ◌<◌, ◌-◌, ne_eqb, ap, ap₂, arith}
use Rattle.std.specs.Prelude.{Some}
use Rattle.eg_torque.specs.declared.ramp.TheConstants.{NO_RAMP}
use Rattle.eg_num.specs.Arithmetic.{quotient_up}
use Rattle.eg_answer.proofs.QuotientLemmas.{div_ceil-quotient_up}
use Rattle.eg_values.specs.Excess.{greatest_permitted, least_permitted, ramp_ticks}
use Rattle.eg_desk.proofs.excess.ramp_ticks.Goals as goal

pub returns : goal.returns
unfolding ramp_ticks
returns c =
    let rules = c.args.rules.now in
    let stops = c.if-rules-eq0.false in
    let positive : 0 < rules.fall = grind arith in
    let table = c.table-permit.ensures.table in
    let height : c.saturating_sub-height.result ≡ greatest_permitted rules.permit - least_permitted rules.permit =
    c.saturating_sub-height.ensures
    ∙ ap₂ (λ a b. a - b) (c.greatest_permitted.ensures ∙ ap greatest_permitted table) (c.least_permitted.ensures ∙ ap least_permitted table) in
    let ticks : c.from.result ≡ quotient_up (greatest_permitted rules.permit - least_permitted rules.permit) rules.fall =
    c.from.ensures ∙ c.div_ceil.ensures ∙ div_ceil-quotient_up c.saturating_sub-height.result rules.fall positive ∙ ap (λ n. quotient_up n rules.fall) height in
    rw (ne_eqb rules.fall NO_RAMP c.if-rules.false, ne_eqb rules.fall 0 stops) (ap Some ticks)
