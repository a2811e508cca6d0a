use Rattle.std.proofs.Common.{◌≡◌, false, true, sym, subst}
use Rattle.eg_torque.specs.Permit.{DoesNotFall}
use Rattle.eg_values.proofs.ReferenceLemmas.{reference_does_not_fall}
use Rattle.eg_values.proofs.standard.permit.Goals as goal

pub unreachable-requires : goal.unreachable-requires
unreachable-requires c =
    let rises : DoesNotFall c.permit_table.result = subst DoesNotFall (sym c.permit_table.ensures) reference_does_not_fall in
    let refused : false ≡ true = c.in_default.ensures.accepted.1 rises in
    absurd cc
