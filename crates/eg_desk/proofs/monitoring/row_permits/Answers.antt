use Rattle.std.proofs.Common.{◌≡◌, ◌∙◌, sym, ap, ℕ}
use Rattle.eg_torque.specs.Ramp.{ramped}
use Rattle.eg_torque.specs.Permit.{permitted}
use Rattle.eg_torque.proofs.PermitLemmas.{drive_permits-permitted}
use Rattle.eg_desk.proofs.monitoring.row_permits.Goals as goal

pub returns : goal.returns
returns c =
    let rules = c.args.rules.now in
    let row = drive_permits-permitted rules.permit c.args.drive.now in
    let same : c.at-demand.result ≡ permitted rules.permit c.args.drive.now.pedal c.args.drive.now.speed c.args.drive.now.speed c.args.drive.now.raise =
    cc (c.at-demand.ensures.value, c.pedal.ensures.pedal, c.speed-speed.ensures.speed, c.raise.ensures.raise) in
    c.ramped.ensures ∙ ap (λ (demand : ℕ). ramped rules.fall c.args.before demand) (same ∙ sym row)
