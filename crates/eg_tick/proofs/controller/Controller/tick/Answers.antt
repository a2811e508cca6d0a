use Rattle.std.proofs.Common.{subst}
use Rattle.std.proofs.lemmas.Result.{IfOk-from_err}
use Rattle.eg_values.specs.Calibration.{IsAccepted}
use Rattle.eg_tick.specs.Advancing.{entry_of}
use Rattle.eg_tick.proofs.AdvanceLemmas.{refused}
use Rattle.eg_tick.proofs.TrapLemmas.{outputs-hold}
use Rattle.eg_tick.proofs.ReactionLemmas.{passes, sharp, unpowered, reacts, at_once, cuts, short}
use Rattle.eg_tick.proofs.controller.Controller.tick.Given.{Over}
use Rattle.eg_tick.proofs.controller.Controller.tick.Goals as goal

accepted : (g : Over) (c : goal.After-add g) → IsAccepted c.args.self.now.kept.cal
accepted g c = subst IsAccepted c.advance.ensures.cal c.advance.ensures.keeps.accepted

pub returns-clause-passes : goal.returns-clause-passes
returns-clause-passes g c s h is = passes s c.args.self.now.kept _ _ _ (accepted g c) c.in_ok-row.row (c.in_ok-row.ensures.row s) h is

pub returns-clause-sharp : goal.returns-clause-sharp
returns-clause-sharp g c s = sharp s c.args.self.now.kept _ _ _ (accepted g c) c.in_ok-row.row (c.in_ok-row.ensures.row s)

pub returns-clause-unpowered : goal.returns-clause-unpowered
returns-clause-unpowered g c s = unpowered s c.args.self.now.kept _ _ _ (accepted g c) c.in_ok-row.row (c.in_ok-row.ensures.row s)

pub returns-clause-reacts : goal.returns-clause-reacts
returns-clause-reacts g c s = reacts s c.args.self.now.kept _ _ _ (accepted g c) c.in_ok-row.row (c.in_ok-row.ensures.row s)

pub returns-clause-at_once : goal.returns-clause-at_once
returns-clause-at_once g c s = at_once s c.args.self.now.kept _ _ _ (accepted g c) c.in_ok-row.row (c.in_ok-row.ensures.row s)

pub returns-clause-lapses : goal.returns-clause-lapses
returns-clause-lapses g c s = cuts s c.args.self.now.kept _ _ _ (accepted g c) c.in_ok-row.row (c.in_ok-row.ensures.row s)

pub returns-clause-short : goal.returns-clause-short
returns-clause-short g c s = short s _ c.advance.ensures.keeps.accepted

pub returns-clause-trapped : goal.returns-clause-trapped
unfolding entry_of
returns-clause-trapped g c s h stands trapped =
    outputs-hold s (entry_of c.args.drive.now c.args.slices.now c.advance.new.self.kept.shown) h c.in_ok-row.row trapped (c.in_ok-row.ensures.row s h stands)

pub returns-clause-made : goal.returns-clause-made
returns-clause-made g c = c.in_ok-row.ensures

pub returns-in_err-row-clause-made : goal.returns-in_err-row-clause-made
returns-in_err-row-clause-made g c = refused c.from_residual.result c.from_residual.ensures.0 c.in_err-row.ensures

pub returns-in_err-row-clause-trapped : goal.returns-in_err-row-clause-trapped
returns-in_err-row-clause-trapped g c s h is was = IfOk-from_err c.from_residual.result _ c.from_residual.ensures.0

pub returns-in_err-row-clause-passes : goal.returns-in_err-row-clause-passes
returns-in_err-row-clause-passes g c s h is = IfOk-from_err c.from_residual.result _ c.from_residual.ensures.0

pub returns-in_err-row-clause-sharp : goal.returns-in_err-row-clause-sharp
returns-in_err-row-clause-sharp g c s = IfOk-from_err c.from_residual.result _ c.from_residual.ensures.0

pub returns-in_err-row-clause-unpowered : goal.returns-in_err-row-clause-unpowered
returns-in_err-row-clause-unpowered g c s = IfOk-from_err c.from_residual.result _ c.from_residual.ensures.0

pub returns-in_err-row-clause-reacts : goal.returns-in_err-row-clause-reacts
returns-in_err-row-clause-reacts g c s = IfOk-from_err c.from_residual.result _ c.from_residual.ensures.0

pub returns-in_err-row-clause-at_once : goal.returns-in_err-row-clause-at_once
returns-in_err-row-clause-at_once g c s = IfOk-from_err c.from_residual.result _ c.from_residual.ensures.0

pub returns-in_err-row-clause-lapses : goal.returns-in_err-row-clause-lapses
returns-in_err-row-clause-lapses g c s = IfOk-from_err c.from_residual.result _ c.from_residual.ensures.0

pub returns-in_err-row-clause-weight : goal.returns-in_err-row-clause-weight
returns-in_err-row-clause-weight g c = IfOk-from_err c.from_residual.result _ c.from_residual.ensures.0

pub returns-clause-no_weight : goal.returns-clause-no_weight
returns-clause-no_weight g c = tt
