use Rattle.std.proofs.Common.{All, subst}
use Rattle.std.specs.Option.{option_copied}
use Rattle.std.proofs.lemmas.Result.{IfOk-weaker}
use Rattle.eg_answer.specs.Times.{reaction_of, test_ticks_of}
use Rattle.eg_record.specs.Rows.{AreRows}
use Rattle.eg_record.specs.Spans.{EachDriveSpan, EachTestSpan}
use Rattle.eg_model.specs.Engines.{gasoline}
use Rattle.eg_model.specs.Bench.{Run}
use Rattle.eg_model.specs.PowerCycles.{SpansBeginInTurn}
use Rattle.eg_model.specs.Records.{ReactWithin, CutOneTickAfter, RowsReactAtOnce, CutStandingExcess, ExcessIsShort, AreOff, NeverFails}
use Rattle.eg_model.proofs.GasolineLaws.{gasoline_keeps, gasoline_shows_one_load}
use Rattle.eg_model.proofs.RecordLaws.{records_react, records_react_at_once, records_cut_sharply, records_cut_standing_excess, records_have_short_excess, records_test_unpowered, records_pass_tests}
use Rattle.eg_model.proofs.PowerCycleLaws.{records_begin_in_turn}
use Rattle.eg_model.proofs.WholeRecord.{newest_first, are_rows}
use Rattle.eg_tick.specs.Run.{run_by}
use Rattle.eg_tick.proofs.RunLaws.{is_run}
use Rattle.eg_tick.proofs.run.run_one.Goals as goal

pub returns-clause-numbered : goal.returns-clause-numbered
returns-clause-numbered c = IfOk-weaker c.record_run.result _ _ (λ made m.
    let r : Run = run_by c.args.calibration.now c.args.image.now (option_copied c.args.fault) c.args.plan.now c.args.drive.now in
    subst AreRows (newest_first gasoline r made.rows m.rows_are) (are_rows gasoline r)) c.record_run.ensures.made

pub returns-clause-reacts : goal.returns-clause-reacts
returns-clause-reacts c = λ listed. IfOk-weaker c.record_run.result _ _ (λ made m.
    let r : Run = run_by c.args.calibration.now c.args.image.now (option_copied c.args.fault) c.args.plan.now c.args.drive.now in
    subst (EachDriveSpan (ReactWithin (reaction_of r.setting.cal.times) r.setting.cal.rules.torque r.setting.cal.rules.threshold)) (newest_first gasoline r made.rows m.rows_are)
    (records_react gasoline_keeps r (is_run r made.rows made.trap c.rules-rules.ensures.accepted m) listed)) c.record_run.ensures.made

pub returns-clause-at_once : goal.returns-clause-at_once
returns-clause-at_once c = λ listed. IfOk-weaker c.record_run.result _ _ (λ made m.
    let r : Run = run_by c.args.calibration.now c.args.image.now (option_copied c.args.fault) c.args.plan.now c.args.drive.now in
    subst (EachDriveSpan (RowsReactAtOnce r.setting.fault r.setting.cal.rules.torque r.setting.cal.rules.threshold)) (newest_first gasoline r made.rows m.rows_are)
    (records_react_at_once gasoline_keeps r (is_run r made.rows made.trap c.rules-rules.ensures.accepted m) listed)) c.record_run.ensures.made

pub returns-clause-cuts : goal.returns-clause-cuts
returns-clause-cuts c = λ none. IfOk-weaker c.record_run.result _ _ (λ made m.
    let r : Run = run_by c.args.calibration.now c.args.image.now (option_copied c.args.fault) c.args.plan.now c.args.drive.now in
    subst (EachDriveSpan (CutOneTickAfter r.setting.cal.rules.torque r.setting.cal.rules.kt r.setting.cal.rules.threshold)) (newest_first gasoline r made.rows m.rows_are)
    (records_cut_sharply gasoline_keeps gasoline_shows_one_load r (is_run r made.rows made.trap c.rules-rules.ensures.accepted m) none)) c.record_run.ensures.made

pub returns-clause-lapses : goal.returns-clause-lapses
returns-clause-lapses c = λ bound lapse. IfOk-weaker c.record_run.result _ _ (λ made m.
    let r : Run = run_by c.args.calibration.now c.args.image.now (option_copied c.args.fault) c.args.plan.now c.args.drive.now in
    subst (EachDriveSpan (CutStandingExcess r.setting.cal)) (newest_first gasoline r made.rows m.rows_are)
    (records_cut_standing_excess gasoline_keeps r (is_run r made.rows made.trap c.rules-rules.ensures.accepted m) c.requires.fault bound lapse)) c.record_run.ensures.made

pub returns-clause-short : goal.returns-clause-short
returns-clause-short c = λ bound lapse. IfOk-weaker c.record_run.result _ _ (λ made m.
    let r : Run = run_by c.args.calibration.now c.args.image.now (option_copied c.args.fault) c.args.plan.now c.args.drive.now in
    subst (EachDriveSpan (ExcessIsShort r.setting.cal)) (newest_first gasoline r made.rows m.rows_are)
    (records_have_short_excess gasoline_keeps r (is_run r made.rows made.trap c.rules-rules.ensures.accepted m) c.requires.fault bound lapse)) c.record_run.ensures.made

pub returns-clause-cycles : goal.returns-clause-cycles
returns-clause-cycles c = IfOk-weaker c.record_run.result _ _ (λ made m.
    let r : Run = run_by c.args.calibration.now c.args.image.now (option_copied c.args.fault) c.args.plan.now c.args.drive.now in
    subst (SpansBeginInTurn (test_ticks_of r.setting.cal.times)) (newest_first gasoline r made.rows m.rows_are)
    (records_begin_in_turn gasoline r)) c.record_run.ensures.made

pub returns-clause-unpowered : goal.returns-clause-unpowered
returns-clause-unpowered c = IfOk-weaker c.record_run.result _ _ (λ made m.
    let r : Run = run_by c.args.calibration.now c.args.image.now (option_copied c.args.fault) c.args.plan.now c.args.drive.now in
    subst (EachTestSpan AreOff) (newest_first gasoline r made.rows m.rows_are)
    (records_test_unpowered gasoline r)) c.record_run.ensures.made

pub returns-clause-passes : goal.returns-clause-passes
returns-clause-passes c = IfOk-weaker c.record_run.result _ _ (λ made m.
    let r : Run = run_by c.args.calibration.now c.args.image.now (option_copied c.args.fault) c.args.plan.now c.args.drive.now in
    subst (All (NeverFails r.setting.fault)) (newest_first gasoline r made.rows m.rows_are)
    (records_pass_tests gasoline r (is_run r made.rows made.trap c.rules-rules.ensures.accepted m))) c.record_run.ensures.made
