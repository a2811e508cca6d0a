use Rattle.std.proofs.Common.{◌≡◌, ◌∙◌, ◌*◌, ◌/◌, ◌<◌, ◌≤◌, Some, refl, sym, ap, subst, length, not, ◌==◌}
use Rattle.std.specs.Prelude.{reverse}
use Rattle.std.specs.Option.{option_copied}
use Rattle.eg_model.specs.Branching.{BeginsFrom}
use Rattle.eg_model.specs.Rows.{record_rows}
use Rattle.eg_model.specs.Bench.{Run}
use Rattle.eg_tick.proofs.BranchedRuns.{told_under}
use Rattle.eg_tick.specs.Counting.{count_with}
use Rattle.eg_campaign.specs.Plays.{run_with}
use Rattle.eg_campaign.specs.Groups.{faultless, checkpoint_ticks, input_under, own_under}
use Rattle.eg_campaign.specs.Inner.Checkpoints.{HasMade, HasPlayed}
use Rattle.eg_campaign.proofs.CheckpointLemmas.{counted_none, never_begins, makes_none, made_in_time, rows-are}
use Rattle.eg_campaign.proofs.checkpoints.play_from.Goals as goal

pub returns-in_default-clause-counted : goal.returns-in_default-clause-counted
returns-in_default-clause-counted g c =
    let x = input_under (option_copied c.args.fault) c.args.input.now in
    let rows = reverse (record_rows g.E.BenchedEngine.bench (run_with c.args.calibration.now x).run) in
    counted_none c.args.steps.now (own_under x.plan.fault (length x.drive) rows)
    (makes_none (length x.drive) x.plan.fault rows (never_begins (length x.drive) c.args.fault c.in_default.not-Some)) c.count_none.ensures

pub returns-then-fault-as_slice : goal.returns-then-fault-as_slice
returns-then-fault-as_slice g c =
    let bench = g.E.BenchedEngine.bench in
    let cal = c.args.calibration.now in
    let fault = option_copied c.args.fault in
    let drive = c.args.input.now.drive in
    let begins : BeginsFrom (length drive) fault = subst (BeginsFrom (length drive)) (sym (ap option_copied c.in-Some.is))
    (subst (λ d. length d ≤ c.in-Some.fault.now.onset) c.as_slice.ensures c.if-fault-as_slice.true) in
    let rows = reverse (record_rows bench (run_with cal (input_under fault c.args.input.now)).run) in
    record {
      told = told_under bench g.E.BenchedEngine.come_to (run_with cal (faultless c.args.input.now)).run refl fault (not
          (g.row.WEIGHED == 0)) c.args.shared.now.told begins c.requires.shared.told;
      counted = counted_none c.args.steps.now (own_under fault (length drive) rows) (makes_none (length drive) fault rows begins) c.count_none.ensures;
      bench = c.requires.bench;
    }

pub play_on-requires-clause-run : goal.play_on-requires-clause-run
play_on-requires-clause-run g c =
    let fault = c.in-Some.fault.now in
    let is : option_copied c.args.fault ≡ Some fault = ap option_copied c.in-Some.is in (
      (run_with c.args.calibration.now (input_under (option_copied c.args.fault) c.args.input.now)).run,
      record { plan = refl; drive = refl },
      subst (λ f. HasPlayed (not (g.row.WEIGHED == 0)) g.E.BenchedEngine.bench g.E.BenchedEngine.come_to
          (run_with c.args.calibration.now (input_under f c.args.input.now)).run (fault.onset / checkpoint_ticks * checkpoint_ticks) c.begin_from.new.played)
          (sym is) c.begin_from.ensures.begun,
    )

pub returns : goal.returns
returns g c =
    let weighed = not (g.row.WEIGHED == 0) in
    let bench = g.E.BenchedEngine.bench in
    let come_to = g.E.BenchedEngine.come_to in
    let fault = c.in-Some.fault.now in
    let is : option_copied c.args.fault ≡ Some fault = ap option_copied c.in-Some.is in
    let x = input_under (option_copied c.args.fault) c.args.input.now in
    let r : Run = (run_with c.args.calibration.now x).run in
    let within = subst (λ d. fault.onset < length d) c.as_slice.ensures c.if-fault-as_slice.false in
    let made : HasMade weighed bench come_to r (fault.onset / checkpoint_ticks * checkpoint_ticks) (length r.drive) c.play_on.new.played c.args.steps.now c.play_on.new.steps =
    c.play_on.ensures r (record { plan = refl; drive = refl })
    (subst (λ f. HasPlayed weighed bench come_to (run_with c.args.calibration.now (input_under f c.args.input.now)).run
    (fault.onset / checkpoint_ticks * checkpoint_ticks) c.begin_from.new.played) (sym is) c.begin_from.ensures.begun) in
    record {
      told = c.told_so_far.ensures weighed r made.to;
      counted = made_in_time weighed bench come_to r (fault.onset / checkpoint_ticks * checkpoint_ticks) (length x.drive)
          c.play_on.new.played c.args.steps.now c.play_on.new.steps made ∙ ap (count_with c.args.steps.now)
          (sym (rows-are weighed bench come_to c.args.calibration.now x fault is within (reverse (record_rows bench r)) refl));
      bench = made.to.at.stands.cal;
    }
