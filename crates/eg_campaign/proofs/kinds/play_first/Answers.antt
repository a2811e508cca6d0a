use Rattle.std.proofs.Common.{◌≡◌, ◌∙◌, sym, ap, ap₂, subst, ◌<◌, ◌≤◌, List, map, get_or, length, not, ◌==◌}
use Rattle.std.specs.Prelude.{slice_set}
use Rattle.std.proofs.lemmas.Result.{on_ok_weaker}
use Rattle.eg_record.specs.declared.run_facts.RunFacts.{RunFacts}
use Rattle.eg_record.specs.declared.row.Row.{Row}
use Rattle.eg_plant.specs.declared.engine_kind.EngineKind.TheVariants as kind
use Rattle.eg_plan.specs.declared.run_input.RunInput.{RunInput}
use Rattle.eg_tick.specs.Counting.{count_with, AreCounted}
use Rattle.eg_model.specs.EngineRuns.{rows_in_time}
use Rattle.eg_campaign.specs.Groups.{is_alike, group_of, rows_of_group, told_by, written_over}
use Rattle.eg_campaign.specs.Inner.Keys.{is_alike-equality}
use Rattle.eg_campaign.proofs.LeaderLemmas.{one_item, leader-at, count-led}
use Rattle.eg_campaign.proofs.AllGroups.{alone, written_alone, shared_rows, written_by}
use Rattle.eg_campaign.proofs.kinds.play_first.Goals as goal

pub returns-then-group-lt2 : goal.returns-then-group-lt2
unfolding rows_of_group rows_in_time
returns-then-group-lt2 g c =
    let cal = c.args.calibration.now in
    let inputs = c.args.inputs.now in
    let input = c.index-inputs-index.result in
    let index = c.args.group.index in
    let at = c.index-inputs-index.is in
    let here = sym (leader-at inputs c.args.group.leaders.now c.requires.leaders index input 0 c.requires.index at) ∙ c.requires.leads in
    let few : length (group_of inputs input) < 2 =
    subst (λ n. n < 2) (c.requires.size ∙ count-led inputs c.args.group.leaders.now c.requires.leaders index input c.requires.index at here) c.if-group-lt2.true in
    record {
      benches = c.tell_one.ensures.benches;
      told = λ x there before h.
          ap₂ (λ (all : List RunFacts) (one : RunFacts). slice_set all index one) h c.tell_one.ensures.told.told.is
          ∙ written_alone (is_alike input) (told_by (not (g.row.WEIGHED == 0)) cal) before inputs index input c.requires.index at (is_alike-equality.refl input) few
          ∙ ap (λ z. map (written_over (told_by (not (g.row.WEIGHED == 0)) cal) z before) inputs) (one_item inputs index input x c.requires.index at there);
      counted = λ x there. c.tell_one.ensures.told.counted
          ∙ ap (λ (g : List RunInput). count_with c.args.steps.now (rows_of_group cal g)) (sym (alone (is_alike input) inputs index input c.requires.index at (is_alike-equality.refl input) few))
          ∙ ap (λ z. count_with c.args.steps.now (rows_of_group cal (group_of inputs z))) (one_item inputs index input x c.requires.index at there);
    }

pub returns-in-Gasoline : goal.returns-in-Gasoline
returns-in-Gasoline g c =
    let cal = c.args.calibration.now in
    let inputs = c.args.inputs.now in
    let index = c.args.group.index in
    let engine : (x : RunInput) → x ≡ get_or inputs index x → x.plan.engine ≡ kind.Gasoline = λ x there.
    ap (λ (z : RunInput). z.plan.engine) (one_item inputs index x c.index-inputs-index.result c.requires.index there c.index-inputs-index.is) ∙ c.in-Gasoline.is in
    record {
      benches = on_ok_weaker c.play_group.result
          (λ same. record { gasoline = same; diesel = c.requires.benches.diesel }) c.play_group.ensures.bench;
      told = λ x there before h. on_ok_weaker c.play_group.result
          (λ e. e ∙ written_by (not (g.row.WEIGHED == 0)) cal x kind.Gasoline before inputs (engine x there)) (c.play_group.ensures.told x there before h);
      counted = λ x there.
          let here = sym (leader-at inputs c.args.group.leaders.now c.requires.leaders index x 0 c.requires.index there) ∙ c.requires.leads in
          let long : 2 ≤ length (group_of inputs x) =
          subst (λ n. 2 ≤ n) (c.requires.size ∙ count-led inputs c.args.group.leaders.now c.requires.leaders index x c.requires.index there here) c.if-group-lt2.false in
          subst (λ (rows : List Row). AreCounted rows c.args.steps.now c.play_group.new.steps c.play_group.result)
          (shared_rows cal inputs x kind.Gasoline long (engine x there)) (c.play_group.ensures.counted x there);
    }

pub returns-in-Diesel : goal.returns-in-Diesel
returns-in-Diesel g c =
    let cal = c.args.calibration.now in
    let inputs = c.args.inputs.now in
    let index = c.args.group.index in
    let engine : (x : RunInput) → x ≡ get_or inputs index x → x.plan.engine ≡ kind.Diesel = λ x there.
    ap (λ (z : RunInput). z.plan.engine) (one_item inputs index x c.index-inputs-index.result c.requires.index there c.index-inputs-index.is) ∙ c.in-Diesel.is in
    record {
      benches = on_ok_weaker c.play_group-in-Diesel.result
          (λ same. record { diesel = same; gasoline = c.requires.benches.gasoline }) c.play_group-in-Diesel.ensures.bench;
      told = λ x there before h. on_ok_weaker c.play_group-in-Diesel.result
          (λ e. e ∙ written_by (not (g.row.WEIGHED == 0)) cal x kind.Diesel before inputs (engine x there)) (c.play_group-in-Diesel.ensures.told x there before h);
      counted = λ x there.
          let here = sym (leader-at inputs c.args.group.leaders.now c.requires.leaders index x 0 c.requires.index there) ∙ c.requires.leads in
          let long : 2 ≤ length (group_of inputs x) =
          subst (λ n. 2 ≤ n) (c.requires.size ∙ count-led inputs c.args.group.leaders.now c.requires.leaders index x c.requires.index there here) c.if-group-lt2.false in
          subst (λ (rows : List Row). AreCounted rows c.args.steps.now c.play_group-in-Diesel.new.steps c.play_group-in-Diesel.result)
          (shared_rows cal inputs x kind.Diesel long (engine x there)) (c.play_group-in-Diesel.ensures.counted x there);
    }
