-- The runs of one input under two faults or more are a group.
use Rattle.std.proofs.Common.{◌≡◌, ◌∙◌, refl, sym, ap, subst, false, ◌≤◌, List, [], ◌∷◌, ◌++◌, map, length, arith, Some}
use Rattle.std.specs.Prelude.{Result, IfOk}
use Rattle.std.specs.List.{flat_map}
use Rattle.std.specs.declared.vec.Vec.{Vec}
use Rattle.std.specs.declared.alloc.Global.{Global}
use Rattle.std.proofs.lemmas.Result.{IfOk-weaker}
use Rattle.std.proofs.lemmas.Simd.{map-map}
use Rattle.std.proofs.lemmas.List.Folds.{flat_map-map}
use Rattle.eg_fault.specs.declared.class.Fault.{Fault}
use Rattle.eg_values.specs.Calibration.{CalibrationParts}
use Rattle.eg_record.specs.declared.facts.Facts.{Facts}
use Rattle.eg_record.specs.declared.row.Row.{Row}
use Rattle.eg_tick.specs.Weights.{TickCount}
use Rattle.eg_tick.specs.Counting.{AreCounted}
use Rattle.eg_plant.specs.declared.engine_kind.EngineKind.{EngineKind}
use Rattle.eg_plan.specs.declared.run_input.RunInput.{RunInput}
use Rattle.eg_model.specs.Engines.{bench_of}
use Rattle.eg_model.specs.EngineRuns.{rows_in_time}
use Rattle.eg_campaign.specs.Plays.{run_with}
use Rattle.eg_campaign.specs.Groups.{AreTold, input_under, faultless, inputs_under, own_rows, rows_under, rows_of_group, told_on, facts_by}

module _ (cal : CalibrationParts) (x : RunInput) (faults : List Fault) (k : EngineKind) (is : x.plan.engine ≡ k) where
  -- what the engine of the input tells is told by the engine that it names
  facts_of_each : map (λ (fault : Fault). (told_on false (bench_of k) cal (input_under (Some fault) x)).facts) faults
      ≡ map (facts_by cal) (inputs_under x faults)
  facts_of_each =
      ap (λ (e : EngineKind). map (λ (fault : Fault). (told_on false (bench_of e) cal (input_under (Some fault) x)).facts) faults) (sym is)
      ∙ sym (map-map (facts_by cal) (λ (fault : Fault). input_under (Some fault) x) faults)

  rows_are : 2 ≤ length faults → rows_under (bench_of k) cal x faults ≡ rows_of_group cal (inputs_under x faults)
  unfolding rows_in_time rows_of_group
  rows_are many = ap (λ (e : EngineKind). rows_under (bench_of e) cal x faults) (sym is)
      ∙ ap (λ (rows : List Row). rows_in_time (run_with cal (faultless x)) ++ rows)
      (sym (flat_map-map (own_rows cal) (λ (fault : Fault). input_under (Some fault) x) faults))
      ∙ group faults many
    where
      group : (fs : List Fault) → 2 ≤ length fs →
          rows_in_time (run_with cal (faultless x)) ++ flat_map (own_rows cal) (inputs_under x fs) ≡ rows_of_group cal (inputs_under x fs)
      group [] many = absurd (omega (arith, many))
      group (one ∷ []) many = absurd (omega (arith, many))
      group (one ∷ other ∷ more) many = refl

  -- so what is told by that engine is told of these inputs
  pub are_told : {E : Type 0} (was is : TickCount) (result : Result (Vec Facts Global) E) → 2 ≤ length faults →
      IfOk result (λ all. all.items ≡ map (λ (fault : Fault). (told_on false (bench_of k) cal (input_under (Some fault) x)).facts) faults) →
      AreCounted (rows_under (bench_of k) cal x faults) was is result →
      AreTold (facts_by cal) (inputs_under x faults) (rows_of_group cal (inputs_under x faults)) was is result
  are_told was is result many told counted = record {
    told = IfOk-weaker result _ _ (λ all same. same ∙ facts_of_each) told;
    counted = subst (λ (rows : List Row). AreCounted rows was is result) (rows_are many) counted;
  }
