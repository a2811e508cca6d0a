-- Small offsets and small scripts can stay hidden: one track reads near what it reads soundly.
use Rattle.std.proofs.Common.{refl, subst, sym, ℕ, zero, suc, ℤ, pos, negsuc, ◌+◌, ◌/◌, ◌%◌, ◌≤◌, ◌<◌, List, [], ◌∷◌, All, length, arith, inl, inr, mod-lt}
use Rattle.std.specs.Prelude.{slice_index}
use Rattle.std.proofs.lemmas.List.Elements.{All-head, All-tail}
use Rattle.eg_num.proofs.RisingLemmas.{estimate-rises}
use Rattle.eg_plant.specs.declared.engine_kind.EngineKind.{EngineKind}
use Rattle.eg_values.specs.Calibration.{CalibrationParts}
use Rattle.eg_fault.specs.Faults.{offset_by, in_turn, effects_of, is_lapse, IsValidClass}
use Rattle.eg_fault.specs.Classes.{may_change_answers}
use Rattle.eg_fault.specs.declared.class.Class.TheVariants.{Offset, Script}
use Rattle.eg_model.specs.Engines.{bench_of}
use Rattle.eg_model.specs.Reaction.{spoils_answers}
use Rattle.eg_laws.specs.Latent.{distance_of, rise_of, IsSmallOffset, SmallOffsetsHide, still_reading, IsSmallScript, SmallScriptsHide}
use Rattle.eg_laws.proofs.LatentLaws.{SparesAll}
use Rattle.eg_laws.proofs.LatentNear.{apart, ReadsNear, gives_moved, near_hides}

-- ---- an offset ----

near : (add : ℤ) (v : ℕ) → v ≤ 8000 → apart (offset_by add v) v ≤ distance_of add
unfolding offset_by distance_of
near (pos more) v l = omega arith
near (negsuc less) v l = omega arith

raised : (add : ℤ) (v : ℕ) → offset_by add v ≤ v + rise_of add
unfolding offset_by rise_of
raised (pos more) v = omega arith
raised (negsuc less) v = omega arith

offset_near : (cal : CalibrationParts) (track : ℕ) (add : ℤ) → IsSmallOffset cal track add → ReadsNear cal track (offset_by add)
offset_near cal track add small = record {
  paired = small.paired;
  small = λ v l still. let moved = near add v l in let most = small.small in omega (arith, moved, most);
  load = λ v l of_load. (let rises = estimate-rises cal.rules.kt (offset_by add v) (1000 + rise_of add)
      (let most = raised add v in omega (arith, most, l)) in
      let most = small.load of_load in omega (arith, rises, most));
}

offset_spares : (track : ℕ) (add : ℤ) → SparesAll (Offset track add)
unfolding is_lapse may_change_answers spoils_answers
offset_spares track add = record { listed = refl; spares = refl; spoils = refl }

-- ---- a script ----

-- what all values of a list keep, each of them keeps in turn
at_place : (P : ℕ → Type 0) (values : List ℕ) → All P values → (i : ℕ) → i < length values → P (slice_index values i)
at_place P [] all i l = absurd (omega (arith, l))
at_place P (v ∷ values) all zero l = All-head P v values all
at_place P (v ∷ values) all (suc i) l = at_place P values (All-tail P v values all) i (omega (arith, l))

script_near : (cal : CalibrationParts) (track : ℕ) (values : List ℕ) (k : ℕ) → 1 ≤ length values →
    IsSmallScript cal track values → ReadsNear cal track (λ v. in_turn values k)
unfolding in_turn
script_near cal track values k some small = record {
  paired = elim small.still [ inl pedal ↦ omega (arith, pedal) | inr speed ↦ omega (arith, speed) ];
  small = λ v l still. subst
      (λ u. apart (slice_index values (k % length values)) u ≤ slice_index cal.rules.tolerances (track / 2))
      (sym (still small.still))
      (at_place (λ value. apart value (still_reading track) ≤ slice_index cal.rules.tolerances (track / 2)) values small.near
      (k % length values) (mod-lt k some));
  load = λ v l of_load. absurd (elim small.still [
    | inl pedal ↦ omega (arith, pedal, of_load)
    | inr speed ↦ omega (arith, speed, of_load)
  ]);
}

script_spares : (track : ℕ) (values : List ℕ) → SparesAll (Script track values)
unfolding is_lapse may_change_answers spoils_answers
script_spares track values = record { listed = refl; spares = refl; spoils = refl }

-- ---- the laws ----

module _ (engine : EngineKind) where
  pub small_offsets_hide : SmallOffsetsHide (bench_of engine)
  small_offsets_hide cal accepted onset track add valid small = near_hides engine cal accepted
      (record { onset = onset; class = Offset track add }) valid (offset_spares track add)
      (λ k e comes. unfold effects_of in gives_moved cal accepted track (offset_by add) (offset_near cal track add small) e comes)

  pub small_scripts_hide : SmallScriptsHide (bench_of engine)
  small_scripts_hide cal accepted onset track values valid small = near_hides engine cal accepted
      (record { onset = onset; class = Script track values }) valid (script_spares track values)
      (λ k e comes. unfold effects_of in gives_moved cal accepted track (λ v. in_turn values k)
      (script_near cal track values k some small) e comes)
    where
      some : 1 ≤ length values
      some = unfold IsValidClass in valid.1.1.0
