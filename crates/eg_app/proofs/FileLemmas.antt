-- How a call ends at a file, and where its text is written.
use Rattle.std.proofs.Common.{◌≡◌, List, ℕ, Option, Some, None, inl, inr, sym, subst}
use Rattle.std.specs.Prelude.{Result, Err, IsOk}
use Rattle.std.proofs.lemmas.Bool.{false≢true}
use Rattle.eg_base.specs.Outside.{ShownStore, ShownSink}
use Rattle.eg_outcome.specs.Changes.{Change}
use Rattle.eg_outcome.specs.declared.outcome.Outcome.{Outcome}
use Rattle.eg_outcome.specs.declared.outcome.Outcome.TheVariants.{Done, Usage, ReadFault, Refused, WriteFault, Memory}
use Rattle.eg_outcome.specs.declared.outcome.Refusal.{Refusal}
use Rattle.eg_outcome.specs.declared.outcome.Role.{Role}
use Rattle.eg_outcome.specs.declared.outcome.Role.TheVariants as role
use Rattle.eg_outcome.specs.Outcomes.{LineEnds, IsDoneOrMemory}
use Rattle.eg_outcome.specs.Reads.{FileComes, Finds, Accepts}
use Rattle.eg_outcome.specs.Calibrations.{calibration_file, CalibrationComes, FindsCalibration, AcceptsCalibration}
use Rattle.eg_app.specs.Ends.{WritesWell}

-- ---- what is found and accepted ----

-- what is accepted isn't refused
not_refused : {X : Type 0} (file : Result X Refusal) (r : Refusal) → IsOk file → file ≡ Err r → ⊥
not_refused file r accepted refused = false≢true (subst IsOk refused accepted)

-- where a file is found and accepted, a call ends only where memory runs out
pub file_done : {X : Type 0} (file : Role) (says : List ℕ → Result X Refusal) (name : List ℕ) (store : Change ShownStore)
    → Finds name store → Accepts says name store.before
    → (end : Outcome) → FileComes file says name store (Err end) → IsDoneOrMemory end
file_done file says name store finds accepts Done comes = tt
file_done file says name store finds accepts Memory comes = tt
file_done file says name store finds accepts Usage (same, (bytes, read, never)) = absurd never
file_done file says name store finds accepts WriteFault (same, (bytes, read, never)) = absurd never
file_done file says name store (inl still) accepts (ReadFault r) (is, rose, missing) = absurd (still rose)
file_done file says name store (inr (sure, has)) accepts (ReadFault r) (is, rose, missing) = absurd (has (missing sure))
file_done file says name store finds accepts (Refused r) (same, (bytes, read, refused)) =
    absurd (not_refused (says bytes) r (accepts bytes read) refused)

-- so where a calibration is
pub calibration_done : (calibration : Option (List ℕ)) (store : Change ShownStore)
    → FindsCalibration calibration store → AcceptsCalibration calibration store.before
    → (end : Outcome) → CalibrationComes calibration store (Err end) → IsDoneOrMemory end
calibration_done None store finds accepts end comes = absurd cc
calibration_done (Some name) store finds accepts end comes = file_done role.Calibration calibration_file name store finds accepts end comes

-- a text is written where no fault of writing is counted
pub line_done : (line : List ℕ) (out : Change ShownSink) (o : Outcome) → LineEnds line out o → WritesWell out → IsDoneOrMemory o
line_done line out Done ends still = tt
line_done line out Memory ends still = tt
line_done line out WriteFault (put, rose) still = absurd (still rose)
line_done line out Usage ends still = absurd ends
line_done line out (ReadFault file) ends still = absurd ends
line_done line out (Refused r) ends still = absurd ends

-- ---- what isn't ----

-- an end neither Done nor by a calibration that can't be read
abbrev pub IsStop : Outcome → Type 0
IsStop Done = ⊥
IsStop (ReadFault role.Calibration) = ⊥
IsStop _ = Unit {0}

-- so a call ends at another file
pub file_stops : {X : Type 0} (file : Role) (says : List ℕ → Result X Refusal) (name : List ℕ) (store : Change ShownStore)
    → IsStop (ReadFault file) → (end : Outcome) → FileComes file says name store (Err end) → IsStop end
file_stops file says name store is Done (same, (bytes, read, never)) = absurd never
file_stops file says name store is (ReadFault r) (same, rose, missing) = subst (λ f. IsStop (ReadFault f)) (sym same) is
file_stops file says name store is (Refused r) comes = tt
file_stops file says name store is Usage comes = tt
file_stops file says name store is WriteFault comes = tt
file_stops file says name store is Memory comes = tt

-- a call never ends Done at a file,
pub file_never : {X : Type 0} (file : Role) (says : List ℕ → Result X Refusal) (name : List ℕ) (store : Change ShownStore) (end : Outcome)
    → FileComes file says name store (Err end) → end ≡ Done → ⊥
file_never file says name store end comes done = (subst (λ (e : Outcome). FileComes file says name store (Err e)) done comes).1.2

-- nor at the calibration
pub calibration_never : (calibration : Option (List ℕ)) (store : Change ShownStore) (end : Outcome)
    → CalibrationComes calibration store (Err end) → end ≡ Done → ⊥
calibration_never None store end comes done = absurd cc
calibration_never (Some name) store end comes done = file_never role.Calibration calibration_file name store end comes done
