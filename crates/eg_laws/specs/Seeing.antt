-- C67: which cuts remain under several faults, where anything may be out of order at any tick.
use Rattle.std.specs.Prelude.{◌≡◌, ℕ, ◌+◌, ◌≤◌, true, false, List, ◌++◌, All, length}
use Rattle.eg_answer.specs.Times.{reaction_of}
use Rattle.eg_values.specs.Calibration.{IsAccepted}
use Rattle.eg_fault.specs.Effects.{Effects}
use Rattle.eg_fault.specs.Classes.{IsRegular}
use Rattle.eg_fault.specs.declared.paths.TheConstants.{PATH_1, PATH_2}
use Rattle.eg_model.specs.History.{Setting, Tick}
use Rattle.eg_model.specs.Premises.{AreProper, is_on_after, IsExcessConfirmed}
use Rattle.eg_model.specs.Seeing.{SeesExcess}

-- the path doesn't conduct if its latch is open
abbrev pub Obeys : (path : ℕ) → Effects → Type 0
Obeys path x = x.conducts path true ≡ false

-- level 2 can see an excess at each tick of h, and the true excess is confirmed by the last
pub record IsSeenExcess (s : Setting) (h : List Tick) : Type 0 where
  pub proper : AreProper s h
  pub sees : All (λ x. SeesExcess x.effects) h
  pub confirmed : IsExcessConfirmed s h

-- Claim 45: the tick x comes after h and `more`. Nothing is asked of the ticks of `more`.
abbrev pub SeenExcessIsCut : Type 0
SeenExcessIsCut =
    (s : Setting) → IsAccepted s.cal → (h : List Tick) → IsSeenExcess s h → (more : List Tick) (x : Tick) →
    Obeys PATH_1 x.effects → is_on_after s (more ++ h) x ≡ false

-- claim 46: x comes R ticks or more after the last of h
abbrev pub SeenExcessIsCutInTime : Type 0
SeenExcessIsCutInTime =
    (s : Setting) → IsAccepted s.cal → (h : List Tick) → IsSeenExcess s h → (more : List Tick) (x : Tick) →
    All (λ y. IsRegular y.effects) (more ++ h) → reaction_of s.cal.times ≤ length more + 1 →
    Obeys PATH_2 x.effects → is_on_after s (more ++ h) x ≡ false
