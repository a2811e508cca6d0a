-- The sharp cut: while nothing is out of order outside level 1, the stages are on exactly until the tick at
-- which the full-efficiency excess is first confirmed, that tick included. So a drive span in which that
-- excess is never confirmed is never cut off.
use Rattle.std.specs.Prelude.{◌≡◌, not, List, [], ◌∷◌}
use Rattle.eg_num.specs.Windows.{is_confirmed}
use Rattle.eg_values.specs.Calibration.{IsAccepted}
use Rattle.eg_fault.specs.Effects.{no_effects}
use Rattle.eg_model.specs.History.{Setting, Tick}
use Rattle.eg_model.specs.Premises.{AreProper, is_on_after, full_excesses}
use Rattle.eg_model.specs.Engines.{IsOneLoad}

-- nothing is out of order at a tick, and the engine shows one load twice
pub record IsPlain (x : Tick) : Type 0 where
  pub effects : x.effects ≡ no_effects
  pub loads : IsOneLoad x.entry.shown

-- each tick of a history is plain
unfoldable pub ArePlain : List Tick → Type 0
ArePlain [] = Unit {0}
ArePlain (x ∷ before) = IsPlain x × ArePlain before

-- The law. Let h be plain, and let what comes in at its ticks be proper (`AreProper`); let nothing be out of
-- order at the tick x after h. Then the stages are on at x exactly if the full-efficiency excess isn't
-- confirmed by the last tick of h.
abbrev pub CutsSharply : Type 0
CutsSharply =
    (s : Setting) → IsAccepted s.cal → (h : List Tick) → ArePlain h → AreProper s h →
    (x : Tick) → x.effects ≡ no_effects →
    is_on_after s h x ≡ not (is_confirmed s.cal.rules.torque (full_excesses s h))
