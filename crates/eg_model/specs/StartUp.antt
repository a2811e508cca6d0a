-- The start-up test of the shut-off paths: where nothing is out of order it is passed, for every accepted
-- calibration. And a run whose drive rows never reset the unit is one drive span.
use Rattle.std.specs.Prelude.{◌≡◌, true, false, List, ◌∷◌, All, length}
use Rattle.eg_answer.specs.Times.{test_ticks_of}
use Rattle.eg_values.specs.Calibration.{IsAccepted}
use Rattle.eg_fault.specs.Effects.{no_effects}
use Rattle.eg_model.specs.History.{Setting, Entry, Tick, Test}
use Rattle.eg_model.specs.Moments.{moment_in, moments_in, moments_of}
use Rattle.eg_model.specs.Spans.{moments, ticks}

-- nothing is out of order at a tick
abbrev pub IsUndisturbed : Tick → Type 0
IsUndisturbed x = x.effects ≡ no_effects

-- What holds of the tick x of a test span, h being the ticks of the span before it: where x is the tick at
-- which the paths are read back, the test is passed at x; and the watch `start` isn't found at x. By
-- `TestsPass` this holds wherever nothing is out of order up to x, x included.
pub record PassesTest (s : Setting) (x : Tick) (h : List Tick) : Type 0 where
  pub passes : length h ≡ test_ticks_of s.cal.times →
      (moment_in Test s x.effects x.entry (moments_in Test s h)).passes ≡ true
  pub never_fails : (moment_in Test s x.effects x.entry (moments_in Test s h)).found.start ≡ false

abbrev pub TestsPass : Type 0
TestsPass =
    (s : Setting) → IsAccepted s.cal → (x : Tick) (h : List Tick) → All IsUndisturbed (x ∷ h) →
    PassesTest s x h

-- a run whose rows never reset the unit is one drive span from tick 0
abbrev pub RunsWithoutReset : Type 0
RunsWithoutReset =
    (s : Setting) (h : List Entry) → All (λ e. e.drive.reset ≡ false) h →
    moments s h ≡ moments_of s (ticks s h)
