-- A tick at which level 2 sees a true excess, if there is one: all of its modules run, nothing disturbs them,
-- and of each pair that it judges the torque by one track reads rightly.
use Rattle.std.specs.Prelude.{◌≡◌, ◌⊎◌, ℕ, true, None}
use Rattle.eg_sensor.specs.declared.tracks.TheConstants.{PEDAL_1, PEDAL_2, LOAD_1, LOAD_2, SPEED_1, SPEED_2, BRAKE_1, BRAKE_2}
use Rattle.eg_fault.specs.Effects.{Effects}
use Rattle.eg_fault.specs.Classes.{IsSound}

-- all modules of level 2 run, and no bit of its words is flipped
pub record Runs (x : Effects) : Type 0 where
  pub ran : (i : ℕ) → x.ran i ≡ true
  pub unflipped : x.flip ≡ None

-- nothing is mixed into what a module works out
abbrev pub IsUndisturbed : Effects → Type 0
IsUndisturbed x = (i : ℕ) → x.disturbance i ≡ 0

-- level 2 sees an excess: its modules run undisturbed, and one track of each of these pairs is sound
pub record SeesExcess (x : Effects) : Type 0 where
  pub runs : Runs x
  pub undisturbed : IsUndisturbed x
  pub pedal : IsSound x PEDAL_1 ⊎ IsSound x PEDAL_2
  pub load : IsSound x LOAD_1 ⊎ IsSound x LOAD_2
  pub speed : IsSound x SPEED_1 ⊎ IsSound x SPEED_2
  pub brake : IsSound x BRAKE_1 ⊎ IsSound x BRAKE_2
