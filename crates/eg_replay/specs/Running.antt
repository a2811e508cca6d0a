-- How the eight modules run over the memory of a replay, and what a replay stands for.
use Rattle.std.specs.Prelude.{◌≡◌, ℕ, List}
use Rattle.eg_guard.specs.Memory.{AreWords}
use Rattle.eg_values.specs.Calibration.{CalibrationParts, IsAccepted}
use Rattle.eg_level2.specs.Words.{words_of, AreMirrored, AreWithin}
use Rattle.eg_level2.specs.declared.lookup.Prepared.{Prepared}
use Rattle.eg_level2.specs.Inputs.{Level2Parts, IsPrepared}
use Rattle.eg_input.specs.declared.recorded.Recorded.{Recorded}
use Rattle.eg_agree.specs.Standing.{KeepsWords}
use Rattle.eg_replay.specs.Replay.{alone, replayed}

-- level 2's words can be relied on: each has its complement, and no counter passes its limit
pub record AreSound (cal : CalibrationParts) (memory : List ℕ) : Type 0 where
  pub are_words : AreWords memory
  pub mirrored : AreMirrored memory
  pub within : AreWithin cal.rules (words_of memory)

-- what contracts see of a replay: its calibration, and the words of its memory
pub record ReplayParts : Type 0 where
  pub cal : CalibrationParts
  pub memory : List ℕ

-- The parts of a replay go together: level 2 has the rules and the questions of the calibration, which is an
-- accepted one, and what is prepared is what question 0 needs.
pub record IsWhole (cal : CalibrationParts) (parts : Level2Parts) (prepared : Prepared) (memory : List ℕ)
    : Type 0 where
  pub accepted : IsAccepted cal
  pub rules : parts.rules ≡ cal.rules
  pub questions : parts.questions ≡ cal.questions
  pub looked_up : IsPrepared parts 0 prepared
  pub sound : AreSound cal memory

-- a replay stands for these recordings: its words are what the model says of them
abbrev pub IsReplayOf : ReplayParts → List Recorded → Type 0
IsReplayOf parts seen = KeepsWords (alone parts.cal) (words_of parts.memory) (replayed parts.cal seen)
