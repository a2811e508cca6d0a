-- The run that is drawn in a state (C94). Beside what each part gives stands how many draws the part takes.
use Rattle.std.specs.Prelude.{ℕ, zero, suc, ◌≡◌, ◌+◌, ◌%◌, ◌≤◌, ◌==◌, pos, false, List, [], ◌∷◌, ◌++◌, map, replicate, take, slice_index, slice_set, length, All, Option, Some, None, IfSome, if◌then◌else◌}
use Rattle.eg_num.specs.Drive.{DriveRow, driven, IsDrive}
use Rattle.eg_sensor.specs.declared.tracks.TheConstants.{PAIRED_TRACKS}
use Rattle.eg_word.specs.declared.images.TheConstants.{IDLE, FULL}
use Rattle.eg_answer.specs.declared.modules.TheConstants.{PAIRS, MODULES}
use Rattle.eg_answer.specs.declared.words.TheConstants.{STORED_WORDS}
use Rattle.eg_fault.specs.Faults.{IsValid}
use Rattle.eg_fault.specs.declared.class.Class.{Class}
use Rattle.eg_fault.specs.declared.class.Class.TheVariants.{Script, Offset, Bus, Plate, Skip, Disturb, Flip, Halt, Timing, Wild, Path1Closed, Path2Closed, PathOpen, Lapse}
use Rattle.eg_fault.specs.declared.class.Fault.{Fault}
use Rattle.eg_fault.specs.declared.paths.TheConstants.{PATH_2}
use Rattle.eg_draw.specs.Draws.{next, draw, after, draws}
use Rattle.eg_draw.specs.declared.runs.DrawnRun.{DrawnRun}

-- ---- the image ----

-- C94, the image of kind 3
unfoldable pub full_with : ℕ → List ℕ
full_with x = slice_set (slice_set FULL 2 (0x1400 + draw x % 8)) 3 (0x2400 + draw (next x) % 128)

-- C94
unfoldable pub image_of : ℕ → ℕ → List ℕ
image_of kind x =
    if kind == 0 then IDLE else if kind == 1 then FULL else if kind == 2 then draws 256 x else full_with x

abbrev pub image_draws : ℕ → ℕ
image_draws kind = if kind == 2 then 256 else if kind == 3 then 2 else 0

-- ---- the drive ----

-- pedal in per mille, speed in rpm, raise in tenths of Nm
unfoldable pub stretch_row : ℕ → DriveRow
stretch_row x =
    driven (draw x % 1001) (800 + draw (next x) % 5201) (draw (next (next x)) % 500)

unfoldable pub stretches : ℕ → ℕ → List DriveRow
stretches zero x = []
stretches (suc n) x = replicate 100 (stretch_row x) ++ stretches n (after 3 x)

-- 60 draws
unfoldable pub trace_of : ℕ → List DriveRow
trace_of x = stretches 20 x

-- ---- the fault ----

-- a number from 1 to n
unfoldable pub one_of : ℕ → ℕ → ℕ
one_of n x = 1 + draw x % n

-- C94, a mask
unfoldable pub drawn_mask : ℕ → ℕ
drawn_mask x = one_of 65535 x

-- C94, the values of `script`
unfoldable pub four_values : ℕ → List ℕ
four_values x = map (λ d. d % 1001) (draws 4 x)

-- C94, the ticks of `lapse`
unfoldable pub first_ticks : ℕ → List ℕ
first_ticks x = take (one_of 8 x) (0 ∷ 1 ∷ 2 ∷ 3 ∷ 4 ∷ 5 ∷ 6 ∷ 7 ∷ [])

-- C94; a faulty track is one of a pair, never a contact
unfoldable pub class_of : ℕ → ℕ → Class
class_of class x =
    if class == 0 then Script (draw x % PAIRED_TRACKS) (four_values (next x))
    else if class == 1 then Offset (draw x % PAIRED_TRACKS) (pos (one_of 500 (next x)))
    else if class == 2 then Bus (drawn_mask x)
    else if class == 3 then Plate (draw x % 1001)
    else if class == 4 then Skip (draw x % MODULES)
    else if class == 5 then Disturb (one_of PAIRS x) (drawn_mask (next x))
    else if class == 6 then Flip (draw x % STORED_WORDS) (drawn_mask (next x))
    else if class == 7 then Halt
    else if class == 8 then Timing (draw x % 10)
    else if class == 9 then Wild (draws 2 x) (false ∷ [])
    else if class == 10 then Path1Closed
    else if class == 11 then Path2Closed
    else if class == 12 then PathOpen (one_of PATH_2 x)
    else Lapse (first_ticks x) 0

abbrev pub class_draws : ℕ → ℕ
class_draws class =
    slice_index (5 ∷ 2 ∷ 1 ∷ 1 ∷ 1 ∷ 2 ∷ 2 ∷ 0 ∷ 1 ∷ 2 ∷ 0 ∷ 0 ∷ 1 ∷ 1 ∷ []) class

-- C94; x is the state after the draw of the class
unfoldable pub fault_of : ℕ → ℕ → Option Fault
fault_of class x =
    if class == 14 then None
    else Some (record { onset = draw x % 2000; class = class_of class (next x) })

-- a draw for the onset, and those of the class
unfoldable pub fault_draws : ℕ → ℕ
fault_draws class = if class == 14 then 0 else 1 + class_draws class

-- ---- the run ----

-- the state after the draws of the image's kind, of the image and of the drive
abbrev pub before_fault : ℕ → ℕ
before_fault x = after 60 (after (image_draws (draw x % 4)) (next x))

-- C94
unfoldable pub drawn_run : ℕ → DrawnRun
drawn_run x =
    let kind = draw x % 4 in
    let last = before_fault x in
    record {
      image = image_of kind (next x);
      drive = trace_of (after (image_draws kind) (next x));
      fault = fault_of (draw last % 15) (next last);
    }

-- C94: the state in which the next run is drawn
unfoldable pub state_after : ℕ → ℕ
state_after x =
    let last = before_fault x in
    after (fault_draws (draw last % 15)) (next last)

-- ---- what each drawn run keeps ----

-- C93, C94
pub record IsDrawn (run : DrawnRun) : Type 0 where
  pub short : length run.image ≤ 256
  pub rows : length run.drive ≡ 2000
  pub within : All IsDrive run.drive
  pub valid : IfSome run.fault IsValid
