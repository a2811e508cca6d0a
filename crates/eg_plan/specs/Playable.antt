-- Which inputs may be played.
use Rattle.std.specs.Prelude.{◌≤◌, length, All}
use Rattle.eg_guard.specs.declared.regions.TheConstants.{DATA as CODE_END}
use Rattle.eg_num.specs.Drive.{IsDrive}
use Rattle.eg_fault.specs.Faults.{IsNoneOrValid}
use Rattle.eg_plan.specs.declared.run_input.RunInput.{RunInput}

-- a run may be played: its drive (F9, F11), image (F24) and fault (F16) keep their limits
pub record IsPlayable (input : RunInput) : Type 0 where
  pub some : 1 ≤ length input.drive
  pub most : length input.drive ≤ 20000
  pub drive : All IsDrive input.drive
  pub image : length input.image ≤ CODE_END
  pub fault : IsNoneOrValid input.plan.fault
