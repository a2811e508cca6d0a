-- A run with a reading that would lie above the greatest word.
use Rattle.std.specs.Prelude.{pos, [], ◌∷◌}
use Rattle.eg_num.specs.Drive.{driven}
use Rattle.eg_fault.specs.declared.class.Class.TheVariants.{Offset}
use Rattle.eg_model.specs.Bench.{Run}
use Rattle.eg_model.specs.Examples.{follow, fault_from, run_of}

-- the first pedal track reads 65,535 more where the pedal stands at 200, for one tick
abbrev pub overflowing_run : Run
overflowing_run =
    run_of follow (fault_from 0 (Offset 0 (pos 65535))) (driven 200 800 0 ∷ [])
