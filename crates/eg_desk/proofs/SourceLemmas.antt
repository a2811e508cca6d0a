-- How a call ends with a fault of a source.
use Rattle.std.proofs.Common.{◌≡◌, List, ℕ, ◌⊎◌, inl, inr}
use Rattle.std.specs.Prelude.{Err}
use Rattle.eg_asm.specs.declared.fault.AsmFault.{AsmFault}
use Rattle.eg_asm.specs.declared.fault.AsmFault.TheVariants as fault
use Rattle.eg_asm.specs.Sources.{Assembles}
use Rattle.eg_outcome.specs.Outcomes.{TellsNoMemory}
use Rattle.eg_desk.specs.Ends.{SourceComes, source_end}

-- it is the source's refusal, or memory ran out
pub fault_comes : (bytes : List ℕ) (e : AsmFault) → (e ≡ fault.Memory) ⊎ Assembles bytes (Err e) → SourceComes bytes (Err (source_end e))
fault_comes bytes fault.Memory may = tt
fault_comes bytes (fault.Line n) (inl memory) = absurd cc
fault_comes bytes (fault.Line n) (inr assembles) = assembles
fault_comes bytes (fault.Label n) (inl memory) = absurd cc
fault_comes bytes (fault.Label n) (inr assembles) = assembles
fault_comes bytes fault.Long (inl memory) = absurd cc
fault_comes bytes fault.Long (inr assembles) = assembles

-- and no refusal tells that memory ran out
pub fault_tells : (e : AsmFault) → TellsNoMemory (source_end e)
fault_tells fault.Memory = tt
fault_tells (fault.Line n) = tt
fault_tells (fault.Label n) = tt
fault_tells fault.Long = tt
