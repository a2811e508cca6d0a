-- Faults of bytes that give no document, as faults of a calibration file.
use Rattle.eg_cal.specs.declared.key.CalFault.{CalFault}
use Rattle.eg_cal.specs.declared.key.CalFault.TheVariants as fault
use Rattle.eg_toml.specs.declared.reading.DocumentFault.{DocumentFault}
use Rattle.eg_toml.specs.declared.reading.DocumentFault.TheVariants.{Memory, Text}

abbrev pub fault_of : DocumentFault → CalFault
fault_of Memory = fault.Memory
fault_of Text = fault.Text
