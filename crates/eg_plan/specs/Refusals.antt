-- Faults of bytes that give no document, as refusals of a campaign file.
use Rattle.eg_plan.specs.declared.key.CampaignFault.{CampaignFault}
use Rattle.eg_plan.specs.declared.key.CampaignFault.TheVariants as fault
use Rattle.eg_toml.specs.declared.reading.DocumentFault.{DocumentFault}
use Rattle.eg_toml.specs.declared.reading.DocumentFault.TheVariants.{Memory, Text}

abbrev pub fault_of : DocumentFault → CampaignFault
fault_of Memory = fault.Memory
fault_of Text = fault.Text
