-- The ticks of all runs of a campaign (F18).
use Rattle.std.specs.Prelude.{ℕ, ◌+◌, nat_le, Result, Ok, Err, if◌then◌else◌}
use Rattle.eg_plan.specs.declared.key.CampaignFault.{CampaignFault}
use Rattle.eg_plan.specs.declared.key.CampaignFault.TheVariants.{Ticks}

-- F18; `sum` is the ticks of the runs before run n, which has `count`
abbrev pub sum_with : ℕ → ℕ → ℕ → Result ℕ CampaignFault
sum_with sum n count = if nat_le (sum + count) 1000000 then Ok (sum + count) else Err (Ticks n)
