-- What counts of a run, worked out. Reactions are worked out in `eg_record`.
use Rattle.std.proofs.Common.{◌≡◌, refl, true, false, Some, None}
use Rattle.eg_record.specs.declared.watch.Watch.TheVariants.{Torque}
use Rattle.eg_record.specs.Facts.{off_from, reaction_in}
use Rattle.eg_soak.specs.Facts.{facts_in}

counts : facts_in (record { first = Some (Torque, 10); cut = Some (Torque, 10); off = Some 3; last_on = Some 14; confirmed = Some 10; stretch = 5; peak = 500; ticks = 2000 }) false
    ≡ record { first = Some Torque; is_trapped = false; goes_off = true; reaction = 5 }
unfolding facts_in reaction_in off_from
counts = refl

counts_nothing : facts_in (record { first = None; cut = None; off = None; last_on = Some 1999; confirmed = Some 10; stretch = 1990; peak = 500; ticks = 2000 }) true
    ≡ record { first = None; is_trapped = true; goes_off = false; reaction = 0 }
unfolding facts_in reaction_in off_from
counts_nothing = refl
