-- What the kind of an engine means, and where the writing of a record was stopped, worked out.
use Rattle.std.proofs.Common.{◌≡◌, ◌∙◌, refl, ap, List, ℕ, [], ◌∷◌, ◌++◌, ◌+◌, length, length-append, arith}
use Rattle.std.specs.Prelude.{codes, Some, None}
use Rattle.eg_record.specs.declared.row.Row.{Row}
use Rattle.eg_record.specs.declared.watch.Watch.TheVariants as found
use Rattle.eg_record.specs.Texts.{record_header}
use Rattle.eg_diesel.specs.Diesel.{at_rest, next_boost, quantity_of, diesel_step}
use Rattle.eg_model.specs.Engines.{diesel}
use Rattle.eg_model.specs.Examples.{full, bench_run, reported}
use Rattle.eg_model.proofs.WholeModel.{whole_model}
use Rattle.eg_plant.specs.declared.engine_kind.EngineKind.TheVariants as kind
use Rattle.eg_model.specs.EngineRuns.{report_of_run}
use Rattle.eg_campaign.specs.Texts.{text_of}
use Rattle.eg_campaign.specs.Recording.{HasLines}

-- what is told of the same run of each engine
gasoline_report : report_of_run (codes "a") (record { engine = kind.Gasoline; run = bench_run full None 20 })
    ≡ reported (Some (found.Torque, 9)) (Some 10) None (Some 9)
unfolding whole_model
gasoline_report = refl

diesel_report : report_of_run (codes "a") (record { engine = kind.Diesel; run = bench_run full None 20 })
    ≡ reported (Some (found.Torque, 8)) (Some 9) None (Some 8)
unfolding whole_model at_rest next_boost quantity_of diesel_step diesel
diesel_report = refl

-- three ticks were made: the lines of two of them stand whole, and a part of the third
three_ticks : (a b c : Row) → HasLines 3 (a ∷ b ∷ c ∷ []) (text_of (a ∷ b ∷ []) ++ codes "2,0,8")
three_ticks a b c = (codes "2,0,8", refl)

-- no tick is made before the header stands whole: its first half is 69 bytes
no_tick : (rows : List Row) (front : List ℕ) → length front ≡ 69 → HasLines 1 rows front → ⊥
unfolding text_of record_header
no_tick rows front half (more, is) =
    let long : length front ≡ 138 + length more = ap length is ∙ length-append (text_of []) more in
    omega (arith, half, long)
