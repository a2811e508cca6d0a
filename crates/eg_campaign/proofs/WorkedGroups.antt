-- The groups of a campaign, worked out.
use Rattle.std.proofs.Common.{◌≡◌, refl, ℕ, true, false, ◌==◌, List, [], ◌∷◌, ◌++◌, map, Option, Some, None}
use Rattle.std.specs.Prelude.{replicate}
use Rattle.eg_num.specs.Drive.{DriveRow, driven}
use Rattle.eg_fault.specs.declared.class.Fault.{Fault}
use Rattle.eg_fault.specs.declared.class.Class.{Class}
use Rattle.eg_record.specs.declared.row.Row.{Row}
use Rattle.eg_plant.specs.declared.engine_kind.EngineKind.{EngineKind}
use Rattle.eg_plant.specs.declared.engine_kind.EngineKind.TheVariants as kind
use Rattle.eg_plan.specs.declared.run_input.RunInput.{RunInput}
use Rattle.eg_campaign.specs.Groups.{is_alike, leader_in, firsts_after, groups_of, checkpoint, own_under}
use Rattle.eg_plan.specs.DriveNumbers.{mixed, row_number}
use Rattle.eg_campaign.specs.Inner.Keys.{group_number}

-- a run of this name by this drive and on this engine, with a fault at this tick or without one
run : ℕ → List DriveRow → EngineKind → Option Fault → RunInput
run name drive engine fault = record {
  plan = record { name = name ∷ []; trace = []; image = []; slices = (1 ∷ []) ∷ []; engine = engine; fault = fault };
  drive = drive;
  image = 7 ∷ [];
}

-- drives that differ in the last row
short : List DriveRow
short = driven 100 2000 0 ∷ driven 200 2000 0 ∷ []

other : List DriveRow
other = driven 100 2000 0 ∷ driven 201 2000 0 ∷ []

a : RunInput
a = run 1 short kind.Gasoline None

b : RunInput
b = run 2 other kind.Gasoline None

c : RunInput
c = run 3 short kind.Gasoline None

d : RunInput
d = run 4 short kind.Diesel None

-- runs of two groups, interleaved
two_groups : groups_of (a ∷ b ∷ c ∷ b ∷ []) ≡ (a ∷ c ∷ []) ∷ (b ∷ b ∷ []) ∷ []
unfolding run short other a b c groups_of firsts_after is_alike
two_groups = refl

-- the first of each
firsts : firsts_after [] (a ∷ b ∷ c ∷ []) ≡ a ∷ b ∷ []
unfolding run short other a b c firsts_after is_alike
firsts = refl

-- the leader of each of four
leaders : map (leader_in (a ∷ b ∷ c ∷ b ∷ [])) (a ∷ b ∷ c ∷ b ∷ []) ≡ 0 ∷ 1 ∷ 0 ∷ 1 ∷ []
unfolding run short other a b c is_alike
leaders = refl

-- drives that differ in one row have two numbers, as have runs of two engines
numbers : map (λ x. group_number x == group_number a) (a ∷ b ∷ c ∷ d ∷ []) ≡ true ∷ false ∷ true ∷ false ∷ []
unfolding run short other a b c d group_number mixed row_number
numbers = refl

-- of one drive and of two engines
engines : is_alike a d ≡ false
unfolding run short a d is_alike
engines = refl

-- the ticks at which a run without a fault is kept
kept : map checkpoint (0 ∷ 99 ∷ 100 ∷ 199 ∷ 19999 ∷ []) ≡ 0 ∷ 0 ∷ 100 ∷ 100 ∷ 19900 ∷ []
unfolding checkpoint
kept = refl

-- what is made of a run of 103 ticks under a fault that begins at tick 100, 101 and 103
made : (w x y z : Row) (k : Class) → map (λ (onset : ℕ). own_under (Some (record { onset = onset; class = k })) 103 (replicate 100 w ++ x ∷ y ∷ z ∷ [])) (100 ∷ 101 ∷ 103 ∷ [])
    ≡ (x ∷ y ∷ z ∷ []) ∷ (x ∷ y ∷ z ∷ []) ∷ [] ∷ []
unfolding own_under checkpoint
made w x y z k = refl
