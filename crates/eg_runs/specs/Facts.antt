-- The facts of a run after each of its ticks.
use Rattle.std.specs.Prelude.{ℕ, zero, suc, ◌-◌, ◌*◌, min, max, List, [], ◌∷◌, Option, Some, None, nat_le, if◌then◌else◌}
use Rattle.eg_values.specs.Reference.{reference_rules}
use Rattle.eg_record.specs.declared.facts.Facts.{Facts}
use Rattle.eg_record.specs.declared.row.Row.{Row}
use Rattle.eg_record.specs.declared.watch.Watch.TheVariants.{Torque}
use Rattle.eg_record.specs.Facts.{facts_of}

-- the facts after each of these rows, newest first: of all rows up to that one
unfoldable pub facts_along : List Row → List Facts
facts_along [] = []
facts_along (row ∷ before) =
    facts_of reference_rules.torque reference_rules.threshold (row ∷ before) ∷ facts_along before

-- a value for each count of ticks from n down to 1
unfoldable pub for_each : {A : Type 0} → (ℕ → A) → ℕ → List A
for_each f zero = []
for_each f (suc n) = f (suc n) ∷ for_each f n

-- a tick that is told from when it was made: by facts of more than `tick` ticks
unfoldable pub told : (tick count : ℕ) → Option ℕ
told tick count = if nat_le count tick then None else Some tick

-- The facts of the first `count` ticks at full throttle, where `last_on count` is the last of them with the
-- stages on, and `stretch count` and `peak count` are those of the excess: the torque is found and its excess
-- confirmed at tick 9, and the stages are first off at tick 10.
unfoldable pub cut_at_10 : (last_on stretch peak : ℕ → ℕ) → (count : ℕ) → Facts
cut_at_10 last_on stretch peak count = record {
  first = if nat_le count 9 then None else Some (Torque, 9);
  cut = if nat_le count 9 then None else Some (Torque, 9);
  off = told 10 count;
  last_on = Some (last_on count);
  confirmed = told 9 count;
  stretch = stretch count;
  peak = peak count;
  ticks = count;
}

-- up to the cut the excess lasts five ticks, from tick 5 on, and grows by 10 Nm a tick
unfoldable pub first_stretch : ℕ → ℕ
first_stretch count = min (count - 5) 5

unfoldable pub first_peak : ℕ → ℕ
first_peak count = first_stretch count * 100

-- where the stages are on again from tick 11 on, it lasts up to tick 39, and grows up to 210 Nm
unfoldable pub next_stretch : ℕ → ℕ
next_stretch count = max (first_stretch count) (min (count - 11) 29)

unfoldable pub next_peak : ℕ → ℕ
next_peak count = max (first_peak count) (if nat_le count 11 then 0 else min (count - 5) 21 * 100)

-- the last tick with the stages on, where they are on up to tick 9, at ticks 11 to 39, and never again
unfoldable pub on_again : ℕ → ℕ
on_again count =
    if nat_le count 10 then count - 1
    else if nat_le count 11 then 9
    else if nat_le count 40 then count - 1
    else 39

-- the last tick with the stages on, where they are on up to tick 9, at ticks 51 to 60, and never again
unfoldable pub on_after_the_test : ℕ → ℕ
on_after_the_test count =
    if nat_le count 10 then count - 1
    else if nat_le count 51 then 9
    else if nat_le count 61 then count - 1
    else 60
