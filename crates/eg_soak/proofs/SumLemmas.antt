-- Each run is counted once: in none is the watch of the start-up test the first, and each other watch has its count.
use Rattle.std.proofs.Common.{◌≡◌, refl, ℕ, suc, ◌+◌, Bool, false, not, is_some, List, [], ◌∷◌, length, arith}
use Rattle.std.specs.Prelude.{Option, Some, None, count_by, if◌then◌else◌}
use Rattle.std.specs.List.{sum, All}
use Rattle.std.proofs.lemmas.List.Elements.{All-head, All-tail}
use Rattle.eg_record.specs.declared.watch.Watch.{Watch}
use Rattle.eg_record.specs.declared.watch.Watch.TheVariants.{Mirror, Pedal, Plate, Load, Speed, Torque, Answers, Start}
use Rattle.eg_record.specs.Detection.{is_watch, rank}
use Rattle.eg_model.proofs.LapseRuns.{count-cons}
use Rattle.eg_soak.specs.declared.facts.DrawnFacts.{DrawnFacts}
use Rattle.eg_soak.specs.Facts.{is_first}
use Rattle.eg_soak.specs.Soak.{summary_of}

-- in none of these runs is the watch of the start-up test the first
abbrev pub NeverStart : List DrawnFacts → Type 0
NeverStart all = All (λ facts. is_first Start facts ≡ false) all

-- no watch was found
unfoldable is_none : DrawnFacts → Bool
is_none facts = not (is_some facts.first)

-- the count of a watch with one run more, whose first watch is this, if any
unfoldable counted : Watch → Option Watch → ℕ → ℕ
counted watch o n = if is_watch watch o then suc n else n

unfoldable undetected : Option Watch → ℕ → ℕ
undetected o n = if not (is_some o) then suc n else n

step : (o : Option Watch) (none mirror pedal plate load speed torque answers all : ℕ) → is_watch Start o ≡ false →
    none + (((((((0 + mirror) + pedal) + plate) + load) + speed) + torque) + answers) ≡ all →
    undetected o none + (((((((0 + counted Mirror o mirror) + counted Pedal o pedal) + counted Plate o plate) + counted Load o load) + counted Speed o speed) + counted Torque o torque) + counted Answers o answers) ≡ suc all
unfolding counted undetected is_watch rank
step None none mirror pedal plate load speed torque answers all never e = omega (arith, e)
step (Some Mirror) none mirror pedal plate load speed torque answers all never e = omega (arith, e)
step (Some Pedal) none mirror pedal plate load speed torque answers all never e = omega (arith, e)
step (Some Plate) none mirror pedal plate load speed torque answers all never e = omega (arith, e)
step (Some Load) none mirror pedal plate load speed torque answers all never e = omega (arith, e)
step (Some Speed) none mirror pedal plate load speed torque answers all never e = omega (arith, e)
step (Some Torque) none mirror pedal plate load speed torque answers all never e = omega (arith, e)
step (Some Answers) none mirror pedal plate load speed torque answers all never e = omega (arith, e)
step (Some Start) none mirror pedal plate load speed torque answers all never e = absurd cc

not_start : (f : DrawnFacts) → is_first Start f ≡ false → is_watch Start f.first ≡ false
unfolding is_first
not_start f never = never

watch-cons : (watch : Watch) (f : DrawnFacts) (all : List DrawnFacts) →
    count_by (is_first watch) (f ∷ all) ≡ counted watch f.first (count_by (is_first watch) all)
unfolding counted is_first
watch-cons watch f all = count-cons (is_first watch) f all

none-cons : (f : DrawnFacts) (all : List DrawnFacts) →
    count_by is_none (f ∷ all) ≡ undetected f.first (count_by is_none all)
unfolding undetected is_none
none-cons f all = count-cons is_none f all

each : (all : List DrawnFacts) → NeverStart all →
    count_by is_none all + (((((((0 + count_by (is_first Mirror) all) + count_by (is_first Pedal) all) + count_by (is_first Plate) all) + count_by (is_first Load) all) + count_by (is_first Speed) all) + count_by (is_first Torque) all) + count_by (is_first Answers) all) ≡ length all
each [] never = refl
each (f ∷ all) never =
    let before = each all (All-tail (λ facts. is_first Start facts ≡ false) f all never) in
    let next = step f.first (count_by is_none all) (count_by (is_first Mirror) all) (count_by (is_first Pedal) all) (count_by (is_first Plate) all) (count_by (is_first Load) all) (count_by (is_first Speed) all) (count_by (is_first Torque) all) (count_by (is_first Answers) all) (length all)
    (not_start f (All-head (λ facts. is_first Start facts ≡ false) f all never)) before in
    let none = none-cons f all in
    let mirror = watch-cons Mirror f all in
    let pedal = watch-cons Pedal f all in
    let plate = watch-cons Plate f all in
    let load = watch-cons Load f all in
    let speed = watch-cons Speed f all in
    let torque = watch-cons Torque f all in
    let answers = watch-cons Answers f all in
    omega (arith, next, none, mirror, pedal, plate, load, speed, torque, answers)

pub sums_up : (all : List DrawnFacts) → NeverStart all → (summary_of all).none + sum (summary_of all).by_watch ≡ length all
unfolding summary_of is_none
sums_up all never = each all never

pub runs_counted : (all : List DrawnFacts) → (summary_of all).runs ≡ length all
unfolding summary_of
runs_counted all = refl
