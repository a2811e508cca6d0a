-- One tick more: what findings become, and what a tally stands for.
use Rattle.std.proofs.Common.{◌≡◌, ◌∙◌, ◌+◌, ◌≤◌, ◌∷◌, [], List, ℕ, Bool, true, false, Option, None, Some, length, refl, ap, ap₂, add-one, arith}
use Rattle.std.specs.Prelude.{◌==◌, if◌then◌else◌, slice_index}
use Rattle.eg_num.specs.Windows.{greatest_of}
use Rattle.eg_num.specs.declared.watches.Watches.{Watches}
use Rattle.eg_record.specs.Detection.{is_trip}
use Rattle.eg_replay.specs.declared.tick_signals.TickSignals.{TickSignals}
use Rattle.eg_replay.specs.declared.findings.Findings.{Findings}
use Rattle.eg_replay.specs.Findings.{found_at, trip_at, lasting, longest, surplus_of, findings_of}
use Rattle.eg_replay.specs.Inner.TickMore.{first_with, lasting_with, found_with, greater_counters, surplus_with, findings_with}
use Rattle.eg_replay.specs.Tallies.{TallyParts, IsTallyOf}

first-none : (tick : ℕ) (first : Option ℕ) → first_with tick false first ≡ first
unfolding first_with
first-none tick None = refl
first-none tick (Some before) = refl

-- a tick at which nothing is found changes no findings
pub nothing-found : (tick : ℕ) (found : Watches) (f : Findings) → found.pedal ≡ false → is_trip found ≡ false → found_with tick found f ≡ f
unfolding found_with is_trip
nothing-found tick found f pedal trip = λ i. record f {
  pedal = none found.pedal f.pedal pedal i;
  plate = none found.plate f.plate (grind arith) i;
  load = none found.load f.load (grind arith) i;
  speed = none found.speed f.speed (grind arith) i;
  torque = none found.torque f.torque (grind arith) i;
  trip = none (is_trip found) f.trip trip i;
}
  where
    none : (is_such : Bool) (first : Option ℕ) → is_such ≡ false → first_with tick is_such first ≡ first
    none is_such first never = ap (λ b. first_with tick b first) never ∙ first-none tick first

findings_of-more : (t : TickSignals) (before : List TickSignals) → findings_with t (lasting (t ∷ before)) (findings_of before) ≡ findings_of (t ∷ before)
unfolding findings_of findings_with found_with found_at trip_at first_with greatest_of greater_counters longest surplus_of surplus_with
findings_of-more t before = λ i. record (findings_of (t ∷ before)) { ticks = add-one (length before) i }

lasting-more : (t : TickSignals) (before : List TickSignals) → lasting_with t (lasting before) ≡ lasting (t ∷ before)
unfolding lasting lasting_with
lasting-more t before = refl

-- no more ticks in a row than there are
lasting-few : (ticks : List TickSignals) → lasting ticks ≤ length ticks
unfolding lasting
lasting-few [] = omega arith
lasting-few (t ∷ before) =
    let few = lasting-few before in
    by (slice_index t.signals 3 == 0) few
  where
    by : (none : Bool) → lasting before ≤ length before → (if none then 0 else lasting before + 1) ≤ length (t ∷ before)
    by true few = omega arith
    by false few = omega arith

-- so a tally has no more of them than it was fed
pub lasts-few : (tally : TallyParts) (ticks : List TickSignals) → IsTallyOf tally ticks → tally.lasting ≤ tally.findings.ticks
unfolding findings_of
lasts-few tally ticks stands =
    let few = lasting-few ticks in
    let lasts = stands.lasts in
    let count = ap (λ (f : Findings). f.ticks) stands.findings in
    omega arith

-- a tally that stands for these ticks, fed one more
pub fed_tally : (tally : TallyParts) (t : TickSignals) (findings : Findings) (lasts : ℕ) (before : List TickSignals) →
    lasts ≡ lasting_with t tally.lasting → findings ≡ findings_with t lasts tally.findings → IsTallyOf tally before →
    IsTallyOf (record { findings = findings; lasting = lasts }) (t ∷ before)
fed_tally tally t findings lasts before last added stands =
    let lasted = last ∙ ap (lasting_with t) stands.lasts ∙ lasting-more t before in
    record {
      findings = added ∙ ap₂ (findings_with t) lasted stands.findings ∙ findings_of-more t before;
      lasts = lasted;
    }
