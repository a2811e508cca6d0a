-- The histories that show the two bounds to be the least, computed from the definitions.
use Rattle.std.proofs.Common.{◌≡◌, ◌∙◌, ℕ, ◌+◌, ◌-◌, Bool, true, false, ◌&&◌, ◌||◌, ◌==◌, nat_le, List, [], ◌∷◌, ◌++◌, map, replicate, reverse, Some, refl, sym}
use Rattle.std.proofs.lemmas.Bool.{and_parts, leb-true, eqb-true, true≢false}
use Rattle.eg_num.specs.Arithmetic.{estimate}
use Rattle.eg_answer.specs.Answers as answers
use Rattle.eg_answer.specs.Formulas as formulas
use Rattle.eg_answer.specs.Times.{feeds_to_confirm, reaction_of, periods_to_confirm}
use Rattle.eg_values.specs.Calibration.{CalibrationParts, IsAccepted}
use Rattle.eg_values.specs.Reference.{reference_rules, reference_parts}
use Rattle.eg_record.specs.Excess.{true_excess, first_confirmed}
use Rattle.eg_model.specs.Rows.{rows_of}
use Rattle.eg_model.specs.Paths.{both_conduct}
use Rattle.eg_model.specs.History.{Tick}
use Rattle.eg_model.specs.Moments.{moment, moments_of}
use Rattle.eg_model.specs.Premises.{AreProper}
use Rattle.eg_model.proofs.TickLemmas.{parts_of, fields}
use Rattle.eg_model.proofs.WholeModel.{whole_model}
use Rattle.eg_laws.specs.LeastReaction.{last_excess}
use Rattle.eg_laws.specs.LeastLapse.{least_lapse_bound}
use Rattle.eg_values.specs.Excess.{ticks_to_confirm, longest_stretch}
use Rattle.eg_laws.specs.Stretches.{faultless_setting}
use Rattle.eg_laws.specs.Bursts.{most_bad, densest, hasty}
use Rattle.eg_laws.specs.Examples.{latest_cut, longest_excess, longest_closed, StaysOn, Shows, high_pedal, low_loads, low_speeds, braked_parts, unseen_brake, left_out, disturbed_between, both_closed, closed_and_wild, missed_last, cut_late, ramped_parts, disturbed_once}

-- ---- path 1 is closed right after an excess that is confirmed at the tick after a send tick ----

pub latest_confirmed : first_confirmed reference_rules.torque reference_rules.threshold (rows_of latest_cut)
    ≡ Some 16
unfolding whole_model last_excess feeds_to_confirm periods_to_confirm
latest_confirmed = refl

pub latest_stages : map (λ m. m.on) (reverse latest_cut) ≡ replicate 50 true ++ false ∷ []
unfolding whole_model last_excess feeds_to_confirm periods_to_confirm
latest_stages = refl

-- ---- level 2 misses every tick from the one on at which an excess would be confirmed ----

pub longest-bound : least_lapse_bound reference_parts ≡ 39
unfolding least_lapse_bound reaction_of feeds_to_confirm
longest-bound = refl

pub longest-stages : map (λ m. m.on) (reverse longest_excess) ≡ replicate 50 true ++ false ∷ []
unfolding whole_model last_excess feeds_to_confirm periods_to_confirm
longest-stages = refl

pub longest-excess : map (true_excess reference_rules.threshold) (reverse (rows_of longest_excess))
    ≡ replicate 12 false ++ replicate 38 true ++ false ∷ []
unfolding whole_model last_excess feeds_to_confirm periods_to_confirm
longest-excess = refl

-- ---- path 1 is closed right after the same excess, which goes on ----

pub longest_number : longest_stretch reference_parts ≡ 38
unfolding longest_stretch ticks_to_confirm reaction_of feeds_to_confirm
longest_number = refl

pub confirming_number : ticks_to_confirm reference_parts ≡ 5
unfolding ticks_to_confirm feeds_to_confirm
confirming_number = refl

pub closed-stages : map (λ m. m.on) (reverse longest_closed) ≡ replicate 50 true ++ false ∷ []
unfolding whole_model last_excess feeds_to_confirm periods_to_confirm
closed-stages = refl

pub closed-excess : map (true_excess reference_rules.threshold) (reverse (rows_of longest_closed))
    ≡ replicate 12 false ++ replicate 38 true ++ false ∷ []
unfolding whole_model last_excess feeds_to_confirm periods_to_confirm
closed-excess = refl

-- ---- the densest feeds ----

pub most : most_bad reference_rules.torque 100 ≡ 52
unfolding most_bad
most = refl

pub most_listed : most_bad reference_rules.torque (100 - 34) + 34 ≡ 69
unfolding most_bad
most_listed = refl

pub densest_are : densest reference_rules.torque 8 ≡ true ∷ false ∷ true ∷ false ∷ replicate 4 true
unfolding densest whole_model
densest_are = refl

pub most_of_hasty : most_bad hasty 4 ≡ 3
unfolding most_bad
most_of_hasty = refl

-- ---- several things are out of order ----

-- whether what comes in at these ticks is proper, by whether the stages are on at each of them
unfoldable proper_by : ℕ → List Tick → List Bool → Bool
proper_by kt [] ons = true
proper_by kt (x ∷ before) [] = false
proper_by kt (x ∷ before) (on ∷ ons) =
    (nat_le x.entry.drive.pedal 1000 && (nat_le x.entry.drive.speed 8000 && nat_le x.entry.drive.raise 10000))
    && ((nat_le x.entry.shown.position 1000
    && (nat_le x.entry.shown.torque (estimate kt x.entry.shown.load_1) && nat_le x.entry.shown.torque (estimate kt x.entry.shown.load_2)))
    && ((on || x.entry.shown.torque == 0) && proper_by kt before ons))

proper : (cal : CalibrationParts) (h : List Tick) (ons : List Bool) → map (λ m. m.on) (moments_of (faultless_setting cal) h) ≡ ons → proper_by cal.rules.kt h ons ≡ true
    → AreProper (faultless_setting cal) h
unfolding AreProper moments_of proper_by
proper cal [] ons e is = tt
proper cal (x ∷ before) [] e is = absurd (true≢false (sym is))
proper cal (x ∷ before) (on ∷ ons) e is =
    let (drive, rest) = and_parts _ _ is in
    let (pedal, drives) = and_parts _ _ drive in
    let (speed, raise) = and_parts _ _ drives in
    let (engine, still) = and_parts _ _ rest in
    let (position, loads) = and_parts _ _ engine in
    let (load_1, load_2) = and_parts _ _ loads in
    let (none, others) = and_parts _ _ still in (
      record {
        drive = (leb-true _ _ pedal, leb-true _ _ speed, leb-true _ _ raise);
        engine = record { position = leb-true _ _ position; load_1 = leb-true _ _ load_1; load_2 = leb-true _ _ load_2 };
        no_torque = λ off. eqb-true _ _ (unless (sym (parts_of e).0 ∙ same ∙ off) none);
      },
      proper cal before ons (parts_of e).1 others,
    )
  where
    unless : {b zero : Bool} → b ≡ false → (b || zero) ≡ true → zero ≡ true
    unless {b = true} {zero = zero} off either = absurd (true≢false off)
    unless {b = false} {zero = zero} off either = either

    same : (moment (faultless_setting cal) x.effects x.entry (moments_of (faultless_setting cal) before)).on
        ≡ both_conduct x.effects (moments_of (faultless_setting cal) before)
    same = (fields (faultless_setting cal) x.effects x.entry _).on

-- the stages are on at each of sixty ticks
stays : (cal : CalibrationParts) (h : List Tick) → proper_by cal.rules.kt h (replicate 60 true) ≡ true
    → map (true_excess cal.rules.threshold) (rows_of (moments_of (faultless_setting cal) h)) ≡ replicate 60 true
    → map (λ m. m.on) (moments_of (faultless_setting cal) h) ≡ replicate 60 true → StaysOn cal h
stays cal h is excess on = record { proper = proper cal h (replicate 60 true) on is; excess = excess; on = on }

pub high_pedal_stays : StaysOn reference_parts high_pedal
unfolding whole_model proper_by
high_pedal_stays = stays reference_parts high_pedal refl refl refl

pub low_loads_stay : StaysOn reference_parts low_loads
unfolding whole_model proper_by
low_loads_stay = stays reference_parts low_loads refl refl refl

pub low_speeds_stay : StaysOn reference_parts low_speeds
unfolding whole_model proper_by
low_speeds_stay = stays reference_parts low_speeds refl refl refl

pub unseen_brake_stays : StaysOn braked_parts unseen_brake
unfolding whole_model proper_by
unseen_brake_stays = stays braked_parts unseen_brake refl refl refl

pub left_out_stays : StaysOn reference_parts left_out
unfolding whole_model proper_by
left_out_stays = stays reference_parts left_out refl refl refl

pub disturbed_stays : StaysOn reference_parts disturbed_between
unfolding whole_model proper_by
disturbed_stays = stays reference_parts disturbed_between refl refl refl

pub both_closed_stay : StaysOn reference_parts both_closed
unfolding whole_model proper_by
both_closed_stay = stays reference_parts both_closed refl refl refl

pub closed_and_wild_stays : StaysOn reference_parts closed_and_wild
unfolding whole_model proper_by
closed_and_wild_stays = stays reference_parts closed_and_wild refl refl refl

pub missed_last_shows : Shows reference_parts missed_last 14 (replicate 51 true)
unfolding whole_model proper_by
missed_last_shows = record { proper = proper reference_parts missed_last (replicate 51 true) refl refl; confirms = refl; on = refl }

pub cut_late_shows : Shows reference_parts cut_late 15 (replicate 50 true ++ false ∷ [])
unfolding whole_model proper_by
cut_late_shows = record { proper = proper reference_parts cut_late (false ∷ replicate 50 true) refl refl; confirms = refl; on = refl }

pub disturbed_once_shows : Shows ramped_parts disturbed_once 15 (replicate 51 true)
unfolding whole_model proper_by
disturbed_once_shows =
    record { proper = proper ramped_parts disturbed_once (replicate 51 true) refl refl; confirms = refl; on = refl }

pub braked_accepted : IsAccepted reference_parts → IsAccepted braked_parts
braked_accepted a = record {
  grid = a.grid;
  permit = a.permit;
  pair = a.pair;
  torque = a.torque;
  plant = a.plant;
  charge = a.charge;
  times = a.times;
  answers = a.answers;
  at_most_64 = a.at_most_64;
  together = record { one_kt = a.together.one_kt; two_questions = a.together.two_questions; answered = a.together.answered };
  words = record { seeds = a.words.seeds; values = a.words.values };
}

pub ramped_accepted : IsAccepted reference_parts → IsAccepted ramped_parts
unfolding answers.expected_of answers.results_of answers.permitted_result answers.estimate_result answers.excess_result answers.pairs_result formulas.permitted_torque formulas.estimated_torque formulas.excess_number formulas.disagreeing_pairs
ramped_accepted a = record {
  grid = a.grid;
  permit = a.permit;
  pair = a.pair;
  torque = a.torque;
  plant = a.plant;
  charge = a.charge;
  times = a.times;
  answers = a.answers;
  at_most_64 = a.at_most_64;
  together = record { one_kt = a.together.one_kt; two_questions = a.together.two_questions; answered = a.together.answered };
  words = record { seeds = a.words.seeds; values = a.words.values };
}
