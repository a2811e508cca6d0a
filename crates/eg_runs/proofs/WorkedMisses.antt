-- Runs in which level 2 misses a tick now and then, computed from the definitions.
use Rattle.std.proofs.Common.{◌≡◌, ◌<◌, true, false, [], ◌∷◌, ◌++◌, map, replicate, Some, None, inr, refl, sym, subst, arith}
use Rattle.eg_answer.specs.Times.{HasMissSpacing, periods_between_misses, miss_spacing_of}
use Rattle.eg_answer.specs.declared.marks.Verdict.TheVariants.{Right, Wrong}
use Rattle.eg_record.specs.declared.watch.Watch.TheVariants.{Answers, Torque}
use Rattle.eg_record.specs.Excess.{full_excess}
use Rattle.eg_model.specs.Examples.{verdicts_of, rows_in_time, report_on, reported}
use Rattle.eg_laws.specs.Availability.{MissesAreSpaced, IsSpacedLapse}
use Rattle.eg_laws.proofs.SingleMisses.{single_misses_are_spaced}
use Rattle.eg_runs.specs.WorkedMisses.{missed_from, sevens, missed_run, single_miss, gap_run, reported_with}
use Rattle.eg_model.proofs.WholeModel.{whole_model}

-- four periods and a tick: a wrong verdict adds 3, and three right ones take what two wrong ones add
pub spacing : miss_spacing_of (sevens 9).times ≡ 29
unfolding periods_between_misses miss_spacing_of
spacing = refl

pub none_at_a_tie : ¬ HasMissSpacing (sevens 6).times
none_at_a_tie has = absurd (let f : 6 < 6 = has.two_are_few in omega arith)

-- misses at the ticks 3, 31, 59, ..: two verdicts of four are wrong
pub near : report_on (missed_run 28) ≡ reported_with 24 (Some (Answers, 69)) (Some 70)
unfolding whole_model
near = refl

pub near-verdicts : verdicts_of (missed_run 28)
    ≡ (6, Some Wrong) ∷ (13, Some Wrong) ∷ (20, Some Right) ∷ (27, Some Right) ∷ (34, Some Wrong) ∷
    (41, Some Wrong) ∷ (48, Some Right) ∷ (55, Some Right) ∷ (62, Some Wrong) ∷ (69, Some Wrong) ∷
    (76, Some Right) ∷ []
unfolding whole_model
near-verdicts = refl

-- at the ticks 3, 32, 61, ..: two, and from then on one, of four or five
pub far_apart : IsSpacedLapse (missed_run 29).setting 0 77
far_apart = record {
  has = record { two_are_few = omega arith; some_taken = omega arith };
  lapse = record { onset = 3; after = 0 ∷ []; every = 29; is = refl };
  spaced = subst (λ distance. MissesAreSpaced (missed_from 3 29) distance 0 77) (sym spacing)
      (single_misses_are_spaced 3 0 29 29 0 77 (inr (omega arith)));
}

-- by misses at the ticks 3, 13, 23, ..: of the ticks 14 to 23 one alone is missed
pub within : IsSpacedLapse (missed_run 10).setting 14 24
within = record {
  has = record { two_are_few = omega arith; some_taken = omega arith };
  lapse = record { onset = 3; after = 0 ∷ []; every = 10; is = refl };
  spaced = λ first second from before misses misses_too later.
      let apart = single_misses_are_spaced 3 0 10 10 14 24 (inr (omega arith)) first second from before misses misses_too later in
      absurd (omega (arith, apart, from, before));
}

pub far : report_on (missed_run 29) ≡ reported_with 24 None None
unfolding whole_model
far = refl

-- a single miss, whose two wrong verdicts are enough
pub single : report_on single_miss ≡ reported_with 17 (Some (Answers, 13)) (Some 14)
unfolding whole_model
single = refl

-- the excess stands at ticks 5 to 8 and at tick 10: without a fault its bits weigh 4 at most, of 5
pub gap-excesses : map (full_excess 2500 200) (rows_in_time (gap_run None))
    ≡ replicate 5 false ++ replicate 4 true ++ false ∷ true ∷ replicate 19 false
unfolding whole_model
gap-excesses = refl

pub gap-uncut : report_on (gap_run None) ≡ reported None None None None
unfolding whole_model
gap-uncut = refl

-- where level 2 misses tick 9 it is fed with five bits that are set
pub gap-cut : report_on (gap_run (missed_from 9 0)) ≡ reported (Some (Torque, 10)) (Some 11) None None
unfolding whole_model
gap-cut = refl
