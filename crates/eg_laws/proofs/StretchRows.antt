-- How long an excess lasts, and how often it may come again: by the rows of a history, and of the record of a run on
-- the bench.
use Rattle.std.proofs.Common.{◌≡◌, ℕ, ◌≤◌, Bool, true, false, List, [], ◌∷◌, ◌++◌, All, map, length, refl, sym, ap, ◌∙◌, subst, arith}
use Rattle.std.specs.List.{list_all}
use Rattle.std.proofs.lemmas.List.{length-map, map-append}
use Rattle.std.proofs.lemmas.List.Elements.{All-head, All-tail}
use Rattle.std.proofs.lemmas.Bool.{and_from}
use Rattle.eg_num.specs.Windows.{WeightParts, AreWeights, is_confirmed}
use Rattle.eg_values.specs.Calibration.{IsAccepted}
use Rattle.eg_plant.specs.PlantParts.{PlantParts}
use Rattle.eg_fault.specs.Faults.{IsListed}
use Rattle.eg_fault.proofs.ActingLemmas.{listed_valid}
use Rattle.eg_record.specs.declared.row.Row.{Row}
use Rattle.eg_record.specs.Excess.{true_excess}
use Rattle.eg_model.specs.History.{Setting, Tick}
use Rattle.eg_model.specs.Premises.{AreProper, Follows, true_excesses, IsExcessConfirmed}
use Rattle.eg_model.specs.Reaction.{OffFrom}
use Rattle.eg_model.specs.Engines.{BenchEngine, KeepsBenchLaws}
use Rattle.eg_values.specs.Excess.{ticks_to_confirm, longest_stretch}
use Rattle.eg_laws.specs.Stretches.{IsAtOnceWhenConfirmed, RowsEndStretches, RowsEndStretchesAtOnce, RecordsEndStretches, RecordsEndStretchesAtOnce}
use Rattle.eg_laws.specs.Bursts.{bad_in, most_bad, RowsAreSparse, RecordsAreSparse}
use Rattle.eg_model.proofs.SpanRows.{follows-end, proper-end, SpanRows, Split, split, bits_after, true_unnumbered}
use Rattle.eg_model.proofs.RecordSpans.{SpanTo}
use Rattle.eg_model.proofs.RecordLaws.{each_drive, proper_span}
use Rattle.eg_laws.proofs.StretchLaws.{Ends, some, ends, off_at_once, OffAfter, ends_ticks}
use Rattle.eg_model.proofs.ReactionLaw.{reacts_in_time}
use Rattle.eg_model.proofs.SpanLaws.{reaction_least}
use Rattle.eg_answer.specs.Times.{reaction_of}
use Rattle.eg_laws.proofs.BurstLaws.{bursts_are_sparse}

-- ---- stretches ----

all_set : (bit : Row → Bool) (stretch : List Row) → All (λ row. bit row ≡ true) stretch → list_all (λ b. b) (map bit stretch) ≡ true
all_set bit [] all = refl
all_set bit (row ∷ stretch) all = and_from _ _ (All-head (λ r. bit r ≡ true) row stretch all)
    (all_set bit stretch (All-tail (λ r. bit r ≡ true) row stretch all))

-- ---- the rows of a drive span ----

module _ (s : Setting) (start : ℕ) (h : List Tick) (accepted : IsAccepted s.cal)
    (follows : Follows s.fault start h) (proper : AreProper s h) where
  abbrev bit : Row → Bool
  bit = true_excess s.cal.rules.threshold

  -- what is so of the ticks from a confirmed excess on is so of the rows of any part of it
  pub rows_end : (after : ℕ) (later part before : List Row) → SpanRows s start h ≡ later ++ (part ++ before) →
      ((g : List Tick) → map bit (part ++ before) ≡ true_excesses s g → OffAfter s start after g) →
      Ends s.cal.rules.torque after (map bit part ++ map bit before)
  unfolding true_excesses
  rows_end after later part before e law = subst (Ends s.cal.rules.torque after) (sym bits ∙ map-append bit part before)
      (ends_ticks s start after cut.rest (follows-end s.fault start cut.more cut.rest (subst (Follows s.fault start) cut.whole follows))
      (proper-end s cut.more cut.rest (subst (AreProper s) cut.whole proper)) (law cut.rest bits))
    where
      cut : Split s start h later (part ++ before)
      cut = split s start h later (part ++ before) e

      bits : map bit (part ++ before) ≡ true_excesses s cut.rest
      bits = ap (map bit) cut.rows_are ∙ bits_after bit (true_unnumbered s.cal.rules.threshold) s start cut.rest

  -- where the stages are off from R ticks after each tick by which the excess is confirmed
  module _ (law : (g : List Tick) → IsExcessConfirmed s g → OffFrom s start g (reaction_of s.cal.times)) where
    pub ends_in_time : (later part before : List Row) → SpanRows s start h ≡ later ++ (part ++ before) →
        Ends s.cal.rules.torque (reaction_of s.cal.times) (map bit part ++ map bit before)
    ends_in_time later part before e = rows_end (reaction_of s.cal.times) later part before e
        (λ g bits front k whole confirmed. law k confirmed)

    pub rows_end_stretches : RowsEndStretches s.cal.rules.threshold (longest_stretch s.cal) start (SpanRows s start h)
    unfolding longest_stretch ticks_to_confirm
    rows_end_stretches later stretch before e excess = subst (λ n. n ≤ longest_stretch s.cal) (length-map stretch bit)
        (ends s.cal.rules.torque accepted.torque (reaction_of s.cal.times) (map bit stretch) (map bit before)
        (reaction_least s.cal.times accepted.times accepted.answers) (ends_in_time later stretch before e) (all_set bit stretch excess))

  -- with no fault or a listed one, where the reaction is at once when the excess is confirmed
  module _ (listed : IsListed s.fault) where
    pub ends_at_once : (later part before : List Row) → SpanRows s start h ≡ later ++ (part ++ before) →
        IsAtOnceWhenConfirmed s.fault s.cal.rules.torque start (map bit (part ++ before)) →
        Ends s.cal.rules.torque 1 (map bit part ++ map bit before)
    ends_at_once later part before e soon = rows_end 1 later part before e
        (λ g bits front k whole confirmed. off_at_once s accepted listed start front k
        (subst (IsAtOnceWhenConfirmed s.fault s.cal.rules.torque start) (bits ∙ ap (true_excesses s) whole) soon) confirmed)

    rows_end_stretches_at_once : RowsEndStretchesAtOnce s.fault s.cal.rules.torque s.cal.rules.threshold (ticks_to_confirm s.cal) start
        (SpanRows s start h)
    unfolding ticks_to_confirm
    rows_end_stretches_at_once later stretch before e soon excess = subst (λ n. n ≤ ticks_to_confirm s.cal) (length-map stretch bit)
        (let short = ends s.cal.rules.torque accepted.torque 1 (map bit stretch) (map bit before) (omega arith)
        (ends_at_once later stretch before e soon) (all_set bit stretch excess) in
        let a = some s.cal.rules.torque accepted.torque in omega (arith, short, a))

module _ {E : Type 0} {b : BenchEngine E} {Keeps : PlantParts → E → Type 0} (keeps : KeepsBenchLaws b Keeps) where
  pub records_end_stretches : RecordsEndStretches b
  records_end_stretches r run listed = each_drive b (RowsEndStretches r.setting.cal.rules.threshold (longest_stretch r.setting.cal)) r
      (λ start count span is. rows_end_stretches r.setting start (SpanTo b r count) run.accepted is.follows
      (proper_span keeps r run (listed_valid r.setting.fault listed) start count span is)
      (reacts_in_time r.setting run.accepted listed start))

  pub records_end_stretches_at_once : RecordsEndStretchesAtOnce b
  records_end_stretches_at_once r run listed = each_drive b (RowsEndStretchesAtOnce r.setting.fault r.setting.cal.rules.torque r.setting.cal.rules.threshold
      (ticks_to_confirm r.setting.cal)) r
      (λ start count span is. rows_end_stretches_at_once r.setting start (SpanTo b r count) run.accepted is.follows
      (proper_span keeps r run (listed_valid r.setting.fault listed) start count span is) listed)

-- ---- bursts ----

rows_are_sparse : (w : WeightParts) → AreWeights w → (threshold start : ℕ) (rows : List Row) → RowsAreSparse w threshold start rows
rows_are_sparse w are threshold start rows later window before e none = subst (λ n. bad_in (map bit window) ≤ most_bad w n)
    (length-map window bit) (bursts_are_sparse w are (map bit window) (map bit before)
    (subst (λ bits. is_confirmed w bits ≡ false) (map-append bit window before) none))
  where
    bit : Row → Bool
    bit = true_excess threshold

pub records_are_sparse : {E : Type 0} (b : BenchEngine E) → RecordsAreSparse b
records_are_sparse b r run newer span older e is =
    rows_are_sparse r.setting.cal.rules.torque run.accepted.torque r.setting.cal.rules.threshold (length older) span
