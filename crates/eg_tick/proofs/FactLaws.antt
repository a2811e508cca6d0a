-- The facts of a run of any engine: what they tell of the reaction where the drive never resets the unit, and how they grow with each tick.
use Rattle.std.proofs.Common.{◌≡◌, ◌∙◌, refl, sym, ap, ap₂, subst, ℕ, suc, ◌+◌, ◌-◌, ◌%◌, ◌^◌, ◌≤◌, ◌<◌, Bool, true, false, inl, inr, List, [], ◌∷◌, ◌++◌, All, map, length, arith, Some, None}
use Rattle.std.specs.Prelude.{Option, option_map, IfSome, IsSomeAnd, MatchOption, nat_le, nat_lt, if◌then◌else◌}
use Rattle.std.specs.List.{sum}
use Rattle.std.proofs.lemmas.Bool.{cases_lt, le-leb}
use Rattle.std.proofs.lemmas.List.{append-nil}
use Rattle.std.proofs.lemmas.List.Elements.{All-weaker}
use Rattle.std.proofs.lemmas.List.Sums.{sum_by-cons}
use Rattle.eg_num.specs.Windows.{WeightParts, is_confirmed, first_index}
use Rattle.eg_answer.specs.Times.{reaction_of}
use Rattle.eg_plant.specs.PlantParts.{PlantParts}
use Rattle.eg_values.specs.Calibration.{IsAccepted}
use Rattle.eg_fault.specs.Faults.{IsListed}
use Rattle.eg_word.specs.declared.registers.Trap.{Trap}
use Rattle.eg_record.specs.declared.row.Row.{Row}
use Rattle.eg_record.specs.declared.facts.Facts.{Facts}
use Rattle.eg_record.specs.Rows.{AreRows}
use Rattle.eg_record.proofs.RowsLemmas.{AreRows-append}
use Rattle.eg_record.specs.Spans.{this_span, IsDriveSpan, EachDriveSpan}
use Rattle.eg_record.specs.Stages.{first_off, last_on}
use Rattle.eg_record.specs.Excess.{true_excess, full_excess, is_excess_confirmed, first_confirmed}
use Rattle.eg_record.specs.Facts.{facts_of, off_from, reaction_in}
use Rattle.eg_record.proofs.SpanLemmas.{this_span-whole, one_span-part}
use Rattle.eg_record.proofs.ExcessLemmas.{first_confirmed-one_span}
use Rattle.eg_record.proofs.GivenLemmas.{AreRows-ticks}
use Rattle.eg_record.proofs.FactLemmas.{last_on-before, last_on-append, last_on-within, ConfirmsAt, confirms_at, goes_off_once}
use Rattle.eg_model.specs.Reaction.{is_at_once}
use Rattle.eg_model.specs.Engines.{BenchEngine, KeepsBenchLaws, ShowsOneLoad}
use Rattle.eg_model.specs.Bench.{Run}
use Rattle.eg_model.specs.Rows.{first_trap, record_rows, record_trap}
use Rattle.eg_model.specs.Records.{IsRun, row_at, rows_to, ReactWithin, RowsReactAtOnce, CutOneTickAfter}
use Rattle.eg_model.proofs.RecordLaws.{records_react, records_react_at_once, records_cut_sharply}
use Rattle.eg_model.proofs.RecordTicks.{records_are_histories, rows_to-suc, record_rows-is, records_are_rows}
use Rattle.eg_model.proofs.SpanRuns.{is_one_drive_span, tests_never}
use Rattle.eg_model.proofs.WholeRecord.{drive_keeps}
use Rattle.eg_tick.specs.Benched.{ComeTo}
use Rattle.eg_tick.specs.Kept.{ControllerParts}
use Rattle.eg_tick.specs.Weights.{TickCount, weight_of}
use Rattle.eg_tick.specs.Run.{IsAt}
use Rattle.eg_record.specs.declared.run_facts.RunFacts.{RunFacts}
use Rattle.eg_record.specs.Reactions.{reactions_of}
use Rattle.eg_record.specs.Margins.{margins_of}
use Rattle.eg_record.specs.Tallies.{TallyParts}
use Rattle.eg_tick.specs.Facts.{record_facts, IsToldOf, IsWithoutReset, FactsReactWithin, FactsReactAtOnce, GoOffOnce}
use Rattle.eg_tick.specs.Margins.{weighed_to}
use Rattle.eg_tick.proofs.RunLemmas.{counted, more-mod}
use Rattle.eg_tick.proofs.WeighLemmas.{margins_told}

-- ---- the reaction ----

module _ {E : Type 0} {b : BenchEngine E} {Keeps : PlantParts → E → Type 0} (keeps : KeepsBenchLaws b Keeps)
    (r : Run) (is : IsRun r) (reset_free : IsWithoutReset r.drive) (some : 1 ≤ length r.drive) where
  rows : List Row
  rows = record_rows b r

  w : WeightParts
  w = r.setting.cal.rules.torque

  t : ℕ
  t = r.setting.cal.rules.threshold

  drive_span : IsDriveSpan rows
  unfolding rows
  drive_span = is_one_drive_span b r reset_free some

  one : this_span rows ≡ rows
  one = this_span-whole rows drive_span.span

  are_rows : AreRows rows
  unfolding rows
  are_rows = subst AreRows (sym (record_rows-is b r)) (records_are_rows b r (length r.drive)).0

  some_rows : 1 ≤ length rows
  unfolding rows
  some_rows = let long = ap length (record_rows-is b r) ∙ (records_are_rows b r (length r.drive)).1 in omega (arith, long, some)

  -- what holds of each drive span holds of all rows
  whole : (P : ℕ → List Row → Type 0) → EachDriveSpan P rows → P 0 rows
  whole P each = each [] rows [] (sym (append-nil rows)) drive_span

  within : IsListed r.setting.fault → (c : ℕ) → first_confirmed w t rows ≡ Some c → IfSome (last_on rows) (λ last. last < c + reaction_of r.setting.cal.times)
  unfolding rows w t
  within listed c first = last_on-before rows (c + reaction_of r.setting.cal.times)
      (All-weaker (λ row. 0 + c + reaction_of r.setting.cal.times ≤ row.tick → row.on ≡ false) (λ row. c + reaction_of r.setting.cal.times ≤ row.tick → row.on ≡ false)
      (λ row off late. off (omega arith)) rows
      (whole (ReactWithin (reaction_of r.setting.cal.times) w t) (records_react keeps r is listed) c (sym (first_confirmed-one_span w t rows one) ∙ first)))

  at_once : IsListed r.setting.fault → (c : ℕ) → first_confirmed w t rows ≡ Some c → is_at_once r.setting.fault (c + 1) ≡ true → IfSome (last_on rows) (λ last. last < c + 1)
  unfolding rows w t
  at_once listed c first now =
      let at : ConfirmsAt w t rows c = confirms_at w t rows c first in
      let of_span : this_span at.before ≡ at.before = one_span-part at.later at.before (subst (λ (rs : List Row). this_span rs ≡ rs) at.split one) in
      let confirmed : is_confirmed w (map (true_excess t) at.before) ≡ true =
      ap (λ (rs : List Row). is_confirmed w (map (true_excess t) rs)) (sym of_span) ∙ confirmed-is w t at.before ∙ at.confirmed in
      let off : All (λ row. row.on ≡ false) at.later = whole (RowsReactAtOnce r.setting.fault w t) (records_react_at_once keeps r is listed)
      at.later at.before at.split confirmed (ap (λ n. is_at_once r.setting.fault n) (let long = at.long in omega arith) ∙ now) in
      let same : last_on rows ≡ last_on at.before = ap last_on at.split ∙ last_on-append at.later at.before off in
      subst (λ o. IfSome o (λ last. last < c + 1)) (sym same)
      (subst (λ n. IfSome (last_on at.before) (λ last. last < n)) at.long (last_on-within at.before (before_are at.later at.before at.split)))
    where
      confirmed-is : (w : WeightParts) (t : ℕ) (rs : List Row) → is_confirmed w (map (true_excess t) (this_span rs)) ≡ is_excess_confirmed w t rs
      confirmed-is w t rs = unfold is_excess_confirmed in refl

      before_are : (later before : List Row) → rows ≡ later ++ before → AreRows before
      before_are later before split = AreRows-append later before (subst AreRows split are_rows)

  kt : ℕ
  kt = r.setting.cal.rules.kt

  untested : All (λ (row : Row). row.testing ≡ false) rows
  unfolding rows
  untested = tests_never b r reset_free

  once : ShowsOneLoad b → r.setting.fault ≡ None → IsSomeAnd (last_on rows) (λ last. MatchOption (first_off rows) (last + 1 ≡ length rows) (λ off. last + 1 ≡ off))
  unfolding rows w t kt
  once one_load none = go (first_index w (map (full_excess kt t) rows)) (whole (CutOneTickAfter w kt t) (records_cut_sharply keeps one_load r is none))
    where
      go : (o : Option ℕ) → MatchOption o (All (λ row. row.on ≡ true) rows) (λ c. All (λ row. row.on ≡ nat_le row.tick (0 + c)) rows) →
          IsSomeAnd (last_on rows) (λ last. MatchOption (first_off rows) (last + 1 ≡ length rows) (λ off. last + 1 ≡ off))
      go None on = goes_off_once (length rows) rows some_rows are_rows untested
          (λ k d below. on k d below ∙ sym (le-leb _ (length rows) (let low = AreRows-ticks rows are_rows k d below in omega arith)))
      go (Some c) on = goes_off_once c rows some_rows are_rows untested
          (All-weaker (λ row. row.on ≡ nat_le row.tick (0 + c)) (λ row. row.on ≡ nat_le row.tick c) (λ row e. e ∙ ap (nat_le row.tick) (the_same c)) rows on)
        where
          the_same : (c : ℕ) → 0 + c ≡ c
          the_same c = omega arith

  pub facts_react : IsListed r.setting.fault → FactsReactWithin (reaction_of r.setting.cal.times) (record_facts b r)
  unfolding record_facts facts_of w t rows
  facts_react listed = go (first_confirmed w t rows) refl
    where
      go : (o : Option ℕ) → first_confirmed w t rows ≡ o → IfSome o (λ c. IfSome (last_on rows) (λ last. last < c + reaction_of r.setting.cal.times))
      go None first = tt
      go (Some c) first = within listed c first

  pub facts_react_at_once : IsListed r.setting.fault → FactsReactAtOnce r.setting.fault (record_facts b r)
  unfolding record_facts facts_of w t rows
  facts_react_at_once listed = go (first_confirmed w t rows) refl
    where
      go : (o : Option ℕ) → first_confirmed w t rows ≡ o →
          IfSome o (λ c. is_at_once r.setting.fault (c + 1) ≡ true → IfSome (last_on rows) (λ last. last < c + 1))
      go None first = tt
      go (Some c) first = at_once listed c first

  pub facts_go_off_once : ShowsOneLoad b → r.setting.fault ≡ None → GoOffOnce (record_facts b r)
  unfolding record_facts facts_of rows
  facts_go_off_once one_load none = once one_load none

-- ---- the reaction as one number ----

-- what is told only where a test passes
if-within : (test : Bool) (o : Option ℕ) (P : ℕ → Type 0) → IfSome o P → IfSome (if test then o else None) P
if-within true o P all = all
if-within false o P all = tt

if-not : (test : Bool) (o : Option ℕ) (P : ℕ → Type 0) → test ≡ false → IfSome (if test then o else None) P
if-not true o P not = absurd cc
if-not false o P not = tt

-- a reaction takes at most `bound` ticks where the stages are off for good that many after the confirmed
-- excess
reaction_in-within : (facts : Facts) (bound : ℕ) → FactsReactWithin bound facts → IfSome (reaction_in facts) (λ n. n ≤ bound)
unfolding reaction_in
reaction_in-within facts bound reacts = if-within (nat_lt (off_from facts.last_on) facts.ticks) _ (λ n. n ≤ bound) (parts facts.confirmed facts.last_on reacts)
  where
    parts : (confirmed last_on : Option ℕ) → IfSome confirmed (λ c. IfSome last_on (λ last. last < c + bound)) →
        IfSome (option_map (λ c. off_from last_on - c) confirmed) (λ n. n ≤ bound)
    parts None last_on within = tt
    parts (Some c) None within = unfold off_from in omega arith
    parts (Some c) (Some last) within = unfold off_from in omega arith

-- a run without a tick has none
no_reaction : (facts : Facts) (P : ℕ → Type 0) → facts.ticks ≡ 0 → IfSome (reaction_in facts) P
unfolding reaction_in
no_reaction facts P none = if-not (nat_lt (off_from facts.last_on) facts.ticks) _ P (never (off_from facts.last_on) facts.ticks none)
  where
    never : (n m : ℕ) → m ≡ 0 → nat_lt n m ≡ false
    never n m none = grind arith

-- So a run under a listed fault, or without one, whose drive never resets the unit has no reaction longer than the worst-case reaction.
pub reaction_within : {E : Type 0} {b : BenchEngine E} {Keeps : PlantParts → E → Type 0} (keeps : KeepsBenchLaws b Keeps) (r : Run) → IsRun r →
    IsWithoutReset r.drive → IsListed r.setting.fault → IfSome (reaction_in (record_facts b r)) (λ n. n ≤ reaction_of r.setting.cal.times)
reaction_within {b = b} keeps r is reset_free listed = elim (cases_lt 0 (length r.drive)) [
  | inl some ↦ reaction_in-within (record_facts b r) (reaction_of r.setting.cal.times) (facts_react keeps r is reset_free some listed)
  | inr none ↦ no_reaction (record_facts b r) (λ n. n ≤ reaction_of r.setting.cal.times)
      (unfold record_facts facts_of in (ap length (record_rows-is b r) ∙ (records_are_rows b r (length r.drive)).1 ∙ (omega arith)))
]

-- ---- one tick more ----

pub counted-next : (from old new : TickCount) (n : ℕ) (rows : List Row) (row : Row) → old ≡ counted from n rows →
    new.count ≡ (old.count + 1) % 2 ^ 64 → new.weights ≡ (old.weights + weight_of row) % 2 ^ 64 →
    new ≡ counted from (n + 1) (row ∷ rows)
counted-next from old new n rows row is count weight = ap₂ both
    (count ∙ more-mod (2 ^ 64) from.count n old.count 1 (ap (λ (k : TickCount). k.count) is))
    (weight ∙ more-mod (2 ^ 64) from.weights (sum (map weight_of rows)) old.weights (weight_of row) (ap (λ (k : TickCount). k.weights) is)
    ∙ ap (λ m. (from.weights + m) % 2 ^ 64) (flip (sum (map weight_of rows)) (weight_of row) ∙ sym (sum_by-cons (λ m. m) (weight_of row) (map weight_of rows))))
  where
    both : ℕ → ℕ → TickCount
    both a b = record { count = a; weights = b }

    flip : (n m : ℕ) → n + m ≡ m + n
    flip n m = omega arith

-- a tally that stands for the rows of the first n ticks, fed the next row
pub rows-next : {S : Type 0} (b : BenchEngine S) (r : Run) (n : ℕ) (row : Row) → row ≡ row_at b r n → row ∷ rows_to b r n ≡ rows_to b r (n + 1)
rows-next b r n row is = ap (λ (x : Row). x ∷ rows_to b r n) is ∙ sym (rows_to-suc b r n) ∙ ap (rows_to b r) (one_more n)
  where
    one_more : (n : ℕ) → suc n ≡ n + 1
    one_more n = omega arith

-- ---- the whole run ----

-- what is told of the first n rows of a run that is weighed or isn't, where this is its trap
abbrev pub told_to : {S : Type 0} (weighed : Bool) (b : BenchEngine S) (r : Run) (n : ℕ) (trap : Option (Trap × ℕ)) → RunFacts
told_to weighed b r n trap = record {
  facts = facts_of r.setting.cal.rules.torque r.setting.cal.rules.threshold (rows_to b r n);
  reactions = reactions_of r.setting.cal.rules.torque r.setting.cal.rules.threshold (rows_to b r n);
  margins = margins_of (weighed_to weighed b r n);
  trap = trap;
}

pub told : {S E : Type 0} (weighed : Bool) (b : BenchEngine S) (come_to : ComeTo S E) (r : Run) (c : ControllerParts E) (is_told : RunFacts) →
    IsAt b come_to r (length r.drive) c → is_told ≡ told_to weighed b r (length r.drive) c.kept.trap → IsToldOf weighed b r is_told
unfolding record_facts record_trap
told weighed b come_to r c is_told at are = record {
  is = are ∙ (λ i. record {
    facts = facts_of r.setting.cal.rules.torque r.setting.cal.rules.threshold (sym (record_rows-is b r) i);
    reactions = reactions_of r.setting.cal.rules.torque r.setting.cal.rules.threshold (sym (record_rows-is b r) i);
    margins = margins_told weighed b r i;
    trap = (at.stands.trap ∙ ap first_trap (sym (records_are_histories b r (length r.drive)))) i;
  });
  proper = at.stands.engine.proper;
}

-- what tallies of the first n rows tell, with this trap
pub tallied : {S : Type 0} (weighed : Bool) (b : BenchEngine S) (r : Run) (n : ℕ) (tally : TallyParts) (is_told : RunFacts) (trap : Option (Trap × ℕ)) →
    tally.weights ≡ r.setting.cal.rules.torque → tally.threshold ≡ r.setting.cal.rules.threshold →
    is_told.facts ≡ facts_of tally.weights tally.threshold (rows_to b r n) →
    is_told.reactions ≡ reactions_of tally.weights tally.threshold (rows_to b r n) →
    is_told.margins ≡ margins_of (weighed_to weighed b r n) → is_told.trap ≡ trap → is_told ≡ told_to weighed b r n trap
tallied weighed b r n tally is_told trap weights threshold facts reactions margins is = λ i. record {
  facts = (facts ∙ ap₂ (λ w t. facts_of w t (rows_to b r n)) weights threshold) i;
  reactions = (reactions ∙ ap₂ (λ w t. reactions_of w t (rows_to b r n)) weights threshold) i;
  margins = margins i;
  trap = is i;
}

pub is_run : {S : Type 0} (weighed : Bool) (b : BenchEngine S) (r : Run) (is_told : RunFacts) → IsAccepted r.setting.cal → IsToldOf weighed b r is_told → IsRun r
is_run weighed b r is_told accepted told = record {
  accepted = accepted;
  drive = drive_keeps b r told.proper;
}
