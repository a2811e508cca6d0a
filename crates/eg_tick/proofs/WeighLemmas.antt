-- What a controller keeps of the debouncers is what the model says of the moments; and how a run that is weighed goes on by a tick.
use Rattle.std.proofs.Common.{◌≡◌, ◌∙◌, refl, sym, ap, ap₂, subst, ℕ, suc, ◌+◌, Bool, true, false, List, [], ◌∷◌, map, length, arith}
use Rattle.std.specs.Prelude.{not, ◌==◌, if◌then◌else◌}
use Rattle.eg_num.specs.Counting.{counted}
use Rattle.eg_answer.specs.Periods.{is_wrong}
use Rattle.eg_answer.specs.Times.{TimeParts}
use Rattle.eg_level2.specs.Words.{words_of}
use Rattle.eg_record.specs.declared.row.Row.{Row}
use Rattle.eg_record.specs.declared.margins.Counters.{Counters}
use Rattle.eg_record.specs.declared.margins.MarginTally.{MarginTally}
use Rattle.eg_record.specs.Margins.{Weighed, margins_of, no_margins, IsMarginTallyOf}
use Rattle.eg_model.specs.History.{Setting, Entry, Moment}
use Rattle.eg_model.specs.Answers.{verdicts_in}
use Rattle.eg_model.specs.Moments.{moments_in}
use Rattle.eg_model.specs.Spans.{span_kind, moments, span_ticks, next_after}
use Rattle.eg_model.proofs.SpanLemmas.{spans_are_histories}
use Rattle.eg_model.specs.Engines.{BenchEngine}
use Rattle.eg_model.specs.Bench.{Run, entry_at, moments_to, entries_to}
use Rattle.eg_model.specs.Rows.{row_of}
use Rattle.eg_model.specs.Records.{row_at}
use Rattle.eg_model.proofs.RecordTicks.{length-moments_to, records_are_histories}
use Rattle.eg_agree.specs.Standing.{KeepsWords}
use Rattle.eg_tick.specs.Stands.{Stands}
use Rattle.eg_tick.specs.Benched.{ComeTo}
use Rattle.eg_tick.specs.Run.{IsAt}
use Rattle.eg_tick.specs.Kept.{Kept, ControllerParts}
use Rattle.eg_tick.specs.Margins.{counters_in, counters_in_run, counters_kept, weighed_of, weighed_to, record_margins}

-- ---- what a controller keeps ----

-- of a span
of_span : (s : Setting) (c : Kept) (past : List Moment) → KeepsWords s (words_of c.memory.words) past →
    c.span.monitor.times ≡ s.cal.times → c.span.monitor.value ≡ counted c.span.monitor.times.weights (map is_wrong (verdicts_in past)) →
    counters_kept (words_of c.memory.words) c.span.monitor.value ≡ counters_in s.cal past
unfolding counters_kept counters_in
of_span s c past words times answers = λ i. record {
  pedal = words.pedal i;
  plate = words.plate i;
  load = words.load i;
  speed = words.speed i;
  torque = words.torque i;
  answers = (answers ∙ ap (λ (t : TimeParts). counted t.weights (map is_wrong (verdicts_in past))) times) i;
}

pub counters_stand : (s : Setting) (c : Kept) (h : List Entry) → Stands s c h →
    counters_kept (words_of c.memory.words) c.span.monitor.value ≡ counters_in_run s.cal (moments s h)
unfolding counters_in_run
counters_stand s c h stands =
    let kind = span_kind (moments s h) in
    of_span s c (moments_in kind s (span_ticks s h)) stands.span.level2.words stands.span.monitor.times stands.span.monitor.given.counter
    ∙ ap (counters_in s.cal) (sym (spans_are_histories s h).moments_are)

-- ---- one tick more of a run that is weighed ----

weighed_to-suc : {S : Type 0} (b : BenchEngine S) (r : Run) (t : ℕ) →
    weighed_to true b r (suc t) ≡ record { row = row_at b r t; counters = counters_in_run r.setting.cal (moments_to b r (suc t)) } ∷ weighed_to true b r t
unfolding weighed_to weighed_of moments_to row_at
weighed_to-suc b r t = ap (λ n. record {
  row = row_of n (next_after r.setting (entry_at b r t (moments_to b r t)) (moments_to b r t));
  counters = counters_in_run r.setting.cal (next_after r.setting (entry_at b r t (moments_to b r t)) (moments_to b r t) ∷ moments_to b r t);
} ∷ weighed_of r.setting.cal (moments_to b r t)) (length-moments_to b r t)

one_more : (t : ℕ) → suc t ≡ t + 1
one_more t = omega arith

unweighed : {S : Type 0} (b : BenchEngine S) (r : Run) (n : ℕ) → weighed_to false b r n ≡ []
unfolding weighed_to
unweighed b r n = refl

-- where this is its row, and a controller that has come to it weighs this
weighed-next : {S E : Type 0} (b : BenchEngine S) (come_to : ComeTo S E) (r : Run) (t : ℕ) (row : Row) (c : ControllerParts E) (counters : Counters) →
    row ≡ row_at b r t → IsAt b come_to r (t + 1) c → ((s : Setting) (h : List Entry) → Stands s c.kept h → counters ≡ counters_in_run s.cal (moments s h)) →
    record { row = row; counters = counters } ∷ weighed_to true b r t ≡ weighed_to true b r (t + 1)
weighed-next b come_to r t row c counters row_is at weighs =
    ap₂ (λ (row : Row) (counters : Counters). record { row = row; counters = counters } ∷ weighed_to true b r t) row_is
    (weighs r.setting (entries_to b r (t + 1)) at.stands ∙ ap (counters_in_run r.setting.cal) (sym (records_are_histories b r (t + 1)))
    ∙ ap (λ n. counters_in_run r.setting.cal (moments_to b r n)) (sym (one_more t)))
    ∙ sym (weighed_to-suc b r t) ∙ ap (weighed_to true b r) (one_more t)

-- a tally that is fed that row, where the run is weighed, and one that isn't where it isn't
pub weighs_on : {S E : Type 0} (weighed : Bool) (b : BenchEngine S) (come_to : ComeTo S E) (r : Run) (t : ℕ) (row : Row) (c : ControllerParts E) (counters : Counters) (old new : MarginTally) →
    weighed ≡ true → row ≡ row_at b r t → IsAt b come_to r (t + 1) c → ((s : Setting) (h : List Entry) → Stands s c.kept h → counters ≡ counters_in_run s.cal (moments s h)) →
    ((before : List Weighed) → IsMarginTallyOf old before → IsMarginTallyOf new (record { row = row; counters = counters } ∷ before)) →
    IsMarginTallyOf old (weighed_to weighed b r t) → IsMarginTallyOf new (weighed_to weighed b r (t + 1))
weighs_on weighed b come_to r t row c counters old new is row_is at weighs fed stands =
    subst (λ w. IsMarginTallyOf new (weighed_to w b r (t + 1))) (sym is)
    (subst (IsMarginTallyOf new) (weighed-next b come_to r t row c counters row_is at weighs)
    (fed (weighed_to true b r t) (subst (λ w. IsMarginTallyOf old (weighed_to w b r t)) is stands)))

pub rests : {S : Type 0} (weighed : Bool) (b : BenchEngine S) (r : Run) (t n : ℕ) (tally : MarginTally) → weighed ≡ false →
    IsMarginTallyOf tally (weighed_to weighed b r t) → IsMarginTallyOf tally (weighed_to weighed b r n)
rests weighed b r t n tally isnt stands = subst (IsMarginTallyOf tally) (none t ∙ sym (none n)) stands
  where
    none : (n : ℕ) → weighed_to weighed b r n ≡ []
    none n = ap (λ w. weighed_to w b r n) isnt ∙ unweighed b r n

-- a constant of a type that is true is a number that isn't 0
pub is_set : (n : ℕ) → ¬ (n ≡ 0) → not (n == 0) ≡ true
is_set n some = grind arith

pub is_unset : (n : ℕ) → n ≡ 0 → not (n == 0) ≡ false
is_unset n none = grind arith

-- before the first tick there is nothing
pub none_weighed : {S : Type 0} (weighed : Bool) (b : BenchEngine S) (r : Run) → weighed_to weighed b r 0 ≡ []
unfolding weighed_to weighed_of moments_to
none_weighed true b r = refl
none_weighed false b r = refl

-- what is told of all ticks of a run
pub margins_told : {S : Type 0} (weighed : Bool) (b : BenchEngine S) (r : Run) →
    margins_of (weighed_to weighed b r (length r.drive)) ≡ (if weighed then record_margins b r else no_margins)
unfolding weighed_to record_margins no_margins
margins_told true b r = refl
margins_told false b r = refl
