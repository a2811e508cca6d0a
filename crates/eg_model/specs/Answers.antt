-- An answer is good where all eight modules ran at each tick since the last one and none is disturbed now; a
-- verdict is over the answers of its period.
use Rattle.std.specs.Prelude.{ℕ, ◌-◌, ◌==◌, Bool, true, false, not, ◌&&◌, ◌||◌, is_some, List, [], ◌∷◌, map, take, length, Option, Some, None, if◌then◌else◌}
use Rattle.std.specs.List.{list_all}
use Rattle.eg_num.specs.Windows.{is_first}
use Rattle.eg_answer.specs.Times.{TimeParts}
use Rattle.eg_answer.specs.Periods.{is_last_tick, MarkedAnswer, verdict_of, with_verdict, is_wrong}
use Rattle.eg_answer.specs.declared.marks.AnswerMark.{AnswerMark}
use Rattle.eg_answer.specs.declared.marks.AnswerMark.TheVariants.{Absent, Good, Bad}
use Rattle.eg_answer.specs.declared.marks.Verdict.{Verdict}
use Rattle.eg_answer.specs.declared.modules.TheConstants.{REACT}
use Rattle.eg_answer.specs.Modules.{modules}
use Rattle.eg_fault.specs.Effects.{Effects, sends_at}
use Rattle.eg_model.specs.History.{Moment}
use Rattle.eg_model.specs.Signals.{tripped}

-- ---- answers ----

-- all eight modules of level 2 run at a tick
unfoldable pub is_whole : Effects → Bool
is_whole x = list_all (λ i. x.ran i) modules

-- none of the eight modules is disturbed at a tick
unfoldable pub is_undisturbed : Effects → Bool
is_undisturbed x = list_all (λ i. x.disturbance i == 0) modules

-- an answer was sent
unfoldable pub is_answer : AnswerMark → Bool
is_answer Absent = false
is_answer Good = true
is_answer Bad = true

-- all eight modules ran at each of these ticks since the last answer
unfoldable pub whole_since_answer : List Moment → Bool
whole_since_answer [] = true
whole_since_answer (m ∷ past) = is_answer m.mark || (m.whole && whole_since_answer past)

-- An answer is sent at a send tick at which react runs and no trip has come, neither now (`trip`) nor earlier
-- in the span. (`moment_in` asks this only where the engine is driven.)
unfoldable pub is_sent : TimeParts → Effects → Bool → List Moment → Bool
is_sent times x trip past = sends_at x times (length past) && x.ran REACT && not (trip || tripped past)

-- an answer is good where all eight modules ran at each tick since the last one, and none is disturbed now
unfoldable pub is_good : Effects → List Moment → Bool
is_good x past = is_whole x && whole_since_answer past && is_undisturbed x

-- the mark of a tick: a good or a bad answer, or none
unfoldable pub mark_at : TimeParts → Effects → Bool → List Moment → AnswerMark
mark_at times x trip past = if is_sent times x trip past then
    (if is_good x past then Good else Bad) else Absent

-- ---- verdicts ----

-- the answer of a tick, if its mark says that one was sent, with the answers before it
unfoldable pub with_answer : ℕ → AnswerMark → List MarkedAnswer → List MarkedAnswer
with_answer tick Absent before = before
with_answer tick Good before = record { tick = tick; good = true } ∷ before
with_answer tick Bad before = record { tick = tick; good = false } ∷ before

-- the answers that were sent at these ticks
unfoldable pub answers_in : List Moment → List MarkedAnswer
answers_in [] = []
answers_in (m ∷ past) = with_answer m.tick m.mark (answers_in past)

-- the verdict of a tick: at the last tick of a period there is one over the answers of that period's ticks,
-- unless the monitoring module is wild
unfoldable pub verdict_at : TimeParts → Effects → AnswerMark → List Moment → Option Verdict
verdict_at times x mark past =
    if is_last_tick times (length past) && not (is_some x.wild)
    then Some (verdict_of times
    (with_answer (length past) mark (answers_in (take (times.period - 1) past))))
    else None

-- the verdicts of these ticks
unfoldable pub verdicts_in : List Moment → List Verdict
verdicts_in [] = []
verdicts_in (m ∷ past) = with_verdict m.verdict (verdicts_in past)

-- Wrong answers are confirmed at the tick whose verdict first brings the list of verdicts to the limit of
-- their weights; a wrong verdict is the bad bit.
unfoldable pub confirms_at : TimeParts → Option Verdict → List Moment → Bool
confirms_at times None past = false
confirms_at times (Some verdict) past = is_first times.weights (map is_wrong (verdict ∷ verdicts_in past))
