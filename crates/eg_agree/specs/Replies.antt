-- What level 2 answers over a span of either kind, against the answers of the model: its modules run one
-- after another, from the start on, and the number that it sends is compared with the number that the
-- monitoring module expects.
use Rattle.std.specs.Prelude.{◌≡◌, ℕ, ◌<◌, ◌==◌, ◌⊎◌, Bool, true, false, is_some, List, [], ◌∷◌, length, Option, Some, None, if◌then◌else◌}
use Rattle.std.specs.List.{list_any}
use Rattle.eg_answer.specs.Answers.{answer_number}
use Rattle.eg_answer.specs.Modules.{AllRun, NoneRuns}
use Rattle.eg_answer.specs.Questions.{question_at}
use Rattle.eg_answer.specs.declared.modules.TheConstants.{REACT}
use Rattle.eg_answer.specs.declared.marks.AnswerMark.{AnswerMark}
use Rattle.eg_answer.specs.declared.marks.AnswerMark.TheVariants.{Absent, Good, Bad}
use Rattle.eg_values.specs.Calibration.{IsAccepted}
use Rattle.eg_level2.specs.Words.{Words, is_set, start}
use Rattle.eg_fault.specs.Effects.{Effects, asked_at}
use Rattle.eg_fault.specs.Faults.{IsNoneOrValid}
use Rattle.eg_level2.specs.Ticks.{Doing, after_tick, answer_at}
use Rattle.eg_level2.specs.Flow.{IsSteady}
use Rattle.eg_level2.specs.FlowLaws.{at_react}
use Rattle.eg_model.specs.History.{Setting, Tick, SpanKind, Moment}
use Rattle.eg_model.specs.Signals.{tripped}
use Rattle.eg_model.specs.Answers.{is_answer, whole_since_answer}
use Rattle.eg_model.specs.Premises.{Follows}
use Rattle.eg_model.specs.Moments.{readings_at, moment_in, moments_in}
use Rattle.eg_agree.specs.Doings.{doing_at}

-- ---- level 2 over a history, newest first ----

-- what level 2 meets at tick x, which comes after these
unfoldable pub doing_after : SpanKind → Setting → Tick → List Tick → Doing
doing_after kind s x before = doing_at kind s x.effects (readings_at s.cal x.effects x.entry) (length before)

-- the words of level 2 after these ticks, from the start on
unfoldable pub words_over : SpanKind → Setting → List Tick → Words
words_over kind s [] = start
words_over kind s (x ∷ before) = after_tick (doing_after kind s x before) (words_over kind s before)

-- the moment of tick x
abbrev pub moment_after : SpanKind → Setting → Tick → List Tick → Moment
moment_after kind s x before = moment_in kind s x.effects x.entry (moments_in kind s before)

-- ---- what is expected, and what is heard ----

-- the number that is expected to be heard at a tick: that of the question that is asked, also by a wild
-- monitoring module
unfoldable pub number_expected : Setting → Effects → ℕ → ℕ
number_expected s x tick =
    answer_number (question_at s.cal.questions (asked_at x s.cal.times (length s.cal.questions) tick)).answer

-- the mark of what is heard, where this number is expected
unfoldable pub mark_of : ℕ → Option ℕ → AnswerMark
mark_of expected None = Absent
mark_of expected (Some number) = if number == expected then Good else Bad

-- ---- what the law of one tick asks for ----

-- As react begins at tick x, the word for the trip tells whether a trip came by this tick.
abbrev pub WordTellsTrip : SpanKind → Setting → Words → Tick → List Tick → Type 0
WordTellsTrip kind s words x before =
    is_set (at_react (doing_after kind s x before) words).trip
    ≡ tripped (moment_after kind s x before ∷ moments_in kind s before)

-- ---- what the token, the flow and the last tick stand for ----

-- a word was flipped at one of these ticks
unfoldable pub is_flipped : List Tick → Bool
is_flipped h = list_any (λ x. is_some x.effects.flip) h

-- at each of them all modules ran or none did
unfoldable pub RanTogether : List Tick → Type 0
RanTogether [] = Unit {0}
RanTogether (x ∷ before) = (AllRun x.effects.ran ⊎ NoneRuns x.effects.ran) × RanTogether before

-- at each of them react ran
unfoldable pub ReactRan : List Tick → Type 0
ReactRan [] = Unit {0}
ReactRan (x ∷ before) = (x.effects.ran REACT ≡ true) × ReactRan before

-- the last of them had an answer
unfoldable pub has_just_answered : List Moment → Bool
has_just_answered [] = false
has_just_answered (m ∷ past) = is_answer m.mark

-- The words tell of the program flow over the ticks h: they are steady where the modules ran together and
-- no word was flipped; the token rests at 0 where react always ran; and just after an answer the token and
-- the flow begin anew.
pub record KeepsFlow (kind : SpanKind) (s : Setting) (words : Words) (h : List Tick) : Type 0 where
  pub steady : is_flipped h ≡ false → RanTogether h →
      IsSteady (length h) (whole_since_answer (moments_in kind s h)) words
  pub token : ReactRan h → words.token ≡ 0
  pub anew : has_just_answered (moments_in kind s h) ≡ true → (words.token ≡ 0) × (words.flow ≡ 0x00ff)

-- ---- one tick ----

-- The words tell of the program flow at the start, and a tick keeps that, whatever runs.
abbrev pub FlowBegins : Type 0
FlowBegins = (kind : SpanKind) (s : Setting) → KeepsFlow kind s start []

abbrev pub FlowIsKept : Type 0
FlowIsKept =
    (kind : SpanKind) (s : Setting) (x : Tick) (h : List Tick) (words : Words) →
    WordTellsTrip kind s words x h → length h < 65535 → KeepsFlow kind s words h →
    KeepsFlow kind s (after_tick (doing_after kind s x h) words) (x ∷ h)

-- The words are ready for tick x, which comes after h in a history from tick `begin` of the run on: all
-- that the theorem asks for at one tick.
pub record IsReady (kind : SpanKind) (s : Setting) (begin : ℕ) (x : Tick) (h : List Tick)
    (words : Words) : Type 0 where
  pub accepted : IsAccepted s.cal
  pub fault : IsNoneOrValid s.fault
  pub follows : Follows s.fault begin (x ∷ h)
  pub short : length h < 65535
  pub keeps : KeepsFlow kind s words h
  pub trip : WordTellsTrip kind s words x h

-- What level 2 sends at a tick, if anything, has the mark of the model's tick.
abbrev pub FlowMarks : Type 0
FlowMarks =
    (kind : SpanKind) (s : Setting) (begin : ℕ) (x : Tick) (h : List Tick) (words : Words) →
    IsReady kind s begin x h words →
    mark_of (number_expected s x.effects (length h)) (answer_at (doing_after kind s x h) words)
    ≡ (moment_after kind s x h).mark
