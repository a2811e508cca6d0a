-- The laws of the program flow: what a tick of level 2 makes of the token, the flow, the last tick and the
-- fold, and when the number that is sent is the expected one. They speak of level 2 alone, and of no fault.
use Rattle.std.specs.Prelude.{◌≡◌, ℕ, suc, ◌+◌, ◌%◌, ◌^◌, ◌≤◌, ◌<◌, ◌==◌, ◌⊎◌, Bool, true, false, ◌&&◌, List, length, None, if◌then◌else◌}
use Rattle.std.specs.List.{list_all}
use Rattle.eg_answer.specs.declared.modules.TheConstants.{REACT}
use Rattle.eg_answer.specs.Modules.{modules_before_react, AllRun, NoneRuns, OthersRun, AtMostOneIsDisturbed}
use Rattle.eg_answer.specs.Token.{next_token_of}
use Rattle.eg_level2.specs.Words.{Words, start}
use Rattle.eg_level2.specs.Modules.{marked, closed_flow, number_of}
use Rattle.eg_level2.specs.Ticks.{Doing, after_modules, after_tick, answer_at}
use Rattle.eg_level2.specs.Flow.{row_asked, expected_fold, expected_number, FitsWords, is_undisturbed, AreInOrder, AreTogether, words_after, whole_after, whole_since, IsSteady}

-- the words as react begins
abbrev pub at_react : Doing → Words → Words
at_react d words = after_modules d REACT words

-- ---- the token ----

-- The token, 0 before the tick, is whole as react closes exactly if all modules before react ran. So a
-- token that went wrong at one module stays wrong until react.
abbrev pub TokenTells : Type 0
TokenTells = (d : Doing) (words : Words) → d.differs ≡ false → words.token ≡ 0 →
    (next_token_of (at_react d words).token REACT == 255) ≡ list_all (λ i. d.ran i) modules_before_react

-- React clears the token.
abbrev pub ReactClears : Type 0
ReactClears = (d : Doing) (words : Words) → d.ran REACT ≡ true → (after_tick d words).token ≡ 0

-- ---- the flow and the last tick ----

-- A tick at which all eight modules run leaves the flow of the answer as it was, where module 0 ran at the
-- tick before, and else marks it. After the tick the token is 0, and the word for the last tick is this tick.
pub record RunsThrough (d : Doing) (words : Words) : Type 0 where
  pub flow : closed_flow (at_react d words)
      ≡ (if (words.last + 1) % 65536 == d.tick then words.flow else marked words.flow)
  pub token : (after_tick d words).token ≡ 0
  pub last : (after_tick d words).last ≡ d.tick

abbrev pub WholeTick : Type 0
WholeTick = (d : Doing) (words : Words) → AllRun d.ran → d.differs ≡ false → words.token ≡ 0 →
    RunsThrough d words

-- A tick at which none runs leaves all words as they are, and sends nothing. The next run of module 0 finds
-- the gap.
abbrev pub EmptyTick : Type 0
EmptyTick = (d : Doing) (words : Words) → NoneRuns d.ran →
    (after_tick d words ≡ words) × (answer_at d words ≡ None)

-- a flow with the mark stays marked until an answer is sent, whatever runs, and the answer has the mark
abbrev pub MarkStays : Type 0
MarkStays = (d : Doing) (words : Words) → 0x8000 ≤ words.flow →
    (0x8000 ≤ closed_flow (at_react d words))
    × (answer_at d words ≡ None → 0x8000 ≤ (after_tick d words).flow)

-- the flow is unmarked or marked, at each tick, whatever runs
abbrev pub IsFlow : ℕ → Type 0
IsFlow flow = (flow ≡ 0x00ff) ⊎ (flow ≡ 0x80ff)

abbrev pub TwoFlows : Type 0
TwoFlows = (d : Doing) (words : Words) → IsFlow words.flow →
    IsFlow (closed_flow (at_react d words)) × IsFlow (after_tick d words).flow

-- ---- the fold ----

-- where all eight modules run and at most one of them is disturbed, the fold is that of the row that is
-- asked exactly if none of them is disturbed, also where a trip stands
abbrev pub FoldTells : Type 0
FoldTells = (d : Doing) (words : Words) → AllRun d.ran → d.differs ≡ false → FitsWords d.rules (row_asked d) →
    AtMostOneIsDisturbed d.disturbance → ((at_react d words).sign == expected_fold d) ≡ is_undisturbed d

-- ---- the number that is sent ----

-- the number is the expected one exactly if the flow is unmarked and the fold is that of the row
abbrev pub NumberTells : Type 0
NumberTells = (d : Doing) (words : Words) → FitsWords d.rules (row_asked d) → words.sign < 2 ^ 16 →
    (number_of words == expected_number d) ≡ (closed_flow words == 0x00ff && words.sign == expected_fold d)

-- Steady words stay so over a tick at which all eight modules run, and over one at which none runs.
abbrev pub SteadyStays : Type 0
SteadyStays = (d : Doing) (words : Words) (whole : Bool) → d.tick < 65535 → d.differs ≡ false →
    AllRun d.ran ⊎ NoneRuns d.ran → IsSteady d.tick whole words →
    IsSteady (suc d.tick) (whole_after d words whole) (after_tick d words)

-- From steady words on, a tick at which all eight modules run has the expected number exactly if all
-- eight ran at each tick since the last answer and none is disturbed now.
abbrev pub SteadyAnswers : Type 0
SteadyAnswers = (d : Doing) (words : Words) (whole : Bool) → d.differs ≡ false → AllRun d.ran →
    FitsWords d.rules (row_asked d) → AtMostOneIsDisturbed d.disturbance → IsSteady d.tick whole words →
    (number_of (at_react d words) == expected_number d) ≡ (whole && is_undisturbed d)

-- where one module before react is left out of a tick, the number isn't the expected one
abbrev pub GapAnswers : Type 0
GapAnswers = (d : Doing) (words : Words) (one : ℕ) → d.differs ≡ false → OthersRun one d.ran → one < REACT →
    FitsWords d.rules (row_asked d) → words.token ≡ 0 →
    (number_of (at_react d words) == expected_number d) ≡ false

-- over any ticks from the start on at each of which all eight modules ran or none did, the words are steady
abbrev pub SteadyFromStart : Type 0
SteadyFromStart = (ticks : List Doing) → length ticks < 65536 → AreInOrder ticks → AreTogether ticks →
    IsSteady (length ticks) (whole_since start ticks) (words_after start ticks)
