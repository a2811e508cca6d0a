-- Level 2 and the model agree over whole spans of either kind: the eight modules run one after another at
-- each tick, from the start on, and their words stand for the history; what they send at the next tick,
-- compared with what is expected, is what the model calls it.
use Rattle.std.specs.Prelude.{◌≡◌, ◌<◌, ℕ, true, false, List, [], ◌∷◌, length, if◌then◌else◌}
use Rattle.eg_answer.specs.declared.modules.TheConstants.{CHECK}
use Rattle.eg_values.specs.Calibration.{IsAccepted}
use Rattle.eg_model.specs.History.{Setting, Tick, SpanKind}
use Rattle.eg_model.specs.Premises.{Follows}
use Rattle.eg_level2.specs.Words.{Words}
use Rattle.eg_level2.specs.Ticks.{after_tick, answer_at}
use Rattle.eg_model.specs.Answers.{whole_since_answer}
use Rattle.eg_model.specs.Moments.{moments_in}
use Rattle.eg_agree.specs.Standing.{KeepsWords}
use Rattle.eg_fault.specs.Faults.{IsNoneOrValid}
use Rattle.eg_agree.specs.Replies.{doing_after, words_over, moment_after, mark_of, number_expected, is_flipped, KeepsFlow}

-- after every history under any fault, from any tick of the run on
abbrev pub WordsStand : Type 0
WordsStand =
    (kind : SpanKind) (s : Setting) → IsAccepted s.cal → (begin : ℕ) (h : List Tick) →
    Follows s.fault begin h → KeepsWords s (words_over kind s h) (moments_in kind s h)

-- after every history shorter than 65,536 ticks, token, flow and last tick are what `KeepsFlow` says of it
abbrev pub FlowStands : Type 0
FlowStands =
    (kind : SpanKind) (s : Setting) → IsAccepted s.cal → (begin : ℕ) (h : List Tick) →
    Follows s.fault begin h → length h < 65536 → KeepsFlow kind s (words_over kind s h) h

-- The theorem on answers. Let the calibration be an accepted one, and let there be no fault or a valid one of
-- any class, lapses too. What is sent at tick x, after a history that begins at any tick of the run, is the
-- expected number exactly if the model calls the answer good; nothing is sent exactly if it calls it
-- absent.
abbrev pub EachAnswerHolds : Type 0
EachAnswerHolds =
    (kind : SpanKind) (s : Setting) → IsAccepted s.cal → IsNoneOrValid s.fault →
    (begin : ℕ) (x : Tick) (h : List Tick) → Follows s.fault begin (x ∷ h) → length h < 65535 →
    mark_of (number_expected s x.effects (length h))
    (answer_at (doing_after kind s x h) (words_over kind s h)) ≡ (moment_after kind s x h).mark

-- After a history in which no word was flipped, and all eight modules ran at each tick since the last
-- answer, the token is 0 and the flow is unmarked.
abbrev pub WordsRest : Type 0
WordsRest =
    (kind : SpanKind) (s : Setting) → IsAccepted s.cal → IsNoneOrValid s.fault →
    (begin : ℕ) (h : List Tick) → Follows s.fault begin h → length h < 65536 → is_flipped h ≡ false →
    whole_since_answer (moments_in kind s h) ≡ true →
    ((words_over kind s h).token ≡ 0) × ((words_over kind s h).flow ≡ 0x00ff)

-- ---- the last tick of check ----

-- the last of these ticks at which module 0 ran, or 65535 where it never did
unfoldable pub last_check : List Tick → ℕ
last_check [] = 65535
last_check (x ∷ before) = if x.effects.ran CHECK then length before else last_check before

-- after every history the word for the last tick is the last tick at which module 0 ran
abbrev pub LastChecksStand : Type 0
LastChecksStand =
    (kind : SpanKind) (s : Setting) (h : List Tick) → (words_over kind s h).last ≡ last_check h

-- one tick sets that word, or leaves it where module 0 doesn't run, whatever the words are
abbrev pub LastCheckIsKept : Type 0
LastCheckIsKept =
    (kind : SpanKind) (s : Setting) (x : Tick) (h : List Tick) (words : Words) →
    (after_tick (doing_after kind s x h) words).last
    ≡ (if x.effects.ran CHECK then length h else words.last)
