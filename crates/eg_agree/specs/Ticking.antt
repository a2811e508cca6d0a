-- One tick of level 2 over its words is one tick of the model.
use Rattle.std.specs.Prelude.{◌≡◌, ℕ, ◌≤◌, false, is_some, List, [], ◌∷◌, length}
use Rattle.eg_num.specs.declared.watches.Watches.{Watches}
use Rattle.eg_answer.specs.declared.modules.TheConstants.{REACT, MODULES}
use Rattle.eg_values.specs.Calibration.{IsAccepted}
use Rattle.eg_fault.specs.Effects.{Effects}
use Rattle.eg_fault.specs.Classes.{ChecksFlips}
use Rattle.eg_level2.specs.Words.{Words, AreWithin, is_set, start}
use Rattle.eg_level2.specs.Ticks.{Doing, after_modules, after_tick, answer_at, orders_at, finds_at}
use Rattle.eg_model.specs.History.{Setting, Entry, Tick, SpanKind, Moment}
use Rattle.eg_model.specs.Signals.{tripped, last_signals}
use Rattle.eg_model.specs.Answers.{is_answer}
use Rattle.eg_model.specs.Level1.{seen_signals}
use Rattle.eg_model.specs.Moments.{readings_at, moment_in, moments_in}
use Rattle.eg_model.specs.Rows.{signal_list}
use Rattle.eg_agree.specs.Doings.{doing_at}
use Rattle.eg_agree.specs.Standing.{signals_of, KeepsWords}

-- the watches that level 2 finds at a tick: all but the wrong answers, which the monitoring module finds,
-- and a start-up test that fails, which is found as the paths are read back
unfoldable pub found_in_level2 : Moment → Watches
found_in_level2 m = record m.found { answers = false; start = false }

-- What eight modules make of the words w at a tick is what the model says of the tick m after these ticks:
-- the words stand for one tick more; the signals that they hold after the first j modules are those that
-- slice j of level 1 sees; as react begins they tell whether a trip came; path 1 is ordered open where the
-- model says so; the watches are those of the model; and an answer is sent where the model says so.
pub record IsTick (s : Setting) (x : Effects) (d : Doing) (w : Words)
    (m : Moment) (past : List Moment) : Type 0 where
  pub words : KeepsWords s (after_tick d w) (m ∷ past)
  pub seen : (j : ℕ) → j ≤ MODULES →
      signal_list (signals_of (after_modules d j w))
      ≡ seen_signals (is_some x.flip) j (last_signals past) m.signals
  pub trip : is_set (after_modules d REACT w).trip ≡ tripped (m ∷ past)
  pub order : orders_at d w ≡ m.orders
  pub found : finds_at d w ≡ found_in_level2 m
  pub answer : is_some (answer_at d w) ≡ is_answer m.mark

-- ---- the laws ----

-- the words with which level 2 starts stand for the history without a tick
abbrev pub StartLaw : Type 0
StartLaw = (s : Setting) → KeepsWords s start []

-- words that stand for a history have no counter past its limit
abbrev pub WithinLaw : Type 0
WithinLaw =
    (s : Setting) → IsAccepted s.cal → (past : List Moment) (w : Words) → KeepsWords s w past →
    AreWithin s.cal.rules w

-- where the words stand for a history that stands by itself, as a span of either kind, a tick of level 2 is
-- the model's tick after it
abbrev pub TickLaw : Type 0
TickLaw =
    (kind : SpanKind) (s : Setting) → IsAccepted s.cal → (h : List Tick) (x : Effects) (e : Entry) →
    ChecksFlips x →
    (w : Words) →
    (let past = moments_in kind s h in
    KeepsWords s w past →
    IsTick s x (doing_at kind s x (readings_at s.cal x e) (length h)) w (moment_in kind s x e past) past)
