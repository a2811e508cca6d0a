-- A tick under a lapse: nothing is out of order, or level 2 as a whole misses it.
use Rattle.std.proofs.Common.{◌≡◌, ℕ, ◌%◌, Bool, true, false, not, List, length, inl, inr, ◌⊎◌, Option, refl, sym, ap, ◌∙◌, subst}
use Rattle.std.proofs.lemmas.Bool.{cases_Bool, and_left, eq-eqb}
use Rattle.eg_num.specs.Windows.{WeightParts}
use Rattle.eg_answer.specs.Times.{TimeParts}
use Rattle.eg_answer.specs.Modules.{modules_before_react, modules}
use Rattle.eg_fault.specs.Effects.{Effects, no_effects}
use Rattle.eg_fault.specs.Faults.{is_left_out, effects_of, effects}
use Rattle.eg_fault.specs.declared.class.Class.TheVariants.{Lapse}
use Rattle.eg_fault.specs.declared.class.Fault.{Fault}
use Rattle.eg_fault.proofs.ActingLemmas.{of_class}
use Rattle.eg_model.specs.History.{Setting, Entry, Tick, Moment, Signals}
use Rattle.eg_model.specs.Signals.{tripped}
use Rattle.eg_model.specs.Detection.{feeds_at, finds, torque_bit}
use Rattle.eg_model.specs.Answers.{is_whole, is_answer, is_sent, is_good, mark_at}
use Rattle.eg_model.specs.Moments.{moment}
use Rattle.eg_model.specs.Lapses.{IsLapse}
use Rattle.eg_laws.specs.Availability.{misses_tick}
use Rattle.eg_model.proofs.TickLemmas.{answered, Pair, bit_of, found_by, fields, no_trip}
use Rattle.eg_model.proofs.SharpCutLaw.{send_plain, reacts_plain}

-- level 2 doesn't run, and nothing else is out of order
unfoldable pub missed : Effects
missed = record no_effects { ran = λ i. false }

-- a tick by what is out of order at it
pub as_tick : (P : Tick → Type 0) (x : Tick) (g : Effects) → x.effects ≡ g → P (record { effects = g; entry = x.entry }) → P x
as_tick P x g is p = subst (λ f. P (record { effects = f; entry = x.entry })) (sym is) p

pub to_tick : (P : Tick → Type 0) (x : Tick) (g : Effects) → x.effects ≡ g → P x → P (record { effects = g; entry = x.entry })
to_tick P x g is p = subst (λ f. P (record { effects = f; entry = x.entry })) is p

class_tick : (after : List ℕ) (every k : ℕ) → (effects_of (Lapse after every) k ≡ no_effects) ⊎ (effects_of (Lapse after every) k ≡ missed)
unfolding effects_of missed no_effects
class_tick after every k = elim (cases_Bool (is_left_out after every k)) [
  | inl e ↦ inr (ap (λ out. record no_effects { ran = λ i. not out }) e)
  | inr e ↦ inl (ap (λ out. record no_effects { ran = λ i. not out }) e)
]

-- so it is at each tick of a run with a lapse
pub lapse_tick : (f : Option Fault) → IsLapse f → (t : ℕ) → (effects f t ≡ no_effects) ⊎ (effects f t ≡ missed)
lapse_tick f lapse t = subst (λ g. (effects g t ≡ no_effects) ⊎ (effects g t ≡ missed)) (sym lapse.is)
    (of_class (λ x. (x ≡ no_effects) ⊎ (x ≡ missed)) (record { onset = lapse.onset; class = Lapse lapse.after lapse.every })
    (inl refl) (class_tick lapse.after lapse.every) t)

-- both paths do what their latches say
pub lapse_conducts : (f : Option Fault) → IsLapse f → (t path : ℕ) (is_open : Bool) → (effects f t).conducts path is_open ≡ not is_open
unfolding missed no_effects
lapse_conducts f lapse t path is_open = elim (lapse_tick f lapse t) [
  | inl plain ↦ ap (λ x. x.conducts path is_open) plain
  | inr out ↦ ap (λ x. x.conducts path is_open) out
]

pub missed_not_whole : is_whole missed ≡ false
unfolding is_whole modules modules_before_react missed no_effects
missed_not_whole = refl

-- where level 2 misses a tick it is so by the fault
pub counts_as_missed : (f : Option Fault) (t : ℕ) → effects f t ≡ missed → misses_tick f t ≡ true
unfolding misses_tick
counts_as_missed f t out = ap (λ x. not (is_whole x)) out ∙ ap not missed_not_whole

-- ---- a tick that it misses ----

module _ (s : Setting) (e : Entry) (past : List Moment) where
  abbrev m : Moment
  m = moment s missed e past

  pub missed-feeds : m.feeds ≡ false
  missed-feeds = (fields s missed e past).feeds ∙ none
    where
      none : feeds_at missed past ≡ false
      none = unfold feeds_at missed no_effects in refl

  unfound : (w : WeightParts) (bit : Signals → Bool) → finds w bit m.feeds m.signals past ≡ false
  unfolding finds
  unfound w bit = and_left _ _ missed-feeds

  pub missed-pair : (p : Pair) → found_by p m.found ≡ false
  missed-pair p = (fields s missed e past).pair p ∙ unfound s.cal.rules.pair (bit_of p)

  pub missed-trip : m.trip ≡ false
  missed-trip =
      let f = fields s missed e past in
      no_trip f (f.mirror ∙ (unfold missed no_effects in refl)) missed-pair (f.torque ∙ unfound s.cal.rules.torque torque_bit)

-- ---- a tick at which nothing is out of order ----

-- an answer is sent at each send tick, where no trip has come
pub answered_plain : (times : TimeParts) (trip : Bool) (past : List Moment) → trip ≡ false → tripped past ≡ false →
    length past % times.period ≡ times.send → is_answer (mark_at times no_effects trip past) ≡ true
unfolding mark_at is_sent
answered_plain times trip past t u place =
    let sends = send_plain times (length past) ∙ eq-eqb _ _ place in
    answered _ (is_good no_effects past) ∙ rw (sends, reacts_plain, t, u) refl
