-- What each class of faults is found by, by the rows of a history in which the engine is driven.
use Rattle.std.proofs.Common.{◌≡◌, ◌∙◌, refl, sym, ap, ap₂, subst, ℕ, ◌+◌, ◌-◌, ◌≤◌, ◌<◌, Bool, true, false, not, List, [], ◌∷◌, ◌++◌, length, length-append, arith, inl, inr, Option, Some, None, max}
use Rattle.std.proofs.lemmas.Bool.{cases_lt, true≢false, or_parts, and_from, le-leb}
use Rattle.eg_answer.specs.Times.{reaction_of}
use Rattle.eg_values.specs.Calibration.{IsAccepted}
use Rattle.eg_fault.specs.Effects.{Effects, no_effects}
use Rattle.eg_fault.specs.Faults.{effects_of, effects, is_lapse, IsNoneOrValid, IsListed}
use Rattle.eg_fault.specs.Classes.{may_change_answers, closes}
use Rattle.eg_fault.specs.declared.class.Class.{Class}
use Rattle.eg_fault.specs.declared.class.Class.TheVariants.{Skip, Disturb, Halt, Path1Closed}
use Rattle.eg_fault.specs.declared.class.Fault.{Fault}
use Rattle.eg_fault.specs.declared.paths.TheConstants.{PATH_2}
use Rattle.eg_fault.proofs.ClassLemmas.{others_obey_latches}
use Rattle.eg_record.specs.declared.row.Row.{Row}
use Rattle.eg_model.specs.History.{Setting, Entry, Tick, Moment}
use Rattle.eg_model.specs.Paths.{latch2, path1_at, path2_at, both_conduct}
use Rattle.eg_model.specs.Moments.{moment, moments_of}
use Rattle.eg_model.specs.Premises.{Follows, is_on_after}
use Rattle.eg_model.specs.Reaction.{spoils_answers}
use Rattle.eg_model.specs.Rows.{row_of}
use Rattle.eg_laws.specs.Coverage.{SpoiledOpenPath2, spoils_at, silent_from, confirmed_at, FindsAnswersExactly, SparesAnswers}
use Rattle.eg_model.proofs.TickLemmas.{fields}
use Rattle.eg_model.proofs.Silence.{AreRegular, NoGood, off_after_silence}
use Rattle.eg_model.proofs.SpanRows.{follows-end, rows_after, length-rows_after, SpanRows, RowAfter, row_found, row_tick, all_rows, LastTick, last_tick}
use Rattle.eg_model.proofs.SpanLaws.{reaction_least}
use Rattle.eg_model.proofs.TickLemmas.{length-moments}
use Rattle.eg_laws.proofs.SilentVerdicts.{silent, parted, regular_ticks, found_exactly}

-- ---- at which tick wrong answers are found ----

pub find_answers : (s : Setting) → IsAccepted s.cal → IsListed s.fault → SparesAnswers s.fault → (start : ℕ) (h : List Tick) →
    Follows s.fault start h → FindsAnswersExactly s.cal.times s.fault start (SpanRows s start h)
find_answers s accepted listed spares start h follows later before row e = ap (λ (r : Row). r.found.answers) last.row_is
    ∙ ap (λ f. f.answers) (row_found s start last.tick last.past)
    ∙ found_exactly s accepted listed spares start last.tick last.past last.follows
    ∙ ap₂ (λ rows n. confirmed_at s.cal.times (silent_from s.fault rows) n) rows_are size
  where
    last : LastTick s start row before
    last = last_tick s start h follows later before row e

    rows_are : SpanRows s start (last.tick ∷ last.past) ≡ row ∷ before
    rows_are = unfold rows_after moments_of in sym (ap₂ (λ r rows. r ∷ rows) last.row_is last.before_are)

    size : length last.past ≡ length before
    size = sym (ap length last.before_are ∙ length-rows_after start (moments_of s last.past) ∙ length-moments s last.past)

-- ---- path 2 ----

-- where path 1 is held closed, the stages tell whether path 2 conducts
told_by_stages : (s : Setting) (e : Entry) (past : List Moment) → (moment s (effects_of Path1Closed 0) e past).on ≡ false →
    latch2 past ≡ true
told_by_stages s e past off = opened (latch2 past) (sym told ∙ off)
  where
    told : (moment s (effects_of Path1Closed 0) e past).on ≡ not (latch2 past)
    told = (fields s (effects_of Path1Closed 0) e past).on ∙ (unfold both_conduct path1_at path2_at effects_of no_effects in refl)

    opened : (latch : Bool) → not latch ≡ false → latch ≡ true
    opened latch f = grind arith

-- where no answer was good for R ticks the latch of path 2 is open, whatever path 1 does
pub opened_by_silence : (s : Setting) → IsAccepted s.cal → (more rest : List Tick) → AreRegular (more ++ rest) →
    NoGood s more rest →
    reaction_of s.cal.times ≤ length more → (e : Entry) → latch2 (moments_of s (more ++ rest)) ≡ true
opened_by_silence s accepted more rest regular none long e = told_by_stages s e (moments_of s (more ++ rest))
    (unfold is_on_after effects_of no_effects in off_after_silence s accepted.times
    (let a = accepted.answers.0 in omega (arith, a))
    (let a = accepted.answers.3 in omega (arith, a)) more rest regular none long
    (record { effects = effects_of Path1Closed 0; entry = e }) refl)

-- and it doesn't conduct, but under the class that holds it closed
pub open_at : (s : Setting) (f : Fault) → s.fault ≡ Some f → closes f.class PATH_2 ≡ false →
    (start : ℕ) (x : Tick) (h : List Tick) →
    Follows s.fault start (x ∷ h) → latch2 (moments_of s h) ≡ true → (RowAfter s start x h).path2 ≡ false
unfolding Follows row_of path2_at
open_at s f is obeys start x h follows opened = (fields s x.effects x.entry (moments_of s h)).path2
    ∙ ap₂ (λ (y : Effects) b. y.conducts PATH_2 b) (follows.0 ∙ ap (λ g. effects g (start + length h)) is) opened
    ∙ others_obey_latches f (start + length h) PATH_2 obeys

-- what is told of a class that spoils the answers
record Spoils (class : Class) : Type 0 where
  pub listed : is_lapse class ≡ false
  pub spares : may_change_answers class ≡ false
  pub obeys : closes class PATH_2 ≡ false

spoils : (class : Class) → spoils_answers class ≡ true → Spoils class
unfolding spoils_answers is_lapse may_change_answers closes
spoils (Skip index) e = record { listed = refl; spares = refl; obeys = refl }
spoils (Disturb index mask) e = record { listed = refl; spares = refl; obeys = refl }
spoils Halt e = record { listed = refl; spares = refl; obeys = refl }
spoils _ e = absurd (true≢false (sym e))

-- a history that isn't silent ends before the onset
heard_before : (s : Setting) (f : Fault) → s.fault ≡ Some f → spoils_answers f.class ≡ true → (start : ℕ) (h : List Tick) →
    silent s start h ≡ false → length h ≤ max f.onset start - start
unfolding silent
heard_before s f is spoils start [] heard = omega arith
heard_before s f is spoils start (x ∷ h) heard = omega (arith, early)
  where
    early : start + length h < f.onset
    early = elim (cases_lt (start + length h) f.onset) [
      | inl e ↦ e
      | inr late ↦ absurd (true≢false (sym (ap (λ g. spoils_at g (start + length h)) is
          ∙ (unfold spoils_at in and_from _ _ (le-leb f.onset (start + length h) late) spoils)) ∙ (or_parts _ _ heard).1))
    ]

module _ (s : Setting) (accepted : IsAccepted s.cal) (valid : IsNoneOrValid s.fault) (f : Fault) (is : s.fault ≡ Some f)
    (bad : spoils_answers f.class ≡ true) (start : ℕ) where
  told : Spoils f.class
  told = spoils f.class bad

  listed : IsListed s.fault
  listed = subst IsListed (sym is) (unfold IsListed in ((unfold IsNoneOrValid in subst IsNoneOrValid is valid), told.listed))

  spares : SparesAnswers s.fault
  spares = subst SparesAnswers (sym is) told.spares

  spoiled_off : (x : Tick) (before : List Tick) → Follows s.fault start (x ∷ before) →
      max f.onset start + reaction_of s.cal.times ≤ start + length before → (RowAfter s start x before).path2 ≡ false
  spoiled_off x before follows late = elim (parted s listed spares start before (unfold Follows in follows.1)) [
    | inl a ↦ absurd (let l = heard_before s f is bad start before a.heard in
        let some = reaction_least s.cal.times accepted.times accepted.answers in omega (arith, l, late, some))
    | inr c ↦ open_at s f is told.obeys start x before follows (subst (λ g. latch2 (moments_of s g) ≡ true) c.are
        (opened_by_silence s accepted (c.newest ∷ c.more) c.rest
        (subst AreRegular (sym c.are) (regular_ticks s listed spares start before (unfold Follows in follows.1))) c.none_good
        (let l = heard_before s f is bad start c.rest c.heard in
        let sum = ap length c.are in let both = length-append c.more c.rest in omega (arith, l, late, sum, both)) x.entry))
  ]

pub spoiled_open_path_2 : (s : Setting) → IsAccepted s.cal → IsNoneOrValid s.fault → (start : ℕ) (h : List Tick) →
    Follows s.fault start h → SpoiledOpenPath2 s.fault (reaction_of s.cal.times) start (SpanRows s start h)
spoiled_open_path_2 s accepted valid start h follows = go s.fault refl
  where
    bound : ℕ
    bound = reaction_of s.cal.times

    go : (fault : Option Fault) → s.fault ≡ fault → SpoiledOpenPath2 fault bound start (SpanRows s start h)
    go None is = tt
    go (Some f) is = λ bad. all_rows (λ row. max f.onset start + bound ≤ row.tick → row.path2 ≡ false) s start h
        (λ newer x before whole late. spoiled_off s accepted valid f is bad start x before
        (follows-end s.fault start newer (x ∷ before) (subst (Follows s.fault start) whole follows))
        (subst (λ n. max f.onset start + bound ≤ n) (row_tick s start x before) late))
