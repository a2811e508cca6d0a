-- What each class of faults leaves as it is, for level 2: whether it sees an excess, and whether an answer
-- can be good.
use Rattle.std.proofs.Common.{◌≡◌, ℕ, zero, suc, ◌+◌, ◌≤◌, ◌<◌, Bool, true, false, not, ◌&&◌, List, [], ◌∷◌, length, refl, sym, ap, arith, inl, inr, ◌⊎◌, Option, ◌≢◌, subst}
use Rattle.std.specs.Prelude.{if◌then◌else◌, ◌==◌}
use Rattle.std.specs.List.{list_all}
use Rattle.std.proofs.lemmas.List.Folds.{list_all_at}
use Rattle.std.proofs.lemmas.Bool.{ne_eqb, eq-eqb}
use Rattle.eg_sensor.specs.declared.tracks.TheConstants.{PEDAL_1, PEDAL_2, LOAD_1, LOAD_2, SPEED_1, SPEED_2, BRAKE_1, BRAKE_2}
use Rattle.eg_answer.specs.Times.{TimeParts}
use Rattle.eg_answer.specs.declared.marks.AnswerMark.TheVariants.{Absent, Good, Bad}
use Rattle.eg_answer.specs.declared.modules.TheConstants.{MODULES}
use Rattle.eg_fault.specs.Effects.{Effects, no_effects}
use Rattle.eg_fault.specs.Faults.{effects_of, effects}
use Rattle.eg_fault.specs.Running.{RunAlike, may_change_levels}
use Rattle.eg_fault.specs.declared.class.Class.{Class}
use Rattle.eg_fault.specs.declared.class.Class.TheVariants.{Skip, Disturb, Flip, Halt}
use Rattle.eg_fault.specs.declared.class.Fault.{Fault}
use Rattle.eg_fault.proofs.RunningLemmas.{spared}
use Rattle.eg_fault.proofs.ClassLemmas.{one_of_two}
use Rattle.eg_model.specs.History.{Tick, Moment}
use Rattle.eg_answer.specs.Modules.{modules_before_react, modules}
use Rattle.eg_model.specs.Answers.{is_whole, is_undisturbed, whole_since_answer, is_sent, is_good, mark_at}
use Rattle.eg_model.specs.Premises.{Follows}
use Rattle.eg_model.specs.Seeing.{Runs, IsUndisturbed, SeesExcess}
use Rattle.eg_model.proofs.TickLemmas.{Each}

-- what holds at each tick of a run holds at each tick of a history
pub of_history : (P : Effects → Type 0) (f : Option Fault) (start : ℕ) (h : List Tick) → Follows f start h →
    ((t : ℕ) → start ≤ t → t < start + length h → P (effects f t)) → Each (λ x. P x.effects) h
unfolding Follows Each
of_history P f start [] follows p = tt
of_history P f start (x ∷ h) follows p = (
  subst P (sym follows.0) (p (start + length h) (omega arith) (omega arith)),
  of_history P f start h follows.1 (λ t low high. p t low (omega arith)),
)

-- ---- classes under which excess is seen ----

pub sees_plain : SeesExcess no_effects
unfolding no_effects
sees_plain = record {
  runs = record { ran = λ i. refl; unflipped = refl };
  undisturbed = λ i. refl;
  pedal = inl (λ v. refl);
  load = inl (λ v. refl);
  speed = inl (λ v. refl);
  brake = inl (λ v. refl);
}

-- where level 2 runs whole and undisturbed, one track of each pair is enough
sees_whole : (class : Class) (k : ℕ) → Runs (effects_of class k) → IsUndisturbed (effects_of class k) →
    SeesExcess (effects_of class k)
sees_whole class k runs undisturbed = record {
  runs = runs;
  undisturbed = undisturbed;
  pedal = one_of_two class k PEDAL_1 PEDAL_2 (λ e. omega arith);
  load = one_of_two class k LOAD_1 LOAD_2 (λ e. omega arith);
  speed = one_of_two class k SPEED_1 SPEED_2 (λ e. omega arith);
  brake = one_of_two class k BRAKE_1 BRAKE_2 (λ e. omega arith);
}

-- so it is under the classes that leave level 2 alone
pub sees_spared : (class : Class) (k : ℕ) → may_change_levels class ≡ false → SeesExcess (effects_of class k)
sees_spared class k is = whole (spared class k is)
  where
    whole : RunAlike no_effects (effects_of class k) → SeesExcess (effects_of class k)
    whole alike = unfold no_effects in sees_whole class k
        (record { ran = λ i. sym (ap (λ (ran : ℕ → Bool). ran i) alike.ran); unflipped = sym alike.flip })
        (λ i. sym (ap (λ (mixed : ℕ → ℕ). mixed i) alike.disturbance))

-- a word is flipped once
pub sees_flip : (word mask k : ℕ) → 0 < k → SeesExcess (effects_of (Flip word mask) k)
unfolding effects_of no_effects
sees_flip word mask k l = sees_whole (Flip word mask) k
    (record { ran = λ i. refl; unflipped = rw (ne_eqb k 0 (λ e. omega arith)) refl }) (λ i. refl)

-- ---- answers that aren't good ----

if_good : (sent good : Bool) → good ≡ false → (if sent then (if good then Good else Bad) else Absent) ≢ Good
if_good true good e = rw e (λ f. cc)
if_good false good e = λ f. cc

pub mark_not_good : (times : TimeParts) (x : Effects) (trip : Bool) (past : List Moment) →
    (is_whole x ≡ false) ⊎ (is_undisturbed x ≡ false) → mark_at times x trip past ≢ Good
unfolding mark_at is_good
mark_not_good times x trip past h =
    if_good (is_sent times x trip past) _
    (fails (is_whole x) (whole_since_answer past) (is_undisturbed x) h)
  where
    fails : (w b u : Bool) → (w ≡ false) ⊎ (u ≡ false) → (w && b && u) ≡ false
    fails w b u h = elim h [ inl e ↦ grind arith | inr e ↦ grind arith ]

-- a test that fails for one module fails for all
fails_for_one : (p : ℕ → Bool) (i : ℕ) → i < MODULES → p i ≡ false → list_all p modules ≡ false
unfolding modules modules_before_react
fails_for_one p zero l h = list_all_at p modules 0 0 (omega arith) h
fails_for_one p (suc zero) l h = list_all_at p modules 1 0 (omega arith) h
fails_for_one p (suc (suc zero)) l h = list_all_at p modules 2 0 (omega arith) h
fails_for_one p (suc (suc (suc zero))) l h = list_all_at p modules 3 0 (omega arith) h
fails_for_one p (suc (suc (suc (suc zero)))) l h = list_all_at p modules 4 0 (omega arith) h
fails_for_one p (suc (suc (suc (suc (suc zero))))) l h = list_all_at p modules 5 0 (omega arith) h
fails_for_one p (suc (suc (suc (suc (suc (suc zero)))))) l h = list_all_at p modules 6 0 (omega arith) h
fails_for_one p (suc (suc (suc (suc (suc (suc (suc zero))))))) l h =
    list_all_at p modules 7 0 (omega arith) h
fails_for_one p (suc (suc (suc (suc (suc (suc (suc (suc i)))))))) l h = absurd (omega arith)

-- some module doesn't run, or is disturbed
abbrev pub IsSpoiled : Effects → Type 0
IsSpoiled x = (is_whole x ≡ false) ⊎ (is_undisturbed x ≡ false)

pub spoiled_skip : (i k : ℕ) → i < MODULES → IsSpoiled (effects_of (Skip i) k)
unfolding is_whole effects_of no_effects
spoiled_skip i k l = inl (fails_for_one (λ j. not (j == i)) i l (rw (eq-eqb i i refl) refl))

pub spoiled_halt : (k : ℕ) → IsSpoiled (effects_of Halt k)
unfolding is_whole effects_of no_effects modules modules_before_react
spoiled_halt k = inl refl

pub spoiled_disturb : (i mask k : ℕ) → i < MODULES → 0 < mask → IsSpoiled (effects_of (Disturb i mask) k)
unfolding is_undisturbed effects_of no_effects
spoiled_disturb i mask k l m =
    inr (fails_for_one (λ j. (if j == i then mask else 0) == 0) i l
    (rw (eq-eqb i i refl) (ne_eqb mask 0 (λ e. omega arith))))
