-- What is true of an answer that was taken: it keeps the laws of engines, and its drive row the limits of drive rows.
-- So what comes in at the ticks of a coupled run is proper.
use Rattle.std.proofs.Common.{◌≡◌, ◌∙◌, sym, ap, refl, subst, ℕ, ◌≤◌, Bool, true, false, arith, Option, Some, None, List, [], ◌∷◌, length}
use Rattle.std.specs.Prelude.{◌==◌, not, ◌&&◌, ◌||◌, Result, Ok, Err, if◌then◌else◌}
use Rattle.std.proofs.lemmas.Bool.Decides.{nat_tests}
use Rattle.eg_num.specs.Drive.{DriveRow, IsDrive}
use Rattle.eg_plant.specs.Engine.{Shown, KeepsLaws}
use Rattle.eg_input.specs.Answering.{answer_of}
use Rattle.eg_input.specs.declared.answered.PartnerAnswer.{PartnerAnswer}
use Rattle.eg_input.proofs.AnswerLemmas.{answer_of-limits}
use Rattle.eg_fault.specs.Faults.{effects}
use Rattle.eg_model.specs.History.{Setting, Entry, Drive, Test, drives, Moment}
use Rattle.eg_model.specs.Paths.{both_conduct}
use Rattle.eg_model.specs.Moments.{moment_in}
use Rattle.eg_model.specs.Spans.{span_so_far, span_kind, has_passed, kind_at, before_at, moment_at, moments, next_after, next}
use Rattle.eg_model.specs.Premises.{IsProper, IsProperRun}
use Rattle.eg_tick.specs.Commanding.{commands_after, commanded_at, commands_next}
use Rattle.eg_tick.specs.declared.commands.Commands.{Commands}
use Rattle.eg_stream.specs.Coupled.{CoupledUnit, entry_by, entries_by, Objection, LoadBelowTorque, TorqueWhileOff, NoAnswer, covers, lawful, lawful_if_any, taken, AreTaken}

-- ---- an answer that was taken ----

-- whether the stages are on is what was commanded
pub on-commanded : (s : Setting) (e : Entry) (h : List Entry) → (next s e h).on ≡ (commanded_at s e.drive h).on
unfolding next next_after moment_at moment_in commanded_at commands_after
on-commanded s e h = refl

pub on-answered : (unit : CoupledUnit) (t : ℕ) (answer : PartnerAnswer) (before : List PartnerAnswer)
    → (next unit.setting (entry_by unit t answer) (entries_by unit before)).on ≡ (commanded_at unit.setting answer.drive (entries_by unit before)).on
unfolding entry_by
on-answered unit t answer before = on-commanded unit.setting (entry_by unit t answer) (entries_by unit before)

-- whether they are is known from what was told: a row that resets the unit has them off, and any other
-- commands what was told
on_by : Setting → List Moment → Bool → Bool
on_by s past reset =
    drives (if reset then Test else if has_passed past then Drive else span_kind past)
    && both_conduct (effects s.fault (length past)) (if reset || has_passed past then [] else span_so_far past)

pub on-told : (s : Setting) (drive : DriveRow) (h : List Entry) (told : Commands) (reset on : Bool)
    → told ≡ commands_next s h → drive.reset ≡ reset → told.on ≡ on → (commanded_at s drive h).on ≡ (on && not reset)
unfolding commanded_at commands_next commands_after kind_at before_at drives on_by
on-told s drive h told true true is row was = ap (on_by s (moments s h)) row
on-told s drive h told true false is row was = ap (on_by s (moments s h)) row
on-told s drive h told false true is row was = ap (on_by s (moments s h)) row ∙ sym (ap (λ (c : Commands). c.on) is) ∙ was
on-told s drive h told false false is row was = ap (on_by s (moments s h)) row ∙ sym (ap (λ (c : Commands). c.on) is) ∙ was

-- What an answer after these keeps that was taken.
pub record IsLawful (unit : CoupledUnit) (before : List PartnerAnswer) (answer : PartnerAnswer) : Type 0 where
  pub drive : IsDrive answer.drive
  pub engine : KeepsLaws unit.setting.cal.rules.kt answer.told
  pub no_torque : (commanded_at unit.setting answer.drive (entries_by unit before)).on ≡ false → answer.told.torque ≡ 0

-- the laws at the door, by the two tests
pub record PassesTests (unit : CoupledUnit) (before : List PartnerAnswer) (answer : PartnerAnswer) : Type 0 where
  pub covered : covers unit.setting.cal.rules.kt answer.told ≡ true
  pub no_torque : (commanded_at unit.setting answer.drive (entries_by unit before)).on ≡ false → answer.told.torque ≡ 0

-- what is answered where both laws are kept is the answer
pub lawful-passes : (unit : CoupledUnit) (before : List PartnerAnswer) (answer other : PartnerAnswer) → lawful unit before answer ≡ Ok other
    → PassesTests unit before answer × (answer ≡ other)
unfolding lawful
lawful-passes unit before answer other is =
    at (covers unit.setting.cal.rules.kt answer.told) ((commanded_at unit.setting answer.drive (entries_by unit before)).on) (answer.told.torque == 0) refl refl refl is
  where
    at : (covered on none : Bool) → covers unit.setting.cal.rules.kt answer.told ≡ covered
        → (commanded_at unit.setting answer.drive (entries_by unit before)).on ≡ on → (answer.told.torque == 0) ≡ none
        → ◌≡◌ {A = Result PartnerAnswer Objection} (if not covered then Err LoadBelowTorque else if not on && not none then Err TorqueWhileOff else Ok answer) (Ok other)
        → PassesTests unit before answer × (answer ≡ other)
    at false on none c o n e = absurd (let never : ◌≡◌ {A = Result PartnerAnswer Objection} (Err LoadBelowTorque) (Ok other) = e in cc)
    at true false false c o n e = absurd (let never : ◌≡◌ {A = Result PartnerAnswer Objection} (Err TorqueWhileOff) (Ok other) = e in cc)
    at true false true c o n e = (record { covered = c; no_torque = λ off. grind (arith, nat_tests) }, cc)
    at true true none c o n e = (record { covered = c; no_torque = λ off. absurd (let never : true ≡ false = sym o ∙ off in cc) }, cc)

-- both loads cover the torque
pub covers-laws : (kt : ℕ) (shown : Shown) → shown.position ≤ 1000 → covers kt shown ≡ true → KeepsLaws kt shown
unfolding covers
covers-laws kt shown within covered = record { position = within; load_1 = grind (arith, nat_tests); load_2 = grind (arith, nat_tests) }

-- so an answer that was taken is lawful, and it is what the line answers
pub taken-answer : (unit : CoupledUnit) (before : List PartnerAnswer) (line : List ℕ) (answer : PartnerAnswer) → taken unit before line ≡ Ok answer
    → (answer_of line ≡ Some answer) × PassesTests unit before answer
unfolding taken lawful_if_any
taken-answer unit before line answer is = at (answer_of line) refl is
  where
    at : (some : Option PartnerAnswer) → answer_of line ≡ some → lawful_if_any unit before some ≡ Ok answer
        → (answer_of line ≡ Some answer) × PassesTests unit before answer
    at None e is = absurd (let never : ◌≡◌ {A = Result PartnerAnswer Objection} (Err NoAnswer) (Ok answer) = is in cc)
    at (Some other) e is =
        let passes = lawful-passes unit before other answer is in
        (e ∙ ap Some passes.1, subst (PassesTests unit before) passes.1 passes.0)

pub taken-lawful : (unit : CoupledUnit) (before : List PartnerAnswer) (line : List ℕ) (answer : PartnerAnswer) → taken unit before line ≡ Ok answer
    → IsLawful unit before answer
taken-lawful unit before line answer is =
    let known = taken-answer unit before line answer is in
    let limits = answer_of-limits line answer known.0 in
    record {
      drive = limits.drive;
      engine = covers-laws unit.setting.cal.rules.kt answer.told limits.position known.1.covered;
      no_torque = known.1.no_torque;
    }

-- ---- all answers that were taken ----

-- each of these answers is lawful after those before it
unfoldable pub AreLawful : CoupledUnit → List PartnerAnswer → Type 0
AreLawful unit [] = Unit {0}
AreLawful unit (answer ∷ before) = IsLawful unit before answer × AreLawful unit before

pub taken-are-lawful : (unit : CoupledUnit) (lines : List (List ℕ)) (answers : List PartnerAnswer) → AreTaken unit lines answers → AreLawful unit answers
unfolding AreTaken AreLawful
taken-are-lawful unit [] [] are = tt
taken-are-lawful unit (line ∷ lines) (answer ∷ before) are = (taken-lawful unit before line answer are.0, taken-are-lawful unit lines before are.1)
taken-are-lawful unit [] (answer ∷ before) are = absurd are
taken-are-lawful unit (line ∷ lines) [] are = absurd are

-- what comes in by a lawful answer is proper
pub lawful-proper : (unit : CoupledUnit) (t : ℕ) (before : List PartnerAnswer) (answer : PartnerAnswer) → IsLawful unit before answer
    → IsProper unit.setting (next unit.setting (entry_by unit t answer) (entries_by unit before)).on (entry_by unit t answer)
lawful-proper unit t before answer is = unfold entry_by in record {
  drive = is.drive;
  engine = is.engine;
  no_torque = λ off. is.no_torque (sym (on-answered unit t answer before) ∙ off);
}

pub lawful-proper_run : (unit : CoupledUnit) (answers : List PartnerAnswer) → AreLawful unit answers → IsProperRun unit.setting (entries_by unit answers)
unfolding AreLawful IsProperRun entries_by
lawful-proper_run unit [] are = tt
lawful-proper_run unit (answer ∷ before) are = (lawful-proper unit (length before) before answer are.0, lawful-proper_run unit before are.1)

-- what comes in by answers that were taken is proper at each tick
pub taken-proper_run : (unit : CoupledUnit) (lines : List (List ℕ)) (answers : List PartnerAnswer) → AreTaken unit lines answers
    → IsProperRun unit.setting (entries_by unit answers)
taken-proper_run unit lines answers are = lawful-proper_run unit answers (taken-are-lawful unit lines answers are)
