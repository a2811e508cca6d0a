-- A controller of a coupled run, from its begin and from answer to answer.
use Rattle.std.proofs.Common.{◌≡◌, ◌∙◌, sym, ap, refl, subst, ℕ, ◌%◌, Bool, true, false, arith, List, [], ◌∷◌, length, IsTrue, Option, Ok}
use Rattle.std.specs.Prelude.{slice_index_or}
use Rattle.eg_fault.specs.declared.class.Fault.{Fault}
use Rattle.eg_plant.specs.Engine.{Shown}
use Rattle.eg_plant.specs.Foreign.{Foreign, StepsAsTold, powered}
use Rattle.eg_values.specs.Calibration.{CalibrationParts}
use Rattle.eg_input.specs.declared.answered.PartnerAnswer.{PartnerAnswer}
use Rattle.eg_record.specs.declared.row.Row.{Row}
use Rattle.eg_model.specs.History.{Setting, Entry}
use Rattle.eg_model.specs.Spans.{next}
use Rattle.eg_model.specs.Rows.{row_of}
use Rattle.eg_plan.specs.declared.run_input.RunInput.{RunInput}
use Rattle.eg_tick.specs.Kept.{ControllerParts}
use Rattle.eg_tick.specs.Stands.{Stands}
use Rattle.eg_tick.specs.Advancing.{entry_of, IsTick}
use Rattle.eg_tick.specs.Commanding.{commanded_at}
use Rattle.eg_stream.specs.Coupled.{CoupledUnit, unit_of, entry_by, entries_by, lawful}
use Rattle.eg_stream.specs.Inner.Running.{IsCoupled}
use Rattle.eg_stream.proofs.TakenLemmas.{on-commanded, lawful-passes}

-- before the first answer
pub coupled-begins : (cal copy : CalibrationParts) (input : RunInput) (image : List ℕ) (fault : Option Fault) (c : ControllerParts Foreign)
    → copy ≡ cal → image ≡ input.image → fault ≡ input.plan.fault → Stands (record { cal = copy; image = image; fault = fault }) c.kept [] → IsTrue c.kept.memory.sure
    → IsCoupled (unit_of cal input) [] c
unfolding entries_by
coupled-begins cal copy input image fault c cal-is image-is fault-is stands sure = record {
  stands = subst (λ s. Stands s c.kept []) (λ i. record { cal = cal-is i; image = image-is i; fault = fault-is i }) stands;
  ticks = stands.count;
  sure = sure;
}

-- where there is no torque while the stages are off, what was told is shown
powered-same : (on : Bool) (told : Shown) → (on ≡ false → told.torque ≡ 0) → powered on told ≡ told
unfolding powered
powered-same true told none = refl
powered-same false told none = λ i. record { position = told.position; load_1 = told.load_1; load_2 = told.load_2; torque = sym (none refl) i }

abbrev shows : Foreign → Shown
shows e = e.shown

-- The tick of an answer after these: the engine is told what it shows then, and the tick is made.
module _ {X : Type 0} (unit : CoupledUnit) (before : List PartnerAnswer) (answer : PartnerAnswer) (old told new : ControllerParts Foreign) (slices : List ℕ) (row : Row)
    (coupled : IsCoupled unit before old) (is_lawful : lawful unit before answer ≡ Ok answer)
    (kept : told.kept ≡ old.kept) (tells : told.engine.next ≡ answer.told)
    (slices-are : slices ≡ slice_index_or unit.plan (length before % length unit.plan) [])
    (made : IsTick {X = X} shows StepsAsTold answer.drive slices told new (Ok row)) where
  abbrev s : Setting
  s = unit.setting

  abbrev h : List Entry
  h = entries_by unit before

  abbrev entry : Entry
  entry = entry_of answer.drive slices new.kept.shown

  stands : Stands s told.kept h
  stands = subst (λ k. Stands s k h) (sym kept) coupled.stands

  on-is : (next s entry h).on ≡ (commanded_at s answer.drive h).on
  unfolding entry_of
  on-is = on-commanded s entry h

  shown : new.kept.shown ≡ answer.told
  shown =
      made.shown ∙ ap shows (made.engine s h stands) ∙ ap (powered (next s entry h).on) tells
      ∙ powered-same (next s entry h).on answer.told (λ off. (lawful-passes unit before answer answer is_lawful).0.no_torque (sym on-is ∙ off))

  entry-is : entry ≡ entry_by unit (length before) answer
  unfolding entry_of entry_by
  entry-is = λ i. record { drive = answer.drive; slices = slices-are i; shown = shown i }

  ticks-are : told.kept.ticks ≡ length before
  ticks-are = ap (λ k. k.ticks) kept ∙ coupled.ticks

  pub coupled-then : IsCoupled unit (answer ∷ before) new
  unfolding entries_by
  coupled-then = record {
    stands = subst (λ e. Stands s new.kept (e ∷ h)) entry-is (made.stands s h stands);
    ticks = let more = made.ticks in omega (arith, more, ticks-are);
    sure = subst IsTrue (sym (made.stays_sure ∙ ap (λ k. k.memory.sure) kept)) coupled.sure;
  }

  pub row-is : row ≡ row_of (length before) (next s (entry_by unit (length before) answer) h)
  row-is = made.row s h stands ∙ (λ i. row_of ((sym stands.count ∙ ticks-are) i) (next s (entry-is i) h))
