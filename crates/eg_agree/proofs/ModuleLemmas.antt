-- One tick module by module: what the words are after each of the eight.
use Rattle.std.proofs.Common.{◌≡◌, ℕ, refl}
use Rattle.std.specs.Prelude.{if◌then◌else◌, is_some, length}
use Rattle.eg_sensor.specs.declared.readings.Readings.{Readings}
use Rattle.eg_answer.specs.declared.rules.TestRow.{TestRow}
use Rattle.eg_fault.specs.Effects.{Effects, asked_at}
use Rattle.eg_level2.specs.Words.{Words}
use Rattle.eg_level2.specs.Inputs.{row_of}
use Rattle.eg_level2.specs.Modules.{check_step, given_up, pedal_step, permitted_step, actual_step, excess_step, pairs_step, debounce_step, react_step, module_step}
use Rattle.eg_level2.specs.Ticks.{inputs_for, after_module, after_modules}
use Rattle.eg_model.specs.History.{Setting, SpanKind}
use Rattle.eg_agree.specs.Doings.{phase_at, doing_at}

module _ (kind : SpanKind) (s : Setting) (x : Effects) (reads : Readings) (l : ℕ) (w : Words) where
  -- the words after the first modules, as many as the number says
  abbrev pub after : ℕ → Words
  after j = after_modules (doing_at kind s x reads l) j w

  -- the row of the question that is asked
  abbrev pub row : TestRow
  row = row_of s.cal.questions (asked_at x s.cal.times (length s.cal.questions) l)

  -- what each module makes of those after the module before it, where it runs
  pub record Steps : Type 0 where
    pub check : after 1 ≡ (if x.ran 0 then (if is_some x.flip then given_up l else check_step row.seed l w) else w)
    pub pedal : after 2 ≡ (if x.ran 1 then pedal_step reads row (x.disturbance 1) (after 1) else after 1)
    pub permitted : after 3 ≡ (if x.ran 2 then permitted_step s.cal.rules reads row (x.disturbance 2) (after 2) else after 2)
    pub actual : after 4 ≡ (if x.ran 3 then actual_step s.cal.rules reads row (x.disturbance 3) (after 3) else after 3)
    pub excess : after 5 ≡ (if x.ran 4 then excess_step s.cal.rules row (x.disturbance 4) (after 4) else after 4)
    pub pairs : after 6 ≡ (if x.ran 5 then pairs_step s.cal.rules reads row (x.disturbance 5) (after 5) else after 5)
    pub debounce : after 7 ≡ (if x.ran 6 then debounce_step s.cal.rules (phase_at kind s.cal.times x l) (after 6) else after 6)
    pub react : after 8 ≡ (if x.ran 7 then react_step (phase_at kind s.cal.times x l) (after 7) else after 7)

  pub steps : Steps
  unfolding doing_at after_modules after_module inputs_for module_step
  steps = record {
    check = refl;
    pedal = refl;
    permitted = refl;
    actual = refl;
    excess = refl;
    pairs = refl;
    debounce = refl;
    react = refl;
  }
