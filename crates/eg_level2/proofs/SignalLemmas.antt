-- What a module of number 1 to 5 stores.
use Rattle.std.proofs.Common.{◌≡◌, ◌∙◌, refl, ap, ap₂, subst, ℕ, zero, suc, ◌-◌, ◌≤◌, Bool, true, false, List, ◌++◌, arith}
use Rattle.std.specs.Prelude.{Result, if◌then◌else◌, bit_xor, slice_index}
use Rattle.eg_guard.specs.Memory.{ShownMemory}
use Rattle.eg_torque.specs.Ramp.{ramped}
use Rattle.eg_answer.specs.Answers.{results_of}
use Rattle.eg_answer.specs.Formulas.{permitted_torque}
use Rattle.eg_answer.specs.Token.{next_token_of}
use Rattle.eg_answer.specs.declared.rules.Rules.{Rules}
use Rattle.eg_answer.specs.declared.rules.TestRow.{TestRow}
use Rattle.eg_level2.specs.declared.results.RowResults.{RowResults}
use Rattle.eg_level2.specs.declared.phase.Phase.{Phase}
use Rattle.eg_level2.specs.Words.{named, is_set, in_order}
use Rattle.eg_level2.specs.Inputs.{Level2Parts, inputs_of, readings_of, asked_of, results_by, row_of}
use Rattle.eg_level2.specs.Modules.{written, signed, module_step, pedal_step, permitted_step, actual_step, excess_step, pairs_step}
use Rattle.eg_level2.specs.Inner.Stores.{signal_of, signalling, Makes}
use Rattle.eg_level2.specs.Stores.{Store, both}
use Rattle.eg_level2.specs.Order.{stores_of, signal_stores}

-- a signal that is 0 where a trip stands is written as any other, since 0 is written there
unless_tripped : (trip : Bool) (signal d : ℕ) →
    (if trip then 0 else bit_xor (if trip then 0 else signal) d) ≡ (if trip then 0 else bit_xor signal d)
unless_tripped true signal d = refl
unless_tripped false signal d = refl

-- a run by its stores, of the signal that is worked out and of the result of the row that is asked
module _ (parts : Level2Parts) (memory : List ℕ) (tick : ℕ) (phase : Phase) (d : ℕ) (f : ℕ → ℕ)
  where
    abbrev row : TestRow
    row = row_of parts.questions (asked_of memory)

    abbrev signal : ℕ → ℕ
    signal n = signal_of parts.rules (readings_of memory) n (named f)

    abbrev result : ℕ → ℕ
    result n = slice_index (results_of parts.rules row) (n - 1)

    -- what is permitted where no trip stands
    abbrev torque : ℕ
    torque = ramped parts.rules.fall (f 1) (permitted_torque parts.rules (readings_of memory) (f 0))

    written_2 : written (named f) (signal 2) d ≡ written (named f) torque d
    unfolding signal_of written named
    written_2 = unless_tripped (is_set (f 11)) torque d

    stores : (n : ℕ) → 1 ≤ n → n ≤ 5 → signalling n (signal n) (result n) d f ≡ stores_of (inputs_of parts memory tick phase d) n (named f)
    unfolding signal_of results_of stores_of signal_stores in_order module_step inputs_of named signalling written signed pedal_step permitted_step actual_step excess_step pairs_step
    stores zero from to = absurd (omega arith)
    stores (suc zero) from to = refl
    stores (suc (suc zero)) from to = ap (λ v. both 1 v ++ (both 12 (next_token_of (f 12) 2) ++ both 15 (signed (named f) (result 2) d))) written_2
    stores (suc (suc (suc zero))) from to = refl
    stores (suc (suc (suc (suc zero)))) from to = refl
    stores (suc (suc (suc (suc (suc zero))))) from to = refl
    stores (suc (suc (suc (suc (suc (suc n)))))) from to = absurd (omega arith)

    -- what is known of a run
    module _ (given : Rules) (n place signal_n : ℕ) (test : RowResults) (same : given ≡ parts.rules) (from : 1 ≤ n) (to : n ≤ 5)
        (is_signal : signal_n ≡ signal_of given (readings_of memory) n (named f)) (is_test : test ≡ results_by parts.rules row) (is_place : place ≡ n)
      where
        signal-is : signal_n ≡ signal n
        signal-is = is_signal ∙ ap (λ rules. signal_of rules (readings_of memory) n (named f)) same

        result-is : slice_index test.results (place - 1) ≡ result n
        unfolding results_by
        result-is = ap₂ (λ (t : RowResults) k. slice_index t.results (k - 1)) is_test is_place

        pub signal_makes : {T E : Type 0} {a b : ShownMemory} {result : Result T E} → Makes (signalling n signal_n (slice_index test.results (place - 1)) d f) a b result → Makes (stores_of (inputs_of parts memory tick phase d) n (named f)) a b result
        signal_makes {a = a} {b = b} {result = result} made =
            subst (λ (l : List Store). Makes l a b result) (ap₂ (λ s r. signalling n s r d f) signal-is result-is ∙ stores n from to) made
