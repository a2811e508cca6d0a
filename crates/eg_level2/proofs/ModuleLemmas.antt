-- The stores of a module, of values that its calls worked out.
use Rattle.std.proofs.Common.{◌≡◌, ◌∙◌, refl, sym, ap, ap₂, subst, ℕ, ◌+◌, ◌-◌, ◌*◌, ◌%◌, ◌++◌, Bool, List, arith}
use Rattle.std.specs.Prelude.{Result, if◌then◌else◌, ◌==◌, min, max, bit_xor, slice_index, Option, Some, None}
use Rattle.eg_guard.specs.Memory.{ShownMemory}
use Rattle.eg_num.specs.Interpolation.{grid_at}
use Rattle.eg_torque.specs.Permit.{permitted}
use Rattle.eg_sensor.specs.Readings.{checked_raise}
use Rattle.eg_sensor.specs.declared.readings.Readings.{Readings}
use Rattle.eg_answer.specs.Formulas.{permitted_torque}
use Rattle.eg_answer.specs.Folds.{mixed}
use Rattle.eg_answer.specs.Token.{next_token_of}
use Rattle.eg_answer.specs.declared.rules.Rules.{Rules}
use Rattle.eg_level2.specs.declared.phase.Phase.{Phase}
use Rattle.eg_level2.specs.declared.lookup.Lookup.{Lookup}
use Rattle.eg_level2.specs.Inputs.{IsLookup}
use Rattle.eg_level2.specs.Words.{named, word_at, words_of, in_order, is_set}
use Rattle.eg_level2.specs.Modules.{marked, check_step, given_up, written, signed, closed_flow, answers_now, number_of, answer_of, react_step}
use Rattle.eg_level2.specs.Inner.Stores.{signalling, Makes}
use Rattle.eg_level2.specs.Stores.{Store, both, both_from}
use Rattle.eg_level2.specs.Order.{check_stores, given_up_stores, react_stores}

-- module 0
pub check_makes : {T E : Type 0} {a b : ShownMemory} {result : Result T E} (tick seed : ℕ) {t token w l flow : ℕ} → flow ≡ (if (l + 1) % 65536 == tick then w else marked w)
    → w ≡ word_at a.words 13 → l ≡ word_at a.words 14 → token ≡ next_token_of t 0 → t ≡ word_at a.words 12
    → Makes (both 12 token ++ (both 13 flow ++ (both 14 tick ++ both 15 seed))) a b result → Makes (check_stores (check_step seed tick (words_of a.words))) a b result
unfolding named check_step check_stores
check_makes {a = a} {b = b} {result = result} tick seed ef ew el etoken et made = subst (λ (l : List Store). Makes l a b result) (rw (ef, ew, el, etoken, et) refl) made

pub gave_up : {T E : Type 0} {a b : ShownMemory} {result : Result T E} {values : List ℕ} (tick : ℕ) → values ≡ in_order (given_up tick)
    → Makes (both 11 1 ++ both_from 0 values) a b result → Makes (given_up_stores tick) a b result
unfolding given_up_stores
gave_up {a = a} {b = b} {result = result} tick e made = subst (λ (l : List ℕ). Makes (both 11 1 ++ both_from 0 l) a b result) e made

-- modules 1 to 5
pub signalling_makes : {T E : Type 0} {a b : ShownMemory} {result : Result T E} (number signal test d : ℕ) {place value t token s sign w : ℕ} {trip : Bool} → place ≡ number - 1
    → value ≡ (if trip then 0 else bit_xor signal d) → trip ≡ is_set w → w ≡ word_at a.words 11 → token ≡ next_token_of t number → t ≡ word_at a.words 12
    → sign ≡ bit_xor (mixed s test) d → s ≡ word_at a.words 15 → Makes (both place value ++ (both 12 token ++ both 15 sign)) a b result
    → Makes (signalling number signal test d (word_at a.words)) a b result
unfolding named written signed signalling
signalling_makes {a = a} {b = b} {result = result} number signal test d ep ev etrip ew etoken et esign es made =
    subst (λ (l : List Store). Makes l a b result) (rw (ep, ev, etrip, ew, etoken, et, esign, es) refl) made

-- the permitted torque where both speeds are the one that was looked up
looked_up-value : (rules : Rules) (lookup : Lookup) (pedal a b raise : ℕ) → IsLookup rules lookup → a ≡ b → lookup.pedal ≡ pedal → lookup.speed ≡ a →
    max lookup.torque raise ≡ permitted rules.permit pedal a b raise
unfolding permitted
looked_up-value rules lookup pedal a b raise is same at_pedal at_speed =
    let torque : lookup.torque ≡ grid_at rules.permit pedal a = is ∙ ap₂ (grid_at rules.permit) at_pedal at_speed in
    ap (λ t. max t raise) torque ∙ ap (λ t. max t raise) (sym (min-self (grid_at rules.permit pedal a)))
    ∙ ap (λ s. max (min (grid_at rules.permit pedal a) (grid_at rules.permit pedal s)) raise) same
  where
    min-self : (n : ℕ) → min n n ≡ n
    min-self n = omega arith

pub looked_up-at : (rules : Rules) (lookup : Lookup) (read : Readings) (pedal raise : ℕ) → IsLookup rules lookup → slice_index read.speed 0 ≡ slice_index read.speed 1 →
    lookup.pedal ≡ pedal → lookup.speed ≡ slice_index read.speed 0 → raise ≡ checked_raise read.raise read.raise_check →
    max lookup.torque raise ≡ permitted_torque rules read pedal
unfolding permitted_torque
looked_up-at rules lookup read pedal raise is same at_pedal at_speed checked =
    looked_up-value rules lookup pedal (slice_index read.speed 0) (slice_index read.speed 1) raise is same at_pedal at_speed
    ∙ ap (permitted rules.permit pedal (slice_index read.speed 0) (slice_index read.speed 1)) checked

pub ruleset looked_up = (looked_up-at)

-- module 7
pub react_makes : {T E : Type 0} {a b : ShownMemory} {result : Result T E} (phase : Phase) {sends : Bool} {flow after : ℕ} → after ≡ (if sends then 255 else flow)
    → sends ≡ answers_now phase (words_of a.words) → flow ≡ closed_flow (words_of a.words) → Makes (both 12 0 ++ both 13 after) a b result
    → Makes (react_stores (react_step phase (words_of a.words))) a b result
unfolding react_step react_stores
react_makes {a = a} {b = b} {result = result} phase ea es ef made = subst (λ (l : List Store). Makes l a b result) (rw (ea, es, ef) refl) made

pub answered : (f : ℕ → ℕ) (answer : Option ℕ) (phase : Phase) (sends : Bool) (flow sign : ℕ) → answer ≡ (if sends then Some (flow * 65536 + sign) else None)
    → sends ≡ answers_now phase (named f) → flow ≡ closed_flow (named f) → sign ≡ f 15 → answer ≡ answer_of phase (named f)
unfolding named answer_of number_of
answered f answer phase sends flow sign ea es ef esign = ea ∙ rw (es, ef, esign) refl
