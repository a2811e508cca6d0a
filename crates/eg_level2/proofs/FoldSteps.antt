-- The fold tells whether a module is disturbed.
use Rattle.std.proofs.Common.{◌≡◌, ◌≢◌, ℕ, zero, suc, ◌^◌, ◌≤◌, ◌<◌, inl, inr, true, false, List, [], ◌∷◌, length, get_or, refl, sym, ap, ◌∙◌, arith}
use Rattle.std.specs.Prelude.{if◌then◌else◌, ◌==◌, bit_xor, slice_set, All}
use Rattle.std.proofs.lemmas.List.Folds.{list_all_at, list_all-append}
use Rattle.std.specs.Int.{w16, rotate_left}
use Rattle.std.specs.Int.Bits.{xor_assoc, xor_self, xor_zero_l, xor_zero_r}
use Rattle.std.proofs.lemmas.Nat.{xor_of_16}
use Rattle.std.proofs.lemmas.Bool.{eq-eqb, ne_eqb}
use Rattle.eg_answer.specs.Folds.{mixed, fold_of}
use Rattle.eg_answer.specs.Answers.{pedal_result, permitted_result, estimate_result, excess_result, pairs_result, results_of, expected_of}
use Rattle.eg_answer.proofs.FoldLemmas.{fold_law, fold_below}
use Rattle.eg_level2.specs.Words.{Words}
use Rattle.eg_level2.specs.Modules.{check_step, signed, pedal_step, permitted_step, actual_step, excess_step, pairs_step, debounce_step, module_step}
use Rattle.eg_level2.specs.Ticks.{Doing, inputs_for, after_module, after_modules}
use Rattle.eg_answer.specs.Modules.{modules_before_react, modules, AllRun, NoneIsDisturbed, OneIsDisturbed}
use Rattle.eg_level2.specs.Flow.{row_asked, expected_fold, FitsWords, is_undisturbed}
use Rattle.eg_level2.specs.FlowLaws.{at_react, FoldTells}
use Rattle.eg_level2.proofs.TickSteps.{before-is}

-- ---- the fold as react begins ----

module _ (d : Doing) (w : Words) (all : AllRun d.ran) where
  fold_0 : d.differs ≡ false → (after_module d 0 w).sign ≡ (row_asked d).seed
  unfolding after_module module_step check_step inputs_for row_asked
  fold_0 e = rw (e, all 0) refl

  fold_1 : (after_module d 1 w).sign ≡ bit_xor (mixed w.sign (pedal_result (row_asked d))) (d.disturbance 1)
  unfolding after_module module_step pedal_step signed inputs_for row_asked
  fold_1 = rw (all 1) refl

  fold_2 : (after_module d 2 w).sign ≡ bit_xor (mixed w.sign (permitted_result d.rules (row_asked d))) (d.disturbance 2)
  unfolding after_module module_step permitted_step signed inputs_for row_asked
  fold_2 = rw (all 2) refl

  fold_3 : (after_module d 3 w).sign ≡ bit_xor (mixed w.sign (estimate_result d.rules (row_asked d))) (d.disturbance 3)
  unfolding after_module module_step actual_step signed inputs_for row_asked
  fold_3 = rw (all 3) refl

  fold_4 : (after_module d 4 w).sign ≡ bit_xor (mixed w.sign (excess_result d.rules (row_asked d))) (d.disturbance 4)
  unfolding after_module module_step excess_step signed inputs_for row_asked
  fold_4 = rw (all 4) refl

  fold_5 : (after_module d 5 w).sign ≡ bit_xor (mixed w.sign (pairs_result d.rules (row_asked d))) (d.disturbance 5)
  unfolding after_module module_step pairs_step signed inputs_for row_asked
  fold_5 = rw (all 5) refl

  fold_6 : (after_module d 6 w).sign ≡ w.sign
  unfolding after_module module_step debounce_step
  fold_6 = rw (all 6) refl

-- the results as the modules mix them in, each with what disturbs its module
unfoldable pub mixed_in : Doing → List ℕ
mixed_in d =
    bit_xor (pedal_result (row_asked d)) (d.disturbance 1) ∷ bit_xor (permitted_result d.rules (row_asked d)) (d.disturbance 2)
    ∷ bit_xor (estimate_result d.rules (row_asked d)) (d.disturbance 3) ∷ bit_xor (excess_result d.rules (row_asked d)) (d.disturbance 4)
    ∷ bit_xor (pairs_result d.rules (row_asked d)) (d.disturbance 5) ∷ []

inside : (bits result by : ℕ) → bit_xor (mixed bits result) by ≡ mixed bits (bit_xor result by)
unfolding mixed
inside bits result by = xor_assoc (rotate_left w16 bits 3) result by

five : (s0 s1 s2 s3 s4 s5 seed r1 r2 r3 r4 r5 d1 d2 d3 d4 d5 : ℕ) → s0 ≡ seed → s1 ≡ bit_xor (mixed s0 r1) d1 → s2 ≡ bit_xor (mixed s1 r2) d2
    → s3 ≡ bit_xor (mixed s2 r3) d3 → s4 ≡ bit_xor (mixed s3 r4) d4 → s5 ≡ bit_xor (mixed s4 r5) d5
    → s5 ≡ fold_of seed (bit_xor r1 d1 ∷ bit_xor r2 d2 ∷ bit_xor r3 d3 ∷ bit_xor r4 d4 ∷ bit_xor r5 d5 ∷ [])
unfolding fold_of
five s0 s1 s2 s3 s4 s5 seed r1 r2 r3 r4 r5 d1 d2 d3 d4 d5 e0 e1 e2 e3 e4 e5 =
    rw (e5, e4, e3, e2, e1, e0, inside seed r1 d1, inside _ r2 d2, inside _ r3 d3, inside _ r4 d4, inside _ r5 d5) refl

pub fold-at_react : (d : Doing) (w : Words) → AllRun d.ran → d.differs ≡ false → (at_react d w).sign ≡ fold_of (row_asked d).seed (mixed_in d)
unfolding after_modules mixed_in
fold-at_react d w all e =
    fold_6 d (after_modules d 6 w) all
    ∙ five _ _ _ _ _ (after_modules d 6 w).sign _ _ _ _ _ _ _ _ _ _ _ (fold_0 d w all e) (fold_1 d (after_modules d 1 w) all) (fold_2 d (after_modules d 2 w) all)
    (fold_3 d (after_modules d 3 w) all) (fold_4 d (after_modules d 4 w) all) (fold_5 d (after_modules d 5 w) all)

-- ---- a fold that one result moves ----

quiet : (d : Doing) → NoneIsDisturbed d.disturbance → mixed_in d ≡ results_of d.rules (row_asked d)
unfolding mixed_in results_of
quiet d z = rw (
  z 1,
  z 2,
  z 3,
  z 4,
  z 5,
  xor_zero_r (pedal_result (row_asked d)),
  xor_zero_r (permitted_result d.rules (row_asked d)),
  xor_zero_r (estimate_result d.rules (row_asked d)),
  xor_zero_r (excess_result d.rules (row_asked d)),
  xor_zero_r (pairs_result d.rules (row_asked d)),
) refl

-- one result with some bits mixed in isn't that result
moves : (result mask : ℕ) → 1 ≤ mask → bit_xor result mask ≢ result
moves result mask some e =
    let zero_mask : mask ≡ 0 = sym (xor_zero_l mask) ∙ ap (λ x. bit_xor x mask) (sym (xor_self result)) ∙ xor_assoc result result mask ∙ ap (bit_xor result) e ∙ xor_self result in
    omega arith

-- so the folds differ where at one place some bits are mixed into the result
folds_differ : (seed index result mask : ℕ) (results other : List ℕ) → seed < 2 ^ 16 → All (λ result. result < 2 ^ 16) results → index < length results → 1 ≤ mask → mask < 2 ^ 16
    → result < 2 ^ 16 → other ≡ slice_set results index (bit_xor result mask) → results ≡ slice_set results index result → fold_of seed other ≢ fold_of seed results
folds_differ seed index result mask results other small words within some word own moved same e =
    moves result mask some
    (fold_law seed results index (bit_xor result mask) result small words (xor_of_16 result mask own word) own within
    (ap (fold_of seed) (sym moved) ∙ e ∙ ap (fold_of seed) same))

five_differ : (bits : ℕ) (d : ℕ → ℕ) (one mask r1 r2 r3 r4 r5 : ℕ) → 1 ≤ one → one ≤ 5 → 1 ≤ mask → mask < 2 ^ 16 → ((i : ℕ) → d i ≡ (if i == one then mask else 0)) → bits < 2 ^ 16
    → All (λ result. result < 2 ^ 16) (r1 ∷ r2 ∷ r3 ∷ r4 ∷ r5 ∷ [])
    → fold_of bits (bit_xor r1 (d 1) ∷ bit_xor r2 (d 2) ∷ bit_xor r3 (d 3) ∷ bit_xor r4 (d 4) ∷ bit_xor r5 (d 5) ∷ []) ≢ fold_of bits (r1 ∷ r2 ∷ r3 ∷ r4 ∷ r5 ∷ [])
five_differ bits d zero mask r1 r2 r3 r4 r5 from to some word is small words = absurd (omega arith)
five_differ bits d (suc zero) mask r1 r2 r3 r4 r5 from to some word is small words =
    folds_differ bits 0 r1 mask (r1 ∷ r2 ∷ r3 ∷ r4 ∷ r5 ∷ []) _ small words (omega arith) some word (words 0 0 (omega arith))
    (rw (is 1, is 2, is 3, is 4, is 5, xor_zero_r r2, xor_zero_r r3, xor_zero_r r4, xor_zero_r r5) refl) refl
five_differ bits d (suc (suc zero)) mask r1 r2 r3 r4 r5 from to some word is small words =
    folds_differ bits 1 r2 mask (r1 ∷ r2 ∷ r3 ∷ r4 ∷ r5 ∷ []) _ small words (omega arith) some word (words 1 0 (omega arith))
    (rw (is 1, is 2, is 3, is 4, is 5, xor_zero_r r1, xor_zero_r r3, xor_zero_r r4, xor_zero_r r5) refl) refl
five_differ bits d (suc (suc (suc zero))) mask r1 r2 r3 r4 r5 from to some word is small words =
    folds_differ bits 2 r3 mask (r1 ∷ r2 ∷ r3 ∷ r4 ∷ r5 ∷ []) _ small words (omega arith) some word (words 2 0 (omega arith))
    (rw (is 1, is 2, is 3, is 4, is 5, xor_zero_r r1, xor_zero_r r2, xor_zero_r r4, xor_zero_r r5) refl) refl
five_differ bits d (suc (suc (suc (suc zero)))) mask r1 r2 r3 r4 r5 from to some word is small words =
    folds_differ bits 3 r4 mask (r1 ∷ r2 ∷ r3 ∷ r4 ∷ r5 ∷ []) _ small words (omega arith) some word (words 3 0 (omega arith))
    (rw (is 1, is 2, is 3, is 4, is 5, xor_zero_r r1, xor_zero_r r2, xor_zero_r r3, xor_zero_r r5) refl) refl
five_differ bits d (suc (suc (suc (suc (suc zero))))) mask r1 r2 r3 r4 r5 from to some word is small words =
    folds_differ bits 4 r5 mask (r1 ∷ r2 ∷ r3 ∷ r4 ∷ r5 ∷ []) _ small words (omega arith) some word (words 4 0 (omega arith))
    (rw (is 1, is 2, is 3, is 4, is 5, xor_zero_r r1, xor_zero_r r2, xor_zero_r r3, xor_zero_r r4) refl) refl
five_differ bits d (suc (suc (suc (suc (suc (suc one)))))) mask r1 r2 r3 r4 r5 from to some word is small words = absurd (omega arith)

disturbed : (d : Doing) → FitsWords d.rules (row_asked d) → OneIsDisturbed d.disturbance → fold_of (row_asked d).seed (mixed_in d) ≢ expected_fold d
unfolding mixed_in expected_fold expected_of results_of
disturbed d fits one =
    five_differ (row_asked d).seed d.disturbance one.one one.mask (pedal_result (row_asked d)) (permitted_result d.rules (row_asked d)) (estimate_result d.rules (row_asked d))
    (excess_result d.rules (row_asked d)) (pairs_result d.rules (row_asked d)) one.from_1 one.to_5 one.some one.word one.alone fits.seed fits.results

undisturbed : (d : Doing) → NoneIsDisturbed d.disturbance → fold_of (row_asked d).seed (mixed_in d) ≡ expected_fold d
unfolding expected_fold expected_of
undisturbed d none = ap (fold_of (row_asked d).seed) (quiet d none)

-- ---- whether one is disturbed ----

none_told : (d : Doing) → NoneIsDisturbed d.disturbance → is_undisturbed d ≡ true
unfolding is_undisturbed modules_before_react modules
none_told d z = rw (z 0, z 1, z 2, z 3, z 4, z 5, z 6, z 7) refl

one_told : (d : Doing) → OneIsDisturbed d.disturbance → is_undisturbed d ≡ false
unfolding is_undisturbed modules
one_told d one =
    let from = one.from_1 in let to = one.to_5 in let some = one.some in
    let at : (d.disturbance (get_or modules_before_react one.one 0) == 0) ≡ false =
    rw (before-is one.one (omega arith), one.alone one.one, eq-eqb one.one one.one refl) (ne_eqb one.mask 0 (λ e. omega arith)) in
    list_all-append (λ i. d.disturbance i == 0) modules_before_react (7 ∷ [])
    ∙ rw (list_all_at (λ i. d.disturbance i == 0) modules_before_react one.one 0 (unfold modules_before_react in omega arith) at) refl

pub fold_tells : FoldTells
fold_tells d w all e fits (inl none) =
    eq-eqb _ _ (fold-at_react d w all e ∙ undisturbed d none) ∙ sym (none_told d none)
fold_tells d w all e fits (inr one) =
    ne_eqb _ _ (λ same. disturbed d fits one (sym (fold-at_react d w all e) ∙ same)) ∙ sym (one_told d one)

-- the expected fold is a word
pub expected-word : (d : Doing) → FitsWords d.rules (row_asked d) → expected_fold d < 65536
unfolding expected_fold expected_of
expected-word d fits = fold_below (row_asked d).seed (results_of d.rules (row_asked d)) fits.seed fits.results
