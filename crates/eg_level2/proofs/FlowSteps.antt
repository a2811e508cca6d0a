-- What a tick makes of the flow and of the last tick, and what react does at its end.
use Rattle.std.proofs.Common.{◌≡◌, ℕ, zero, suc, ◌+◌, ◌%◌, ◌≤◌, ◌<◌, inl, inr, Bool, true, false, ◌&&◌, refl, sym, ap, subst, ◌∙◌, arith, Some, None, is_some}
use Rattle.std.specs.Prelude.{if◌then◌else◌, ◌==◌}
use Rattle.std.specs.List.{list_all}
use Rattle.std.proofs.lemmas.Nat.{le_or_r}
use Rattle.eg_answer.specs.Token.{next_token_of}
use Rattle.eg_level2.specs.Words.{Words}
use Rattle.eg_level2.specs.Modules.{marked, check_step, given_up, pedal_step, permitted_step, actual_step, excess_step, pairs_step, debounce_step, closed_flow, answers_now, number_of, answer_of, react_step, module_step}
use Rattle.eg_level2.specs.Ticks.{Doing, inputs_for, after_module, after_modules, after_tick, answer_at}
use Rattle.eg_answer.specs.Modules.{modules_before_react, AllRun, NoneRuns}
use Rattle.eg_level2.specs.FlowLaws.{at_react, WholeTick, EmptyTick, MarkStays, IsFlow, TwoFlows, ReactClears}
use Rattle.eg_level2.proofs.TickSteps.{part, token_tells}

-- a part that a module leaves as it is
same_part : {A B : Type 0} (f : A → B) (b : Bool) (x y : A) → f x ≡ f y → f (if b then x else y) ≡ f y
same_part f true x y e = e
same_part f false x y e = refl

-- ---- the flow and the last tick ----

-- what modules 1 to 6 leave as it is
abbrev Leaves : Words → Words → Type 0
Leaves before after = (after.flow ≡ before.flow) × (after.last ≡ before.last)

leaves_if : (b : Bool) (before after : Words) → Leaves before after → Leaves before (if b then after else before)
leaves_if true before after left = left
leaves_if false before after left = (refl, refl)

leaves_step : (d : Doing) (i : ℕ) (w : Words) → i < 6 → Leaves w (after_module d (suc i) w)
unfolding after_module module_step pedal_step permitted_step actual_step excess_step pairs_step debounce_step
leaves_step d zero w h = leaves_if (d.ran 1) w _ (refl, refl)
leaves_step d (suc zero) w h = leaves_if (d.ran 2) w _ (refl, refl)
leaves_step d (suc (suc zero)) w h = leaves_if (d.ran 3) w _ (refl, refl)
leaves_step d (suc (suc (suc zero))) w h = leaves_if (d.ran 4) w _ (refl, refl)
leaves_step d (suc (suc (suc (suc zero)))) w h = leaves_if (d.ran 5) w _ (refl, refl)
leaves_step d (suc (suc (suc (suc (suc zero))))) w h = leaves_if (d.ran 6) w _ (refl, refl)
leaves_step d (suc (suc (suc (suc (suc (suc i)))))) w h = absurd (omega arith)

-- as check left it
checked : (d : Doing) (w : Words) (n : ℕ) → n ≤ 6 → Leaves (after_module d 0 w) (after_modules d (suc n) w)
unfolding after_modules
checked d w zero h = (refl, refl)
checked d w (suc n) h =
    let step = leaves_step d n (after_modules d (suc n) w) (omega arith) in
    let before = checked d w n (omega arith) in
    (step.0 ∙ before.0, step.1 ∙ before.1)

pub flow-at_react : (d : Doing) (w : Words) → (at_react d w).flow ≡ (after_module d 0 w).flow
flow-at_react d w = (checked d w 6 (omega arith)).0

-- the flow after check, whatever a word of it is
check-any : (d : Doing) (w : Words) → (after_module d 0 w).flow
    ≡ (if d.ran 0 then (if d.differs then 33023 else if (w.last + 1) % 65536 == d.tick then w.flow else marked w.flow) else w.flow)
unfolding after_module module_step check_step inputs_for given_up
check-any d w =
    part (λ (w : Words). w.flow) (d.ran 0) _ w
    ∙ ap (λ n. if d.ran 0 then n else w.flow) (part (λ (w : Words). w.flow) d.differs _ _)

check-flow : (d : Doing) (w : Words) → d.differs ≡ false → d.ran 0 ≡ true →
    (after_module d 0 w).flow ≡ (if (w.last + 1) % 65536 == d.tick then w.flow else marked w.flow)
check-flow d w e r = check-any d w ∙ rw (e, r) refl

check-last : (d : Doing) (w : Words) → d.differs ≡ false → d.ran 0 ≡ true → (after_module d 0 w).last ≡ d.tick
unfolding after_module module_step check_step inputs_for
check-last d w e r = rw (e, r) refl

-- ---- react ----

-- the tick's words are those that react leaves
after_tick-is : (d : Doing) (w : Words) → after_tick d w ≡ after_module d 7 (at_react d w)
unfolding after_tick after_modules
after_tick-is d w = refl

react-token : (d : Doing) (w : Words) → d.ran 7 ≡ true → (after_module d 7 w).token ≡ 0
unfolding after_module module_step react_step
react-token d w r = rw r refl

react-last : (d : Doing) (w : Words) → (after_module d 7 w).last ≡ w.last
unfolding after_module module_step react_step
react-last d w = same_part (λ (w : Words). w.last) (d.ran 7) _ w refl

pub last-after : (d : Doing) (w : Words) → d.differs ≡ false → d.ran 0 ≡ true → (after_tick d w).last ≡ d.tick
last-after d w e r = ap (λ (w : Words). w.last) (after_tick-is d w) ∙ react-last d (at_react d w) ∙ (checked d w 6 (omega arith)).1 ∙ check-last d w e r

pub react_clears : ReactClears
react_clears d w r = ap (λ (w : Words). w.token) (after_tick-is d w) ∙ react-token d (at_react d w) r

react-flow : (d : Doing) (w : Words) → (after_module d 7 w).flow ≡ (if d.ran 7 then (if answers_now d.phase w then 255 else closed_flow w) else w.flow)
unfolding after_module module_step react_step inputs_for
react-flow d w = part (λ (w : Words). w.flow) (d.ran 7) _ w

-- whether an answer is sent
pub answers : (d : Doing) (w : Words) → is_some (answer_at d w) ≡ (d.ran 7 && answers_now d.phase (at_react d w))
unfolding answer_at answer_of
answers d w = cases (d.ran 7) (answers_now d.phase (at_react d w))
  where
    cases : (r s : Bool) → is_some (if r then (if s then Some (number_of (at_react d w)) else None) else None) ≡ (r && s)
    cases true true = refl
    cases true false = refl
    cases false s = refl

-- the flow after a tick, by whether it sent an answer
pub flow-after : (d : Doing) (w : Words) → (after_tick d w).flow ≡ (if is_some (answer_at d w) then 255 else if d.ran 7 then closed_flow (at_react d w) else (at_react d w).flow)
flow-after d w =
    ap (λ (w : Words). w.flow) (after_tick-is d w) ∙ react-flow d (at_react d w)
    ∙ cases (closed_flow (at_react d w)) (at_react d w).flow (d.ran 7) (answers_now d.phase (at_react d w))
    ∙ ap (λ b. if b then 255 else if d.ran 7 then closed_flow (at_react d w) else (at_react d w).flow) (sym (answers d w))
  where
    cases : (x y : ℕ) (r s : Bool) → (if r then (if s then 255 else x) else y) ≡ (if r && s then 255 else if r then x else y)
    cases x y true s = refl
    cases x y false s = refl

-- where react doesn't run nothing is sent
pub silent : (d : Doing) (w : Words) → d.ran 7 ≡ false → answer_at d w ≡ None
unfolding answer_at
silent d w r = rw r refl

-- the number that is sent is that of the words as react begins
pub answer-is : (d : Doing) (w : Words) → is_some (answer_at d w) ≡ true → answer_at d w ≡ Some (number_of (at_react d w))
unfolding answer_at answer_of
answer-is d w s = cases (d.ran 7) (answers_now d.phase (at_react d w)) s
  where
    cases : (r b : Bool) → is_some (if r then (if b then Some (number_of (at_react d w)) else None) else None) ≡ true
        → (if r then (if b then Some (number_of (at_react d w)) else None) else None) ≡ Some (number_of (at_react d w))
    cases true true s = refl
    cases true false s = absurd (let e : false ≡ true = s in cc)
    cases false b s = absurd (let e : false ≡ true = s in cc)

-- ---- the laws of a tick ----

by_token : (w : Words) (whole : Bool) → (next_token_of w.token 7 == 255) ≡ whole → closed_flow w ≡ (if whole then w.flow else marked w.flow)
unfolding closed_flow
by_token w whole e = rw e refl

-- as react closes the flow is marked where the token isn't whole
pub closed-flow : (d : Doing) (w : Words) → d.differs ≡ false → w.token ≡ 0 →
    closed_flow (at_react d w) ≡ (if list_all (λ i. d.ran i) modules_before_react then (at_react d w).flow else marked (at_react d w).flow)
closed-flow d w e z = by_token (at_react d w) _ (token_tells d w e z)

all_before : (d : Doing) → AllRun d.ran → list_all (λ i. d.ran i) modules_before_react ≡ true
unfolding modules_before_react
all_before d a = rw (a 0, a 1, a 2, a 3, a 4, a 5, a 6) refl

pub whole_tick : WholeTick
whole_tick d w a e z = record {
  flow = closed-flow d w e z ∙ ap (λ b. if b then (at_react d w).flow else marked (at_react d w).flow) (all_before d a) ∙ flow-at_react d w ∙ check-flow d w e (a 0);
  token = react_clears d w (a 7);
  last = last-after d w e (a 0);
}

stays : (d : Doing) (w : Words) → NoneRuns d.ran → after_tick d w ≡ w
unfolding after_tick after_modules after_module
stays d w n = rw (n 0, n 1, n 2, n 3, n 4, n 5, n 6, n 7) refl

pub empty_tick : EmptyTick
empty_tick d w n = (stays d w n, silent d w (n 7))

pub marked-high : (flow : ℕ) → 32768 ≤ marked flow
unfolding marked
marked-high flow = le_or_r flow 32768

either : (n x y : ℕ) (b : Bool) → n ≤ x → n ≤ y → n ≤ (if b then x else y)
either n x y true h k = h
either n x y false h k = k

react_marks : (d : Doing) (w : Words) → 32768 ≤ w.flow → 32768 ≤ (at_react d w).flow
react_marks d w h =
    let n : ℕ = 32768 in
    let kept = either n w.flow (marked w.flow) ((w.last + 1) % 65536 == d.tick) h (marked-high w.flow) in
    rw (flow-at_react d w, check-any d w) (either n _ w.flow (d.ran 0) (either n 33023 _ d.differs (omega arith) kept) h)

closed_marks : (w : Words) → 32768 ≤ w.flow → 32768 ≤ closed_flow w
unfolding closed_flow
closed_marks w h = either 32768 w.flow (marked w.flow) (next_token_of w.token 7 == 255) h (marked-high w.flow)

pub mark_stays : MarkStays
mark_stays d w h =
    let before = react_marks d w h in
    let closed = closed_marks (at_react d w) before in
    (closed, λ none. rw (flow-after d w, none) (either 32768 (closed_flow (at_react d w)) (at_react d w).flow (d.ran 7) closed before))

-- ---- two flows ----

one_of : (b : Bool) (x y : ℕ) → IsFlow x → IsFlow y → IsFlow (if b then x else y)
one_of true x y h k = h
one_of false x y h k = k

marked_flow : (flow : ℕ) → IsFlow flow → IsFlow (marked flow)
unfolding marked
marked_flow flow (inl e) = inr (rw e refl)
marked_flow flow (inr e) = inr (rw e refl)

react_flow : (d : Doing) (w : Words) → IsFlow w.flow → IsFlow (at_react d w).flow
react_flow d w h =
    let kept = one_of ((w.last + 1) % 65536 == d.tick) w.flow (marked w.flow) h (marked_flow w.flow h) in
    subst IsFlow (sym (flow-at_react d w ∙ check-any d w)) (one_of (d.ran 0) _ w.flow (one_of d.differs 33023 _ (inr refl) kept) h)

closed_two : (w : Words) → IsFlow w.flow → IsFlow (closed_flow w)
unfolding closed_flow
closed_two w h = one_of (next_token_of w.token 7 == 255) w.flow (marked w.flow) h (marked_flow w.flow h)

pub two_flows : TwoFlows
two_flows d w h =
    let before = react_flow d w h in
    let closed = closed_two (at_react d w) before in
    (closed, subst IsFlow (sym (flow-after d w)) (one_of (is_some (answer_at d w)) 255 _ (inl refl) (one_of (d.ran 7) (closed_flow (at_react d w)) (at_react d w).flow closed before)))
