-- Steady words: which ticks keep them, and what they answer.
use Rattle.std.proofs.Common.{◌≡◌, ℕ, suc, ◌+◌, ◌*◌, ◌%◌, ◌≤◌, ◌<◌, ◌⊎◌, inl, inr, Bool, true, false, ◌&&◌, ◌||◌, [], ◌∷◌, length, refl, sym, ap, subst, ◌∙◌, arith, is_some}
use Rattle.std.specs.Prelude.{if◌then◌else◌, ◌==◌}
use Rattle.std.specs.List.{list_all}
use Rattle.std.proofs.lemmas.List.Folds.{list_all_at, list_all-append}
use Rattle.std.proofs.lemmas.Bool.{eq-eqb, ne_eqb, cases_lt}
use Rattle.std.proofs.lemmas.Bool.Decides.{eqb_tells}
use Rattle.eg_answer.specs.Answers.{answer_number}
use Rattle.eg_level2.specs.Words.{Words, start}
use Rattle.eg_level2.specs.Modules.{marked, closed_flow, number_of}
use Rattle.eg_level2.specs.Ticks.{Doing, after_tick, answer_at}
use Rattle.eg_answer.specs.Modules.{modules_before_react, modules, AllRun, NoneRuns, OthersRun}
use Rattle.eg_level2.specs.Flow.{is_whole, row_asked, expected_fold, expected_number, FitsWords, AreInOrder, AreTogether, words_after, whole_after, whole_since, IsSteady}
use Rattle.eg_level2.specs.FlowLaws.{at_react, NumberTells, SteadyStays, SteadyAnswers, GapAnswers, SteadyFromStart}
use Rattle.eg_level2.proofs.FlowSteps.{whole_tick, empty_tick, closed-flow, marked-high, flow-after}
use Rattle.eg_level2.proofs.TickSteps.{before-is}
use Rattle.eg_level2.proofs.FoldSteps.{fold_tells, expected-word}

-- ---- the number ----

number_by : (flow sign fold : ℕ) → sign < 65536 → fold < 65536 → (flow * 65536 + sign == 255 * 65536 + fold) ≡ (flow == 255 && sign == fold)
number_by flow sign fold s f = cases (eqb_tells flow 255) (eqb_tells sign fold)
  where
    cases : (((flow == 255) ≡ true) × (flow ≡ 255)) ⊎ (((flow == 255) ≡ false) × (flow ≡ 255 → ⊥))
        → (((sign == fold) ≡ true) × (sign ≡ fold)) ⊎ (((sign == fold) ≡ false) × (sign ≡ fold → ⊥))
        → (flow * 65536 + sign == 255 * 65536 + fold) ≡ (flow == 255 && sign == fold)
    cases (inl a) (inl b) = let x = a.1 in let y = b.1 in eq-eqb _ _ (omega arith) ∙ rw (a.0, b.0) refl
    cases (inl a) (inr b) = let x = a.1 in ne_eqb _ _ (λ e. b.1 (omega arith)) ∙ rw (a.0, b.0) refl
    cases (inr a) c = ne_eqb _ _ (λ e. a.1 (omega arith)) ∙ rw a.0 refl

pub number_tells : NumberTells
unfolding number_of expected_number answer_number
number_tells d w fits word = number_by (closed_flow w) w.sign (expected_fold d) word (expected-word d fits)

-- with a flow that is marked the number isn't the expected one
marked_number : (d : Doing) (w : Words) → FitsWords d.rules (row_asked d) → 32768 ≤ closed_flow w → (number_of w == expected_number d) ≡ false
unfolding number_of expected_number answer_number
marked_number d w fits high = let word = expected-word d fits in ne_eqb _ _ (λ e. omega arith)

-- with a flow that is unmarked the number is the expected one exactly if the fold is
unmarked_number : (d : Doing) (w : Words) → closed_flow w ≡ 255 → (number_of w == expected_number d) ≡ (w.sign == expected_fold d)
unfolding number_of expected_number answer_number
unmarked_number d w e = cases (eqb_tells w.sign (expected_fold d))
  where
    cases : (((w.sign == expected_fold d) ≡ true) × (w.sign ≡ expected_fold d)) ⊎ (((w.sign == expected_fold d) ≡ false) × (w.sign ≡ expected_fold d → ⊥))
        → (closed_flow w * 65536 + w.sign == 255 * 65536 + expected_fold d) ≡ (w.sign == expected_fold d)
    cases (inl a) = let x = a.1 in eq-eqb _ _ (omega arith) ∙ sym a.0
    cases (inr a) = ne_eqb _ _ (λ q. a.1 (omega arith)) ∙ sym a.0

-- ---- the flow of steady words ----

steady_flow : (flow x made : ℕ) (whole : Bool) → (flow ≡ 255) ⊎ (flow ≡ 33023) → (flow == 255 && x == made) ≡ whole
    → (if x == made then flow else marked flow) ≡ (if whole then 255 else 33023)
unfolding marked
steady_flow flow x made whole (inl e) t = cases (x == made) (sym t ∙ rw e refl)
  where
    cases : (b : Bool) → whole ≡ b → (if b then flow else marked flow) ≡ (if whole then 255 else 33023)
    cases true q = rw (q, e) refl
    cases false q = rw (q, e) refl
steady_flow flow x made whole (inr e) t = cases (x == made) (sym t ∙ rw e refl)
  where
    cases : (b : Bool) → whole ≡ false → (if b then flow else marked flow) ≡ (if whole then 255 else 33023)
    cases true q = rw (q, e) refl
    cases false q = rw (q, e) refl

-- what is sent with it, where all modules run
sent_flow : (d : Doing) (w : Words) (whole : Bool) → d.differs ≡ false → AllRun d.ran → IsSteady d.tick whole w → closed_flow (at_react d w) ≡ (if whole then 255 else 33023)
sent_flow d w whole e all steady =
    (whole_tick d w all e steady.token).flow ∙ steady_flow w.flow ((w.last + 1) % 65536) d.tick whole steady.flow steady.tells

pub all_told : (d : Doing) → AllRun d.ran → is_whole d ≡ true
unfolding is_whole modules_before_react modules
all_told d a = rw (a 0, a 1, a 2, a 3, a 4, a 5, a 6, a 7) refl

none_whole : (d : Doing) → NoneRuns d.ran → is_whole d ≡ false
unfolding is_whole modules_before_react modules
none_whole d n = rw (n 0) refl

two_flows : (sent whole : Bool) (flow : ℕ) → flow ≡ (if sent then 255 else if whole then 255 else 33023) → (flow ≡ 255) ⊎ (flow ≡ 33023)
two_flows true whole flow e = inl e
two_flows false true flow e = inl e
two_flows false false flow e = inr e

told_again : (sent whole : Bool) (flow x made : ℕ) → flow ≡ (if sent then 255 else if whole then 255 else 33023) → x ≡ made
    → (flow == 255 && x == made) ≡ (sent || whole)
told_again true whole flow x made e q = rw e (eq-eqb x made q)
told_again false true flow x made e q = rw e (eq-eqb x made q)
told_again false false flow x made e q = rw e refl

whole_stays : (d : Doing) (w : Words) (whole : Bool) → d.tick < 65535 → d.differs ≡ false → AllRun d.ran → IsSteady d.tick whole w
    → IsSteady (suc d.tick) (whole_after d w whole) (after_tick d w)
whole_stays d w whole small e all steady =
    let through = whole_tick d w all e steady.token in
    let flow : (after_tick d w).flow ≡ (if is_some (answer_at d w) then 255 else if whole then 255 else 33023)
    = flow-after d w ∙ rw (all 7, sent_flow d w whole e all steady) refl in
    let last : (after_tick d w).last ≡ d.tick = through.last in
    let next : ((after_tick d w).last + 1) % 65536 ≡ suc d.tick = omega arith in
    record {
      token = through.token;
      flow = two_flows (is_some (answer_at d w)) whole _ flow;
      near = omega arith;
      tells = told_again (is_some (answer_at d w)) whole _ _ (suc d.tick) flow next ∙ unfold whole_after in rw (all_told d all) refl;
    }

apart : (unmarked : Bool) (x made : ℕ) → x ≤ made → (unmarked && x == suc made) ≡ false
apart true x made h = ne_eqb x (suc made) (λ e. omega arith)
apart false x made h = refl

none_stays : (d : Doing) (w : Words) (whole : Bool) → NoneRuns d.ran → IsSteady d.tick whole w → IsSteady (suc d.tick) (whole_after d w whole) (after_tick d w)
unfolding whole_after
none_stays d w whole none steady =
    rw ((empty_tick d w none).0, (empty_tick d w none).1, none_whole d none)
    (record {
      token = steady.token;
      flow = steady.flow;
      near = let h = steady.near in omega arith;
      tells = apart (w.flow == 255) ((w.last + 1) % 65536) d.tick steady.near;
    })

pub steady_stays : SteadyStays
steady_stays d w whole small e (inl all) steady = whole_stays d w whole small e all steady
steady_stays d w whole small e (inr none) steady = none_stays d w whole none steady

-- ---- what they answer ----

pub steady_answers : SteadyAnswers
steady_answers d w true e all fits most steady =
    unmarked_number d (at_react d w) (sent_flow d w true e all steady) ∙ fold_tells d w all e fits most
steady_answers d w false e all fits most steady =
    let flow : closed_flow (at_react d w) ≡ 33023 = sent_flow d w false e all steady in
    marked_number d (at_react d w) fits (omega arith)

-- a module before react that is left out
gap_told : (d : Doing) (one : ℕ) → one < 7 → OthersRun one d.ran → list_all (λ i. d.ran i) modules_before_react ≡ false
gap_told d one h o =
    list_all_at (λ i. d.ran i) modules_before_react one 0 (unfold modules_before_react in h) (ap d.ran (before-is one h) ∙ o one ∙ rw (eq-eqb one one refl) refl)

-- any module that is left out
pub out_told : (d : Doing) (one : ℕ) → one < 8 → OthersRun one d.ran → is_whole d ≡ false
unfolding is_whole modules
out_told d one h o = elim (cases_lt one 7) [
  | inl before ↦ list_all-append (λ i. d.ran i) modules_before_react (7 ∷ []) ∙ rw (gap_told d one before o) refl
  | inr last ↦ let is : one ≡ 7 = omega arith in list_all-append (λ i. d.ran i) modules_before_react (7 ∷ []) ∙ rw (o 7, is) (cases (list_all (λ i. d.ran i) modules_before_react))
]
  where
    cases : (b : Bool) → (b && false) ≡ false
    cases true = refl
    cases false = refl

pub gap_answers : GapAnswers
gap_answers d w one e others below fits z =
    let flow : closed_flow (at_react d w) ≡ marked (at_react d w).flow = closed-flow d w e z ∙ rw (gap_told d one below others) refl in
    marked_number d (at_react d w) fits (rw flow (marked-high (at_react d w).flow))

-- ---- from the start on ----

pub start_steady : IsSteady 0 true start
unfolding start
start_steady = record { token = refl; flow = inl refl; near = omega arith; tells = refl }

next_steady : (d : Doing) (w : Words) (whole : Bool) (made : ℕ) → d.tick ≡ made → made < 65535 → d.differs ≡ false → AllRun d.ran ⊎ NoneRuns d.ran → IsSteady made whole w
    → IsSteady (suc made) (whole_after d w whole) (after_tick d w)
next_steady d w whole made e small same runs steady =
    subst (λ n. IsSteady (suc n) (whole_after d w whole) (after_tick d w)) e
    (steady_stays d w whole (omega arith) same runs (subst (λ n. IsSteady n whole w) (sym e) steady))

pub steady_from_start : SteadyFromStart
unfolding words_after whole_since AreInOrder AreTogether
steady_from_start [] small order together = start_steady
steady_from_start (d ∷ before) small order together =
    next_steady d (words_after start before) (whole_since start before) (length before) order.0 (omega arith) together.1 together.0
    (steady_from_start before (omega arith) order.1 together.2)
