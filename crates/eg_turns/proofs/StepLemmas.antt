-- What the eight modules of a tick order, answer and find, joined: react's order and answer, debounce's watches,
-- and the mirror of module 0.
use Rattle.std.proofs.Common.{◌≡◌, ◌∙◌, refl, ap, ap₂, ℕ, zero, suc, ◌+◌, ◌&&◌, ◌||◌, Bool, true, false, arith}
use Rattle.std.specs.Prelude.{if◌then◌else◌, Option, Some, None}
use Rattle.std.specs.Option.{option_or}
use Rattle.eg_num.specs.declared.watches.Watches.{Watches}
use Rattle.eg_answer.specs.declared.rules.Rules.{Rules}
use Rattle.eg_level2.specs.declared.phase.Phase.{Phase}
use Rattle.eg_level2.specs.declared.step.Step.{Step}
use Rattle.eg_level2.specs.Words.{Words}
use Rattle.eg_level2.specs.Modules.{step_of, answer_after, order_after, found_by, answer_of, opens_now, debounced, no_watches, mirror_alone, finding, quiet_step}
use Rattle.eg_level2.specs.Ticks.{Doing, inputs_for, after_modules, answer_at, orders_at, finds_at}
use Rattle.eg_turns.specs.Inner.Midway.{step_at, found_in_both, joined}
use Rattle.eg_turns.specs.Midway.{tick_step}

-- ---- one module more ----

-- what the first modules of level 2, this many, order, answer and find, where the words before the tick are
-- these
unfoldable pub steps_at : Doing → ℕ → Words → Step
steps_at d zero words = quiet_step
steps_at d (suc i) words = joined (steps_at d i words) (step_at d i words)

pub steps-begin : (d : Doing) (words : Words) → quiet_step ≡ steps_at d 0 words
unfolding steps_at
steps-begin d words = refl

pub steps-more : (d : Doing) (words : Words) (j : ℕ) (whole step : Step) → whole ≡ steps_at d j words → step ≡ step_at d j words
    → joined whole step ≡ steps_at d (j + 1) words
unfolding steps_at
steps-more d words j whole step so_far now =
    ap₂ joined so_far now ∙ ap (λ n. steps_at d n words) (let one_more : suc j ≡ j + 1 = omega arith in one_more)

-- ---- what is joined ----

or-false : (b : Bool) → (b || false) ≡ b
or-false true = refl
or-false false = refl

or-none : (answer : Option ℕ) → option_or answer None ≡ answer
or-none None = refl
or-none (Some number) = refl

found-more : (found : Watches) → found_in_both found no_watches ≡ found
unfolding found_in_both no_watches
found-more found = λ k. record {
  mirror = or-false found.mirror k;
  pedal = or-false found.pedal k;
  plate = or-false found.plate k;
  load = or-false found.load k;
  speed = or-false found.speed k;
  torque = or-false found.torque k;
  answers = or-false found.answers k;
  start = or-false found.start k;
}

-- a step that neither orders nor answers nor finds anything adds nothing
pub quiet-after : (first : Step) → joined first quiet_step ≡ first
unfolding joined
quiet-after first = λ k. record {
  open_path = or-false first.open_path k;
  answer = or-none first.answer k;
  found = found-more first.found k;
}

-- ---- the modules by their numbers ----

quiet-either : (test : Bool) → (if test then quiet_step else quiet_step) ≡ quiet_step
quiet-either true = refl
quiet-either false = refl

-- modules 1 to 5 do nothing of the kind
step-1 : (d : Doing) (words : Words) → step_at d 1 words ≡ quiet_step
unfolding step_at step_of answer_after order_after found_by
step-1 d words = quiet-either (d.ran 1)

step-2 : (d : Doing) (words : Words) → step_at d 2 words ≡ quiet_step
unfolding step_at step_of answer_after order_after found_by
step-2 d words = quiet-either (d.ran 2)

step-3 : (d : Doing) (words : Words) → step_at d 3 words ≡ quiet_step
unfolding step_at step_of answer_after order_after found_by
step-3 d words = quiet-either (d.ran 3)

step-4 : (d : Doing) (words : Words) → step_at d 4 words ≡ quiet_step
unfolding step_at step_of answer_after order_after found_by
step-4 d words = quiet-either (d.ran 4)

step-5 : (d : Doing) (words : Words) → step_at d 5 words ≡ quiet_step
unfolding step_at step_of answer_after order_after found_by
step-5 d words = quiet-either (d.ran 5)

after-quiet : (first next : Step) → next ≡ quiet_step → joined first next ≡ first
after-quiet first next quiet = ap (joined first) quiet ∙ quiet-after first

steps-1 : (d : Doing) (words : Words) → steps_at d 1 words ≡ (if d.ran 0 then (if d.differs then finding mirror_alone else quiet_step) else quiet_step)
unfolding steps_at joined found_in_both no_watches step_at step_of answer_after order_after found_by
steps-1 d words = refl

steps-6 : (d : Doing) (words : Words) → steps_at d 6 words ≡ steps_at d 1 words
unfolding steps_at
steps-6 d words =
    after-quiet (steps_at d 5 words) (step_at d 5 words) (step-5 d words)
    ∙ after-quiet (steps_at d 4 words) (step_at d 4 words) (step-4 d words)
    ∙ after-quiet (steps_at d 3 words) (step_at d 3 words) (step-3 d words)
    ∙ after-quiet (steps_at d 2 words) (step_at d 2 words) (step-2 d words)
    ∙ after-quiet (steps_at d 1 words) (step_at d 1 words) (step-1 d words)

-- debounce's watches come beside the mirror
with-mirror : (ran differs late : Bool) (rules : Rules) (phase : Phase) (words : Words)
    → joined (if ran then (if differs then finding mirror_alone else quiet_step) else quiet_step) (if late then finding (debounced rules phase words) else quiet_step)
    ≡ finding (let found = if late then debounced rules phase words else no_watches in record found { mirror = ran && differs })
unfolding joined found_in_both mirror_alone no_watches debounced
with-mirror true true true rules phase words = refl
with-mirror true true false rules phase words = refl
with-mirror true false true rules phase words = refl
with-mirror true false false rules phase words = refl
with-mirror false differs true rules phase words = refl
with-mirror false differs false rules phase words = refl

-- react's order and answer come last
with-react : (ran trip : Bool) (answer : Option ℕ) (found : Watches)
    → joined (finding found) (if ran then record { open_path = trip; answer = answer; found = no_watches } else quiet_step)
    ≡ record { open_path = ran && trip; answer = if ran then answer else None; found = found }
unfolding joined
with-react true trip answer found = λ k. record { open_path = trip; answer = answer; found = found-more found k }
with-react false trip answer found = λ k. record { open_path = false; answer = None; found = found-more found k }

-- ---- all eight ----

step-6 : (d : Doing) (words : Words) → step_at d 6 words ≡ (if d.ran 6 then finding (debounced d.rules d.phase (after_modules d 6 words)) else quiet_step)
unfolding step_at step_of answer_after order_after found_by inputs_for
step-6 d words = refl

step-7 : (d : Doing) (words : Words) → step_at d 7 words
    ≡ (if d.ran 7
    then record {
      open_path = opens_now d.phase (after_modules d 7 words);
      answer = answer_of d.phase (after_modules d 7 words);
      found = no_watches;
    }
    else quiet_step)
unfolding step_at step_of answer_after order_after found_by inputs_for
step-7 d words = refl

steps-7 : (d : Doing) (words : Words) → steps_at d 7 words ≡ finding (finds_at d words)
unfolding steps_at finds_at
steps-7 d words =
    ap₂ joined (steps-6 d words ∙ steps-1 d words) (step-6 d words)
    ∙ with-mirror (d.ran 0) d.differs (d.ran 6) d.rules d.phase (after_modules d 6 words)

pub steps-all : (d : Doing) (words : Words) → steps_at d 8 words ≡ tick_step d words
unfolding steps_at tick_step orders_at answer_at
steps-all d words =
    ap₂ joined (steps-7 d words) (step-7 d words)
    ∙ with-react (d.ran 7) (opens_now d.phase (after_modules d 7 words)) (answer_of d.phase (after_modules d 7 words)) (finds_at d words)
