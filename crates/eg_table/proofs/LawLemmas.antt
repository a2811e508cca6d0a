-- What a fault does at a tick isn't nothing exactly if the definition says that it has an effect.
use Rattle.std.proofs.Common.{◌≡◌, ◌≢◌, ◌∙◌, ℕ, ◌-◌, inl, inr, Bool, true, false, ◌&&◌, Some, None, sym, ap}
use Rattle.std.specs.Prelude.{Option}
use Rattle.std.proofs.lemmas.Bool.{cases_lt, cases_Bool, and_parts, le-leb, leb-true, true≢false}
use Rattle.eg_fault.specs.Effects.{no_effects}
use Rattle.eg_fault.specs.Faults.{effects, has_effect, IsValid}
use Rattle.eg_fault.specs.declared.class.Fault.{Fault}
use Rattle.eg_fault.proofs.ActingLemmas.{before_onset, from_onset}
use Rattle.eg_fault.proofs.ClassLemmas.{others_do_nothing, effects_do_something}
use Rattle.eg_table.specs.Acting.{acts_at, acts_within, has_acted}
use Rattle.eg_table.specs.Laws.{DoesSomething, DoesNothing, ActedLaw, UnactedLaw}
use Rattle.eg_table.proofs.CountLemmas.{some_below, which_below}

-- ---- tick by tick ----

tick_nothing : (fault : Fault) (tick : ℕ) → acts_at fault tick ≡ false → effects (Some fault) tick ≡ no_effects
unfolding acts_at
tick_nothing fault tick none = elim (cases_lt tick fault.onset) [
  | inl early ↦ before_onset fault tick early
  | inr late ↦ from_onset fault tick late ∙ others_do_nothing fault.class (tick - fault.onset)
      (sym (ap (λ b. b && has_effect fault.class (tick - fault.onset)) (le-leb fault.onset tick late)) ∙ none)
]

tick_something : (fault : Fault) → IsValid fault → (tick : ℕ) → acts_at fault tick ≡ true → effects (Some fault) tick ≢ no_effects
unfolding acts_at
tick_something fault valid tick acts same =
    let parts = and_parts _ _ acts in
    let late = leb-true fault.onset tick parts.0 in
    effects_do_something fault.class (tick - fault.onset) valid.1 parts.1 (sym (from_onset fault tick late) ∙ same)

-- ---- over a run ----

given : (b c : Bool) → Some b ≡ Some c → b ≡ c
given b c is = ap (λ (o : Option Bool). told o) is
  where
    told : Option Bool → Bool
    told None = b
    told (Some d) = d

within : (fault : Fault) → IsValid fault → (n : ℕ) → acts_within fault n ≡ true → DoesSomething fault n
unfolding acts_within
within fault valid n acts =
    let found = which_below (acts_at fault) n acts in
    (found.0, found.1, tick_something fault valid found.0 found.2)

without : (fault : Fault) (n : ℕ) → acts_within fault n ≡ false → DoesNothing fault n
unfolding acts_within
without fault n none tick below = elim (cases_Bool (acts_at fault tick)) [
  | inl acts ↦ absurd (true≢false (sym (some_below (acts_at fault) n tick below acts) ∙ none))
  | inr rests ↦ tick_nothing fault tick rests
]

pub acted_law : ActedLaw
unfolding has_acted
acted_law fault valid n = (
  λ acted. within fault valid n (given _ _ acted),
  λ acting. elim (cases_Bool (acts_within fault n)) [
    | inl acts ↦ ap Some acts
    | inr rests ↦ absurd (acting.2 (without fault n rests acting.0 acting.1))
  ],
)

pub unacted_law : UnactedLaw
unfolding has_acted
unacted_law fault valid n = (
  λ rested. without fault n (given _ _ rested),
  λ nothing. elim (cases_Bool (acts_within fault n)) [
    | inl acts ↦ absurd (let acting = within fault valid n acts in acting.2 (nothing acting.0 acting.1))
    | inr rests ↦ ap Some rests
  ],
)
