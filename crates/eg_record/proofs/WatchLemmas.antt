-- The first watch that is found: it is found, and none that stands before it in the order.
use Rattle.std.proofs.Common.{◌≡◌, ◌∙◌, ◌∷◌, [], ◌+◌, ◌<◌, inl, inr, List, ℕ, Bool, true, false, None, Some, cond, get_or, length, refl, sym, ap, subst, arith}
use Rattle.std.specs.Prelude.{Option}
use Rattle.std.specs.List.{find}
use Rattle.std.proofs.lemmas.Bool.{cases_Bool, cases_order, both_ways}
use Rattle.std.proofs.lemmas.Option.{none-some, same_Some}
use Rattle.eg_num.specs.declared.watches.Watches.{Watches}
use Rattle.eg_record.specs.declared.watch.Watch.{Watch}
use Rattle.eg_record.specs.declared.watch.Watch.TheVariants.{Mirror, Pedal, Plate, Load, Speed, Torque, Answers, Start}
use Rattle.eg_record.specs.Detection.{watches, is_found, first_watch, rank}

-- ---- the order ----

-- the watch at its place
watches-rank : (w : Watch) → get_or watches (rank w) Mirror ≡ w
unfolding rank
watches-rank Mirror = refl
watches-rank Pedal = refl
watches-rank Plate = refl
watches-rank Load = refl
watches-rank Speed = refl
watches-rank Torque = refl
watches-rank Answers = refl
watches-rank Start = refl

-- two watches don't share a place
rank-same : (v w : Watch) → rank v ≡ rank w → v ≡ w
rank-same v w same = sym (watches-rank v) ∙ ap (λ (n : ℕ). get_or watches n Mirror) same ∙ watches-rank w

rank_below : (w : Watch) → rank w < 8
unfolding rank
rank_below Mirror = omega arith
rank_below Pedal = omega arith
rank_below Plate = omega arith
rank_below Load = omega arith
rank_below Speed = omega arith
rank_below Torque = omega arith
rank_below Answers = omega arith
rank_below Start = omega arith

-- the watches of a list stand at the places from n on
abbrev StandFrom : ℕ → List Watch → Type 0
StandFrom n [] = Unit {0}
StandFrom n (w ∷ ws) = (rank w ≡ n) × StandFrom (n + 1) ws

-- ---- the first that passes ----

-- those before place n don't pass
abbrev pub NoneBefore : (Watch → Bool) → ℕ → Type 0
NoneBefore p n = (w : Watch) → rank w < n → p w ≡ false

NoneBefore-more : (p : Watch → Bool) (n : ℕ) (v : Watch) → rank v ≡ n → p v ≡ false → NoneBefore p n → NoneBefore p (n + 1)
NoneBefore-more p n v here fails none w below = elim (cases_order (rank w) n) [
  | inl same ↦ ap p (rank-same w v (same ∙ sym here)) ∙ fails
  | inr (inl earlier) ↦ none w earlier
  | inr (inr later) ↦ absurd (omega arith)
]

find-first : (p : Watch → Bool) (n : ℕ) (ws : List Watch) (w : Watch) → StandFrom n ws → NoneBefore p n → find p ws ≡ Some w → (p w ≡ true) × NoneBefore p (rank w)
find-first p n [] w stand none first = absurd (none-some w first)
find-first p n (v ∷ ws) w stand none first = elim (cases_Bool (p v)) [
  | inl passes ↦ (let same : v ≡ w = same_Some v w (sym (ap (λ (b : Bool). cond b (Some v) (find p ws)) passes) ∙ first) in
      (ap p (sym same) ∙ passes, subst (NoneBefore p) (sym stand.0 ∙ ap rank same) none))
  | inr fails ↦ find-first p (n + 1) ws w stand.1 (NoneBefore-more p n v stand.0 fails none) (sym (ap (λ (b : Bool). cond b (Some v) (find p ws)) fails) ∙ first)
]

find-none : (p : Watch → Bool) (n : ℕ) (ws : List Watch) (end : ℕ) → n + length ws ≡ end → StandFrom n ws → NoneBefore p n → find p ws ≡ None → NoneBefore p end
find-none p n [] end upto stand none nothing = subst (NoneBefore p) (let e : n ≡ end = omega arith in e) none
find-none p n (v ∷ ws) end upto stand none nothing = elim (cases_Bool (p v)) [
  | inl passes ↦ absurd (none-some v (sym nothing ∙ ap (λ (b : Bool). cond b (Some v) (find p ws)) passes))
  | inr fails ↦ find-none p (n + 1) ws end (omega arith) stand.1 (NoneBefore-more p n v stand.0 fails none) (sym (ap (λ (b : Bool). cond b (Some v) (find p ws)) fails) ∙ nothing)
]

-- ---- the first watch ----

watches-stand : StandFrom 0 watches
unfolding rank
watches-stand = (refl, (refl, (refl, (refl, (refl, (refl, (refl, (refl, tt))))))))

none_at_first : (p : Watch → Bool) → NoneBefore p 0
none_at_first p w below = absurd (omega arith)

-- what the first watch tells
pub first_watch-some : (found : Watches) (w : Watch) → first_watch found ≡ Some w → (is_found found w ≡ true) × NoneBefore (is_found found) (rank w)
unfolding first_watch
first_watch-some found w first = find-first (is_found found) 0 watches w watches-stand (none_at_first (is_found found)) first

pub first_watch-none : (found : Watches) → first_watch found ≡ None → (w : Watch) → is_found found w ≡ false
unfolding first_watch
first_watch-none found none w =
    find-none (is_found found) 0 watches 8 refl watches-stand (none_at_first (is_found found)) none w (rank_below w)

-- where none is found there is no first watch
pub first_watch-nothing : (found : Watches) → ((w : Watch) → is_found found w ≡ false) → first_watch found ≡ None
first_watch-nothing found none = nothing (first_watch found) (λ w first. both_ways (is_found found w) (none w) (first_watch-some found w first).0)
  where
    nothing : (first : Option Watch) → ((w : Watch) → first ≡ Some w → ⊥) → first ≡ None
    nothing None never = refl
    nothing (Some w) never = absurd (never w refl)

-- a watch that is found, where none before it is, is the first
pub first_watch-is : (found : Watches) (w : Watch) → is_found found w ≡ true → NoneBefore (is_found found) (rank w) → first_watch found ≡ Some w
first_watch-is found w here none = cases (first_watch found) (first_watch-none found) (first_watch-some found)
  where
    cases : (first : Option Watch) → (first ≡ None → (v : Watch) → is_found found v ≡ false) → ((v : Watch) → first ≡ Some v → (is_found found v ≡ true) × NoneBefore (is_found found) (rank v)) → first ≡ Some w
    cases None nothing some = absurd (both_ways (is_found found w) (nothing refl w) here)
    cases (Some v) nothing some = elim (cases_order (rank v) (rank w)) [
      | inl same ↦ ap Some (rank-same v w same)
      | inr (inl earlier) ↦ absurd (both_ways (is_found found v) (none v earlier) (some v refl).0)
      | inr (inr later) ↦ absurd (both_ways (is_found found w) ((some v refl).1 w later) here)
    ]
