-- What the stores of a run make of the words, all of them or the first of them, and what is told then.
use Rattle.std.proofs.Common.{◌≡◌, ◌∙◌, refl, sym, subst, ℕ, zero, suc, ◌+◌, ◌<◌, ◌⊎◌, inl, inr, Bool, true, false, IsTrue, List, [], ◌∷◌, ◌++◌, take, arith}
use Rattle.std.specs.Prelude.{if◌then◌else◌, ◌==◌, ◌&&◌, ◌||◌, not}
use Rattle.eg_answer.specs.Token.{next_token_of}
use Rattle.eg_answer.specs.declared.rules.Rules.{Rules}
use Rattle.eg_level2.specs.declared.phase.Phase.{Phase}
use Rattle.eg_level2.specs.Words.{Words, named, words_of, word_at, AreMirrored, is_set, in_order, start}
use Rattle.eg_level2.specs.Inputs.{Inputs}
use Rattle.eg_level2.specs.Modules.{given_up, feeds_now, counted, is_found, debounced, limits, trips, check_step, pedal_step, permitted_step, actual_step, excess_step, pairs_step, debounce_step, react_step, module_step}
use Rattle.eg_level2.specs.Stores.{Store, store, put, both, both_where, both_from, after_stores, AreFirst}
use Rattle.eg_level2.specs.Order.{counters_of, check_stores, signal_stores, debounced_stores, debounce_stores, react_stores, stores_of, reset_stores, given_up_stores, TellsTrip}

-- ---- a trip that stands ----

-- no store takes a trip back
unfoldable keeps_trip : List Store → Bool
keeps_trip [] = true
keeps_trip (one ∷ rest) = (not (11 == one.number) || is_set one.value) && keeps_trip rest

and-left : (a b : Bool) → IsTrue (a && b) → IsTrue a
and-left true b e = refl
and-left false b e = e

and-right : (a b : Bool) → IsTrue (a && b) → IsTrue b
and-right true b e = e
and-right false b e = absurd (let clash : false ≡ true = e in cc)

picks : (here : Bool) (value word : ℕ) → IsTrue (not here || is_set value) → IsTrue (is_set word) → IsTrue (is_set (if here then value else word))
picks true value word kept is = kept
picks false value word kept is = is

stays_set : (count : ℕ) (stores : List Store) (f : ℕ → ℕ) → IsTrue (keeps_trip stores) → IsTrue (is_set (f 11)) → IsTrue (is_set (after_stores (take count stores) f 11))
unfolding keeps_trip after_stores put
stays_set zero stores f kept is = is
stays_set (suc count) [] f kept is = is
stays_set (suc count) (one ∷ rest) f kept is =
    stays_set count rest (put one.number one.value f)
    (and-right (not (11 == one.number) || is_set one.value) (keeps_trip rest) kept)
    (picks (11 == one.number) one.value (f 11) (and-left (not (11 == one.number) || is_set one.value) (keeps_trip rest) kept) is)

stays : (stores : List Store) (f h : ℕ → ℕ) → AreFirst stores f h → IsTrue (keeps_trip stores) → IsTrue (is_set (f 11)) → IsTrue (is_set (h 11))
stays stores f h first kept is = subst (λ (w : ℕ → ℕ). IsTrue (is_set (w 11))) (sym first.made) (stays_set first.count stores f kept is)

-- where the trip is the first store: it stands, or nothing was stored
begun : (rest : List Store) (f h : ℕ → ℕ) → AreFirst (both 11 1 ++ rest) f h → IsTrue (keeps_trip rest) → IsTrue (is_set (h 11)) ⊎ (h ≡ f)
unfolding both store after_stores keeps_trip put is_set
begun rest f h first kept = at first.count first.made
  where
    at : (count : ℕ) → h ≡ after_stores (take count (both 11 1 ++ rest)) f → IsTrue (is_set (h 11)) ⊎ (h ≡ f)
    at zero e = inr e
    at (suc count) e = inl (subst (λ (w : ℕ → ℕ). IsTrue (is_set (w 11))) (sym e)
        (stays_set count (store 27 65534 ∷ rest) (put 11 1 f) kept refl))

-- ---- what each module keeps ----

-- what holds of each of eight numbers
eight : (P : ℕ → Type 0) → P 0 → P 1 → P 2 → P 3 → P 4 → P 5 → P 6 → P 7 → (n : ℕ) → n < 8 → P n
eight P p0 p1 p2 p3 p4 p5 p6 p7 zero within = p0
eight P p0 p1 p2 p3 p4 p5 p6 p7 (suc zero) within = p1
eight P p0 p1 p2 p3 p4 p5 p6 p7 (suc (suc zero)) within = p2
eight P p0 p1 p2 p3 p4 p5 p6 p7 (suc (suc (suc zero))) within = p3
eight P p0 p1 p2 p3 p4 p5 p6 p7 (suc (suc (suc (suc zero)))) within = p4
eight P p0 p1 p2 p3 p4 p5 p6 p7 (suc (suc (suc (suc (suc zero))))) within = p5
eight P p0 p1 p2 p3 p4 p5 p6 p7 (suc (suc (suc (suc (suc (suc zero)))))) within = p6
eight P p0 p1 p2 p3 p4 p5 p6 p7 (suc (suc (suc (suc (suc (suc (suc zero))))))) within = p7
eight P p0 p1 p2 p3 p4 p5 p6 p7 (suc (suc (suc (suc (suc (suc (suc (suc n)))))))) within = absurd (omega arith)

-- what module 6 stores behind the trip
abbrev behind_trip : Bool → Words → List Store
behind_trip limit after = both_where limit 10 1 ++ (counters_of after ++ both 12 after.token)

behind-keep : (limit : Bool) (after : Words) → IsTrue (keeps_trip (behind_trip limit after))
unfolding both_where counters_of both store keeps_trip is_set
behind-keep true after = refl
behind-keep false after = refl

debounced-keep : (feeding trip limit : Bool) (after : Words) → IsTrue (keeps_trip (debounced_stores feeding trip limit after))
unfolding debounced_stores both_where both store keeps_trip is_set
debounced-keep true true limit after = behind-keep limit after
debounced-keep true false limit after = behind-keep limit after
debounced-keep false trip limit after = refl

debounced-first : (feeding trip limit : Bool) (after : Words) (f h : ℕ → ℕ) → feeding ≡ true → trip ≡ true → AreFirst (debounced_stores feeding trip limit after) f h
    → IsTrue (is_set (h 11)) ⊎ (h ≡ f)
unfolding debounced_stores both_where
debounced-first true true limit after f h feeds trips first = begun (behind_trip limit after) f h first (behind-keep limit after)
debounced-first true false limit after f h feeds trips first = absurd (let clash : false ≡ true = trips in cc)
debounced-first false trip limit after f h feeds trips first = absurd (let clash : false ≡ true = feeds in cc)

-- a watch that trips is found only where the counters are fed
fed-trips : (feeding a b c d : Bool) → ((feeding && a) || (feeding && b) || (feeding && c) || (feeding && d)) ≡ true → feeding ≡ true
fed-trips true a b c d e = refl
fed-trips false a b c d e = e

tripping : (rules : Rules) (phase : Phase) (words : Words) → trips (debounced rules phase words) ≡ true → feeds_now phase words ≡ true
unfolding trips debounced is_found
tripping rules phase words e = fed-trips (feeds_now phase words) _ _ _ _ e

module-keeps : (inputs : Inputs) (words : Words) (n : ℕ) → n < 8 → IsTrue (keeps_trip (stores_of inputs n words))
unfolding stores_of check_stores signal_stores debounce_stores react_stores both store keeps_trip
module-keeps inputs words = eight (λ n. IsTrue (keeps_trip (stores_of inputs n words))) refl refl refl refl refl refl
    (debounced-keep (feeds_now inputs.phase words) (trips (debounced inputs.rules inputs.phase words)) (limits (debounced inputs.rules inputs.phase words)) (debounce_step inputs.rules inputs.phase words)) refl

given_up-keeps : (tick : ℕ) → IsTrue (keeps_trip (both_from 0 (in_order (given_up tick))))
unfolding both_from in_order given_up both store keeps_trip is_set
given_up-keeps tick = refl

-- ---- what is told ----

pub told-run : (inputs : Inputs) (n : ℕ) (old new : List ℕ) → n < 8 → AreMirrored old → TellsTrip old
    → AreFirst (stores_of inputs n (words_of old)) (word_at old) (word_at new) → TellsTrip new
unfolding named
told-run inputs n old new within are (inl trip) first = inl (stays _ _ _ first (module-keeps inputs (named (word_at old)) n within) trip)
told-run inputs n old new within are (inr differs) first = absurd (differs are)

pub told-given_up : (tick : ℕ) (old new : List ℕ) → AreFirst (given_up_stores tick) (word_at old) (word_at new) → ¬ AreMirrored old → TellsTrip new
unfolding named given_up_stores
told-given_up tick old new first differs = elim (begun _ _ _ first (given_up-keeps tick)) [
  | inl trip ↦ inl trip
  | inr same ↦ inr (λ are. differs (record { sums = subst (λ (w : ℕ → ℕ). (k : ℕ) → k < 16 → w k + w (k + 16) ≡ 65535) same are.sums }))
]

-- of a trip that module 6 sets
debounce-set : (rules : Rules) (phase : Phase) (f h : ℕ → ℕ) → IsTrue (is_set (debounce_step rules phase (named f)).trip)
    → AreFirst (debounce_stores rules phase (named f)) f h → IsTrue (is_set (h 11)) ⊎ (h ≡ f)
unfolding named debounce_step debounce_stores
debounce-set rules phase f h is first = fork (trips (debounced rules phase (named f))) refl is
  where
    fork : (trip : Bool) → trips (debounced rules phase (named f)) ≡ trip → IsTrue (is_set (if trip then 1 else f 11)) → IsTrue (is_set (h 11)) ⊎ (h ≡ f)
    fork true e is = debounced-first (feeds_now phase (named f)) (trips (debounced rules phase (named f))) (limits (debounced rules phase (named f))) (debounce_step rules phase (named f)) f h
        (tripping rules phase (named f) e) e first
    fork false e is =
        inl (stays _ f h first (debounced-keep (feeds_now phase (named f)) (trips (debounced rules phase (named f))) (limits (debounced rules phase (named f))) (debounce_step rules phase (named f))) is)

run-set : (inputs : Inputs) (f h : ℕ → ℕ) (n : ℕ) → n < 8 → IsTrue (is_set (module_step inputs n (named f)).trip) → AreFirst (stores_of inputs n (named f)) f h
    → IsTrue (is_set (h 11)) ⊎ (h ≡ f)
unfolding named module_step stores_of check_step pedal_step permitted_step actual_step excess_step pairs_step react_step check_stores signal_stores react_stores both store keeps_trip
run-set inputs f h = eight
    (λ n. IsTrue (is_set (module_step inputs n (named f)).trip) → AreFirst (stores_of inputs n (named f)) f h → IsTrue (is_set (h 11)) ⊎ (h ≡ f))
    (λ is first. inl (stays _ f h first refl is)) (λ is first. inl (stays _ f h first refl is)) (λ is first. inl (stays _ f h first refl is))
    (λ is first. inl (stays _ f h first refl is)) (λ is first. inl (stays _ f h first refl is)) (λ is first. inl (stays _ f h first refl is))
    (debounce-set inputs.rules inputs.phase f h) (λ is first. inl (stays _ f h first refl is))

pub told-set : (inputs : Inputs) (n : ℕ) (old new : List ℕ) → n < 8 → IsTrue (is_set (module_step inputs n (words_of old)).trip)
    → AreFirst (stores_of inputs n (words_of old)) (word_at old) (word_at new) → TellsTrip new ⊎ (word_at new ≡ word_at old)
unfolding named
told-set inputs n old new within is first = elim (run-set inputs (word_at old) (word_at new) n within is first) [ inl trip ↦ inl (inl trip) | inr same ↦ inr same ]

-- ---- what the stores make of the words ----

-- of module 6, by whether it feeds, trips and limits
debounced-make : (feeding trip limit : Bool) (after : Words) (f : ℕ → ℕ) → named (after_stores (debounced_stores feeding trip limit after) f)
    ≡ (if feeding then record after {
      pedal = f 0;
      permitted = f 1;
      actual = f 2;
      excess = f 3;
      pairs = f 4;
      flow = f 13;
      last = f 14;
      sign = f 15;
      limp = if limit then 1 else f 10;
      trip = if trip then 1 else f 11;
    } else record (named f) { token = after.token })
unfolding named debounced_stores counters_of both_where both store after_stores put
debounced-make true true true after f = refl
debounced-make true true false after f = refl
debounced-make true false true after f = refl
debounced-make true false false after f = refl
debounced-make false trip limit after f = refl

debounce-makes : (rules : Rules) (phase : Phase) (f : ℕ → ℕ) → named (after_stores (debounce_stores rules phase (named f)) f) ≡ debounce_step rules phase (named f)
unfolding named debounce_stores debounce_step debounced limits trips counted is_found
debounce-makes rules phase f =
    debounced-make (feeds_now phase (named f)) (trips (debounced rules phase (named f))) (limits (debounced rules phase (named f))) (debounce_step rules phase (named f)) f
    ∙ fork (feeds_now phase (named f)) refl
  where
    fork : (feeding : Bool) → feeds_now phase (named f) ≡ feeding → (if feeding then debounce_step rules phase (named f) else record (named f) { token = next_token_of (f 12) 6 })
        ≡ debounce_step rules phase (named f)
    fork true e = refl
    fork false e = rw e refl

pub stores-make : (inputs : Inputs) (f : ℕ → ℕ) (n : ℕ) → n < 8 → named (after_stores (stores_of inputs n (named f)) f) ≡ module_step inputs n (named f)
unfolding named stores_of module_step check_step pedal_step permitted_step actual_step excess_step pairs_step react_step check_stores signal_stores react_stores in_order both store after_stores put
stores-make inputs f = eight (λ n. named (after_stores (stores_of inputs n (named f)) f) ≡ module_step inputs n (named f)) refl refl refl refl refl refl
    (debounce-makes inputs.rules inputs.phase f) refl

pub given_up-make : (tick : ℕ) (f : ℕ → ℕ) → named (after_stores (given_up_stores tick) f) ≡ given_up tick
unfolding named given_up_stores both_from in_order given_up both store after_stores put
given_up-make tick f = refl

pub reset-make : (f : ℕ → ℕ) → named (after_stores reset_stores f) ≡ start
unfolding named reset_stores both_from in_order start both store after_stores put
reset-make f = refl
