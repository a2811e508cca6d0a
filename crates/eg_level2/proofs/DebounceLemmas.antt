-- What module 6 stores and finds, of values that its calls worked out.
use Rattle.std.proofs.Common.{◌≡◌, ◌∙◌, refl, sym, ap, ap₂, subst, inl, inr, ℕ, ◌<◌, lit≤, Bool, true, false, IsTrue, List, ◌++◌, arith}
use Rattle.std.proofs.lemmas.Bool.{and_parts, eqb-true}
use Rattle.std.proofs.lemmas.Bool.Decides.{eqb_tells}
use Rattle.std.specs.Prelude.{Result, Ok}
use Rattle.eg_guard.specs.Memory.{ShownMemory}
use Rattle.eg_num.specs.declared.watches.Watches.{Watches}
use Rattle.eg_answer.specs.Token.{next_token_of}
use Rattle.eg_answer.specs.declared.rules.Rules.{Rules}
use Rattle.eg_level2.specs.declared.phase.Phase.{Phase}
use Rattle.eg_level2.specs.declared.step.Step.{Step}
use Rattle.eg_num.specs.Windows.{WeightParts}
use Rattle.eg_num.specs.Counting.{fed}
use Rattle.eg_sensor.specs.Readings.{has_bit}
use Rattle.eg_level2.specs.declared.debounce.Fed.{Fed}
use Rattle.eg_level2.specs.declared.debounce.Feeds.{Feeds}
use Rattle.eg_level2.specs.Words.{Words, named, words_of, word_at, AreMirrored}
use Rattle.eg_level2.specs.Modules.{pedal_bit, plate_bit, load_bit, speed_bit, torque_bit, feeds_now, counted, is_found, debounced, limits, trips, debounce_step, no_watches, finding}
use Rattle.eg_level2.specs.Inner.Stores.{counting, fed_of, feeds_of, found_of, fed_stores, is_still, Makes}
use Rattle.eg_level2.specs.Stores.{Store, both, both_where}
use Rattle.eg_level2.specs.Order.{counters_of, debounced_stores, debounce_stores}
use Rattle.eg_level2.proofs.MakesLemmas.{in_turn, kept_both}

-- where the counters are fed
free : (rules : Rules) (phase : Phase) (words : Words) → feeds_now phase words ≡ true → fed_stores (feeds_of rules words) (next_token_of words.token 6) ≡ debounce_stores rules phase words
unfolding fed_stores debounce_stores debounced_stores counters_of counting debounce_step debounced limits trips counted is_found feeds_of fed_of found_of
free rules phase words e = rw e refl

free-found : (rules : Rules) (phase : Phase) (words : Words) → feeds_now phase words ≡ true → found_of (feeds_of rules words) ≡ debounced rules phase words
unfolding debounced is_found feeds_of fed_of found_of no_watches
free-found rules phase words e = rw e refl

pub stores_by : {T E : Type 0} {a b : ShownMemory} {result : Result T E} (feeds : Feeds) (token : ℕ) {trip : Bool} → trip ≡ trips (found_of feeds)
    → Makes (both_where trip 11 1 ++ (both_where feeds.pedal.found 10 1 ++ (counting feeds ++ both 12 token))) a b result → Makes (fed_stores feeds token) a b result
unfolding fed_stores
stores_by {a = a} {b = b} {result = result} feeds token e made =
    subst (λ trip. Makes (both_where trip 11 1 ++ (both_where feeds.pedal.found 10 1 ++ (counting feeds ++ both 12 token))) a b result) e made

pub fed_makes : {T E : Type 0} {a b : ShownMemory} {result : Result T E} (rules : Rules) (phase : Phase) {feeds : Feeds} {feeding : Bool} {t token : ℕ}
    → feeds ≡ feeds_of rules (words_of a.words) → feeding ≡ feeds_now phase (words_of a.words) → feeding ≡ true → token ≡ next_token_of t 6 → t ≡ word_at a.words 12
    → Makes (fed_stores feeds token) a b result → Makes (debounce_stores rules phase (words_of a.words)) a b result
unfolding named
fed_makes {a = a} {b = b} {result = result} rules phase ef efeeding on etoken et made =
    subst (λ (l : List Store). Makes l a b result)
    (ap₂ fed_stores ef (etoken ∙ ap (λ t. next_token_of t 6) et) ∙ free rules phase (words_of a.words) (sym efeeding ∙ on)) made

pub fed_finding : (words : Words) (rules : Rules) (phase : Phase) {feeds : Feeds} {feeding : Bool} {found : Watches} {step : Step} → step ≡ finding found
    → found ≡ found_of feeds → feeds ≡ feeds_of rules words → feeding ≡ feeds_now phase words → feeding ≡ true → step ≡ finding (debounced rules phase words)
fed_finding words rules phase es e ef efeeding on =
    es ∙ ap finding (e ∙ ap found_of ef ∙ free-found rules phase words (sym efeeding ∙ on))

-- where they aren't the token alone moves, and nothing is found
unfed : (rules : Rules) (phase : Phase) (words : Words) → feeds_now phase words ≡ false → both 12 (next_token_of words.token 6) ≡ debounce_stores rules phase words
unfolding debounce_stores debounced_stores debounce_step
unfed rules phase words e = rw e refl

unfed-found : (rules : Rules) (phase : Phase) (words : Words) → feeds_now phase words ≡ false → no_watches ≡ debounced rules phase words
unfolding debounced is_found no_watches
unfed-found rules phase words e = rw e refl

pub unfed_makes : {T E : Type 0} {a b : ShownMemory} {result : Result T E} (rules : Rules) (phase : Phase) {feeding : Bool} {t token : ℕ}
    → feeding ≡ feeds_now phase (words_of a.words) → feeding ≡ false → token ≡ next_token_of t 6 → t ≡ word_at a.words 12
    → Makes (both 12 token) a b result → Makes (debounce_stores rules phase (words_of a.words)) a b result
unfolding named
unfed_makes {a = a} {b = b} {result = result} rules phase efeeding off etoken et made =
    subst (λ (l : List Store). Makes l a b result)
    (ap (both 12) (etoken ∙ ap (λ t. next_token_of t 6) et) ∙ unfed rules phase (words_of a.words) (sym efeeding ∙ off)) made

pub unfed_finding : (words : Words) (rules : Rules) (phase : Phase) {feeding : Bool} {step : Step} → step ≡ finding no_watches → feeding ≡ feeds_now phase words → feeding ≡ false
    → step ≡ finding (debounced rules phase words)
unfed_finding words rules phase es efeeding off = es ∙ ap finding (unfed-found rules phase words (sym efeeding ∙ off))

-- ---- where no counter changes ----

-- all that is looked at is 0
record Still (words : Words) : Type 0 where
  pub pairs : words.pairs ≡ 0
  pub excess : words.excess ≡ 0
  pub pedal : words.pedal_counter ≡ 0
  pub plate : words.plate_counter ≡ 0
  pub load : words.load_counter ≡ 0
  pub speed : words.speed_counter ≡ 0
  pub torque : words.torque_counter ≡ 0

stills : (words : Words) → IsTrue (is_still words) → Still words
unfolding is_still
stills words all =
    let a = and_parts _ _ all in
    let b = and_parts _ _ a.0 in
    let c = and_parts _ _ b.0 in
    let d = and_parts _ _ c.0 in
    let e = and_parts _ _ d.0 in
    let f = and_parts _ _ e.0 in
    record {
      pairs = eqb-true _ _ f.0;
      excess = eqb-true _ _ f.1;
      pedal = eqb-true _ _ e.1;
      plate = eqb-true _ _ d.1;
      load = eqb-true _ _ c.1;
      speed = eqb-true _ _ b.1;
      torque = eqb-true _ _ a.1;
    }

-- a counter that stands at 0 and is fed nothing bad
still : Fed
still = record { value = 0; found = false }

fed-zero : (w : WeightParts) → fed w 0 false ≡ 0
unfolding fed
fed-zero w = elim (eqb_tells 0 w.limit) [
  | inl same ↦ rw same.0 (sym same.1)
  | inr apart ↦ rw apart.0 (omega arith)
]

found-zero : (w : WeightParts) → is_found true w 0 false ≡ false
unfolding is_found
found-zero w = rw (fed-zero w) (grind arith)

fed-still : (w : WeightParts) (value : ℕ) (bad : Bool) → value ≡ 0 → bad ≡ false → fed_of w value bad ≡ still
unfolding fed_of still
fed-still w value bad e eb = rw (e, eb, fed-zero w, found-zero w) refl

all_still : Feeds
all_still = record { pedal = still; plate = still; load = still; speed = still; torque = still }

feeds-still : (rules : Rules) (words : Words) → Still words → feeds_of rules words ≡ all_still
unfolding feeds_of all_still pedal_bit plate_bit load_bit speed_bit torque_bit has_bit
feeds-still rules words zero = rw (
  fed-still rules.pair words.pedal_counter (pedal_bit words) zero.pedal (rw zero.pairs refl),
  fed-still rules.pair words.plate_counter (plate_bit words) zero.plate (rw zero.pairs refl),
  fed-still rules.pair words.load_counter (load_bit words) zero.load (rw zero.pairs refl),
  fed-still rules.pair words.speed_counter (speed_bit words) zero.speed (rw zero.pairs refl),
  fed-still rules.torque words.torque_counter (torque_bit words) zero.torque (rw zero.excess refl),
) refl

-- so the counters need no store
counting-still : {T E : Type 0} {a : ShownMemory} {x : T} → AreMirrored a.words → Still (words_of a.words)
    → (let done : Result T E = Ok x in Makes (counting all_still) a a done)
unfolding named counting all_still still
counting-still {T = T} {E = E} {a = a} {x = x} are zero =
    in_turn (stands 5 (lit≤ tt) zero.pedal) (in_turn (stands 6 (lit≤ tt) zero.plate) (in_turn (stands 7 (lit≤ tt) zero.load)
    (in_turn (stands 8 (lit≤ tt) zero.speed) (stands 9 (lit≤ tt) zero.torque))))
  where
    stands : (number : ℕ) → number < 16 → word_at a.words number ≡ 0 → (let done : Result T E = Ok x in Makes (both number 0) a a done)
    stands number within is = kept_both number 0 is (let sum = are.sums number within in omega arith)

still_makes : {T E : Type 0} {a b : ShownMemory} {result : Result T E} (token : ℕ) → AreMirrored a.words → Still (words_of a.words)
    → Makes (both 12 token) a b result → Makes (fed_stores all_still token) a b result
unfolding fed_stores both_where found_of trips all_still still
still_makes {E = E} {a = a} token are zero made =
    let kept : (let done : Result Bool E = Ok true in Makes (counting all_still) a a done) = counting-still are zero in
    in_turn kept made

pub rest_makes : {T E : Type 0} {a b : ShownMemory} {result : Result T E} (rules : Rules) (phase : Phase) {feeding rests : Bool} {t token : ℕ}
    → AreMirrored a.words → rests ≡ is_still (words_of a.words) → rests ≡ true → feeding ≡ feeds_now phase (words_of a.words)
    → feeding ≡ true → token ≡ next_token_of t 6 → t ≡ word_at a.words 12
    → Makes (both 12 token) a b result → Makes (debounce_stores rules phase (words_of a.words)) a b result
rest_makes {a = a} rules phase {token = token} are e rest efeeding on etoken et made =
    let zero = stills (words_of a.words) (sym e ∙ rest) in
    fed_makes rules phase (sym (feeds-still rules (words_of a.words) zero)) efeeding on etoken et (still_makes token are zero made)

pub rest_finding : (words : Words) (rules : Rules) (phase : Phase) {feeding rests : Bool} {step : Step} → step ≡ finding no_watches
    → rests ≡ is_still words → rests ≡ true → feeding ≡ feeds_now phase words → feeding ≡ true → step ≡ finding (debounced rules phase words)
unfolding found_of all_still still no_watches
rest_finding words rules phase es e rest efeeding on =
    fed_finding words rules phase es refl (sym (feeds-still rules words (stills words (sym e ∙ rest)))) efeeding on
