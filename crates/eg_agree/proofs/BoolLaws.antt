-- Laws of one tick over truth values and numbers alone: what a word becomes, by whether a word is flipped,
-- whether the module runs, and whether a trip stood before.
use Rattle.std.proofs.Common.{arith, ◌≡◌, ℕ, ◌≤◌, Bool, true, false, not, ◌||◌, ◌&&◌, List, ◌∷◌, refl, ap, ◌∙◌, nat_lt}
use Rattle.std.specs.Prelude.{if◌then◌else◌, ◌==◌, is_some, bit_xor, Some, None}
use Rattle.eg_num.specs.Windows.{WeightParts, is_first}
use Rattle.eg_num.specs.Counting.{fed, counted}
use Rattle.eg_num.proofs.CounterLemmas.{StandsFor-first}
use Rattle.eg_sensor.specs.Readings.{bit}
use Rattle.eg_level2.specs.Words.{is_set}

-- a part of what a test chooses is what the test chooses of that part
pub if-part : {T U : Type 0} (part : T → U) (runs : Bool) (a b : T) →
    part (if runs then a else b) ≡ (if runs then part a else part b)
if-part part true a b = refl
if-part part false a b = refl

-- a part that is the same either way
pub if-same : {T U : Type 0} (part : T → U) (runs : Bool) (a b : T) (u : U) → part a ≡ part b → part b ≡ u →
    part (if runs then a else b) ≡ u
if-same part true a b u e kept = e ∙ kept
if-same part false a b u e kept = kept

pub if-false : (runs test : Bool) → (if runs then test else false) ≡ (runs && test)
if-false runs test = grind arith

-- what a trip or a flip stops doesn't run
pub stopped : (driven runs trip flip : Bool) → trip ≡ true → (driven && (runs && not trip && not flip)) ≡ false
stopped driven runs trip flip e = grind arith

pub stopped_by_flip : (driven runs trip flip : Bool) → flip ≡ true →
    (driven && (runs && not trip && not flip)) ≡ false
stopped_by_flip driven runs trip flip e = grind arith

pub is_set-bit : (b : Bool) → is_set (bit 1 b) ≡ b
unfolding is_set
is_set-bit true = refl
is_set-bit false = refl

-- a signal that module i writes
pub written-law : (flip runs trip : Bool) (trip_word old before value told mask : ℕ) →
    trip_word ≡ bit 1 (flip || trip) → old ≡ (if flip && true then 0 else before)
    → (flip ≡ false → trip ≡ false → value ≡ told)
    → (if runs then (if is_set trip_word then 0 else bit_xor value mask) else old)
    ≡ (if flip && true then 0 else
    (if flip then 0 else if not runs then before else if trip then 0 else bit_xor told mask))
written-law flip runs trip tw old before value told mask et eo ev = grind (arith, is_set-bit)

-- whether module 6 feeds, by the word for the trip
pub feeding-law : (feeding driven flip trip : Bool) (trip_word : ℕ) → feeding ≡ (driven && not (is_set trip_word)) →
    trip_word ≡ bit 1 (flip || trip) → feeding ≡ (driven && not (flip || trip))
feeding-law feeding driven flip trip word ef et = ef ∙ ap (λ b. driven && not b) (ap is_set et ∙ is_set-bit (flip || trip))

-- a counter that module 6 feeds
pub counted-law : (weights : WeightParts) (feeding driven flip runs trip : Bool) (value kept : ℕ)
    (bad told : Bool) → feeding ≡ (driven && not (flip || trip)) → value ≡ (if flip then 0 else kept)
    → (flip ≡ false → bad ≡ told)
    → (if runs then (if feeding then fed weights value bad else value) else value)
    ≡ (if flip then 0 else if driven && (runs && not trip && not flip) then fed weights kept told else kept)
counted-law weights feeding driven flip runs trip value kept bad told ef ev eb = grind arith

-- a watch that module 6 finds
pub found-law : (weights : WeightParts) (feeding driven flip runs trip mirror : Bool) (value : ℕ)
    (bits : List Bool) (bad told : Bool) → 1 ≤ weights.limit
    → (mirror ≡ true → trip ≡ true) → feeding ≡ (driven && not (flip || trip)) →
    value ≡ (if flip then 0 else if mirror then 0 else counted weights bits) →
    (flip ≡ false → bad ≡ told)
    → (runs && (feeding && (nat_lt value weights.limit && fed weights value bad == weights.limit)))
    ≡ ((driven && (runs && not trip && not flip)) && is_first weights (told ∷ bits))
found-law weights feeding driven flip runs trip mirror value bits bad told positive em ef ev eb =
    grind (arith, StandsFor-first weights value told bits positive)

-- limited operation, of which module 6 finds the pedal
pub limp-law : (flip runs mirror limited pedal told : Bool) (word : ℕ) →
    word ≡ (if flip then 0 else if mirror then 0 else bit 1 limited) → (runs && pedal) ≡ told
    → (flip ≡ true → told ≡ false) → (mirror ≡ true → told ≡ false)
    → (if runs then (if pedal then 1 else word) else word)
    ≡ (if flip || mirror then 0 else bit 1 (told || limited))
limp-law flip runs mirror limited pedal told word ew ep ef em = grind arith

-- the trip, by the four watches of module 6 that trip
pub trip-law : (flip runs trip plate load speed turn plate' load' speed' turn' : Bool) (word : ℕ) →
    word ≡ bit 1 (flip || trip)
    → (runs && plate) ≡ plate' → (runs && load) ≡ load' → (runs && speed) ≡ speed' → (runs && turn) ≡ turn'
    → (if runs then (if plate || load || speed || turn then 1 else word) else word)
    ≡ bit 1 ((flip || plate' || load' || speed' || turn') || trip)
trip-law flip runs trip plate load speed turn plate' load' speed' turn' word ew ep el es et = grind arith

-- whether module 7 sends an answer
pub sent-law : {T : Type 0} (runs sends driven due tripped : Bool) (word : ℕ) (answer : T) → word ≡ bit 1 tripped
    → sends ≡ (driven && due)
    → is_some (if runs then (if sends && not (is_set word) then Some answer else None) else None)
    ≡ (driven && (due && runs && not tripped))
sent-law runs sends driven due tripped word answer ew es =
    rw (ew, is_set-bit tripped, es) (go runs driven due tripped)
  where
    go : (runs driven due tripped : Bool) →
        is_some (if runs then (if (driven && due) && not tripped then Some answer else None) else None)
        ≡ (driven && (due && runs && not tripped))
    go runs driven due tripped = grind arith
