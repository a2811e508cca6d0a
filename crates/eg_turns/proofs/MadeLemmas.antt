-- The board's stores, one after another, and where memory ran out among them.
use Rattle.std.proofs.Common.{◌≡◌, ◌∙◌, refl, sym, ap, ℕ, zero, suc, ◌+◌, ◌≤◌, ◌<◌, inl, inr, List, [], ◌∷◌, ◌++◌, length, take, replicate, slice_index, slice_set, arith}
use Rattle.std.proofs.lemmas.Bool.Decides.{eqb_tells}
use Rattle.std.proofs.lemmas.List.{get_or-set_same, get_or-set_other, take_all}
use Rattle.eg_level2.specs.Stores.{Store, store, put, after_stores, AreFirst}
use Rattle.eg_level2.proofs.MakesLemmas.{longer}
use Rattle.eg_sensor.specs.declared.readings.Readings.{Readings}
use Rattle.eg_turns.specs.Board.{stores_from, clearing, ten_ports, showing, AreMade}

-- ---- several words ----

-- a store at an address is one word put there
set-put : (memory : List ℕ) (address value k : ℕ) → address < length memory → slice_index (slice_set memory address value) k ≡ put address value (slice_index memory) k
unfolding put
set-put memory address value k within = elim (eqb_tells k address) [
  | inl same ↦ rw same.0 (ap (slice_index (slice_set memory address value)) same.1 ∙ get_or-set_same memory address value 0 within)
  | inr other ↦ rw other.0 (get_or-set_other memory address k value 0 other.1)
]

-- one of them more
one-more : (values : List ℕ) (first i : ℕ) (f : ℕ → ℕ) → i < length values →
    after_stores (take (suc i) (stores_from first values)) f ≡ put (first + i) (slice_index values i) (after_stores (take i (stores_from first values)) f)
unfolding after_stores stores_from store
one-more [] first i f within = absurd (omega (arith, within))
one-more (value ∷ values) first zero f within = ap (λ a. put a value f) (let e : first ≡ first + 0 = omega arith in e)
one-more (value ∷ values) first (suc i) f within = one-more values (first + 1) i (put first value f) (omega (arith, within))
    ∙ ap (λ a. put a (slice_index values i) (after_stores (take i (stores_from (first + 1) values)) (put first value f)))
    (let e : first + 1 + i ≡ first + suc i = omega arith in e)

-- the first i of the stores, and the next one
pub made-more : (old mid new : List ℕ) (first i address value : ℕ) (values : List ℕ) → new ≡ slice_set mid address value → address ≡ first + i →
    value ≡ slice_index values i → i < length values → address < length mid →
    slice_index mid ≡ after_stores (take i (stores_from first values)) (slice_index old) →
    slice_index new ≡ after_stores (take (i + 1) (stores_from first values)) (slice_index old)
made-more old mid new first i address value values e at is within fits so =
    ap slice_index e ∙ (λ j k. set-put mid address value k fits j) ∙ ap (put address value) so
    ∙ ap (λ a. put a value (after_stores (take i (stores_from first values)) (slice_index old))) at
    ∙ ap (λ v. put (first + i) v (after_stores (take i (stores_from first values)) (slice_index old))) is
    ∙ sym (one-more values first i (slice_index old) within)
    ∙ ap (λ n. after_stores (take n (stores_from first values)) (slice_index old)) (let n : suc i ≡ i + 1 = omega arith in n)

length-stores : (first : ℕ) (values : List ℕ) → length (stores_from first values) ≡ length values
unfolding stores_from
length-stores first [] = refl
length-stores first (value ∷ values) = ap suc (length-stores (first + 1) values)

-- all of them
pub all-made : (old new : List ℕ) (first count : ℕ) (values : List ℕ) → length values ≤ count →
    slice_index new ≡ after_stores (take count (stores_from first values)) (slice_index old) →
    slice_index new ≡ after_stores (stores_from first values) (slice_index old)
all-made old new first count values most made =
    made ∙ ap (λ stores. after_stores stores (slice_index old)) (take_all count (stores_from first values) (let long = length-stores first values in omega (arith, most, long)))

-- the next one was refused
pub refused : (old mid new : List ℕ) (first count : ℕ) (values : List ℕ) → new ≡ mid →
    slice_index mid ≡ after_stores (take count (stores_from first values)) (slice_index old) → AreMade (stores_from first values) old new
refused old mid new first count values same made = record { count = count; made = ap slice_index same ∙ made }

-- ---- one list of stores behind another ----

behind : (stores more : List Store) (f g h : ℕ → ℕ) → g ≡ after_stores stores f → AreFirst more g h → AreFirst (stores ++ more) f h
unfolding after_stores
behind [] more f g h e first = record { count = first.count; made = first.made ∙ ap (after_stores (take first.count more)) e }
behind (one ∷ rest) more f g h e first =
    let later = behind rest more (put one.number one.value f) g h e first in
    record { count = suc later.count; made = later.made }

-- level 1's data, and its outputs
pub clears-data : (old new : List ℕ) → AreMade (stores_from 1024 (replicate 1024 0)) old new → AreMade clearing old new
unfolding clearing
clears-data old new first = longer (stores_from 1024 (replicate 1024 0)) (stores_from 2064 (0 ∷ 0 ∷ [])) (slice_index old) (slice_index new) first

pub clears-outputs : (old mid new : List ℕ) → slice_index mid ≡ after_stores (stores_from 1024 (replicate 1024 0)) (slice_index old) →
    AreMade (stores_from 2064 (0 ∷ 0 ∷ [])) mid new → AreMade clearing old new
unfolding clearing
clears-outputs old mid new made first =
    behind (stores_from 1024 (replicate 1024 0)) (stores_from 2064 (0 ∷ 0 ∷ [])) (slice_index old) (slice_index mid) (slice_index new) made first

-- the readings, and the number of the question
pub shows-readings : (r : Readings) (asked : ℕ) (old new : List ℕ) → AreMade (stores_from 2048 (ten_ports r)) old new → AreMade (showing r asked) old new
unfolding showing
shows-readings r asked old new first = longer (stores_from 2048 (ten_ports r)) (store 2128 asked ∷ []) (slice_index old) (slice_index new) first

pub shows-asked : (r : Readings) (asked : ℕ) (old mid new : List ℕ) → slice_index mid ≡ after_stores (stores_from 2048 (ten_ports r)) (slice_index old) →
    new ≡ mid → AreMade (showing r asked) old new
unfolding showing after_stores
shows-asked r asked old mid new made same =
    behind (stores_from 2048 (ten_ports r)) (store 2128 asked ∷ []) (slice_index old) (slice_index mid) (slice_index new) made
    (record { count = 0; made = ap slice_index same })
