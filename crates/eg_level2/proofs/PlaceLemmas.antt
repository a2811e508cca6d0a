-- Where level 2's words stand: it may load and store there, and no two stand at one place.
use Rattle.std.proofs.Common.{◌≡◌, ◌≢◌, ◌∙◌, refl, sym, ap, ℕ, ◌+◌, ◌-◌, ◌≤◌, ◌<◌, ◌⊎◌, inl, inr, true, IsTrue, List, length, slice_index, slice_set, arith}
use Rattle.std.specs.Prelude.{Result, Ok, Err, OnOk, OnErr, if◌then◌else◌}
use Rattle.std.proofs.lemmas.Bool.{lt-ltb, le-ltb, cases_lt, eq-eqb, ne_eqb}
use Rattle.std.proofs.lemmas.Bool.Decides.{eqb_tells}
use Rattle.std.proofs.lemmas.List.{length-set, get_or-set_same, get_or-set_other}
use Rattle.eg_guard.specs.declared.regions.Who.TheVariants.{Level2}
use Rattle.eg_guard.specs.Regions.{both, allows, access, region_of}
use Rattle.eg_guard.specs.Memory.{AreWords}
use Rattle.eg_guard.proofs.AccessLemmas.{results-is, protected-is}
use Rattle.eg_level2.specs.Words.{address_of, word_at, ChangeLaw, is_level2_own}
use Rattle.eg_level2.specs.Inner.Stores.{outside}
use Rattle.eg_level2.specs.Stores.{put}

-- where a word stands, by its number
pub address_is : (number : ℕ) → ((number < 5) × (address_of number ≡ 2080 + number)) ⊎ ((5 ≤ number) × (address_of number ≡ 2091 + number))
unfolding address_of
address_is number = elim (cases_lt number 5) [
  | inl low ↦ inl (low, ap (λ signal. if signal then 2080 + number else 2096 + (number - 5)) (lt-ltb number 5 low))
  | inr high ↦ inr (high, ap (λ signal. if signal then 2080 + number else 2096 + (number - 5)) (le-ltb number 5 high) ∙ shifted high)
]
  where
    shifted : 5 ≤ number → 2096 + (number - 5) ≡ 2091 + number
    shifted high = omega arith

-- each place is level 2's own
address_own : (number : ℕ) → number < 32 → is_level2_own (region_of (address_of number)) ≡ true
unfolding is_level2_own
address_own number within = elim (address_is number) [
  | inl low ↦ let is = low.1 in let below = low.0 in ap is_level2_own (results-is (address_of number) (omega arith) (omega arith))
  | inr high ↦ let is = high.1 in let from = high.0 in ap is_level2_own (protected-is (address_of number) (omega arith) (omega arith))
]

-- and level 2 may load and store there
address_access : (number : ℕ) → number < 32 → access Level2 (address_of number) ≡ both
unfolding access allows
address_access number within = elim (address_is number) [
  | inl low ↦ let is = low.1 in let below = low.0 in ap (λ region. allows region Level2) (results-is (address_of number) (omega arith) (omega arith))
  | inr high ↦ let is = high.1 in let from = high.0 in ap (λ region. allows region Level2) (protected-is (address_of number) (omega arith) (omega arith))
]

pub address_load : (number address : ℕ) → address ≡ address_of number → number < 32 → IsTrue (access Level2 address).load
address_load number address is within = ap (λ a. (access Level2 a).load) is ∙ ap (λ allowed. allowed.load) (address_access number within)

pub address_store : (number address : ℕ) → address ≡ address_of number → number < 32 → IsTrue (access Level2 address).store
address_store number address is within = ap (λ a. (access Level2 a).store) is ∙ ap (λ allowed. allowed.store) (address_access number within)

address_below : (number : ℕ) → number < 32 → address_of number < 4096
address_below number within = elim (address_is number) [ inl low ↦ let is = low.1 in omega arith | inr high ↦ let is = high.1 in omega arith ]

-- two numbers have two places
address_apart : (k number : ℕ) → k ≢ number → address_of k ≢ address_of number
address_apart k number apart e = elim (address_is k) [
  | inl p ↦ elim (address_is number) [ inl q ↦ apart (let a = p.1 in let b = q.1 in omega arith) | inr q ↦ let a = p.1 in let b = q.1 in let c = p.0 in let d = q.0 in omega arith ]
  | inr p ↦ elim (address_is number) [ inl q ↦ let a = p.1 in let b = q.1 in let c = p.0 in let d = q.0 in omega arith | inr q ↦ apart (let a = p.1 in let b = q.1 in omega arith) ]
]

-- the word at a place
pub read_at : (memory : List ℕ) (number address word : ℕ) → word ≡ slice_index memory address → address ≡ address_of number → word ≡ word_at memory number
unfolding word_at
read_at memory number address word e p = e ∙ ap (λ a. slice_index memory a) p

-- a store at a place is one word put by its number
put_at : (memory : List ℕ) (number value k : ℕ) → length memory ≡ 4096 → number < 32 → word_at (slice_set memory (address_of number) value) k ≡ put number value (word_at memory) k
unfolding word_at put
put_at memory number value k size within = elim (eqb_tells k number) [
  | inl same ↦ rw same.0 (ap (λ x. slice_index (slice_set memory (address_of number) value) (address_of x)) same.1
      ∙ get_or-set_same memory (address_of number) value 0 (let below = address_below number within in omega arith))
  | inr other ↦ rw other.0 (get_or-set_other memory (address_of number) (address_of k) value 0 (address_apart k number other.1))
]

-- a memory has 4,096 words before a store as after it
sized : (old new : List ℕ) (address value : ℕ) → new ≡ slice_set old address value → AreWords new → length old ≡ 4096
sized old new address value e are = sym (length-set old address value) ∙ ap length (sym e) ∙ are.count

pub stored_at : (old new : List ℕ) (number address value : ℕ) → new ≡ slice_set old address value → address ≡ address_of number → AreWords new → number < 32
    → word_at new ≡ put number value (word_at old)
stored_at old new number address value e p are within =
    ap word_at (e ∙ ap (λ a. slice_set old a value) p)
    ∙ (λ i k. put_at old number value k (sized old new address value e are) within i)

-- a store at a place leaves all that is outside level 2's own regions
left_at : (memory : List ℕ) (number value address : ℕ) → number < 32 → outside (slice_set memory (address_of number) value) address ≡ outside memory address
unfolding outside
left_at memory number value address within = elim (eqb_tells address (address_of number)) [
  | inl same ↦ rw (ap (λ a. is_level2_own (region_of a)) same.1 ∙ address_own number within) refl
  | inr other ↦ ap (λ x. if is_level2_own (region_of address) then 0 else x) (get_or-set_other memory (address_of number) address value 0 other.1)
]

pub left_outside : {T E : Type 0} (result : Result T E) (old new : List ℕ) (number address value : ℕ) → OnOk result (new ≡ slice_set old address value)
    → OnErr result (new ≡ old) → address ≡ address_of number → number < 32 → outside new ≡ outside old
left_outside (Ok x) old new number address value ok err p within =
    ap outside (ok ∙ ap (λ a. slice_set old a value) p) ∙ (λ i k. left_at old number value k within i)
left_outside (Err x) old new number address value ok err p within = ap outside err

-- ---- a word that changes ----

stored_same : (memory : List ℕ) (number value k : ℕ) → length memory ≡ 4096 → number < 32 → k ≡ number → word_at (slice_set memory (address_of number) value) k ≡ value
unfolding put
stored_same memory number value k size within e = put_at memory number value k size within ∙ rw (eq-eqb k number e) refl

stored_other : (memory : List ℕ) (number value k : ℕ) → length memory ≡ 4096 → number < 32 → k ≢ number → word_at (slice_set memory (address_of number) value) k ≡ word_at memory k
unfolding put
stored_other memory number value k size within apart = put_at memory number value k size within ∙ rw (ne_eqb k number apart) refl

same_sum : (a b c d : ℕ) → a + b ≡ 65535 → c + d ≡ 65535 → d ≡ b → c ≡ a
same_sum a b c d old new e = omega arith

same_sum_other : (a b c d : ℕ) → a + b ≡ 65535 → c + d ≡ 65535 → c ≡ a → d ≡ b
same_sum_other a b c d old new e = omega arith

pub change_law : ChangeLaw
change_law memory number word are within mirrored apart still = elim (cases_lt number 16) [
  | inl low ↦ apart (sym (stored_same memory number word number are.count within refl)
      ∙ same_sum _ _ _ _ (mirrored.sums number low) (still.sums number low)
      (stored_other memory number word (number + 16) are.count within (λ e. omega arith)))
  | inr high ↦ upper (number - 16) (omega arith) (omega arith)
]
  where
    upper : (k : ℕ) → k < 16 → k + 16 ≡ number → ⊥
    upper k low e = apart (sym (stored_same memory number word (k + 16) are.count within e)
        ∙ same_sum_other _ _ _ _ (mirrored.sums k low) (still.sums k low) (stored_other memory number word k are.count within (λ q. omega arith))
        ∙ ap (word_at memory) e)

-- what loads and stores at places need
pub ruleset places = (address_load, address_store, read_at, stored_at, left_outside)
