-- The board may store wherever a word stands; and what its stores make of the memory.
use Rattle.std.proofs.Common.{◌≡◌, ◌≢◌, ◌∙◌, refl, sym, ap, subst, inl, inr, ℕ, ◌+◌, ◌-◌, ◌≤◌, ◌<◌, ◌⊎◌, true, false, IsTrue, List, [], ◌∷◌, length, replicate, slice_index, slice_set, arith}
use Rattle.std.specs.Prelude.{bit_xor}
use Rattle.std.specs.Int.Bits.{xor_self, xor_zero_l, xor_assoc}
use Rattle.std.proofs.lemmas.Bool.{cases_lt}
use Rattle.std.proofs.lemmas.Bool.Decides.{eqb_tells}
use Rattle.std.proofs.lemmas.List.{get_or-set_same, get_or-set_other, get_or-replicate}
use Rattle.eg_guard.specs.declared.regions.Who.TheVariants.{Board}
use Rattle.eg_guard.specs.Regions.{both, allows, access, region_of}
use Rattle.eg_guard.specs.Memory.{AreWords, SameOutside}
use Rattle.eg_guard.specs.declared.regions.Region.{Region}
use Rattle.eg_guard.specs.declared.regions.Region.TheVariants.{Data, OutPorts}
use Rattle.eg_guard.proofs.AccessLemmas.{code-is, data-is, data-span, in_ports-is, out_ports-is, out_ports-span, results-is, protected-is}
use Rattle.eg_guard.proofs.WordsLemmas.{zeros_are_words}
use Rattle.eg_word.specs.Memory.{is_level1_own}
use Rattle.eg_word.specs.World.{world_of, new_registers, new_world}
use Rattle.eg_word.proofs.WorldLemmas.{world_of-elsewhere, world_of-new}
use Rattle.eg_sensor.specs.declared.readings.Readings.{Readings}
use Rattle.eg_level2.specs.Words.{address_of, word_at, AreMirrored, is_level2_own}
use Rattle.eg_level2.specs.Inputs.{readings_of, asked_of}
use Rattle.eg_level2.proofs.PlaceLemmas.{address_is, change_law}
use Rattle.eg_turns.specs.Board.{IsWritten, is_board_own, by_tracks, ten_ports}

-- ---- where it may store ----

pub code-store : (count : ℕ) → count ≤ 1024 → (k : ℕ) → k < count → IsTrue (access Board (0 + k)).store
unfolding access allows
code-store count most k below = ap (λ region. (allows region Board).store) (code-is (0 + k) (omega arith))

pub ports-store : (k : ℕ) → k < 10 → IsTrue (access Board (2048 + k)).store
unfolding access allows
ports-store k below = ap (λ region. (allows region Board).store) (in_ports-is (2048 + k) (omega arith) (omega arith))

pub data-store : (k : ℕ) → k < 1024 → IsTrue (access Board (1024 + k)).store
unfolding access allows
data-store k below = ap (λ region. (allows region Board).store) (data-is (1024 + k) (omega arith) (omega arith))

pub outs-store : (k : ℕ) → k < 2 → IsTrue (access Board (2064 + k)).store
unfolding access allows
outs-store k below = ap (λ region. (allows region Board).store) (out_ports-is (2064 + k) (first_or_next k below))
  where
    first_or_next : (k : ℕ) → k < 2 → (2064 + k ≡ 2064) ⊎ (2064 + k ≡ 2065)
    first_or_next k below = grind arith

pub throttle-load : IsTrue (access Board 2064).load
unfolding access allows region_of
throttle-load = refl

pub ignition-load : IsTrue (access Board 2065).load
unfolding access allows region_of
ignition-load = refl

pub link-store : IsTrue (access Board 2128).store
unfolding access allows region_of
link-store = refl

address_of-allowed : (number : ℕ) → number < 32 → access Board (address_of number) ≡ both
unfolding access allows
address_of-allowed number within = elim (address_is number) [
  | inl low ↦ let is = low.1 in let below = low.0 in ap (λ region. allows region Board) (results-is (address_of number) (omega arith) (omega arith))
  | inr high ↦ let is = high.1 in let from = high.0 in ap (λ region. allows region Board) (protected-is (address_of number) (omega arith) (omega arith))
]

pub address_of-store : (number address : ℕ) → address ≡ address_of number → number < 32 → IsTrue (access Board address).store
address_of-store number address is within = ap (λ a. (access Board a).store) is ∙ ap (λ allowed. allowed.store) (address_of-allowed number within)

pub address_of-load : (number address : ℕ) → address ≡ address_of number → number < 32 → IsTrue (access Board address).load
address_of-load number address is within = ap (λ a. (access Board a).load) is ∙ ap (λ allowed. allowed.load) (address_of-allowed number within)

-- ---- several words ----

pub none_written : (old : List ℕ) (first : ℕ) (values : List ℕ) → IsWritten old old first values 0
none_written old first values = record { told = λ k below. absurd (omega (arith, below)); elsewhere = λ address beyond. refl }

module _ (old mid : List ℕ) (first i : ℕ) (values : List ℕ) (size : length mid ≡ 4096) (within : first + i < 4096) (so : IsWritten old mid first values i) where
  abbrev set : List ℕ
  set = slice_set mid (first + i) (slice_index values i)

  set-value : (k : ℕ) → k < i + 1 → slice_index set (first + k) ≡ slice_index values k
  set-value k below = elim (eqb_tells k i) [
    | inl same ↦ ap (λ n. slice_index set (first + n)) same.1 ∙ get_or-set_same mid (first + i) (slice_index values i) 0 (omega (arith, size))
        ∙ ap (slice_index values) (sym same.1)
    | inr other ↦ get_or-set_other mid (first + i) (first + k) (slice_index values i) 0 (λ e. other.1 (omega arith))
        ∙ so.told k (let apart = other.1 in grind arith)
  ]

  set-elsewhere : (address : ℕ) → (address < first) ⊎ (first + (i + 1) ≤ address) → slice_index set address ≡ slice_index old address
  set-elsewhere address beyond =
      elim beyond [
        | inl below ↦ get_or-set_other mid (first + i) address (slice_index values i) 0 (λ e. omega arith) ∙ so.elsewhere address (inl below)
        | inr above ↦ get_or-set_other mid (first + i) address (slice_index values i) 0 (λ e. omega arith) ∙ so.elsewhere address (inr (omega arith))
      ]

  set-written : IsWritten old set first values (i + 1)
  set-written = record { told = set-value; elsewhere = set-elsewhere }

pub more_written : (old mid new : List ℕ) (first i address value : ℕ) (values : List ℕ) → new ≡ slice_set mid address value → address ≡ first + i
    → value ≡ slice_index values i → length mid ≡ 4096 → address < 4096 → IsWritten old mid first values i → IsWritten old new first values (i + 1)
more_written old mid new first i address value values e at is size within so =
    subst (λ memory. IsWritten old memory first values (i + 1)) (sym (e ∙ ap (λ a. slice_set mid a value) at ∙ ap (slice_set mid (first + i)) is))
    (set-written old mid first i values size (omega (arith, at)) so)

-- ---- level 1's data and outputs, cleared ----

data_own : is_level1_own Data ≡ true
unfolding is_level1_own
data_own = refl

outs_own : is_level1_own OutPorts ≡ true
unfolding is_level1_own
outs_own = refl

-- level 1's own words are these
own-words : (address : ℕ) → is_level1_own (region_of address) ≡ true →
    ((1024 ≤ address) × (address < 2048)) ⊎ ((address ≡ 2064) ⊎ (address ≡ 2065))
own-words address = go (region_of address) refl
  where
    none : false ≡ true → ⊥
    none e = cc

    go : (region : Region) → region_of address ≡ region → is_level1_own region ≡ true →
        ((1024 ≤ address) × (address < 2048)) ⊎ ((address ≡ 2064) ⊎ (address ≡ 2065))
    go Data is own = inl (data-span address is)
    go OutPorts is own = inr (out_ports-span address is)
    go _ is own = absurd (none (unfold is_level1_own in own))

module _ (old mid new : List ℕ) (words : IsWritten old mid 1024 (replicate 1024 0) 1024) (outs : IsWritten mid new 2064 (0 ∷ 0 ∷ []) 2) where
  cleared-at : (address : ℕ) → is_level1_own (region_of address) ≡ true → slice_index new address ≡ 0
  cleared-at address own = elim (own-words address own) [
    | inl inside ↦ (let from = inside.0 in let to = inside.1 in
        outs.elsewhere address (inl (omega arith)) ∙ datum address from to)
    | inr out ↦ elim out [
      | inl first ↦ ap (slice_index new) first ∙ outs.told 0 (omega arith)
      | inr next ↦ ap (slice_index new) next ∙ outs.told 1 (omega arith)
    ]
  ]
    where
      datum : (address : ℕ) → 1024 ≤ address → address < 2048 → slice_index mid address ≡ 0
      datum address from to = ap (slice_index mid) (address_of address from) ∙ words.told (address - 1024) (omega (arith, from, to))
          ∙ get_or-replicate 1024 (address - 1024) 0 0 (omega (arith, from, to))
        where
          address_of : (address : ℕ) → 1024 ≤ address → address ≡ 1024 + (address - 1024)
          address_of address from = omega (arith, from)

  pub cleared-world : AreWords new → world_of new_registers new ≡ new_world
  cleared-world are = world_of-elsewhere new_registers (replicate 4096 0) new zeros_are_words are
      (λ address own. cleared-at address own ∙ sym (zero_at address (own-words address own))) ∙ world_of-new
    where
      zero_at : (address : ℕ) → ((1024 ≤ address) × (address < 2048)) ⊎ ((address ≡ 2064) ⊎ (address ≡ 2065)) →
          slice_index (replicate 4096 0) address ≡ 0
      zero_at address own = get_or-replicate 4096 address 0 0 (within own)
        where
          within : ((1024 ≤ address) × (address < 2048)) ⊎ ((address ≡ 2064) ⊎ (address ≡ 2065)) → address < 4096
          within own = elim own [
            | inl inside ↦ (let to = inside.1 in omega arith)
            | inr out ↦ elim out [ inl first ↦ omega (arith, first) | inr next ↦ omega (arith, next) ]
          ]

  pub cleared-outside : SameOutside is_level1_own old new
  cleared-outside address outside = outs.elsewhere address (not_out address outside) ∙ words.elsewhere address (not_data address outside)
    where
      clash : true ≡ false → ⊥
      clash e = cc

      not_data : (address : ℕ) → is_level1_own (region_of address) ≡ false → (address < 1024) ⊎ (1024 + 1024 ≤ address)
      not_data address outside = elim (cases_lt address 1024) [
        | inl below ↦ inl below
        | inr from ↦ elim (cases_lt address 2048) [
          | inl to ↦ absurd (clash (sym (ap is_level1_own (data-is address from to) ∙ data_own) ∙ outside))
          | inr above ↦ inr above
        ]
      ]

      not_out : (address : ℕ) → is_level1_own (region_of address) ≡ false → (address < 2064) ⊎ (2064 + 2 ≤ address)
      not_out address outside = elim (cases_lt address 2064) [
        | inl below ↦ inl below
        | inr from ↦ elim (cases_lt address 2066) [
          | inl to ↦ absurd (clash (sym (ap is_level1_own (out_ports-is address (one_of address from to)) ∙ outs_own) ∙ outside))
          | inr above ↦ inr above
        ]
      ]
        where
          one_of : (address : ℕ) → 2064 ≤ address → address < 2066 → (address ≡ 2064) ⊎ (address ≡ 2065)
          one_of address from to = grind arith

-- ---- what is shown at a tick ----

module _ (old mid new : List ℕ) (asked : ℕ) (r : Readings) (e : new ≡ slice_set mid 2128 asked) (so : IsWritten old mid 2048 (ten_ports r) 10) where
  at : (k : ℕ) → k < 10 → slice_index new (2048 + k) ≡ slice_index (ten_ports r) k
  at k below = ap (λ memory. slice_index memory (2048 + k)) e ∙ get_or-set_other mid 2128 (2048 + k) asked 0 (λ q. omega arith) ∙ so.told k below

  pub shown_readings : readings_of new ≡ by_tracks r
  unfolding readings_of by_tracks
  shown_readings =
      let a : slice_index new 2048 ≡ slice_index r.pedal 0 = at 0 (omega arith) in
      let b : slice_index new 2049 ≡ slice_index r.pedal 1 = at 1 (omega arith) in
      let c : slice_index new 2050 ≡ slice_index r.plate 0 = at 2 (omega arith) in
      let d : slice_index new 2051 ≡ slice_index r.plate 1 = at 3 (omega arith) in
      let f : slice_index new 2052 ≡ slice_index r.load 0 = at 4 (omega arith) in
      let g : slice_index new 2053 ≡ slice_index r.load 1 = at 5 (omega arith) in
      let h : slice_index new 2054 ≡ slice_index r.speed 0 = at 6 (omega arith) in
      let k : slice_index new 2055 ≡ slice_index r.speed 1 = at 7 (omega arith) in
      let p : slice_index new 2056 ≡ r.raise = at 8 (omega arith) in
      let q : slice_index new 2057 ≡ r.raise_check = at 9 (omega arith) in
      rw (a, b, c, d, f, g, h, k, p, q) refl

  pub shown_asked : length mid ≡ 4096 → asked_of new ≡ asked
  unfolding asked_of
  shown_asked size = ap (λ memory. slice_index memory 2128) e ∙ get_or-set_same mid 2128 asked 0 (omega (arith, size))

  not-own : (address : ℕ) → is_board_own (region_of address) ≡ false → ((address < 2048) ⊎ (2058 ≤ address)) × (address ≢ 2128)
  unfolding is_board_own region_of
  not-own address outside = (apart, λ is. link is)
    where
      clash : true ≡ false → ⊥
      clash e = cc

      link : address ≡ 2128 → ⊥
      link is = clash (sym (ap (λ a. is_board_own (region_of a)) is) ∙ outside)

      apart : (address < 2048) ⊎ (2058 ≤ address)
      apart = elim (cases_lt address 2048) [
        | inl below ↦ inl below
        | inr from ↦ elim (cases_lt address 2058) [
          | inl to ↦ absurd (clash (sym (ap is_board_own (in_ports-is address from to)) ∙ outside))
          | inr above ↦ inr above
        ]
      ]

  pub shown_outside : SameOutside is_board_own old new
  shown_outside address outside =
      let where_is = not-own address outside in
      ap (λ memory. slice_index memory address) e ∙ get_or-set_other mid 2128 address asked 0 where_is.1 ∙ so.elsewhere address where_is.0

-- ---- a word that is flipped ----

-- a word with some of its bits flipped is another
flipped-apart : (word mask : ℕ) → 1 ≤ mask → bit_xor word mask ≢ word
flipped-apart word mask some same =
    let none : mask ≡ 0 = sym (ap (λ n. bit_xor n mask) (xor_self word) ∙ zero_left mask) ∙ xor_assoc word word mask ∙ ap (bit_xor word) same ∙ xor_self word in
    omega (arith, some, none)
  where
    zero_left : (n : ℕ) → bit_xor 0 n ≡ n
    zero_left n = xor_zero_l n

pub flipped_changed : (old new : List ℕ) (number address before mask : ℕ) → new ≡ slice_set old address (bit_xor before mask) → address ≡ address_of number
    → before ≡ slice_index old address → 1 ≤ mask → AreWords old → number < 32 → AreMirrored old → ¬ AreMirrored new
unfolding word_at
flipped_changed old new number address before mask e at is some are within mirrored still =
    change_law old number (bit_xor before mask) are within mirrored
    (λ same. flipped-apart before mask some (same ∙ ap (slice_index old) (sym at) ∙ sym is))
    (subst AreMirrored (e ∙ ap (λ a. slice_set old a (bit_xor before mask)) at) still)

own-address_of : (number : ℕ) → number < 32 → is_level2_own (region_of (address_of number)) ≡ true
unfolding is_level2_own
own-address_of number within = elim (address_is number) [
  | inl low ↦ let is = low.1 in let below = low.0 in ap is_level2_own (results-is (address_of number) (omega arith) (omega arith))
  | inr high ↦ let is = high.1 in let from = high.0 in ap is_level2_own (protected-is (address_of number) (omega arith) (omega arith))
]

pub flipped_outside : (old new : List ℕ) (number address word : ℕ) → new ≡ slice_set old address word → address ≡ address_of number → number < 32 → SameOutside is_level2_own old new
flipped_outside old new number address word e at within other outside =
    ap (λ memory. slice_index memory other) e ∙ get_or-set_other old address other word 0 apart
  where
    apart : other ≢ address
    apart same = let clash : true ≡ false = sym (own-address_of number within) ∙ ap (λ a. is_level2_own (region_of a)) (sym (same ∙ at)) ∙ outside in absurd (cc)

pub ruleset board = (code-store, data-store, outs-store, ports-store, link-store, address_of-store, address_of-load, throttle-load, ignition-load)
