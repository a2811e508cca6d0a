-- What a store of a word and its complement makes of the words, and what it keeps.
use Rattle.std.proofs.Common.{◌≡◌, ◌≢◌, ◌∙◌, refl, sym, ap, subst, ℕ, ◌+◌, ◌-◌, ◌<◌, ◌≤◌, ◌↔◌, inl, inr, Bool, true, false, IsTrue, List, slice_index, arith}
use Rattle.std.specs.Prelude.{if◌then◌else◌, ◌&&◌, ◌==◌}
use Rattle.eg_guard.specs.Regions.{region_of}
use Rattle.std.proofs.lemmas.Bool.Decides.{eqb_tells}
use Rattle.std.proofs.lemmas.Bool.{eq-eqb, ne_eqb}
use Rattle.eg_level2.specs.Words.{word_at, AreMirrored, is_level2_own}
use Rattle.eg_level2.specs.Inner.Stores.{outside}
use Rattle.eg_level2.specs.Stores.{put, store, both, after_stores}

-- words by their numbers, each of the first `count` with its complement
abbrev pub MirrorBelow : ℕ → (ℕ → ℕ) → Type 0
MirrorBelow count word = (k : ℕ) → k < count → word k + word (k + 16) ≡ 65535

abbrev pub Mirror : (ℕ → ℕ) → Type 0
Mirror word = MirrorBelow 16 word

-- a word that is stored with its complement
at-both : (word : ℕ → ℕ) (number value k : ℕ) → number < 16 → value < 65536 → k < 16 → (k ≢ number → word k + word (k + 16) ≡ 65535)
    → after_stores (both number value) word k + after_stores (both number value) word (k + 16) ≡ 65535
unfolding both store after_stores put
at-both word number value k within fits below other = elim (eqb_tells k number) [
  | inl same ↦ rw (ne_eqb k (number + 16) (λ e. omega arith), same.0, eq-eqb (k + 16) (number + 16) (let e = same.1 in omega arith)) (omega arith)
  | inr apart ↦ rw (ne_eqb k (number + 16) (λ e. omega arith), apart.0, ne_eqb (k + 16) (number + 16) (λ e. apart.1 (omega arith)), ne_eqb (k + 16) number (λ e. omega arith)) (other apart.1)
]

pub both-mirror : (word : ℕ → ℕ) (number value : ℕ) → number < 16 → value < 65536 → Mirror word → Mirror (after_stores (both number value) word)
both-mirror word number value within fits m k h = at-both word number value k within fits h (λ apart. m k h)

pub mirror-more : (g h : ℕ → ℕ) (count value : ℕ) → count < 16 → value < 65536 → h ≡ after_stores (both count value) g → MirrorBelow count g → MirrorBelow (count + 1) h
mirror-more g h count value within fits e m =
    subst (MirrorBelow (count + 1)) (sym e) (λ k h. at-both g count value k within fits (omega arith) (λ apart. m k (grind arith)))

-- all words are mirrored where each of them was looked at
mirrored_all : (memory : List ℕ) → Mirror (word_at memory) → AreMirrored memory
mirrored_all memory sums = record { sums = sums }

-- ---- one word after another is compared with its complement ----

-- the next word and its complement, told whether they differ
told-more : (f : ℕ → ℕ) (n c w : ℕ) → MirrorBelow n f → c ≡ f (n + 16) → w ≡ f n → w < 65536 →
    IsTrue (c == 65535 - w) ↔ MirrorBelow (n + 1) f
told-more f n c w before ec ew fits = elim (eqb_tells c (65535 - w)) [
  | inl same ↦ (λ is. next same.1, λ all. same.0)
  | inr other ↦ (λ is. absurd (let clash : false ≡ true = sym other.0 ∙ is in cc), λ all. absurd (other.1 (let sum = all n (omega arith) in omega arith)))
]
  where
    next : c ≡ 65535 - w → MirrorBelow (n + 1) f
    next is k h = elim (eqb_tells k n) [
      | inl same ↦ subst (λ j. f j + f (j + 16) ≡ 65535) (sym same.1) (omega arith)
      | inr other ↦ before k (let apart = other.1 in grind arith)
    ]

pub compared-more : (f : ℕ → ℕ) (n c w : ℕ) (same : Bool) → IsTrue same ↔ MirrorBelow n f → c ≡ f (n + 16) → w ≡ f n → w < 65536 →
    IsTrue (same && (c == 65535 - w)) ↔ MirrorBelow (n + 1) f
compared-more f n c w false before ec ew fits = (λ no. absurd (let clash : false ≡ true = no in cc), λ all. before.1 (λ k h. all k (omega arith)))
compared-more f n c w true before ec ew fits = told-more f n c w (before.0 refl) ec ew fits

-- all sixteen
pub compared_all : (memory : List ℕ) (same : Bool) (n : ℕ) → 16 ≤ n → n ≤ 16 → IsTrue same ↔ MirrorBelow n (word_at memory) →
    IsTrue same ↔ AreMirrored memory
compared_all memory same n least most are = (
  λ is. mirrored_all memory (λ k h. are.0 is k (omega arith)),
  λ mirrored. are.1 (λ k h. mirrored.sums k (omega arith)),
)

-- ---- what is left ----

picked : (own : Bool) (a b : ℕ) → (if own then 0 else a) ≡ (if own then 0 else b) → own ≡ false → a ≡ b
picked true a b e is = absurd (let clash : true ≡ false = is in cc)
picked false a b e is = e

-- the words outside level 2's own regions, address by address
pub same_outside : (old new : List ℕ) (address : ℕ) → outside new ≡ outside old → is_level2_own (region_of address) ≡ false → slice_index new address ≡ slice_index old address
unfolding outside
same_outside old new address e is = picked (is_level2_own (region_of address)) (slice_index new address) (slice_index old address) (ap (λ (word : ℕ → ℕ). word address) e) is

pub ruleset outsides = (same_outside)
