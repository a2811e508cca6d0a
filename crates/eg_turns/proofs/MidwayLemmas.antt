-- Slices of level 1 and modules of level 2 in turn make the world and the words of the model.
use Rattle.std.proofs.Common.{◌≡◌, ◌∙◌, refl, sym, ap, ℕ, zero, suc, ◌+◌, ◌<◌, Bool, true, false, List, [], drop, length, slice_index, arith}
use Rattle.std.specs.Prelude.{if◌then◌else◌}
use Rattle.std.proofs.Math.Seq.{drop-cons}
use Rattle.std.proofs.lemmas.List.{drop_all}
use Rattle.eg_guard.specs.Memory.{AreWords, SameOutside}
use Rattle.eg_word.specs.declared.registers.Registers.{Registers}
use Rattle.eg_word.specs.Memory.{is_level1_own}
use Rattle.eg_word.specs.World.{View, World, world_of, Shows}
use Rattle.eg_host.specs.Slices.{world_slice, slices_from}
use Rattle.eg_level2.specs.Words.{Words, word_at, address_of, named, words_of, AreMirrored, is_level2_own}
use Rattle.eg_level2.specs.Inputs.{readings_of}
use Rattle.eg_level2.specs.Ticks.{Doing, after_module, after_modules, after_tick}
use Rattle.eg_turns.specs.Board.{ten_ports}
use Rattle.eg_turns.specs.Midway.{Work, signals_in, view_at, rest_of, IsMidway}
use Rattle.eg_turns.proofs.FrameLemmas.{level1_leaves, level2_leaves, set-stays, words-stay, mirrors-stay, world-stays}

-- ---- what a slice is shown ----

-- P at each number below 5, and below 10
below_5 : (P : ℕ → Type 0) → P 0 → P 1 → P 2 → P 3 → P 4 → (k : ℕ) → k < 5 → P k
below_5 P a b c d e zero h = a
below_5 P a b c d e (suc zero) h = b
below_5 P a b c d e (suc (suc zero)) h = c
below_5 P a b c d e (suc (suc (suc zero))) h = d
below_5 P a b c d e (suc (suc (suc (suc zero)))) h = e
below_5 P a b c d e (suc (suc (suc (suc (suc k))))) h = absurd (omega (arith, h))

below_10 : (P : ℕ → Type 0) → P 0 → P 1 → P 2 → P 3 → P 4 → P 5 → P 6 → P 7 → P 8 → P 9 → (k : ℕ) → k < 10 → P k
below_10 P a b c d e f g p q r zero h = a
below_10 P a b c d e f g p q r (suc zero) h = b
below_10 P a b c d e f g p q r (suc (suc zero)) h = c
below_10 P a b c d e f g p q r (suc (suc (suc zero))) h = d
below_10 P a b c d e f g p q r (suc (suc (suc (suc zero)))) h = e
below_10 P a b c d e f g p q r (suc (suc (suc (suc (suc k))))) h =
    below_5 (λ k. P (suc (suc (suc (suc (suc k)))))) f g p q r k (omega (arith, h))

-- the words at the ports are the readings, and those of the results are level 2's signals
ports-are : (memory : List ℕ) (k : ℕ) → k < 10 → slice_index memory (2048 + k) ≡ slice_index (ten_ports (readings_of memory)) k
unfolding readings_of
ports-are memory = below_10 (λ k. slice_index memory (2048 + k) ≡ slice_index (ten_ports (readings_of memory)) k)
    refl refl refl refl refl refl refl refl refl refl

results-are : (memory : List ℕ) (k : ℕ) → k < 5 → slice_index memory (2080 + k) ≡ slice_index (signals_in (words_of memory)) k
unfolding signals_in named word_at address_of
results-are memory = below_5 (λ k. slice_index memory (2080 + k) ≡ slice_index (signals_in (words_of memory)) k)
    refl refl refl refl refl

-- the memory shows what the next slice is to see
pub shows-view : (w : Work) (i j : ℕ) (m : Registers) (memory : List ℕ) → IsMidway w i j m memory → Shows memory (view_at w j)
unfolding view_at
shows-view w i j m memory is = record {
  are_words = is.set.are_words;
  image = is.set.code;
  ports = λ k within. ports-are memory k within ∙ ap (λ reads. slice_index (ten_ports reads) k) is.set.readings;
  results = λ k within. results-are memory k within ∙ ap (λ words. slice_index (signals_in words) k) is.words;
}

-- ---- a slice ----

then-part : (test : Bool) (x y p q : World) → test ≡ true → x ≡ y → (if test then x else p) ≡ (if test then y else q)
then-part true x y p q is same = same
then-part false x y p q is same = absurd (let clash : false ≡ true = is in cc)

else-part : (test : Bool) (x y world : World) → test ≡ false → (if test then x else world) ≡ (if test then y else world)
else-part false x y world is = refl
else-part true x y world is = absurd (let clash : true ≡ false = is in cc)

-- of the slices from j on, slice j is the first
front : (view : ℕ → View) (budgets : List ℕ) (j : ℕ) (world : World) → j < length budgets
    → slices_from (j + 1) view (drop (j + 1) budgets) (world_slice (view j) (slice_index budgets j) world)
    ≡ slices_from j view (drop j budgets) world
unfolding slices_from
front view budgets j world within =
    let one_more : j + 1 ≡ suc j = omega arith in
    ap (λ n. slices_from (j + 1) view (drop n budgets) (world_slice (view j) (slice_index budgets j) world)) one_more
    ∙ sym (ap (λ left. slices_from j view left world) (drop-cons budgets j 0 within))

rest-step : (w : Work) (j : ℕ) (world : World) → j < length w.slices → w.level1 ≡ true
    → rest_of w (j + 1) (world_slice (view_at w j) (slice_index w.slices j) world) ≡ rest_of w j world
unfolding rest_of
rest-step w j world within runs = then-part w.level1 _ _ _ _ runs (front (view_at w) w.slices j world within)

rest-idle : (w : Work) (i j : ℕ) (world : World) → w.level1 ≡ false → rest_of w i world ≡ rest_of w j world
unfolding rest_of
rest-idle w i j world idle = else-part w.level1 _ _ world idle

pub slice-midway : (w : Work) (j : ℕ) (m n : Registers) (old new : List ℕ) → w.level1 ≡ true → j < length w.slices → AreWords new
    → SameOutside is_level1_own old new
    → ((view : View) → Shows old view → world_of n new ≡ world_slice view (slice_index w.slices j) (world_of m old))
    → IsMidway w j j m old → IsMidway w (j + 1) j n new
slice-midway w j m n old new runs within are same made is = record {
  set = set-stays is_level1_own level1_leaves old new same w are is.set;
  mirrored = mirrors-stay old new same is.mirrored;
  words = words-stay old new same ∙ is.words;
  world = ap (rest_of w (j + 1)) (made (view_at w j) (shows-view w j j m old is))
      ∙ rest-step w j (world_of m old) within runs ∙ is.world;
}

-- where level 1 doesn't run nothing changes
pub idle-midway : (w : Work) (j : ℕ) (m : Registers) (memory : List ℕ) → w.level1 ≡ false → IsMidway w j j m memory → IsMidway w (j + 1) j m memory
idle-midway w j m memory idle is = record {
  set = is.set;
  mirrored = is.mirrored;
  words = is.words;
  world = rest-idle w (j + 1) j (world_of m memory) idle ∙ is.world;
}

-- ---- a module ----

module-more : (d : Doing) (j : ℕ) (words : Words) → after_module d j (after_modules d j words) ≡ after_modules d (j + 1) words
unfolding after_modules
module-more d j words = ap (λ n. after_modules d n words) (let one_more : suc j ≡ j + 1 = omega arith in one_more)

pub module-midway : (w : Work) (i j : ℕ) (m : Registers) (old new : List ℕ) → AreWords new → SameOutside is_level2_own old new → AreMirrored new
    → words_of new ≡ after_module w.doing j (words_of old) → IsMidway w i j m old → IsMidway w i (j + 1) m new
module-midway w i j m old new are same mirrored made is = record {
  set = set-stays is_level2_own level2_leaves old new same w are is.set;
  mirrored = mirrored;
  words = made ∙ ap (after_module w.doing j) is.words ∙ module-more w.doing j w.words;
  world = ap (rest_of w i) (world-stays m old new is.set.are_words are same) ∙ is.world;
}

-- ---- after all of them ----

pub all-words : (w : Work) (i : ℕ) (m : Registers) (memory : List ℕ) → IsMidway w i 8 m memory → words_of memory ≡ after_tick w.doing w.words
unfolding after_tick
all-words w i m memory is = is.words

none-left : (budgets : List ℕ) (n : ℕ) → length budgets ≡ n → drop n budgets ≡ []
none-left budgets n is = drop_all n budgets (omega (arith, is))

rest-none : (w : Work) (world : World) → length w.slices ≡ 9 → rest_of w 9 world ≡ world
unfolding rest_of slices_from
rest-none w world nine = ap (λ left. if w.level1 then slices_from 9 (view_at w) left world else world) (none-left w.slices 9 nine) ∙ same w.level1
  where
    same : (test : Bool) → (if test then world else world) ≡ world
    same true = refl
    same false = refl

pub all-world : (w : Work) (j : ℕ) (m : Registers) (memory : List ℕ) → length w.slices ≡ 9 → IsMidway w 9 j m memory → world_of m memory ≡ rest_of w 0 w.world
all-world w j m memory nine is = sym (rest-none w (world_of m memory) nine) ∙ is.world
