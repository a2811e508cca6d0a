-- Each drawn run is a proper one.
use Rattle.std.proofs.Common.{◌≡◌, ◌∙◌, refl, sym, ap, ap₂, subst, ℕ, zero, suc, ◌+◌, ◌*◌, ◌%◌, ◌<◌, ◌≤◌, ◌==◌, Bool, true, false, List, [], ◌∷◌, take, replicate, length, Option, None, if◌then◌else◌, lit≤, lit<, arith}
use Rattle.std.specs.Prelude.{pos, All, IfSome, slice_index}
use Rattle.std.specs.List.Sorted.{IsStrictlyIncreasing}
use Rattle.std.proofs.lemmas.List.{length-append, length-replicate, length-take-le, get_or-take}
use Rattle.std.proofs.lemmas.List.Elements.{All-nil, All-cons, All-append, All-replicate, All-map, All-take, All-from_get_or}
use Rattle.eg_num.specs.Drive.{IsDrive}
use Rattle.eg_sensor.specs.declared.tracks.TheConstants.{PAIRED_TRACKS}
use Rattle.eg_answer.specs.declared.modules.TheConstants.{PAIRS, MODULES}
use Rattle.eg_answer.specs.declared.words.TheConstants.{STORED_WORDS}
use Rattle.eg_fault.specs.Faults.{AreFew, IsMask, IsValid, IsValidClass}
use Rattle.eg_fault.specs.declared.class.Class.TheVariants.{Script, Offset, Bus, Plate, Skip, Disturb, Flip, Halt, Timing, Wild, Path1Closed, Path2Closed, PathOpen, Lapse}
use Rattle.eg_fault.specs.declared.class.Fault.{Fault}
use Rattle.eg_fault.specs.declared.paths.TheConstants.{PATH_2}
use Rattle.eg_draw.specs.declared.runs.DrawnRun.{DrawnRun}
use Rattle.eg_draw.specs.Draws.{next, draw, after, draws}
use Rattle.eg_word.specs.declared.images.TheConstants.{IDLE, FULL}
use Rattle.eg_draw.specs.Runs.{full_with, image_of, image_draws, stretch_row, stretches, trace_of, one_of, drawn_mask, four_values, first_ticks, class_of, fault_of, before_fault, drawn_run, IsDrawn}

-- ---- what is drawn ----

pub draw-word : (x : ℕ) → draw x ≤ 65535
unfolding draw next
draw-word x = omega arith

one_of-least : (n x : ℕ) → 1 ≤ one_of n x
unfolding one_of
one_of-least n x = omega arith

one_of-most : (n x : ℕ) → 0 < n → one_of n x ≤ n
unfolding one_of
one_of-most n x some = omega arith

is_mask : (x : ℕ) → IsMask (drawn_mask x)
unfolding drawn_mask
is_mask x = (one_of-least 65535 x, one_of-most 65535 x (lit< tt))

length-draws : (n x : ℕ) → length (draws n x) ≡ n
unfolding draws
length-draws zero x = refl
length-draws (suc n) x = ap suc (length-draws n (next x))

words-draws : (n x : ℕ) → All (λ d. d ≤ 65535) (draws n x)
unfolding draws
words-draws zero x = All-nil (λ d. d ≤ 65535)
words-draws (suc n) x = All-cons (λ d. d ≤ 65535) (draw x) (draws n (next x)) (draw-word x) (words-draws n (next x))

-- what holds of both holds of either
either : {A : Type 0} (P : A → Type 0) (b : Bool) (x y : A) → P x → P y → P (if b then x else y)
either P true x y here there = here
either P false x y here there = there

-- ---- the image ----

full_with-short : (x : ℕ) → length (full_with x) ≤ 256
unfolding full_with
full_with-short x = lit≤ tt

idle-short : length IDLE ≤ 256
idle-short = lit≤ tt

full-short : length FULL ≤ 256
full-short = lit≤ tt

draws-short : (x : ℕ) → length (draws 256 x) ≤ 256
draws-short x = rw (length-draws 256 x) (lit≤ tt)

image-short : (kind x : ℕ) → length (image_of kind x) ≤ 256
unfolding image_of
image-short kind x =
    let P : List ℕ → Type 0 = λ words. length words ≤ 256 in
    either P (kind == 0) IDLE _ idle-short (either P (kind == 1) FULL _ full-short
    (either P (kind == 2) (draws 256 x) _ (draws-short x) (full_with-short x)))

-- ---- the drive ----

row-within : (x : ℕ) → IsDrive (stretch_row x)
unfolding stretch_row
row-within x = (omega arith, omega arith, omega arith)

length-stretches : (n x : ℕ) → length (stretches n x) ≡ 100 * n
unfolding stretches
length-stretches zero x = refl
length-stretches (suc n) x =
    let rest : length (stretches n (after 3 x)) ≡ 100 * n = length-stretches n (after 3 x) in
    length-append (replicate 100 (stretch_row x)) (stretches n (after 3 x))
    ∙ ap₂ (λ a b. a + b) (length-replicate 100 (stretch_row x)) rest ∙ hundred-more n
  where
    hundred-more : (n : ℕ) → 100 + 100 * n ≡ 100 * suc n
    hundred-more n = omega arith

stretches-within : (n x : ℕ) → All IsDrive (stretches n x)
unfolding stretches
stretches-within zero x = All-nil IsDrive
stretches-within (suc n) x =
    All-append IsDrive (replicate 100 (stretch_row x)) (stretches n (after 3 x))
    (All-replicate IsDrive 100 (stretch_row x) (row-within x)) (stretches-within n (after 3 x))

trace-rows : (x : ℕ) → length (trace_of x) ≡ 2000
unfolding trace_of
trace-rows x = length-stretches 20 x

trace-within : (x : ℕ) → All IsDrive (trace_of x)
unfolding trace_of
trace-within x = stretches-within 20 x

-- ---- the fault ----

values-few : (x : ℕ) → AreFew (length (four_values x))
unfolding four_values draws
values-few x = (lit≤ tt, lit≤ tt)

values-words : (x : ℕ) → All (λ value. value ≤ 65535) (four_values x)
unfolding four_values
values-words x =
    All-map (λ value. value ≤ 65535) (λ d. d % 1001) (draws 4 x)
    (All-from_get_or (λ d. d % 1001 ≤ 65535) (draws 4 x) 0 (λ i here. omega arith))

ticks-early : All (λ k. k ≤ 19999) (0 ∷ 1 ∷ 2 ∷ 3 ∷ 4 ∷ 5 ∷ 6 ∷ 7 ∷ [])
ticks-early = search (arith, All-cons, All-nil) depth 20

script-valid : (x : ℕ) → IsValidClass (Script (draw x % PAIRED_TRACKS) (four_values (next x)))
unfolding IsValidClass
script-valid x = (omega arith, values-few (next x), values-words (next x))

offset-valid : (x : ℕ) → IsValidClass (Offset (draw x % PAIRED_TRACKS) (pos (one_of 500 (next x))))
unfolding IsValidClass
offset-valid x =
    let most : one_of 500 (next x) ≤ 500 = one_of-most 500 (next x) (lit< tt) in
    (omega arith, (one_of-least 500 (next x), omega arith))

bus-valid : (x : ℕ) → IsValidClass (Bus (drawn_mask x))
unfolding IsValidClass
bus-valid x = is_mask x

plate-valid : (x : ℕ) → IsValidClass (Plate (draw x % 1001))
unfolding IsValidClass
plate-valid x = omega arith

skip-valid : (x : ℕ) → IsValidClass (Skip (draw x % MODULES))
unfolding IsValidClass
skip-valid x = omega arith

disturb-valid : (x : ℕ) → IsValidClass (Disturb (one_of PAIRS x) (drawn_mask (next x)))
unfolding IsValidClass
disturb-valid x = (one_of-least PAIRS x, one_of-most PAIRS x (lit< tt), is_mask (next x))

flip-valid : (x : ℕ) → IsValidClass (Flip (draw x % STORED_WORDS) (drawn_mask (next x)))
unfolding IsValidClass
flip-valid x = (omega arith, is_mask (next x))

timing-valid : (x : ℕ) → IsValidClass (Timing (draw x % 10))
unfolding IsValidClass
timing-valid x = omega arith

wild-valid : (x : ℕ) → IsValidClass (Wild (draws 2 x) (false ∷ []))
unfolding IsValidClass
wild-valid x = (rw (length-draws 2 x) (lit≤ tt, lit≤ tt), words-draws 2 x, (lit≤ tt, lit≤ tt))

path-valid : (x : ℕ) → IsValidClass (PathOpen (one_of PATH_2 x))
unfolding IsValidClass
path-valid x = (one_of-least PATH_2 x, one_of-most PATH_2 x (lit< tt))

-- the ticks of a lapse

ticks-rise : (k : ℕ) → k + 1 < 8 → slice_index (0 ∷ 1 ∷ 2 ∷ 3 ∷ 4 ∷ 5 ∷ 6 ∷ 7 ∷ []) k
    < slice_index (0 ∷ 1 ∷ 2 ∷ 3 ∷ 4 ∷ 5 ∷ 6 ∷ 7 ∷ []) (k + 1)
ticks-rise zero here = lit< tt
ticks-rise (suc zero) here = lit< tt
ticks-rise (suc (suc zero)) here = lit< tt
ticks-rise (suc (suc (suc zero))) here = lit< tt
ticks-rise (suc (suc (suc (suc zero)))) here = lit< tt
ticks-rise (suc (suc (suc (suc (suc zero))))) here = lit< tt
ticks-rise (suc (suc (suc (suc (suc (suc zero)))))) here = lit< tt
ticks-rise (suc (suc (suc (suc (suc (suc (suc k))))))) here = absurd (omega arith)

-- the first of numbers that rise do so
first-rise : (n : ℕ) (xs : List ℕ) → n ≤ length xs → IsStrictlyIncreasing xs → IsStrictlyIncreasing (take n xs)
first-rise n xs most rise k here =
    let few : length (take n xs) ≡ n = length-take-le n xs most in
    let next : k + 1 < n = omega arith in
    let this : k < n = omega arith in
    rw (get_or-take n xs k 0 this, get_or-take n xs (k + 1) 0 next) (rise k (omega arith))

length-ticks : (x : ℕ) → length (first_ticks x) ≡ one_of 8 x
unfolding first_ticks
length-ticks x = length-take-le (one_of 8 x) (0 ∷ 1 ∷ 2 ∷ 3 ∷ 4 ∷ 5 ∷ 6 ∷ 7 ∷ []) (one_of-most 8 x (lit< tt))

ticks-few : (x : ℕ) → AreFew (length (first_ticks x))
ticks-few x =
    let most : one_of 8 x ≤ 8 = one_of-most 8 x (lit< tt) in
    rw (length-ticks x) (one_of-least 8 x, omega arith)

first_ticks-early : (x : ℕ) → All (λ k. k ≤ 19999) (first_ticks x)
unfolding first_ticks
first_ticks-early x = All-take (λ k. k ≤ 19999) (one_of 8 x) (0 ∷ 1 ∷ 2 ∷ 3 ∷ 4 ∷ 5 ∷ 6 ∷ 7 ∷ []) ticks-early

first_ticks-rise : (x : ℕ) → IsStrictlyIncreasing (first_ticks x)
unfolding first_ticks
first_ticks-rise x =
    first-rise (one_of 8 x) (0 ∷ 1 ∷ 2 ∷ 3 ∷ 4 ∷ 5 ∷ 6 ∷ 7 ∷ []) (one_of-most 8 x (lit< tt)) ticks-rise

lapse-valid : (x : ℕ) → IsValidClass (Lapse (first_ticks x) 0)
unfolding IsValidClass
lapse-valid x = (ticks-few x, first_ticks-early x, first_ticks-rise x, lit≤ tt)

-- the others have no numbers
halt-valid : IsValidClass Halt
unfolding IsValidClass
halt-valid = tt

path_1-valid : IsValidClass Path1Closed
unfolding IsValidClass
path_1-valid = tt

path_2-valid : IsValidClass Path2Closed
unfolding IsValidClass
path_2-valid = tt

class-valid : (class x : ℕ) → IsValidClass (class_of class x)
unfolding class_of
class-valid class x =
    either IsValidClass (class == 0) _ _ (script-valid x)
    (either IsValidClass (class == 1) _ _ (offset-valid x)
    (either IsValidClass (class == 2) _ _ (bus-valid x)
    (either IsValidClass (class == 3) _ _ (plate-valid x)
    (either IsValidClass (class == 4) _ _ (skip-valid x)
    (either IsValidClass (class == 5) _ _ (disturb-valid x)
    (either IsValidClass (class == 6) _ _ (flip-valid x)
    (either IsValidClass (class == 7) _ _ halt-valid
    (either IsValidClass (class == 8) _ _ (timing-valid x)
    (either IsValidClass (class == 9) _ _ (wild-valid x)
    (either IsValidClass (class == 10) _ _ path_1-valid
    (either IsValidClass (class == 11) _ _ path_2-valid
    (either IsValidClass (class == 12) _ _ (path-valid x) (lapse-valid x)))))))))))))

fault-valid : (class x : ℕ) → IfSome (fault_of class x) IsValid
unfolding fault_of
fault-valid class x =
    let P : Option Fault → Type 0 = λ fault. IfSome fault IsValid in
    either P (class == 14) None _ tt (omega arith, class-valid class (next x))

-- ---- the run ----

pub drawn_proper : (x : ℕ) → IsDrawn (drawn_run x)
unfolding drawn_run
drawn_proper x = record {
  short = image-short (draw x % 4) (next x);
  rows = trace-rows (after (image_draws (draw x % 4)) (next x));
  within = trace-within (after (image_draws (draw x % 4)) (next x));
  valid = fault-valid (draw (before_fault x) % 15) (next (before_fault x));
}

pub proper_of : (run : DrawnRun) (x : ℕ) → run ≡ drawn_run x → IsDrawn run
proper_of run x is = subst IsDrawn (sym is) (drawn_proper x)
