-- Runs that are played group by group: what is counted, and what is written at their places.
use Rattle.std.proofs.Common.{◌≡◌, ◌∙◌, refl, sym, ap, ap₂, subst, ℕ, ◌+◌, ◌<◌, ◌≤◌, Bool, true, List, [], ◌∷◌, ◌++◌, map, take, drop, get_or, length, add-one, append_assoc, arith}
use Rattle.std.specs.Prelude.{filter, if◌then◌else◌, slice_set}
use Rattle.std.specs.List.{flat_map}
use Rattle.std.proofs.Math.Seq.{drop-cons}
use Rattle.std.proofs.lemmas.List.{append-nil, set_at, take_all, drop_all, length-take-le, length-map}
use Rattle.eg_values.specs.Calibration.{CalibrationParts}
use Rattle.eg_record.specs.declared.row.Row.{Row}
use Rattle.eg_model.specs.Engines.{BenchEngine}
use Rattle.eg_tick.specs.Benched.{ComeTo}
use Rattle.eg_tick.specs.Weights.{TickCount}
use Rattle.eg_campaign.specs.declared.checkpoints.Shared.{Shared}
use Rattle.eg_plan.specs.declared.run_input.RunInput.{RunInput}
use Rattle.eg_tick.specs.Counting.{count_with, RanOutAmong}
use Rattle.eg_model.specs.EngineRuns.{EngineRun}
use Rattle.eg_campaign.specs.Plays.{run_with}
use Rattle.eg_campaign.specs.Groups.{is_alike, faultless, written_over}
use Rattle.eg_campaign.specs.Inner.Checkpoints.{IsSharedBy}
use Rattle.eg_campaign.proofs.AlikeLemmas.{alike, faultless-same}
use Rattle.eg_tick.proofs.CountLemmas.{counts_more, out_among, out_behind}
use Rattle.eg_campaign.proofs.PlayLemmas.{map-more}

-- ---- counting ----

-- Of these rows the first were made and counted, and the rest weren't yet.
pub record Counted (was is : TickCount) (rest whole : List Row) : Type 0 where
  pub done : List Row
  pub parts : done ++ rest ≡ whole
  pub counts : is ≡ count_with was done

pub begun : (was : TickCount) (whole : List Row) → was ≡ count_with was [] → Counted was was whole whole
begun was whole none = record { done = []; parts = refl; counts = none }

-- some rows more
pub more : (was mid is : TickCount) (own rest whole : List Row) → Counted was mid (own ++ rest) whole → is ≡ count_with mid own →
    Counted was is rest whole
more was mid is own rest whole so_far now = record {
  done = so_far.done ++ own;
  parts = append_assoc so_far.done own rest ∙ so_far.parts;
  counts = counts_more was mid is so_far.done own so_far.counts now;
}

-- the rest is said in another way
pub said : (was is : TickCount) (rest rest' whole : List Row) → rest ≡ rest' → Counted was is rest whole → Counted was is rest' whole
said was is rest rest' whole e so_far = record { done = so_far.done; parts = ap (λ (l : List Row). so_far.done ++ l) (sym e) ∙ so_far.parts; counts = so_far.counts }

-- memory ran out among some rows
pub stopped : (was mid is : TickCount) (own rest whole : List Row) → Counted was mid (own ++ rest) whole → RanOutAmong own mid is → RanOutAmong whole was is
stopped was mid is own rest whole so_far out = out_among was mid is so_far.done own rest whole so_far.parts so_far.counts out

-- memory ran out before all of them, and between two of them
pub out_none : (was : TickCount) (rows : List Row) → was ≡ count_with was [] → RanOutAmong rows was was
out_none was rows none = out_behind was was [] rows rows refl none

pub between : (was is : TickCount) (rest whole : List Row) → Counted was is rest whole → RanOutAmong whole was is
between was is rest whole so_far = out_behind was is so_far.done rest whole so_far.parts so_far.counts

-- all were counted
pub ended : (was is : TickCount) (whole : List Row) → Counted was is [] whole → is ≡ count_with was whole
ended was is whole so_far = so_far.counts ∙ ap (count_with was) (sym (append-nil so_far.done) ∙ so_far.parts)

-- ---- the rest of a list ----

pub next : {X : Type 0} (xs : List X) (i : ℕ) (x : X) → i < length xs → x ≡ get_or xs i x → drop i xs ≡ x ∷ drop (i + 1) xs
next xs i x below is = drop-cons xs i x below ∙ ap₂ (λ y ys. y ∷ ys) (sym is) (ap (λ n. drop n xs) (sym (add-one i)))

-- the rows of one item more
pub one_more : {X : Type 0} (f : X → List Row) (xs : List X) (i : ℕ) (x : X) → i < length xs → x ≡ get_or xs i x → (was mid is : TickCount) (whole : List Row) →
    Counted was mid (flat_map f (drop i xs)) whole → is ≡ count_with mid (f x) → Counted was is (flat_map f (drop (i + 1) xs)) whole
one_more f xs i x below at was mid is whole so_far now = more was mid is (f x) (flat_map f (drop (i + 1) xs)) whole
    (said was mid (flat_map f (drop i xs)) (f x ++ flat_map f (drop (i + 1) xs)) whole (ap (flat_map f) (next xs i x below at)) so_far) now

module _ {X A : Type 0} (f : X → List A) (p : X → Bool) where
  pub rest-when : {b : Bool} (xs : List X) (i : ℕ) (x : X) → i < length xs → x ≡ get_or xs i x → p x ≡ b →
      flat_map f (filter p (drop i xs)) ≡ flat_map f (if b then x ∷ filter p (drop (i + 1) xs) else filter p (drop (i + 1) xs))
  rest-when xs i x below is so = ap (λ l. flat_map f (filter p l)) (next xs i x below is)
      ∙ ap (λ b. flat_map f (if b then x ∷ filter p (drop (i + 1) xs) else filter p (drop (i + 1) xs))) so

-- ---- what is written ----

module _ {X T : Type 0} (after before : X → T) where
  -- up to a place what is after, and from there on what was before
  abbrev pub written_to : List X → ℕ → List T
  written_to xs i = map after (take i xs) ++ map before (drop i xs)

  step : (xs : List X) (i : ℕ) (x : X) → i < length xs → x ≡ get_or xs i x →
      map after (take i xs) ++ after x ∷ map before (drop (i + 1) xs) ≡ written_to xs (i + 1)
  step xs i x below is = sym (append_assoc (map after (take i xs)) (after x ∷ []) (map before (drop (i + 1) xs)))
      ∙ ap (λ l. l ++ map before (drop (i + 1) xs)) (sym (map-more after xs i x below is))

  here : (xs : List X) (i : ℕ) (x : X) → i < length xs → x ≡ get_or xs i x →
      written_to xs i ≡ map after (take i xs) ++ before x ∷ map before (drop (i + 1) xs)
  here xs i x below is = ap (λ l. map after (take i xs) ++ map before l) (next xs i x below is)

  -- one place is written
  pub wrote : (xs : List X) (i : ℕ) (x : X) (told : List T) (one : T) → i < length xs → x ≡ get_or xs i x → one ≡ after x →
      told ≡ written_to xs i → slice_set told i one ≡ written_to xs (i + 1)
  wrote xs i x told one below is is_one so_far =
      ap₂ (λ l y. slice_set l i y) (so_far ∙ here xs i x below is) is_one
      ∙ set_at (map after (take i xs)) (before x) (map before (drop (i + 1) xs)) (after x) i
      (length-map (take i xs) after ∙ length-take-le i xs (omega (arith, below)))
      ∙ step xs i x below is

  -- one place is left
  pub left : (xs : List X) (i : ℕ) (x : X) (told : List T) → i < length xs → x ≡ get_or xs i x → before x ≡ after x →
      told ≡ written_to xs i → told ≡ written_to xs (i + 1)
  left xs i x told below is same so_far = so_far ∙ here xs i x below is
      ∙ ap (λ y. map after (take i xs) ++ y ∷ map before (drop (i + 1) xs)) same ∙ step xs i x below is

  -- all are
  pub all_written : (xs : List X) (i : ℕ) (told : List T) → length xs ≤ i → told ≡ written_to xs i → told ≡ map after xs
  all_written xs i told end so_far = so_far ∙ ap₂ (λ a b. map after a ++ map before b) (take_all i xs end) (drop_all i xs end)
      ∙ append-nil (map after xs)

-- ---- what one input tells ----

-- what is shared of one run of a group is shared of each
pub shared_of : {S E : Type 0} (weighed : Bool) (b : BenchEngine S) (come_to : ComeTo S E) (shared : Shared E) (cal : CalibrationParts) (x y : RunInput) →
    is_alike x y ≡ true → IsSharedBy weighed b come_to (run_with cal (faultless x)).run shared → IsSharedBy weighed b come_to (run_with cal (faultless y)).run shared
shared_of weighed b come_to shared cal x y so is =
    subst (λ (r : EngineRun). IsSharedBy weighed b come_to r.run shared) (faultless-same cal x y (alike x y so)) is

pub written-when : {T : Type 0} {b : Bool} (tells : RunInput → T) (x : RunInput) (before : RunInput → T) (y : RunInput) → is_alike x y ≡ b →
    (if b then tells y else before y) ≡ written_over tells x before y
written-when tells x before y so = sym (ap (λ b. if b then tells y else before y) so)
