-- The groups of a campaign: a run that is alone, a group of more, and the groups one after another.
use Rattle.std.proofs.Common.{◌≡◌, ◌∙◌, refl, sym, ap, ap₂, subst, ℕ, zero, suc, ◌+◌, ◌<◌, ◌≤◌, Bool, true, false, ◌||◌, List, [], ◌∷◌, ◌++◌, map, take, drop, get_or, length, length-append, arith}
use Rattle.std.specs.Prelude.{All, Result, IsErr, replicate, filter, if◌then◌else◌, slice_set}
use Rattle.std.specs.List.{flat_map, list_any}
use Rattle.std.proofs.lemmas.List.{map-append, take-append-drop, drop_all, take_all, append-nil, length-map, nil_from_length}
use Rattle.std.proofs.lemmas.List.Elements.{All-head, filter-append, filter_passes}
use Rattle.std.proofs.lemmas.Simd.{splat_is_map}
use Rattle.std.proofs.lemmas.Result.{IfOk-from_err}
use Rattle.std.specs.declared.vec.Vec.{Vec}
use Rattle.std.specs.declared.alloc.Global.{Global}
use Rattle.eg_values.specs.Calibration.{CalibrationParts}
use Rattle.eg_record.specs.declared.row.Row.{Row}
use Rattle.eg_record.specs.declared.run_facts.RunFacts.{RunFacts}
use Rattle.eg_tick.specs.Weights.{TickCount}
use Rattle.eg_plant.specs.declared.engine_kind.EngineKind.{EngineKind}
use Rattle.eg_plan.specs.declared.run_input.RunInput.{RunInput}
use Rattle.eg_tick.specs.Counting.{count_with, RanOutAmong}
use Rattle.eg_model.specs.Engines.{bench_of}
use Rattle.eg_model.specs.EngineRuns.{EngineRun, rows_in_time}
use Rattle.eg_campaign.specs.Plays.{run_with}
use Rattle.eg_tick.proofs.CountLemmas.{counted_err}
use Rattle.eg_campaign.specs.Groups.{AreTold, is_alike, group_of, firsts_after, groups_of, faultless, own_on, own_rows, rows_of_group, rows_shared, rows_made, told_on, told_by, written_over}
use Rattle.eg_campaign.specs.Inner.Keys.{is_alike-equality}
use Rattle.eg_campaign.proofs.AlikeLemmas.{alike, faultless-same}
use Rattle.eg_campaign.proofs.LeaderLemmas.{is_led, led-by_none, led-by_all, led-more, led-old}
use Rattle.eg_campaign.proofs.OneGroup.{Counted, said, more, stopped, ended, next, wrote, written_to}

-- ---- lists ----

pub map_same : {X Y : Type 0} (f g : X → Y) → ((x : X) → f x ≡ g x) → (xs : List X) → map f xs ≡ map g xs
map_same f g h xs = λ i. map (λ x. h x i) xs

pub map_same_at : {X Y : Type 0} (f g : X → Y) (xs : List X) → ((i : ℕ) (d : X) → i < length xs → f (get_or xs i d) ≡ g (get_or xs i d)) →
    map f xs ≡ map g xs
map_same_at f g [] h = refl
map_same_at f g (x ∷ xs) h = ap₂ (λ y ys. y ∷ ys) (h zero x (omega arith)) (map_same_at f g xs (λ i d below. h (suc i) d (omega (arith, below))))

module _ {X : Type 0} (p : X → Bool) where
  -- what passes, around an item that does
  filter-around : (xs : List X) (i : ℕ) (x : X) → i < length xs → x ≡ get_or xs i x → p x ≡ true →
      filter p xs ≡ filter p (take i xs) ++ x ∷ filter p (drop (i + 1) xs)
  filter-around xs i x below is so = ap (filter p) (sym (take-append-drop i xs)) ∙ filter-append p (take i xs) (drop i xs)
      ∙ ap (λ l. filter p (take i xs) ++ filter p l) (next xs i x below is)
      ∙ ap (λ b. filter p (take i xs) ++ (if b then x ∷ filter p (drop (i + 1) xs) else filter p (drop (i + 1) xs))) so

  -- where an item alone passes, nothing before it does, and nothing behind it
  before_none : (xs : List X) (i : ℕ) (x : X) → i < length xs → x ≡ get_or xs i x → p x ≡ true → length (filter p xs) < 2 → filter p (take i xs) ≡ []
  before_none xs i x below is so few = nil_from_length (filter p (take i xs))
      (omega (arith, few, ap length (filter-around xs i x below is so), length-append (filter p (take i xs)) (x ∷ filter p (drop (i + 1) xs))))

  after_none : (xs : List X) (i : ℕ) (x : X) → i < length xs → x ≡ get_or xs i x → p x ≡ true → length (filter p xs) < 2 → filter p (drop (i + 1) xs) ≡ []
  after_none xs i x below is so few = nil_from_length (filter p (drop (i + 1) xs))
      (omega (arith, few, ap length (filter-around xs i x below is so), length-append (filter p (take i xs)) (x ∷ filter p (drop (i + 1) xs))))

  pub alone : (xs : List X) (i : ℕ) (x : X) → i < length xs → x ≡ get_or xs i x → p x ≡ true → length (filter p xs) < 2 → filter p xs ≡ x ∷ []
  alone xs i x below is so few = filter-around xs i x below is so
      ∙ ap₂ (λ (a b : List X). a ++ x ∷ b) (before_none xs i x below is so few) (after_none xs i x below is so few)

  -- where none passes nothing is written
  unwritten : {T : Type 0} (f g : X → T) (xs : List X) → filter p xs ≡ [] → map (λ y. if p y then f y else g y) xs ≡ map g xs
  unwritten f g [] none = refl
  unwritten f g (x ∷ xs) none = go (p x) refl none (unwritten f g xs)
    where
      go : (b : Bool) → p x ≡ b → (if b then x ∷ filter p xs else filter p xs) ≡ [] →
          (filter p xs ≡ [] → map (λ y. if p y then f y else g y) xs ≡ map g xs) → map (λ y. if p y then f y else g y) (x ∷ xs) ≡ map g (x ∷ xs)
      go true is h rest = cc
      go false is h rest = ap₂ (λ y ys. y ∷ ys) (ap (λ b. if b then f x else g x) is) (rest h)

  -- so up to a place before which none passes all is written
  pub written_before : {T : Type 0} (f g : X → T) (xs : List X) (i : ℕ) → filter p (take i xs) ≡ [] → map g xs ≡ written_to (λ y. if p y then f y else g y) g xs i
  written_before f g xs i none = ap (map g) (sym (take-append-drop i xs)) ∙ map-append g (take i xs) (drop i xs)
      ∙ ap (λ l. l ++ map g (drop i xs)) (sym (unwritten f g (take i xs) none))

  -- and what passes stands behind it
  pub filter_behind : (xs : List X) (i : ℕ) → filter p (take i xs) ≡ [] → filter p xs ≡ filter p (drop i xs)
  filter_behind xs i none = ap (filter p) (sym (take-append-drop i xs)) ∙ filter-append p (take i xs) (drop i xs) ∙ ap (λ l. l ++ filter p (drop i xs)) none

  -- where one alone passes its place is written
  pub written_alone : {T : Type 0} (f g : X → T) (xs : List X) (i : ℕ) (x : X) → i < length xs → x ≡ get_or xs i x → p x ≡ true →
      length (filter p xs) < 2 → slice_set (map g xs) i (f x) ≡ map (λ y. if p y then f y else g y) xs
  written_alone f g xs i x below is so few =
      let w = λ (y : X). if p y then f y else g y in
      wrote w g xs i x (map g xs) (f x) below is (sym (ap (λ b. if b then f x else g x) so)) (written_before f g xs i (before_none xs i x below is so few))
      ∙ ap (λ l. map w (take (i + 1) xs) ++ l) (sym (unwritten f g (drop (i + 1) xs) (after_none xs i x below is so few)))
      ∙ sym (map-append w (take (i + 1) xs) (drop (i + 1) xs)) ∙ ap (map w) (take-append-drop (i + 1) xs)

  -- the first that passes passes
  pub head_passes : (xs : List X) (y : X) (l : List X) → filter p xs ≡ y ∷ l → p y ≡ true
  head_passes xs y l is = All-head (λ z. p z ≡ true) y l (subst (All (λ z. p z ≡ true)) is (filter_passes p xs))

  -- two functions that are one where p passes are one on what passes
  pub flat_map_same : {A : Type 0} (f g : X → List A) → ((y : X) → p y ≡ true → f y ≡ g y) → (xs : List X) → flat_map f (filter p xs) ≡ flat_map g (filter p xs)
  flat_map_same f g h [] = refl
  flat_map_same f g h (x ∷ xs) = go (p x) refl (flat_map_same f g h xs)
    where
      go : (b : Bool) → p x ≡ b → flat_map f (filter p xs) ≡ flat_map g (filter p xs) →
          flat_map f (if b then x ∷ filter p xs else filter p xs) ≡ flat_map g (if b then x ∷ filter p xs else filter p xs)
      go true so rest = ap₂ (λ a b. a ++ b) (h x so) rest
      go false so rest = rest

-- ---- a group ----

-- a group of more
more_rows : (cal : CalibrationParts) (x : RunInput) (g : List RunInput) → 2 ≤ length g → ((y : RunInput) (l : List RunInput) → g ≡ y ∷ l → is_alike x y ≡ true) →
    rows_of_group cal g ≡ rows_in_time (run_with cal (faultless x)) ++ flat_map (own_rows cal) g
unfolding rows_of_group
more_rows cal x [] long h = absurd (omega (arith, long))
more_rows cal x (y ∷ []) long h = absurd (omega (arith, long))
more_rows cal x (y ∷ z ∷ g) long h = ap (λ (r : EngineRun). rows_in_time r ++ flat_map (own_rows cal) (y ∷ z ∷ g)) (sym (faultless-same cal x y (alike x y (h y (z ∷ g) refl))))

own_same : (cal : CalibrationParts) (x y : RunInput) → is_alike x y ≡ true → own_rows cal y ≡ own_on (bench_of x.plan.engine) cal y
own_same cal x y so = ap (λ (k : EngineKind). own_on (bench_of k) cal y) (sym (alike x y so).engine)

pub shared_rows : (cal : CalibrationParts) (inputs : List RunInput) (x : RunInput) (k : EngineKind) → 2 ≤ length (group_of inputs x) → x.plan.engine ≡ k →
    rows_shared (bench_of k) cal inputs x ≡ rows_of_group cal (group_of inputs x)
unfolding rows_in_time
shared_rows cal inputs x k long is = ap (λ (k : EngineKind). rows_shared (bench_of k) cal inputs x) (sym is)
    ∙ ap (λ (l : List Row). rows_in_time (run_with cal (faultless x)) ++ l)
    (sym (flat_map_same (is_alike x) (own_rows cal) (own_on (bench_of x.plan.engine) cal) (own_same cal x) inputs))
    ∙ sym (more_rows cal x (group_of inputs x) long (head_passes (is_alike x) inputs))

-- what is written by the engine of the group is written by each that a run names
pub written_by : (weighed : Bool) (cal : CalibrationParts) (x : RunInput) (k : EngineKind) (before : RunInput → RunFacts) (inputs : List RunInput) →
    x.plan.engine ≡ k → map (written_over (told_on weighed (bench_of k) cal) x before) inputs ≡ map (written_over (told_by weighed cal) x before) inputs
written_by weighed cal x k before inputs is = map_same (written_over (told_on weighed (bench_of k) cal) x before) (written_over (told_by weighed cal) x before) each inputs
  where
    each : (y : RunInput) → written_over (told_on weighed (bench_of k) cal) x before y ≡ written_over (told_by weighed cal) x before y
    each y = go (is_alike x y) refl
      where
        go : (b : Bool) → is_alike x y ≡ b → (if b then told_on weighed (bench_of k) cal y else before y) ≡ (if b then told_by weighed cal y else before y)
        go true so = ap (λ (e : EngineKind). told_on weighed (bench_of e) cal y) (sym is ∙ (alike x y so).engine)
        go false so = refl

-- ---- the groups of a campaign ----

-- what stands at the place of an input once the groups that are led by the first i runs were played
unfoldable pub told_after : (weighed : Bool) → CalibrationParts → (none : RunFacts) → (inputs : List RunInput) → ℕ → RunInput → RunFacts
told_after weighed cal none inputs i y = if is_led inputs i y then told_by weighed cal y else none

-- the rows of the groups that are still to be played
unfoldable pub rows_left : CalibrationParts → (inputs earlier later : List RunInput) → List Row
rows_left cal inputs earlier later = flat_map (rows_of_group cal) (map (group_of inputs) (firsts_after earlier later))

-- The groups that are led by the first i runs were played: each of their runs is told, and they are counted.
pub record Goes (weighed : Bool) (cal : CalibrationParts) (inputs : List RunInput) (i : ℕ) (told : List RunFacts) (was is : TickCount) : Type 0 where
  pub none : RunFacts
  pub told_are : told ≡ map (told_after weighed cal none inputs i) inputs
  pub earlier : List RunInput
  pub led : (y : RunInput) → list_any (is_alike y) earlier ≡ is_led inputs i y
  pub counts : Counted was is (rows_left cal inputs earlier (drop i inputs)) (rows_made cal inputs)

-- the places of what is told are as many as the runs
pub places : (weighed : Bool) (cal : CalibrationParts) (inputs : List RunInput) (i : ℕ) (told : List RunFacts) (was is : TickCount) →
    Goes weighed cal inputs i told was is → length told ≡ length inputs
places weighed cal inputs i told was is goes = ap length goes.told_are ∙ length-map inputs (told_after weighed cal goes.none inputs i)

-- a slice of a vector's items goes back into it
pub wrote_back : {X T : Type 0} (len : ℕ) (now items : List T) (xs : List X) (f : X → T) → now ≡ map f xs → length items ≡ length xs → len ≡ length items →
    take len (now ++ drop (length now) items) ≡ now
wrote_back len now items xs f is places all =
    let long : length now ≡ length xs = ap length is ∙ length-map xs f in
    ap (λ l. take len (now ++ l)) (drop_all (length now) items (omega (arith, long, places))) ∙ ap (take len) (append-nil now)
    ∙ take_all len now (omega (arith, long, places, all))

-- where memory ran out nothing is told
pub not_told : {T E : Type 0} (tells : RunInput → T) (inputs : List RunInput) (rows : List Row) (was is : TickCount) (result : Result (Vec T Global) E) →
    IsErr result → RanOutAmong rows was is → AreTold tells inputs rows was is result
not_told tells inputs rows was is result err out = record { told = IfOk-from_err result _ err; counted = counted_err rows was is result err out }

-- no group is played yet
pub goes-begin : (weighed : Bool) (cal : CalibrationParts) (inputs : List RunInput) (told : List RunFacts) (none : RunFacts) (was : TickCount) →
    told ≡ replicate (length inputs) none → Counted was was (rows_made cal inputs) (rows_made cal inputs) → Goes weighed cal inputs 0 told was was
unfolding told_after rows_left rows_made groups_of
goes-begin weighed cal inputs told none was same counts = record {
  none = none;
  told_are = same ∙ splat_is_map inputs (length inputs) none refl
      ∙ map_same (λ (y : RunInput). none) (told_after weighed cal none inputs 0) (λ y. ap (λ b. if b then told_by weighed cal y else none) (sym (led-by_none inputs y))) inputs;
  earlier = [];
  led = λ y. sym (led-by_none inputs y);
  counts = counts;
}

module _ (weighed : Bool) (cal : CalibrationParts) (inputs : List RunInput) (earlier : List RunInput) (i : ℕ) (x : RunInput) (below : i < length inputs) (at : x ≡ get_or inputs i x) where
  -- a group that was played is none more
  left-old : list_any (is_alike x) earlier ≡ true → rows_left cal inputs earlier (drop i inputs) ≡ rows_left cal inputs (x ∷ earlier) (drop (i + 1) inputs)
  unfolding rows_left firsts_after
  left-old so = ap (rows_left cal inputs earlier) (next inputs i x below at)
      ∙ ap (λ (b : Bool). flat_map (rows_of_group cal) (map (group_of inputs)
      (if b then firsts_after (x ∷ earlier) (drop (i + 1) inputs) else x ∷ firsts_after (x ∷ earlier) (drop (i + 1) inputs)))) so

  left-new : list_any (is_alike x) earlier ≡ false →
      rows_left cal inputs earlier (drop i inputs) ≡ rows_of_group cal (group_of inputs x) ++ rows_left cal inputs (x ∷ earlier) (drop (i + 1) inputs)
  unfolding rows_left firsts_after
  left-new so = ap (rows_left cal inputs earlier) (next inputs i x below at)
      ∙ ap (λ (b : Bool). flat_map (rows_of_group cal) (map (group_of inputs)
      (if b then firsts_after (x ∷ earlier) (drop (i + 1) inputs) else x ∷ firsts_after (x ∷ earlier) (drop (i + 1) inputs)))) so

  -- with x the runs that are led by one place more are those of a group of an earlier one
  led-on : ((y : RunInput) → list_any (is_alike y) earlier ≡ is_led inputs i y) → (y : RunInput) → list_any (is_alike y) (x ∷ earlier) ≡ is_led inputs (i + 1) y
  led-on led y = ap (λ b. is_alike y x || b) (led y) ∙ led-more inputs i x below at y

  either : {T : Type 0} (a b l : Bool) (t none : T) → a ≡ b → (if a then t else (if l then t else none)) ≡ (if b || l then t else none)
  either a true l t none e = ap (λ k. if k then t else (if l then t else none)) e
  either a false l t none e = ap (λ k. if k then t else (if l then t else none)) e

  told-new : (none : RunFacts) (y : RunInput) → written_over (told_by weighed cal) x (told_after weighed cal none inputs i) y ≡ told_after weighed cal none inputs (i + 1) y
  unfolding told_after
  told-new none y = either (is_alike x y) (is_alike y x) (is_led inputs i y) (told_by weighed cal y) none (is_alike-equality.symm x y)
      ∙ ap (λ b. if b then told_by weighed cal y else none) (led-more inputs i x below at y)

  told-old : is_led inputs i x ≡ true → (none : RunFacts) (y : RunInput) → told_after weighed cal none inputs i y ≡ told_after weighed cal none inputs (i + 1) y
  unfolding told_after
  told-old so none y = ap (λ b. if b then told_by weighed cal y else none) (led-old inputs i x below at so y)

module _ (weighed : Bool) (cal : CalibrationParts) (inputs : List RunInput) (i : ℕ) (x : RunInput) (below : i < length inputs) (at : x ≡ get_or inputs i x) where
  -- an input whose group was played, since one before it leads it
  pub goes-on : (told : List RunFacts) (was mid : TickCount) → is_led inputs i x ≡ true → Goes weighed cal inputs i told was mid → Goes weighed cal inputs (i + 1) told was mid
  goes-on told was mid so so_far = record {
    none = so_far.none;
    told_are = so_far.told_are ∙ map_same (told_after weighed cal so_far.none inputs i) (told_after weighed cal so_far.none inputs (i + 1)) (told-old weighed cal inputs so_far.earlier i x below at so so_far.none) inputs;
    earlier = x ∷ so_far.earlier;
    led = led-on weighed cal inputs so_far.earlier i x below at so_far.led;
    counts = said _ _ _ _ _ (left-old weighed cal inputs so_far.earlier i x below at (so_far.led x ∙ so)) so_far.counts;
  }

  -- an input whose group is played now
  pub goes-new : (told now : List RunFacts) (was mid new : TickCount) → is_led inputs i x ≡ false → (so_far : Goes weighed cal inputs i told was mid) →
      now ≡ map (written_over (told_by weighed cal) x (told_after weighed cal so_far.none inputs i)) inputs →
      new ≡ count_with mid (rows_of_group cal (group_of inputs x)) → Goes weighed cal inputs (i + 1) now was new
  goes-new told now was mid new so so_far written counted = record {
    none = so_far.none;
    told_are = written ∙ map_same (written_over (told_by weighed cal) x (told_after weighed cal so_far.none inputs i)) (told_after weighed cal so_far.none inputs (i + 1))
        (told-new weighed cal inputs so_far.earlier i x below at so_far.none) inputs;
    earlier = x ∷ so_far.earlier;
    led = led-on weighed cal inputs so_far.earlier i x below at so_far.led;
    counts = more _ _ _ _ _ _ (said _ _ _ _ _ (left-new weighed cal inputs so_far.earlier i x below at (so_far.led x ∙ so)) so_far.counts) counted;
  }

  -- it is stopped there
  pub goes-stopped : (told : List RunFacts) (was mid new : TickCount) → is_led inputs i x ≡ false → Goes weighed cal inputs i told was mid →
      RanOutAmong (rows_of_group cal (group_of inputs x)) mid new → RanOutAmong (rows_made cal inputs) was new
  goes-stopped told was mid new so so_far within =
      stopped _ _ _ _ _ _ (said _ _ _ _ _ (left-new weighed cal inputs so_far.earlier i x below at (so_far.led x ∙ so)) so_far.counts) within

-- all were played
pub goes-end-told : (weighed : Bool) (cal : CalibrationParts) (inputs : List RunInput) (i : ℕ) (told : List RunFacts) (was mid : TickCount) →
    length inputs ≤ i → Goes weighed cal inputs i told was mid → told ≡ map (told_by weighed cal) inputs
unfolding told_after
goes-end-told weighed cal inputs i told was mid end so_far = so_far.told_are ∙ map_same_at (told_after weighed cal so_far.none inputs i) (told_by weighed cal) inputs
    (λ j d below. ap (λ b. if b then told_by weighed cal (get_or inputs j d) else so_far.none) (led-by_all inputs i j d below end))

pub goes-end-counted : (weighed : Bool) (cal : CalibrationParts) (inputs : List RunInput) (i : ℕ) (told : List RunFacts) (was mid : TickCount) →
    length inputs ≤ i → Goes weighed cal inputs i told was mid → mid ≡ count_with was (rows_made cal inputs)
unfolding rows_left firsts_after
goes-end-counted weighed cal inputs i told was mid end so_far =
    ended _ _ _ (said _ _ _ _ _ (ap (rows_left cal inputs so_far.earlier) (drop_all i inputs end)) so_far.counts)
