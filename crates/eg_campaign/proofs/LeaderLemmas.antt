-- Leaders: the first of these inputs that is of the group of one.
use Rattle.std.proofs.Common.{◌≡◌, ◌∙◌, refl, sym, ap, ap₂, subst, ℕ, zero, suc, ◌+◌, ◌<◌, ◌≤◌, Bool, true, false, not, ◌&&◌, ◌||◌, ◌==◌, nat_lt, List, [], ◌∷◌, map, take, length, get_or, cond, arith, Option, Some, None, inl, inr}
use Rattle.std.specs.Prelude.{All, filter, is_some, unwrap_or, slice_set, if◌then◌else◌}
use Rattle.std.specs.List.{position_or_len}
use Rattle.std.specs.Cmp.{both_ways}
use Rattle.std.proofs.lemmas.Bool.{true≢false, cases_lt, lt-ltb, ltb-true, ltb-false, eq-eqb, ne_eqb, eqb-true}
use Rattle.std.proofs.lemmas.Bool.Decides.{nat_tests}
use Rattle.std.proofs.lemmas.List.{get_or_default, get_or-set_same, get_or-set_other, length-map, length-take-le}
use Rattle.std.proofs.lemmas.List.Filters.{length-filter_more, length-filter_both}
use Rattle.std.proofs.lemmas.List.Sums.{fails_before_first, prefix_len_stops}
use Rattle.eg_plan.specs.declared.run_input.RunInput.{RunInput}
use Rattle.eg_campaign.specs.declared.key.GroupKey.{GroupKey}
use Rattle.eg_campaign.specs.Groups.{AreAlike, is_alike, group_of, leader_in}
use Rattle.eg_campaign.specs.Inner.Keys.{group_number, is_same_key, is_alike-equality}
use Rattle.eg_campaign.proofs.AlikeLemmas.{alike}
use Rattle.eg_campaign.proofs.PlayLemmas.{mapped-at}

-- ---- keys ----

and_no : (b : Bool) → (b && false) ≡ false
and_no true = refl
and_no false = refl

-- runs of one group have one number
group_number-same : (x y : RunInput) → AreAlike x y → group_number x ≡ group_number y
unfolding group_number
group_number-same x y h = let a = h.engine in let b = h.image in let c = h.plan in let d = h.drive in cc

-- so the test of two keys is that of their runs
key-test : (a b : GroupKey) → a.number ≡ group_number a.input.now → b.number ≡ group_number b.input.now → is_same_key a b ≡ is_alike a.input.now b.input.now
key-test a b is_a is_b = go (is_alike a.input.now b.input.now) refl
  where
    same_number : is_alike a.input.now b.input.now ≡ true → (a.number == b.number) ≡ true
    same_number so = eq-eqb a.number b.number (is_a ∙ group_number-same a.input.now b.input.now (alike a.input.now b.input.now so) ∙ sym is_b)

    go : (t : Bool) → is_alike a.input.now b.input.now ≡ t → is_same_key a b ≡ t
    go true so = ap₂ (λ n t. n && t) (same_number so) so
    go false so = ap (λ t. a.number == b.number && t) so ∙ and_no (a.number == b.number)

-- ---- leaders ----

not_not : (b : Bool) → not b ≡ false → b ≡ true
not_not true h = refl
not_not false h = cc

-- one of the first i runs leads this one
abbrev pub is_led : List RunInput → ℕ → RunInput → Bool
is_led inputs i y = nat_lt (leader_in inputs y) i

-- none is led by none
pub led-by_none : (inputs : List RunInput) (y : RunInput) → is_led inputs 0 y ≡ false
led-by_none inputs y = grind (arith, nat_tests)

-- runs of one group have one leader
leader-same : (inputs : List RunInput) (x y : RunInput) → is_alike x y ≡ true → leader_in inputs x ≡ leader_in inputs y
leader-same inputs x y h = λ i. position_or_len (λ z. is_alike-equality.congr x y z h i) inputs

-- a run that is alone leads itself
pub leader-alone : (inputs : List RunInput) → length inputs ≡ 1 → 0 ∷ [] ≡ map (leader_in inputs) inputs
leader-alone [] alone = absurd (omega arith)
leader-alone (x ∷ []) alone = ap (λ (n : ℕ). n ∷ []) (leads (is_alike x x) (is_alike-equality.refl x))
  where
    leads : (test : Bool) → test ≡ true → ◌≡◌ {A = ℕ} 0 (if not test then 1 else 0)
    leads true so = refl
    leads false so = absurd (let clash : false ≡ true = so in cc)
leader-alone (x ∷ y ∷ more) alone = absurd (omega arith)

-- none that passes stands before the first
none_first : {X : Type 0} (p : X → Bool) (xs : List X) → filter p (take (position_or_len p xs) xs) ≡ []
none_first p [] = refl
none_first p (x ∷ xs) = go (p x) refl (none_first p xs)
  where
    one : (n : ℕ) → 1 + n ≡ suc n
    one n = omega arith

    go : (b : Bool) → p x ≡ b → filter p (take (position_or_len p xs) xs) ≡ [] → filter p (take (if not b then 1 + position_or_len p xs else 0) (x ∷ xs)) ≡ []
    go true so rest = refl
    go false so rest = ap (λ n. filter p (take n (x ∷ xs))) (one (position_or_len p xs))
        ∙ ap (λ b. if b then x ∷ filter p (take (position_or_len p xs) xs) else filter p (take (position_or_len p xs) xs)) so ∙ rest

module _ (inputs : List RunInput) (i : ℕ) (x : RunInput) (below : i < length inputs) (at : x ≡ get_or inputs i x) where
  -- a run leads itself, or one before it does
  leader-most : leader_in inputs x ≤ i
  leader-most = elim (cases_lt i (leader_in inputs x)) [
    | inl less ↦ absurd (true≢false (sym (is_alike-equality.refl x) ∙ ap (is_alike x) at ∙ fails_before_first (is_alike x) inputs i x less))
    | inr not_less ↦ not_less
  ]

  leader-here : is_led inputs i x ≡ false → leader_in inputs x ≡ i
  leader-here not_less = let most = leader-most in let least = ltb-false (leader_in inputs x) i not_less in omega (arith, most, least)

  pub led-before : ¬ (leader_in inputs x ≡ i) → is_led inputs i x ≡ true
  led-before other = let most = leader-most in lt-ltb (leader_in inputs x) i (omega (arith, most, other))

  pub not_led : leader_in inputs x ≡ i → is_led inputs i x ≡ false
  not_led here = grind (arith, nat_tests)

  -- none of its group stands before a leader
  pub none-before : leader_in inputs x ≡ i → filter (is_alike x) (take i inputs) ≡ []
  none-before here = ap (λ n. filter (is_alike x) (take n inputs)) (sym here) ∙ none_first (is_alike x) inputs

  -- whom x leads is of its group
  leads : (y : RunInput) → leader_in inputs y ≡ i → is_alike y x ≡ true
  leads y here = ap (is_alike y) (at ∙ ap (λ n. get_or inputs n x) (sym here))
      ∙ not_not (is_alike y (get_or inputs (leader_in inputs y) x))
      (prefix_len_stops (λ z. not (is_alike y z)) inputs x (subst (λ n. n < length inputs) (sym here) below))

  pub leads-test : leader_in inputs x ≡ i → (y : RunInput) → (leader_in inputs y == i) ≡ is_alike x y
  leads-test here y = both_ways (leader_in inputs y == i) (is_alike x y)
      (λ e. is_alike-equality.symm x y ∙ leads y (eqb-true (leader_in inputs y) i e))
      (λ so. eq-eqb (leader_in inputs y) i (sym (leader-same inputs x y so) ∙ here))

  -- one place more: where x doesn't lead y
  led-other : (y : RunInput) → ¬ (leader_in inputs y ≡ i) → is_led inputs i y ≡ is_led inputs (i + 1) y
  led-other y other = same (leader_in inputs y) other
    where
      same : (n : ℕ) → ¬ (n ≡ i) → nat_lt n i ≡ nat_lt n (i + 1)
      same n other = grind (arith, nat_tests)

  apart : (y : RunInput) → is_alike y x ≡ false → ¬ (leader_in inputs y ≡ i)
  apart y so here = true≢false (sym (leads y here) ∙ so)

  -- where it is of the group of x
  led-together : (y : RunInput) → is_alike y x ≡ true → is_led inputs (i + 1) y ≡ true
  led-together y so = let most = leader-most in let one = leader-same inputs y x so in lt-ltb (leader_in inputs y) (i + 1) (omega (arith, most, one))

  pub led-more : (y : RunInput) → (is_alike y x || is_led inputs i y) ≡ is_led inputs (i + 1) y
  led-more y = go (is_alike y x) refl
    where
      go : (b : Bool) → is_alike y x ≡ b → (b || is_led inputs i y) ≡ is_led inputs (i + 1) y
      go true so = sym (led-together y so)
      go false so = led-other y (apart y so)

  -- where x is led by one before it
  pub led-old : is_led inputs i x ≡ true → (y : RunInput) → is_led inputs i y ≡ is_led inputs (i + 1) y
  led-old less y = led-other y (λ here.
      let one = leader-same inputs y x (leads y here) in let l = ltb-true (leader_in inputs x) i less in omega (arith, one, l, here))

-- at the end each run is led
pub led-by_all : (inputs : List RunInput) (i j : ℕ) (d : RunInput) → j < length inputs → length inputs ≤ i → is_led inputs i (get_or inputs j d) ≡ true
led-by_all inputs i j d below end =
    let most = leader-most inputs j (get_or inputs j d) below (get_or_default inputs j d (get_or inputs j d) below) in
    lt-ltb (leader_in inputs (get_or inputs j d)) i (omega (arith, most, below, end))

-- ---- a map of the leaders ----

-- the leader of a run, if it is one of the first i
abbrev pub found_in : List RunInput → ℕ → RunInput → Option ℕ
found_in inputs i y = if is_led inputs i y then Some (leader_in inputs y) else None

module _ (inputs : List RunInput) (i : ℕ) (x : RunInput) (below : i < length inputs) (at : x ≡ get_or inputs i x) where
  pub leader-found : (found : Option ℕ) (leader : ℕ) → found ≡ found_in inputs i x → leader ≡ unwrap_or found i → leader ≡ leader_in inputs x
  leader-found found leader looked is = is ∙ ap (λ f. unwrap_or f i) looked ∙ go (is_led inputs i x) refl
    where
      go : (t : Bool) → is_led inputs i x ≡ t → unwrap_or (if t then Some (leader_in inputs x) else None) i ≡ leader_in inputs x
      go true less = refl
      go false not_less = sym (leader-here inputs i x below at not_less)

  found-old : is_led inputs i x ≡ true → (y : RunInput) → found_in inputs i y ≡ found_in inputs (i + 1) y
  found-old less y = ap (λ t. if t then Some (leader_in inputs y) else None) (led-old inputs i x below at less y)

  found-new : is_led inputs i x ≡ false → (y : RunInput) → (if is_alike x y then Some i else found_in inputs i y) ≡ found_in inputs (i + 1) y
  found-new not_less y = go (is_alike x y) refl
    where
      go : (t : Bool) → is_alike x y ≡ t → (if t then Some i else found_in inputs i y) ≡ found_in inputs (i + 1) y
      go true so = ap Some (sym (leader-here inputs i x below at not_less) ∙ leader-same inputs x y so)
          ∙ ap (λ t. if t then Some (leader_in inputs y) else None) (sym (led-together inputs i x below at y (is_alike-equality.symm y x ∙ so)))
      go false so = ap (λ t. if t then Some (leader_in inputs y) else None) (led-other inputs i x below at y (apart inputs i x below at y (is_alike-equality.symm y x ∙ so)))

  -- by the key of x its leader is found
  pub found-in-key : (key : GroupKey) → key.number ≡ group_number x → key.input.now ≡ x → (old : GroupKey → Option ℕ) →
      ((k : GroupKey) → k.number ≡ group_number k.input.now → old k ≡ found_in inputs i k.input.now) → old key ≡ found_in inputs i x
  found-in-key key number input old so_far = so_far key (number ∙ ap group_number (sym input)) ∙ ap (found_in inputs i) input

  pub found-next : (key : GroupKey) → key.number ≡ group_number x → key.input.now ≡ x → (old new : GroupKey → Option ℕ) →
      ((k : GroupKey) → k.number ≡ group_number k.input.now → old k ≡ found_in inputs i k.input.now) →
      ((k : GroupKey) → new k ≡ (if is_some (old key) then old k else (if is_same_key key k then Some i else old k))) →
      (k : GroupKey) → k.number ≡ group_number k.input.now → new k ≡ found_in inputs (i + 1) k.input.now
  found-next key number input old new so_far put k is =
      let y = k.input.now in
      let test : is_same_key key k ≡ is_alike x y = key-test key k (number ∙ ap group_number (sym input)) is ∙ ap (λ z. is_alike z y) input in
      put k ∙ ap₂ (λ o n. if is_some o then n else (if is_same_key key k then Some i else n)) (found-in-key key number input old so_far) (so_far k is)
      ∙ ap (λ t. if is_some (found_in inputs i x) then found_in inputs i y else (if t then Some i else found_in inputs i y)) test
      ∙ go (is_led inputs i x) refl
    where
      go : (t : Bool) → is_led inputs i x ≡ t →
          (if is_some (if t then Some (leader_in inputs x) else None) then found_in inputs i k.input.now else (if is_alike x k.input.now then Some i else found_in inputs i k.input.now))
          ≡ found_in inputs (i + 1) k.input.now
      go true less = found-old less k.input.now
      go false not_less = found-new not_less k.input.now

-- ---- the leader of each run ----

-- the item at a place
pub item : {X : Type 0} (xs : List X) (i : ℕ) → i < length xs → (x : X) × (x ≡ get_or xs i x)
item [] i below = absurd (omega (arith, below))
item (x ∷ xs) zero below = (x, refl)
item (x ∷ xs) (suc i) below = item xs i (omega (arith, below))

pub one_item : {X : Type 0} (xs : List X) (i : ℕ) (x y : X) → i < length xs → x ≡ get_or xs i x → y ≡ get_or xs i y → x ≡ y
one_item xs i x y below at there = at ∙ get_or_default xs i x y below ∙ sym there

module _ (inputs : List RunInput) (leaders : List ℕ) (are : leaders ≡ map (leader_in inputs) inputs) where
  -- at each place that of the run there
  pub leader-at : (j : ℕ) (y : RunInput) (d : ℕ) → j < length inputs → y ≡ get_or inputs j y → get_or leaders j d ≡ leader_in inputs y
  leader-at = mapped-at (leader_in inputs) inputs leaders are

  pub leaders-below : All (λ leader. leader < length leaders) leaders
  leaders-below j d below =
      let long : length leaders ≡ length inputs = ap length are ∙ length-map inputs (leader_in inputs) in
      let within : j < length inputs = omega (arith, long, below) in
      let (y, there) = item inputs j within in
      let is = leader-at j y d within there in
      let most = leader-most inputs j y within there in
      omega (arith, long, within, is, most)

  -- whether x leads the run there
  pub led-here : (i : ℕ) (x : RunInput) → i < length inputs → x ≡ get_or inputs i x → leader_in inputs x ≡ i →
      (j : ℕ) (y : RunInput) (d : ℕ) → j < length inputs → y ≡ get_or inputs j y → get_or leaders j d ≡ i → is_alike x y ≡ true
  led-here i x below at here j y d within there led = sym (leads-test inputs i x below at here y)
      ∙ eq-eqb (leader_in inputs y) i (sym (leader-at j y d within there) ∙ led)

  pub led-elsewhere : (i : ℕ) (x : RunInput) → i < length inputs → x ≡ get_or inputs i x → leader_in inputs x ≡ i →
      (j : ℕ) (y : RunInput) (d : ℕ) → j < length inputs → y ≡ get_or inputs j y → ¬ (get_or leaders j d ≡ i) → is_alike x y ≡ false
  led-elsewhere i x below at here j y d within there other = sym (leads-test inputs i x below at here y)
      ∙ ne_eqb (leader_in inputs y) i (λ e. other (leader-at j y d within there ∙ e))

  -- those that x leads are as many as the runs of its group
  pub count-led : (i : ℕ) (x : RunInput) → i < length inputs → x ≡ get_or inputs i x → leader_in inputs x ≡ i →
      length (filter (λ l. l == i) leaders) ≡ length (group_of inputs x)
  count-led i x below at here = ap (λ l. length (filter (λ l. l == i) l)) are ∙ filter_mapped (λ l. l == i) (leader_in inputs) inputs
      ∙ (λ k. length (filter (λ y. leads-test inputs i x below at here y k) inputs))
    where
      filter_mapped : {X Y : Type 0} (p : Y → Bool) (f : X → Y) (xs : List X) → length (filter p (map f xs)) ≡ length (filter (λ x. p (f x)) xs)
      filter_mapped p f [] = refl
      filter_mapped p f (x ∷ xs) = go (p (f x)) (filter_mapped p f xs)
        where
          go : (b : Bool) → length (filter p (map f xs)) ≡ length (filter (λ x. p (f x)) xs) →
              length (if b then f x ∷ filter p (map f xs) else filter p (map f xs)) ≡ length (if b then x ∷ filter (λ x. p (f x)) xs else filter (λ x. p (f x)) xs)
          go true rest = ap suc rest
          go false rest = rest

-- one leader more, by which one is counted more
pub counts_next : (leaders counts : List ℕ) (i leader one : ℕ) → i < length leaders → leader ≡ get_or leaders i leader → leader < length counts →
    one ≡ get_or counts leader 0 + 1 → ((k : ℕ) → k < length leaders → get_or counts k 0 ≡ length (filter (λ l. l == k) (take i leaders))) →
    (k : ℕ) → k < length leaders → get_or (slice_set counts leader one) k 0 ≡ length (filter (λ l. l == k) (take (i + 1) leaders))
counts_next leaders counts i leader one below at within is so_far k inside = go (leader == k) refl
  where
    plus_none : (n : ℕ) → n + 0 ≡ n
    plus_none n = omega arith

    more : length (filter (λ l. l == k) (take (i + 1) leaders)) ≡ length (filter (λ l. l == k) (take i leaders)) + cond (leader == k) 1 0
    more = length-filter_more (λ l. l == k) leaders i leader below ∙ ap (λ l. length (filter (λ l. l == k) (take i leaders)) + cond (l == k) 1 0) (sym at)

    go : (b : Bool) → (leader == k) ≡ b → get_or (slice_set counts leader one) k 0 ≡ length (filter (λ l. l == k) (take (i + 1) leaders))
    go true so =
        let here : leader ≡ k = eqb-true leader k so in
        ap (λ n. get_or (slice_set counts leader one) n 0) (sym here) ∙ get_or-set_same counts leader one 0 within ∙ is
        ∙ ap (λ n. get_or counts n 0 + 1) here ∙ ap (λ n. n + 1) (so_far k inside)
        ∙ sym (more ∙ ap (λ b. length (filter (λ l. l == k) (take i leaders)) + cond b 1 0) so)
    go false so = get_or-set_other counts leader k one 0 (λ e. true≢false (sym (eq-eqb leader k (sym e)) ∙ so)) ∙ so_far k inside
        ∙ sym (more ∙ ap (λ b. length (filter (λ l. l == k) (take i leaders)) + cond b 1 0) so ∙ plus_none (length (filter (λ l. l == k) (take i leaders))))

-- of the first items no more pass than there are
pub few_pass : {X : Type 0} (p : X → Bool) (xs : List X) (i : ℕ) → i ≤ length xs → length (filter p (take i xs)) ≤ i
few_pass p xs i within =
    let all = length-filter_both p (λ x. not (p x)) (λ x. refl) (take i xs) in let long = length-take-le i xs within in omega (arith, all, long)
