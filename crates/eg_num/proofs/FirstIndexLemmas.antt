-- The first place at which a list is reached: there is one exactly if the list is confirmed, and it stays as the list goes on.
use Rattle.std.proofs.Common.{◌≡◌, ℕ, suc, ◌<◌, Bool, true, false, not, ◌||◌, ◌&&◌, List, [], ◌∷◌, ◌++◌, length, refl, sym, ap, ◌∙◌, arith}
use Rattle.std.proofs.lemmas.Bool.{or_left, or_right, false≢true, true≢false}
use Rattle.std.proofs.lemmas.Option.{none-some, same_Some}
use Rattle.std.specs.Prelude.{if◌then◌else◌, Option, Some, is_some}
use Rattle.eg_num.specs.Windows.{WeightParts, is_reached, is_confirmed, is_first, first_index}

-- a list that is reached is confirmed
pub is_reached_confirmed : (w : WeightParts) (b : Bool) (bits : List Bool) → is_reached w (b ∷ bits) ≡ true → is_confirmed w (b ∷ bits) ≡ true
unfolding is_confirmed
is_reached_confirmed w b bits reached = or_left _ _ reached

-- a list stays confirmed as it goes on by one feed
pub is_confirmed-cons : (w : WeightParts) (b : Bool) (bits : List Bool) → is_confirmed w bits ≡ true → is_confirmed w (b ∷ bits) ≡ true
unfolding is_confirmed
is_confirmed-cons w b bits confirmed = or_right _ _ confirmed

-- the last feed is the first where the list is confirmed now and wasn't before
pub is_first-cons : (w : WeightParts) (b : Bool) (bits : List Bool) → is_first w (b ∷ bits) ≡ (is_confirmed w (b ∷ bits) && not (is_confirmed w bits))
unfolding is_first is_confirmed
is_first-cons w b bits = now (is_reached w (b ∷ bits)) (is_confirmed w bits)
  where
    now : (reached before : Bool) → (reached && not before) ≡ ((reached || before) && not before)
    now true before = refl
    now false true = refl
    now false false = refl

-- the last feed is the first: it is reached there, and wasn't confirmed before
pub is_first-parts : (w : WeightParts) (b : Bool) (bits : List Bool) → is_first w (b ∷ bits) ≡ true → (is_reached w (b ∷ bits) ≡ true) × (is_confirmed w bits ≡ false)
unfolding is_first
is_first-parts w b bits first = parts (is_reached w (b ∷ bits)) (is_confirmed w bits) first
  where
    parts : (reached before : Bool) → (reached && not before) ≡ true → (reached ≡ true) × (before ≡ false)
    parts true true e = absurd (false≢true e)
    parts true false e = (refl, refl)
    parts false before e = absurd (false≢true e)

-- where the list is confirmed now and wasn't before, the last feed is the first
pub is_first_from : (w : WeightParts) (b : Bool) (bits : List Bool) → is_confirmed w (b ∷ bits) ≡ true → is_confirmed w bits ≡ false → is_first w (b ∷ bits) ≡ true
is_first_from w b bits now before = is_first-cons w b bits ∙ both _ _ now before
  where
    both : (x y : Bool) → x ≡ true → y ≡ false → (x && not y) ≡ true
    both x true e f = absurd (true≢false f)
    both true false e f = refl
    both false false e f = e

-- there is a first place exactly if the list is confirmed
pub is_some-first_index : (w : WeightParts) (bits : List Bool) → is_some (first_index w bits) ≡ is_confirmed w bits
unfolding first_index is_first is_confirmed
is_some-first_index w [] = refl
is_some-first_index w (b ∷ bits) = now (is_reached w (b ∷ bits)) (is_confirmed w bits) (length bits) (first_index w bits) (is_some-first_index w bits)
  where
    now : (reached before : Bool) (n : ℕ) (place : Option ℕ) → is_some place ≡ before → is_some (if reached && not before then Some n else place) ≡ (reached || before)
    now true true n place e = e
    now true false n place e = refl
    now false before n place e = e

-- where there is a first place, the list is confirmed
pub first_index-confirmed : (w : WeightParts) (bits : List Bool) (t : ℕ) → first_index w bits ≡ Some t → is_confirmed w bits ≡ true
first_index-confirmed w bits t place = sym (is_some-first_index w bits) ∙ ap is_some place

-- a confirmed list keeps its first place
pub first_index-cons : (w : WeightParts) (b : Bool) (bits : List Bool) → is_confirmed w bits ≡ true → first_index w (b ∷ bits) ≡ first_index w bits
unfolding first_index is_first
first_index-cons w b bits confirmed = keeps (is_reached w (b ∷ bits)) (is_confirmed w bits) (length bits) (first_index w bits) confirmed
  where
    keeps : (reached before : Bool) (n : ℕ) (place : Option ℕ) → before ≡ true → (if reached && not before then Some n else place) ≡ place
    keeps true true n place e = refl
    keeps true false n place e = absurd (false≢true e)
    keeps false before n place e = refl

-- a first place stays as the list goes on by one feed
pub first_index_stays : (w : WeightParts) (b : Bool) (bits : List Bool) (t : ℕ) → first_index w bits ≡ Some t → first_index w (b ∷ bits) ≡ Some t
first_index_stays w b bits t place = first_index-cons w b bits (first_index-confirmed w bits t place) ∙ place

-- a first place stays as the list goes on
pub first_index-append : (w : WeightParts) (more bits : List Bool) (t : ℕ) → first_index w bits ≡ Some t → first_index w (more ++ bits) ≡ Some t
first_index-append w [] bits t place = place
first_index-append w (b ∷ more) bits t place = first_index_stays w b (more ++ bits) t (first_index-append w more bits t place)

-- where the last feed is the first at which it is reached, its place is the first place
pub first_index-first : (w : WeightParts) (b : Bool) (bits : List Bool) → is_first w (b ∷ bits) ≡ true → first_index w (b ∷ bits) ≡ Some (length bits)
unfolding first_index
first_index-first w b bits first = ap (λ here. if here then Some (length bits) else first_index w bits) first

-- where it isn't, the first place is what it was
pub first_index-other : (w : WeightParts) (b : Bool) (bits : List Bool) → is_first w (b ∷ bits) ≡ false → first_index w (b ∷ bits) ≡ first_index w bits
unfolding first_index
first_index-other w b bits other = ap (λ here. if here then Some (length bits) else first_index w bits) other

-- a first place is a place of the list
pub first_index_within : (w : WeightParts) (bits : List Bool) (t : ℕ) → first_index w bits ≡ Some t → t < length bits
unfolding first_index
first_index_within w [] t place = absurd (none-some t place)
first_index_within w (b ∷ bits) t place = within (is_first w (b ∷ bits)) (length bits) (first_index w bits) (first_index_within w bits t) place
  where
    within : (here : Bool) (n : ℕ) (before : Option ℕ) → (before ≡ Some t → t < n) → (if here then Some n else before) ≡ Some t → t < suc n
    within true n before low e = let same = same_Some n t e in omega arith
    within false n before low e = let earlier = low e in omega arith
