-- The names of the watches that are found, put from the last to the first.
use Rattle.std.proofs.Common.{◌≡◌, ◌∙◌, ◌++◌, ◌∷◌, [], ◌+◌, ◌<◌, List, ℕ, Bool, true, false, drop, map, length, refl, sym, ap, append_assoc, get_or, cond, ◌≤◌, lit≤, append-nil}
use Rattle.std.proofs.lemmas.List.{drop_more}
use Rattle.std.specs.Prelude.{if◌then◌else◌}
use Rattle.std.specs.List.{filter, join_with_byte}
use Rattle.eg_num.specs.declared.watches.Watches.{Watches}
use Rattle.eg_record.specs.declared.watch.Watch.{Watch}
use Rattle.eg_record.specs.declared.watch.Watch.TheVariants.{Mirror, Pedal, Plate, Load, Speed, Torque, Answers, Start}
use Rattle.eg_record.specs.Detection.{watches, is_found}
use Rattle.eg_record.specs.Texts.{plus, watch_name, names, found_text}

-- whether a list is empty
unfoldable pub is_nil : {X : Type 0} → List X → Bool
is_nil [] = true
is_nil (x ∷ xs) = false

-- those of the watches from place i on that are found
unfoldable pub found_from : Watches → ℕ → List Watch
found_from found i = filter (is_found found) (drop i watches)

-- their names, and nothing where there is none
unfoldable pub joined : List Watch → List ℕ
joined ws = join_with_byte plus (map watch_name ws)

-- one name more, before the others
joined-cons : (w : Watch) (ws : List Watch) → joined (w ∷ ws) ≡ watch_name w ++ ((if is_nil ws then [] else plus ∷ []) ++ joined ws)
unfolding joined is_nil
joined-cons w [] = sym (append-nil (watch_name w))
joined-cons w (v ∷ ws) = refl

-- one watch more
step : (found : Watches) (i : ℕ) (d : Watch) → i < length watches →
    found_from found i ≡ cond (is_found found (get_or watches i d)) (get_or watches i d ∷ found_from found (i + 1)) (found_from found (i + 1))
unfolding found_from
step found i d below = ap (filter (is_found found)) (drop_more watches i d below) ∙ refl

pub found_from-found : (found : Watches) (i : ℕ) (d : Watch) → i < length watches → is_found found (get_or watches i d) ≡ true →
    found_from found i ≡ get_or watches i d ∷ found_from found (i + 1)
found_from-found found i d below among =
    step found i d below ∙ ap (λ (b : Bool). cond b (get_or watches i d ∷ found_from found (i + 1)) (found_from found (i + 1))) among

pub found_from-other : (found : Watches) (i : ℕ) (d : Watch) → i < length watches → is_found found (get_or watches i d) ≡ false →
    found_from found i ≡ found_from found (i + 1)
found_from-other found i d below other =
    step found i d below ∙ ap (λ (b : Bool). cond b (get_or watches i d ∷ found_from found (i + 1)) (found_from found (i + 1))) other

-- a line that is put from the last name to the first goes on by the name of one that is found
pub text-found : (found : Watches) (i j : ℕ) (d : Watch) (rest line new : List ℕ) (last : Bool) → j ≡ i + 1 → i < length watches →
    is_found found (get_or watches i d) ≡ true → line ≡ joined (found_from found j) ++ rest → last ≡ is_nil (found_from found j) →
    new ≡ (watch_name (get_or watches i d) ++ (if last then [] else plus ∷ [])) ++ line →
    new ≡ joined (found_from found i) ++ rest
text-found found i j d rest line new last next below among before nil now =
    let ws = found_from found j in
    let w = get_or watches i d in
    let sign : Bool → List ℕ = λ (b : Bool). if b then [] else plus ∷ [] in
    now
    ∙ append_assoc (watch_name w) (sign last) line
    ∙ ap (λ (b : Bool). watch_name w ++ (sign b ++ line)) nil
    ∙ ap (λ (l : List ℕ). watch_name w ++ (sign (is_nil ws) ++ l)) before
    ∙ sym (ap (λ (l : List ℕ). l ++ rest) (joined-cons w ws)
    ∙ append_assoc (watch_name w) (sign (is_nil ws) ++ joined ws) rest
    ∙ ap (λ (l : List ℕ). watch_name w ++ l) (append_assoc (sign (is_nil ws)) (joined ws) rest))
    ∙ ap (λ (k : ℕ). joined (w ∷ found_from found k) ++ rest) next
    ∙ ap (λ (vs : List Watch). joined vs ++ rest) (sym (found_from-found found i d below among))

pub none-found : (found : Watches) (i : ℕ) (d : Watch) → i < length watches → is_found found (get_or watches i d) ≡ true →
    is_nil (found_from found i) ≡ false
unfolding is_nil
none-found found i d below among = ap is_nil (found_from-found found i d below among)

-- and stays as it is where the watch isn't found
pub same-other : (found : Watches) (i j : ℕ) (d : Watch) → j ≡ i + 1 → i < length watches → is_found found (get_or watches i d) ≡ false →
    found_from found j ≡ found_from found i
same-other found i j d next below other =
    ap (λ (k : ℕ). found_from found k) next ∙ sym (found_from-other found i d below other)

-- ---- what is printed in the end ----

-- nothing is found
pub text-nil : (found : Watches) (i : ℕ) (rest line : List ℕ) → i ≡ 0 → line ≡ joined (found_from found i) ++ rest →
    is_nil (found_from found i) ≡ true → names [] ++ line ≡ found_text found ++ rest
unfolding found_text found_from is_nil joined names
text-nil found i rest line first all nil =
    ap (λ (l : List ℕ). names [] ++ l) (all ∙ ap (λ (k : ℕ). joined (filter (is_found found) (drop k watches)) ++ rest) first)
    ∙ none (filter (is_found found) watches) (sym (ap (λ (k : ℕ). is_nil (filter (is_found found) (drop k watches))) first) ∙ nil)
  where
    none : (ws : List Watch) → is_nil ws ≡ true → names [] ++ (joined ws ++ rest) ≡ names ws ++ rest
    none [] e = refl
    none (w ∷ ws) e = absurd cc

-- something is found
pub text-names : (found : Watches) (i : ℕ) (rest line : List ℕ) → i ≡ 0 → line ≡ joined (found_from found i) ++ rest →
    is_nil (found_from found i) ≡ false → line ≡ found_text found ++ rest
unfolding found_text found_from is_nil joined names
text-names found i rest line first all more =
    all ∙ ap (λ (k : ℕ). joined (filter (is_found found) (drop k watches)) ++ rest) first
    ∙ some (filter (is_found found) watches) (sym (ap (λ (k : ℕ). is_nil (filter (is_found found) (drop k watches))) first) ∙ more)
  where
    some : (ws : List Watch) → is_nil ws ≡ false → joined ws ++ rest ≡ names ws ++ rest
    some [] e = absurd cc
    some (w ∷ ws) e = refl

-- ---- how long a name is ----

pub has_letters : (w : Watch) → 1 ≤ length (watch_name w)
unfolding watch_name
has_letters Mirror = lit≤ tt
has_letters Pedal = lit≤ tt
has_letters Plate = lit≤ tt
has_letters Load = lit≤ tt
has_letters Speed = lit≤ tt
has_letters Torque = lit≤ tt
has_letters Answers = lit≤ tt
has_letters Start = lit≤ tt

pub has_few_letters : (w : Watch) → length (watch_name w) ≤ 7
unfolding watch_name
has_few_letters Mirror = lit≤ tt
has_few_letters Pedal = lit≤ tt
has_few_letters Plate = lit≤ tt
has_few_letters Load = lit≤ tt
has_few_letters Speed = lit≤ tt
has_few_letters Torque = lit≤ tt
has_few_letters Answers = lit≤ tt
has_few_letters Start = lit≤ tt
