-- How the items of an array are read one after another.
use Rattle.std.proofs.Common.{◌≡◌, ℕ, Bor, map, bytes_eq, ◌||◌, suc, ◌+◌, ◌*◌, ◌<◌, ◌≤◌, length, get_or, drop, List, [], ◌∷◌, ◌++◌, Option, Some, None, option_map, nat_le, Bool, true, false, ◌&&◌, String, Global, string_bytes, if◌then◌else◌, refl, ap, sym, ◌∙◌, arith, append_assoc}
use Rattle.std.proofs.lemmas.List.{drop_more}
use Rattle.toml.specs.declared.value.Value.{Value}
use Rattle.toml.specs.Data.{Data, Items, as_array}
use Rattle.toml.specs.View.{view, items_view, members_view}
use Rattle.std.specs.Map.{keys_of}
use Rattle.std.specs.List.{list_all, list_any}
use Rattle.eg_toml.specs.Names.{all_names, is_among}
use Rattle.eg_toml.specs.Arrays.{count, all_read, append_read, items_in, array_in}

pub count-view : (vs : List Value) → count (items_view vs) ≡ length vs
count-view [] = refl
count-view (v ∷ vs) = ap suc (count-view vs)

-- what all of them are, where these were read before the rest
abbrev pub with_found : {X : Type 0} → List X → Option (List X) → Option (List X)
with_found found rest = option_map (λ xs. found ++ xs) rest

with_found-more : {X : Type 0} (found new : List X) (rest : Option (List X)) → with_found found (append_read (Some new) rest) ≡ with_found (found ++ new) rest
with_found-more found new None = refl
with_found-more found new (Some xs) = ap Some (sym (append_assoc found new xs))

-- the items from place i on are the one there and those after it
all_read-drop : {X : Type 0} (read : Data → Option (List X)) (vs : List Value) (i : ℕ) (v : Value) → i < length vs → v ≡ get_or vs i v
    → all_read read (items_view (drop i vs)) ≡ append_read (read (view v)) (all_read read (items_view (drop (i + 1) vs)))
all_read-drop read vs i v h here = rw (drop_more vs i v h) (ap (λ x. append_read (read (view x)) (all_read read (items_view (drop (i + 1) vs)))) (sym here))

pub all_read-step : {X : Type 0} (read : Data → Option (List X)) (vs : List Value) (i : ℕ) (v : Value) (start found new : List X) → i < length vs → v ≡ get_or vs i v
    → read (view v) ≡ Some new
    → with_found start (all_read read (items_view vs)) ≡ with_found found (all_read read (items_view (drop i vs)))
    → with_found start (all_read read (items_view vs)) ≡ with_found (found ++ new) (all_read read (items_view (drop (i + 1) vs)))
all_read-step read vs i v start found new h here is so_far =
    so_far ∙ ap (with_found found) (all_read-drop read vs i v h here ∙ ap (λ o. append_read o (all_read read (items_view (drop (i + 1) vs)))) is) ∙ with_found-more found new _

pub items_in-view : (least most : ℕ) (d : Data) (vs : List Value) → Some (items_view vs) ≡ as_array d
    → items_in least most d ≡ (if nat_le least (length vs) && nat_le (length vs) most then Some (items_view vs) else None)
items_in-view least most d vs e = rw (← e, count-view vs)

pub items_in-none : (least most n : ℕ) (d : Data) (vs : List Value) → Some (items_view vs) ≡ as_array d → n ≡ length vs
    → (nat_le least n && nat_le n most) ≡ false → None ≡ items_in least most d
items_in-none least most n d vs e len failed = sym (items_in-view least most d vs e ∙ rw (← len, failed))

pub items_in-some : (least most n : ℕ) (d : Data) (vs ws : List Value) → Some (items_view vs) ≡ as_array d → n ≡ length vs
    → (nat_le least n && nat_le n most) ≡ true → ws ≡ vs → Some (items_view ws) ≡ items_in least most d
items_in-some least most n d vs ws e len passed same = sym (items_in-view least most d vs e ∙ rw (← len, passed, same))

-- the same step, where what is read of the item was appended
pub all_read-append : {X : Type 0} (read : Data → Option (List X)) (vs : List Value) (i : ℕ) (v : Value) (start found after : List X) (o : Option (List X)) → i < length vs → v ≡ get_or vs i v
    → read (view v) ≡ o → option_map (λ xs. found ++ xs) o ≡ Some after
    → with_found start (all_read read (items_view vs)) ≡ with_found found (all_read read (items_view (drop i vs)))
    → with_found start (all_read read (items_view vs)) ≡ with_found after (all_read read (items_view (drop (i + 1) vs)))
all_read-append read vs i v start found after None h here is appended so_far = absurd (cc)
all_read-append read vs i v start found after (Some new) h here is appended so_far =
    let same : found ++ new ≡ after = cc in
    rw (← same) (all_read-step read vs i v start found new h here is so_far)

pub array_in-some : {X : Type 0} (least most : ℕ) (read : Data → Option (List X)) (d : Data) (ds : Items) → Some ds ≡ items_in least most d → array_in least most read d ≡ all_read read ds
array_in-some least most read d ds e = rw (← e)

pub row_count : (start found after item wide i : ℕ) → found ≡ start + i * wide → after ≡ found + item → wide ≤ item → item ≤ wide → after ≡ start + (i + 1) * wide
row_count start found after item wide i a b c d = omega arith

-- the names in a table are the keys of its map
pub all_names-view : (passes : List ℕ → Bool) (es : List (String Global × Value)) → list_all (λ k. passes (string_bytes k)) (keys_of es) ≡ all_names passes (members_view es)
all_names-view passes [] = refl
all_names-view passes (e ∷ es) = ap (λ b. passes (string_bytes e.0) && b) (all_names-view passes es)

-- the names that a slice of texts has
pub is_among-texts : (known : List (Bor (List ℕ))) (name : List ℕ) → list_any (λ k. bytes_eq k.now name) known ≡ is_among (map (λ k. k.now) known) name
is_among-texts [] name = refl
is_among-texts (k ∷ known) name = ap (λ b. bytes_eq k.now name || b) (is_among-texts known name)

-- what was read where nothing was found before
pub read-some : {X : Type 0} (o : Option (List X)) (before after : List X) → before ≡ [] → option_map (λ xs. before ++ xs) o ≡ Some after → o ≡ Some after
read-some None before after none e = absurd (cc)
read-some (Some xs) [] after none e = e
read-some (Some xs) (x ∷ before) after none e = absurd (cc)
