-- Items that are tables.
use Rattle.std.proofs.Common.{◌≡◌, ℕ, ◌<◌, ◌&&◌, Bool, true, false, length, get_or, List, [], ◌∷◌, refl, ap, sym, ◌∙◌}
use Rattle.std.specs.List.{list_all}
use Rattle.std.proofs.lemmas.List.Folds.{list_all_at}
use Rattle.toml.specs.declared.value.Value.{Value}
use Rattle.toml.specs.Data.{Data}
use Rattle.toml.specs.View.{view, items_view}
use Rattle.std.proofs.lemmas.Bool.{true_from_ne_false, true≢false}
use Rattle.eg_plan.specs.Runs.{all_items}

pub all_items-view : (passes : Data → Bool) (vs : List Value) → list_all (λ v. passes (view v)) vs ≡ all_items passes (items_view vs)
all_items-view passes [] = refl
all_items-view passes (v ∷ vs) = ap (λ b. passes (view v) && b) (all_items-view passes vs)

-- items that all pass, pass at each place
pub all_items-at : (passes : Data → Bool) (vs : List Value) (i : ℕ) (v : Value) → i < length vs → v ≡ get_or vs i v
    → all_items passes (items_view vs) ≡ true → passes (view v) ≡ true
all_items-at passes vs i v below here all = true_from_ne_false (passes (view v)) (λ e.
    let fails : passes (view (get_or vs i v)) ≡ false = rw (← here) e in
    let wrong = list_all_at (λ w. passes (view w)) vs i v below fails in
    true≢false (sym all ∙ sym (all_items-view passes vs) ∙ wrong))
