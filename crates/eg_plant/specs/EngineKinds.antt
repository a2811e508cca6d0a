-- Each kind of engine has a number of its own, from which the kind follows.
use Rattle.std.specs.Prelude.{◌≡◌, refl, ℕ, zero, suc, nat_eq}
use Rattle.std.proofs.Common.{◌∙◌, sym, ap}
use Rattle.std.specs.Bool.{Decides}
use Rattle.std.specs.Cmp.{unsigned_Decides}
use Rattle.eg_plant.specs.declared.engine_kind.EngineKind.{EngineKind}
use Rattle.eg_plant.specs.declared.engine_kind.EngineKind.TheVariants as kind

abbrev pub number_of : EngineKind → ℕ
number_of kind.Gasoline = 0
number_of kind.Diesel = 1

abbrev kind_of : ℕ → EngineKind
kind_of zero = kind.Gasoline
kind_of (suc n) = kind.Diesel

itself : (a : EngineKind) → kind_of (number_of a) ≡ a
itself kind.Gasoline = refl
itself kind.Diesel = refl

pub same_number-Decides : (a b : EngineKind) → Decides (nat_eq (number_of a) (number_of b)) (a ≡ b)
same_number-Decides a b = (
  λ same. sym (itself a) ∙ ap kind_of ((unsigned_Decides (number_of a) (number_of b)).0 same) ∙ itself b,
  λ is. (unsigned_Decides (number_of a) (number_of b)).1 (ap number_of is),
)
