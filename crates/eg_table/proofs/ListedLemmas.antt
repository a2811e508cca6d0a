-- The faults of a grid are valid ones, and all but the lapses are listed.
use Rattle.std.proofs.Common.{◌≡◌, refl, ℕ, ◌≤◌, ◌<◌, false, All, get_or, arith}
use Rattle.std.specs.Prelude.{◌↔◌, Some}
use Rattle.std.proofs.lemmas.List.Elements.{All-map}
use Rattle.eg_fault.specs.Names.{name_of, classes, swept}
use Rattle.eg_fault.specs.Faults.{IsValid, IsValidClass, IsListed, is_lapse}
use Rattle.eg_fault.proofs.ClassLemmas.{valid_swept}
use Rattle.eg_table.specs.Grid.{swept_classes, swept_faults}
use Rattle.eg_table.specs.SweepLaws.{SweptInOrder}
use Rattle.eg_table.proofs.GridLemmas.{each_swept}

classes_valid : All IsValidClass swept_classes
unfolding swept_classes
classes_valid = All-map IsValidClass swept classes (λ k d below. valid_swept (get_or classes k d))

pub swept_valid : (ticks step : ℕ) → ticks ≤ 20000 → 1 ≤ step → All IsValid (swept_faults ticks step)
swept_valid ticks step most some = each_swept IsValid IsValidClass ticks step some (λ onset class within valid. (omega arith, valid)) classes_valid

pub swept_listed : (ticks step : ℕ) → ticks ≤ 20000 → 1 ≤ step →
    All (λ fault. IsListed (Some fault) ↔ (is_lapse fault.class ≡ false)) (swept_faults ticks step)
unfolding IsListed
swept_listed ticks step most some k d below = (λ listed. listed.1, λ other. (swept_valid ticks step most some k d below, other))

pub swept_within : (ticks step : ℕ) → 1 ≤ step → All (λ fault. fault.onset < ticks) (swept_faults ticks step)
swept_within ticks step some = each_swept (λ fault. fault.onset < ticks) IsValidClass ticks step some (λ onset class within valid. within) classes_valid

pub swept_in_order : SweptInOrder
unfolding name_of swept swept_classes
swept_in_order = refl
