use Rattle.std.proofs.Common.{◌≡◌, refl}
use Rattle.toml.specs.Data.{Members}
use Rattle.eg_fault.specs.Names.{name_of}
use Rattle.eg_fault.specs.declared.class_name.ClassName.{ClassName}
use Rattle.eg_fault.specs.declared.class_name.ClassName.TheVariants as name
use Rattle.eg_plan.specs.Classes.{class_of}
use Rattle.eg_tests.proofs.spelling.classes_are_told_as_they_are_read.Goals as goal

names_are_kept : (n : ClassName) (keys : Members) → name_of (class_of n keys) ≡ n
unfolding name_of
names_are_kept name.Script keys = refl
names_are_kept _ keys = refl

pub returns : goal.returns
returns c = record { told = names_are_kept }
