-- Classes are read as they are written, and what is so of a class by its name alone.
use Rattle.std.proofs.Common.{◌≡◌, ◌∙◌, true, refl, sym, ap}
use Rattle.std.specs.Prelude.{◌==◌, slice_index_or}
use Rattle.std.proofs.lemmas.Bool.{eqb-true}
use Rattle.eg_fault.specs.declared.class.Class.{Class}
use Rattle.eg_fault.specs.declared.class.Class.TheVariants.{Script}
use Rattle.eg_fault.specs.declared.class_name.ClassName.{ClassName}
use Rattle.eg_fault.specs.declared.class_name.ClassName.TheVariants as name
use Rattle.eg_fault.specs.Names.{name_of, classes, class_text, class_index, class_named, held, swept, NamesAreRead, KeysAreOwn}

pub names_are_read : NamesAreRead
unfolding class_text class_named
names_are_read name.Script = refl
names_are_read _ = refl

pub keys_are_own : KeysAreOwn
unfolding name_of held
keys_are_own (Script track values) = refl
keys_are_own _ = refl

-- a class stands at its place in their order
at_place : (n : ClassName) → slice_index_or classes (class_index n) name.Halt ≡ n
unfolding class_index
at_place name.Script = refl
at_place _ = refl

-- what depends on the name of a class alone is as in a sweep, by each class at this name's place
pub by_name : {X : Type 0} (of : Class → X) → ((class : Class) → of class ≡ of (swept (name_of class))) → (n : ClassName) →
    (class : Class) → (class_index (name_of class) == class_index n) ≡ true → of class ≡ of (swept n)
by_name of alike n class same = alike class ∙ ap (λ m. of (swept m)) (sym (at_place (name_of class))
    ∙ ap (λ i. slice_index_or classes i name.Halt) (eqb-true _ _ same) ∙ at_place n)
