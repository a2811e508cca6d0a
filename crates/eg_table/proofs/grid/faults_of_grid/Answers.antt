use Rattle.std.proofs.Common.{rules, ◌≡◌, ◌∙◌, sym, ap, List, [], ◌++◌, add-one, get_or, take, arith}
use Rattle.std.specs.List.{flat_map}
use Rattle.std.proofs.Math.Seq.{take-suc}
use Rattle.std.proofs.lemmas.List.{flat_map_more, take_all}
use Rattle.eg_fault.specs.declared.class.Fault.{Fault}
use Rattle.eg_fault.specs.declared.class_name.ClassName.{ClassName}
use Rattle.eg_fault.specs.declared.class_name.ClassName.TheVariants.{Halt}
use Rattle.eg_fault.specs.Names.{classes, swept}
use Rattle.eg_table.specs.Grid.{faults_of, onsets, swept_classes, swept_faults}
use Rattle.eg_table.proofs.grid.faults_of_grid.Goals as goal

pub loop-class-preserved : goal.loop-class-preserved
loop-class-preserved c =
    let i = c.loop-class.class-index in
    let of_name : ClassName → List Fault = λ name. faults_of (onsets c.args.ticks c.args.step) (swept name) in
    let below = c.loop-class-test.true in
    let pushed : c.push_class.new.faults.items ≡ c.loop-class.faults.items ++ of_name (get_or classes i Halt) = search rules in
    pushed ∙ ap (λ faults. faults ++ of_name (get_or classes i Halt)) c.loop-class.invariant
    ∙ flat_map_more of_name [] (take i classes) (get_or classes i Halt)
    ∙ ap (flat_map of_name) (sym (take-suc classes i Halt (omega (arith, below))))
    ∙ ap (λ n. flat_map of_name (take n classes)) (sym (add-one i))

pub returns : goal.returns
unfolding swept_faults swept_classes
returns c =
    let past = c.loop-class-test.false in
    c.loop-class.invariant ∙ ap (flat_map (λ name. faults_of (onsets c.args.ticks c.args.step) (swept name)))
    (take_all c.loop-class.class-index classes (omega (arith, past)))
