use Rattle.std.proofs.Common.{◌≡◌, ◌∙◌, sym, ap, ◌*◌, [], ◌∷◌, ◌++◌, append_assoc, arith}
use Rattle.std.proofs.lemmas.Grind.{common_steps}
use Rattle.std.proofs.lemmas.List.{append-nil}
use Rattle.std.specs.Int.{div_ceil}
use Rattle.eg_fault.specs.declared.class.Fault.{Fault}
use Rattle.eg_table.specs.Grid.{faults_of}
use Rattle.eg_table.proofs.GridLemmas.{multiples, multiples-none, multiples-more, onsets-multiples, faults_of-none, faults_of-more}
use Rattle.eg_table.proofs.grid.push_class.Goals as goal

pub loop-i-init : goal.loop-i-init
loop-i-init c = sym (ap (λ onsets. c.args.faults.now.items ++ faults_of onsets c.args.class.now) (multiples-none c.args.step)
    ∙ ap (λ faults. c.args.faults.now.items ++ faults) (faults_of-none c.args.class.now) ∙ append-nil c.args.faults.now.items)

pub loop-i-preserved : goal.loop-i-preserved
loop-i-preserved c =
    let i = c.loop-i.i in
    let fault : Fault = record { onset = i * c.args.step; class = c.args.class.now } in
    let pushed : c.push.new.self.items ≡ c.loop-i.faults.items ++ fault ∷ [] = grind (arith, common_steps) in
    pushed ∙ ap (λ faults. faults ++ fault ∷ []) c.loop-i.invariant
    ∙ append_assoc c.args.faults.now.items (faults_of (multiples c.args.step i) c.args.class.now) (fault ∷ [])
    ∙ ap (λ faults. c.args.faults.now.items ++ faults) (sym (faults_of-more (multiples c.args.step i) (i * c.args.step) c.args.class.now))
    ∙ ap (λ onsets. c.args.faults.now.items ++ faults_of onsets c.args.class.now) (sym (multiples-more c.args.step i))

pub returns : goal.returns
returns c =
    let count = c.div_ceil-i-end.ensures in
    let least = c.loop-i-test.false in
    let most = c.loop-i.auto.i-end in
    let all : c.loop-i.i ≡ div_ceil c.args.ticks c.args.step = omega (arith, count, least, most) in
    c.loop-i.invariant ∙ ap (λ onsets. c.args.faults.now.items ++ faults_of onsets c.args.class.now)
    (ap (multiples c.args.step) all ∙ sym (onsets-multiples c.args.ticks c.args.step))
