use Rattle.std.proofs.Common.{◌≡◌, ◌∙◌, ◌+◌, take, ap, sym, subst, set, ◌++◌, ◌∷◌, [], Some, arith}
use Rattle.std.specs.Prelude.{option_map}
use Rattle.std.proofs.lemmas.List.{take_more_set, length-set, take_all}
use Rattle.eg_input.proofs.NumbersLemmas.{HasRead, step, spoiled, ended, numbers_of-none}
use Rattle.eg_input.proofs.number.numbers.Goals as goal

pub returns-in_err-last : goal.returns-in_err-last
returns-in_err-last g c =
    let none : g.row.N ≡ 0 = omega (arith, c.in_err-last.ensures) in
    rw (c.from_residual.ensures, none) (sym (numbers_of-none c.args.line.now))

pub returns-in_err-number : goal.returns-in_err-number
returns-in_err-number g c =
    let l = c.loop-i in
    c.from_residual-in_err-number.ensures
    ∙ sym (spoiled g.row.N c.args.line.now l.i (take l.i l.numbers) l.rest.now l.invariant.read (omega arith) c.in_err-number.ensures.said)

pub loop-i-preserved : goal.loop-i-preserved
loop-i-preserved g c =
    let l = c.loop-i in
    let number = c.in_ok-number.number in
    let read = step g.row.N c.args.line.now l.i (take l.i l.numbers) l.rest.now number c.in_ok-number.behind.now l.invariant.read (omega arith) c.in_ok-number.ensures.said in
    record {
      size = length-set l.numbers l.i number ∙ l.invariant.size;
      read = subst (λ done. HasRead g.row.N c.args.line.now (l.i + 1) done c.in_ok-number.behind.now) (sym (take_more_set l.numbers l.i number (omega arith))) read;
    }

pub returns-in_err-numbers : goal.returns-in_err-numbers
returns-in_err-numbers g c =
    let l = c.loop-i in
    let read = ended g.row.N c.args.line.now l.i (take l.i l.numbers) l.rest.now l.invariant.read (omega arith) in
    c.from_residual-in_err-numbers.ensures ∙ sym (read ∙ ap (option_map (λ number. take l.i l.numbers ++ number ∷ [])) (sym c.in_err-numbers.ensures))

pub returns : goal.returns
returns g c =
    let l = c.loop-i in
    let number = c.in_ok-numbers.field-0 in
    let read = ended g.row.N c.args.line.now l.i (take l.i l.numbers) l.rest.now l.invariant.read (omega arith) in
    let last : c.in_ok-last.last ≡ l.i = omega arith in
    let all = take_all (l.i + 1) (set l.numbers l.i number) (omega (arith, length-set l.numbers l.i number)) in
    rw last (ap Some (sym all ∙ take_more_set l.numbers l.i number (omega arith))
    ∙ sym (read ∙ ap (option_map (λ n. take l.i l.numbers ++ n ∷ [])) (sym c.in_ok-numbers.ensures)))
