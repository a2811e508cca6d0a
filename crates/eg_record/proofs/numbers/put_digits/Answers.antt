use Rattle.std.proofs.Common.{◌≡◌, ◌∙◌, ◌+◌, ◌-◌, ◌++◌, ◌∷◌, ap, sym, rules, arith, drop}
use Rattle.std.proofs.lemmas.Fmt.{length-decimal-le, IsAscii-decimal, decimal_digit}
use Rattle.std.proofs.lemmas.List.{drop-set}
use Rattle.eg_record.proofs.numbers.put_digits.Goals as goal

pub write_digits-requires : goal.write_digits-requires
write_digits-requires c =
    let short = length-decimal-le 10 c.from.result (omega arith) (omega arith) (omega arith) in
    let room = c.requires.room in
    (omega (arith, short, room), search rules)

pub returns-then-number-ge10-clause-few : goal.returns-then-number-ge10-clause-few
returns-then-number-ge10-clause-few c =
    let short = length-decimal-le 10 c.from.result (omega arith) (omega arith) (omega arith) in
    let start = c.write_digits.ensures.start in
    omega (arith, short, start)

pub returns-then-number-ge10-clause-ascii : goal.returns-then-number-ge10-clause-ascii
returns-then-number-ge10-clause-ascii c = IsAscii-decimal c.args.number (omega arith)

pub returns-clause-put : goal.returns-clause-put
returns-clause-put c =
    let room = c.requires.room in
    let within = c.requires.within in
    let last : c.args.end - 1 + 1 ≡ c.args.end = omega (arith, room) in
    drop-set c.args.line.now (c.args.end - 1) (48 + c.args.number) (omega (arith, room, within))
    ∙ ap (λ k. (48 + c.args.number) ∷ drop k c.args.line.now) last
    ∙ ap (λ digits. digits ++ drop c.args.end c.args.line.now) (sym (decimal_digit c.args.number (omega arith)))

pub returns-clause-ascii : goal.returns-clause-ascii
returns-clause-ascii c = IsAscii-decimal c.args.number (omega arith)
