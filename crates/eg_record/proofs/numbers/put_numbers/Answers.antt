use Rattle.std.proofs.Common.{◌≡◌, ◌∙◌, ◌-◌, ◌++◌, ap, subst, refl, arith, drop, length}
use Rattle.std.proofs.lemmas.List.{drop_all}
use Rattle.std.proofs.lemmas.Str.Ascii.{IsAscii-nil}
use Rattle.std.specs.Str.{IsAscii}
use Rattle.eg_record.specs.Texts.{numbers_text}
use Rattle.eg_record.proofs.ColumnsLemmas.{numbers-more}
use Rattle.eg_record.proofs.AsciiLemmas.{number-more}
use Rattle.eg_record.proofs.numbers.put_numbers.Goals as goal

pub loop-i-init : goal.loop-i-init
unfolding numbers_text
loop-i-init c =
    let none = drop_all (length c.args.numbers.now) c.args.numbers.now (omega arith) in
    record {
      text = rw none refl;
      least = omega arith;
      most = omega arith;
      ascii = rw none IsAscii-nil;
    }

pub loop-i-preserved : goal.loop-i-preserved
loop-i-preserved c =
    let i = c.loop-i.i - 1 in
    let least = c.loop-i.invariant.least in
    let most = c.loop-i.invariant.most in
    let few = c.put_number-start.ensures.few in
    let start = c.put_number-start.ensures.start in
    record {
      text = numbers-more c.args.numbers.now i c.loop-i.i 0 _ _ _ (omega arith) (omega arith) c.loop-i.invariant.text c.put_number-start.ensures.put;
      least = omega (arith, least, start);
      most = omega (arith, most, few);
      ascii = number-more c.args.numbers.now i c.loop-i.i 0 (omega arith) (omega arith) c.put_number-start.ensures.ascii c.loop-i.invariant.ascii;
    }

pub returns-clause-put : goal.returns-clause-put
returns-clause-put c =
    let first : c.loop-i.i ≡ 0 = omega arith in
    c.loop-i.invariant.text ∙ ap (λ k. numbers_text (drop k c.args.numbers.now) ++ drop c.args.end c.args.line.now) first

pub returns-clause-ascii : goal.returns-clause-ascii
returns-clause-ascii c =
    let first : c.loop-i.i ≡ 0 = omega arith in
    subst (λ k. IsAscii (numbers_text (drop k c.args.numbers.now))) first c.loop-i.invariant.ascii
