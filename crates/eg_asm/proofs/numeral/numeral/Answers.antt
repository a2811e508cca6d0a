use Rattle.std.proofs.Common.{◌≡◌, ◌∙◌, sym, refl, ◌-◌, ◌<◌, length, take, get_or, true, arith}
use Rattle.std.specs.Prelude.{codes}
use Rattle.std.specs.Char.{is_ascii_digit}
use Rattle.std.proofs.lemmas.Grind.{common_steps}
use Rattle.std.proofs.lemmas.Slice.Eq.{bytes_eq-Decides}
use Rattle.eg_input.specs.Fields.{decimal_value}
use Rattle.eg_asm.specs.Reading.{is_numeral, numeral_in}
use Rattle.eg_asm.proofs.NumeralLemmas.{decimal_value-more, digits-more, capped-more}
use Rattle.eg_asm.proofs.numeral.numeral.Goals as goal

pub returns-then-eq : goal.returns-then-eq
unfolding is_numeral numeral_in decimal_value
returns-then-eq c =
    let zero : c.args.text.now ≡ codes "0" = (bytes_eq-Decides c.args.text.now c.as_slice.result.now).0 (sym c.eq.ensures ∙ c.if-eq.true) ∙ c.as_slice.ensures in
    rw zero refl

pub loop-byte-init : goal.loop-byte-init
unfolding decimal_value
loop-byte-init c = record { value = refl; digits = refl }

pub loop-byte-preserved : goal.loop-byte-preserved
loop-byte-preserved c =
    let text = c.args.text.now in
    let i = c.loop-byte.byte-index in
    let room : i < length text = grind (arith, common_steps) in
    let digit : is_ascii_digit (get_or text i 0) ≡ true = grind (arith, common_steps) in
    record {
      value = rw (decimal_value-more text i 0 room) (capped-more c.loop-byte.value (decimal_value (take i text)) (get_or text i 0 - 48) _ c.loop-byte.invariant.value (rw c.from.ensures at c.min-value.ensures));
      digits = digits-more text i 0 room c.loop-byte.invariant.digits digit;
    }
