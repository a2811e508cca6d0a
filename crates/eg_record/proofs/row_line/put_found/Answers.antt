use Rattle.std.proofs.Common.{[], ◌∙◌, ◌++◌, ◌-◌, sym, ap, refl, arith, drop}
use Rattle.std.proofs.lemmas.Bool.{ne_eqb, eq-eqb}
use Rattle.eg_record.specs.Texts.{names}
use Rattle.eg_record.specs.declared.watch.Watch.TheVariants.{Mirror}
use Rattle.eg_record.proofs.NamesLemmas.{is_nil, found_from, joined, text-found, none-found, same-other, text-nil, text-names}
use Rattle.eg_record.proofs.row_line.put_found.Goals as goal

pub loop-i-init : goal.loop-i-init
unfolding found_from joined is_nil
loop-i-init c = record {
  text = refl;
  least = omega arith;
  most = omega arith;
  none = grind arith;
}

pub loop-i-preserved-then-is_among : goal.loop-i-preserved-then-is_among
loop-i-preserved-then-is_among c =
    let found = c.args.found.now in
    let i = c.loop-i.i - 1 in
    let least = c.loop-i.invariant.least in
    let most = c.loop-i.invariant.most in
    let some = c.put_name-start.ensures.some in
    let few = c.put_name-start.ensures.few in
    let among = sym c.is_among.ensures ∙ c.if-is_among.true in
    record {
      text = text-found found i c.loop-i.i Mirror _ _ _ _ (omega arith) (omega arith) among c.loop-i.invariant.text c.loop-i.invariant.none c.put_name-start.ensures.put;
      least = omega (arith, least, some);
      most = omega (arith, most, few);
      none = ne_eqb _ _ (omega (arith, least, some)) ∙ sym (none-found found i Mirror (omega arith) among);
    }

pub loop-i-preserved : goal.loop-i-preserved
loop-i-preserved c =
    let most = c.loop-i.invariant.most in
    let same = same-other c.args.found.now (c.loop-i.i - 1) c.loop-i.i Mirror (omega arith) (omega arith) (sym c.is_among.ensures ∙ c.if-is_among.false) in
    record {
      text = c.loop-i.invariant.text ∙ ap (λ ws. joined ws ++ drop c.args.end c.args.line.now) same;
      least = c.loop-i.invariant.least;
      most = omega (arith, most);
      none = c.loop-i.invariant.none ∙ ap is_nil same;
    }

pub returns-then-start-end-clause-put : goal.returns-then-start-end-clause-put
unfolding names
returns-then-start-end-clause-put c =
    let same = c.if-start-end.true in
    c.put_bytes.ensures.put
    ∙ ap (λ k. names [] ++ drop k c.loop-i.line) (sym same)
    ∙ text-nil c.args.found.now c.loop-i.i _ _ (omega arith) c.loop-i.invariant.text
    (sym c.loop-i.invariant.none ∙ eq-eqb _ _ same)

pub returns-clause-put : goal.returns-clause-put
returns-clause-put c =
    text-names c.args.found.now c.loop-i.i _ _ (omega arith) c.loop-i.invariant.text
    (sym c.loop-i.invariant.none ∙ ne_eqb _ _ c.if-start-end.false)
