use Rattle.std.proofs.Common.{◌≡◌, sym, subst}
use Rattle.std.specs.Prelude.{OnErr}
use Rattle.eg_lines.specs.Readers.{shown_by}
use Rattle.eg_lines.proofs.ReaderLemmas.{known, tells-line, tells-end, tells-kept}
use Rattle.eg_lines.proofs.read_lines.ReadLinesLines.next.Goals as goal

pub returns-2-clause-line : goal.returns-2-clause-line
returns-2-clause-line g c =
    let some = known _ _ _ _ _ c.args.self.now c.self.view_is c.self.invariant.2 in
    λ came. tells-line c.args.most c.args.self.now c.take_line-outcome.new.self c.args.into.now.items c.take_line-outcome.new.into.items
    (record { same = c.take_line-outcome.ensures.told; some = some }) (c.take_line-outcome.ensures.came came)

pub returns-2-clause-end : goal.returns-2-clause-end
returns-2-clause-end g c =
    let some = known _ _ _ _ _ c.args.self.now c.self.view_is c.self.invariant.2 in
    λ none. tells-end c.args.self.now c.take_line-outcome.new.self c.args.into.now.items c.take_line-outcome.new.into.items
    (record { same = c.take_line-outcome.ensures.told; some = some }) (c.take_line-outcome.ensures.none none)

pub returns-in-Err-Failed-clause-none_lost : goal.returns-in-Err-Failed-clause-none_lost
returns-in-Err-Failed-clause-none_lost g c =
    let some = known _ _ _ _ _ c.args.self.now c.self.view_is c.self.invariant.2 in
    subst (λ now. OnErr c.take_line-outcome.result ((shown_by now).lines ≡ (shown_by c.args.self.now).lines)) (sym c.self-2.view_is)
    (tells-kept c.take_line-outcome.result c.args.self.now c.take_line-outcome.new.self
    (record { same = c.take_line-outcome.ensures.told; some = some }) c.take_line-outcome.ensures.none_lost)

pub returns-clause-none_lost : goal.returns-clause-none_lost
returns-clause-none_lost g c =
    let some = known _ _ _ _ _ c.args.self.now c.self.view_is c.self.invariant.2 in
    tells-kept c.take_line-outcome.result c.args.self.now c.take_line-outcome.new.self
    (record { same = c.take_line-outcome.ensures.told; some = some }) c.take_line-outcome.ensures.none_lost
