use Rattle.std.specs.Prelude.{string_bytes}
use Rattle.eg_fault.proofs.ItemLemmas.{none_yet, next, all}
use Rattle.eg_desk.specs.declared.coverage.CoverageCase.TheVariants.{ScriptPedal}
use Rattle.eg_desk.specs.Coverage.{coverage_line}
use Rattle.eg_desk.proofs.coverage.push_rows.Goals as goal

pub loop-case-init : goal.loop-case-init
loop-case-init c = none_yet (coverage_line c.args.ticks.now) (string_bytes c.args.text.now) c.args.cases.now

pub loop-case-preserved : goal.loop-case-preserved
loop-case-preserved c = next (coverage_line c.args.ticks.now) (string_bytes c.args.text.now) c.args.cases.now c.loop-case.case-index ScriptPedal
    _ _ c.loop-case-test.true c.loop-case.invariant c.in_ok-push_row.ensures

pub returns : goal.returns
returns c = all (coverage_line c.args.ticks.now) (string_bytes c.args.text.now) c.args.cases.now c.loop-case.case-index _
    c.loop-case-test.false c.loop-case.invariant
