use Rattle.eg_plan.specs.Runs.{is_table}
use Rattle.eg_plan.proofs.TableLemmas.{all_items-at}
use Rattle.eg_plan.proofs.reader.runs_in.Goals as goal

pub next_run-requires-clause-table : goal.next_run-requires-clause-table
next_run-requires-clause-table c =
    all_items-at is_table c.args.items.now _ _ c.loop-item-test.true c.item-item.is c.requires.tables
