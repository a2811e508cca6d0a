use Rattle.std.proofs.Common.{rules, ◌≡◌, ◌∙◌, ap, List, ◌∷◌, ◌++◌, ◌+◌, [], arith, subst}
use Rattle.std.proofs.lemmas.Grind.{common_steps}
use Rattle.eg_input.specs.Records.{Record}
use Rattle.eg_input.specs.Inner.Plain.{BeginsWithRow, records_below}
use Rattle.eg_input.proofs.Seen.{Seen, seen-more, seen-read}
use Rattle.eg_input.proofs.LineOfNumbers.{no-records}
use Rattle.eg_input.proofs.plain.read_lines.Goals as goal

pub returns-then-is_empty : goal.returns-then-is_empty
returns-then-is_empty g c =
    let left : c.loop-count.rest.now ≡ [] = grind (arith, common_steps) in
    let none : records_below c.loop-count.rest.now ≡ [] = ap records_below left ∙ no-records in
    let P : List Record → Type 0 = λ rest. Seen (g.R.FileRow.row_of c.args.width) (records_below c.args.bytes.now) rest c.loop-count.rows.items c.loop-count.count in
    seen-read 20000 (g.R.FileRow.row_of c.args.width) _ c.loop-count.rows c.loop-count.count _ (subst P none c.loop-count.invariant) (omega arith) c.unless_empty.ensures

pub loop-count-preserved : goal.loop-count-preserved
loop-count-preserved g c =
    let b : BeginsWithRow (g.R.FileRow.row_of c.args.width) c.loop-count.rest.now c.in-Some.row c.in-Some.after.now = search rules in
    let P : List Record → Type 0 = λ rest. Seen (g.R.FileRow.row_of c.args.width) (records_below c.args.bytes.now) rest c.loop-count.rows.items c.loop-count.count in
    let pushed : c.loop-count.rows.items ++ c.in-Some.row ∷ [] ≡ c.push.new.self.items = grind (arith, common_steps) in
    let Q : List _ → Type 0 = λ rows. Seen (g.R.FileRow.row_of c.args.width) (records_below c.args.bytes.now) (records_below c.in-Some.after.now) rows (c.loop-count.count + 1) in
    subst Q pushed (seen-more (g.R.FileRow.row_of c.args.width) _ _ b.fields _ c.loop-count.count c.in-Some.row (subst P b.parts c.loop-count.invariant) b.written)

pub returns : goal.returns
returns g c =
    let left : c.loop-count.rest.now ≡ [] = grind (arith, common_steps) in
    let none : records_below c.loop-count.rest.now ≡ [] = ap records_below left ∙ no-records in
    let P : List Record → Type 0 = λ rest. Seen (g.R.FileRow.row_of c.args.width) (records_below c.args.bytes.now) rest c.loop-count.rows.items c.loop-count.count in
    seen-read 20000 (g.R.FileRow.row_of c.args.width) _ c.loop-count.rows c.loop-count.count _ (subst P none c.loop-count.invariant) (omega arith) c.unless_empty-2.ensures
