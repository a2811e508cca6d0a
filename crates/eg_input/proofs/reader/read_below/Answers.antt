use Rattle.std.proofs.Common.{◌≡◌, List, ℕ, inr, ◌∷◌, ◌++◌, ◌+◌, [], arith, subst, Some, None}
use Rattle.std.proofs.lemmas.Grind.{common_steps}
use Rattle.csv.specs.Records.{fields_of}
use Rattle.eg_input.specs.Records.{Record}
use Rattle.eg_input.proofs.Seen.{Seen, seen-more, seen-bad, seen-long, seen-read, was-none, was-some}
use Rattle.eg_input.proofs.reader.read_below.Goals as goal

pub returns-then-not-branch : goal.returns-then-not-branch
returns-then-not-branch g c = λ left h.
    let before = c.loop-count.invariant left h in
    let end : before.0 ≡ [] = was-none c.in_ok-next_record.field-0 _ _ (grind (arith, common_steps)) (c.in_ok-next_record.ensures.reads before.0 before.1) in
    let P : List Record → Type 0 = λ rest. Seen (g.R.FileRow.row_of c.args.width) left rest c.loop-count.rows.items c.loop-count.count in
    seen-read 20000 (g.R.FileRow.row_of c.args.width) left c.loop-count.rows c.loop-count.count _ (subst P end before.2) (omega arith) c.unless_empty.ensures

pub returns-in_default : goal.returns-in_default
returns-in_default g c = λ left h.
    let before = c.loop-count.invariant left h in
    let more = was-some c.in_ok-next_record.field-0 _ _ (grind (arith, common_steps)) (c.in_ok-next_record.ensures.reads before.0 before.1) in
    let P : List Record → Type 0 = λ rest. Seen (g.R.FileRow.row_of c.args.width) left rest c.loop-count.rows.items c.loop-count.count in
    let none : (g.R.FileRow.row_of c.args.width) (fields_of c.next_record.new.entry) ≡ None = grind (arith, common_steps) in
    inr (seen-bad 20000 (g.R.FileRow.row_of c.args.width) left more.0 (fields_of c.next_record.new.entry) _ c.loop-count.count (subst P more.1 before.2) (omega arith) none)

pub loop-count-preserved : goal.loop-count-preserved
loop-count-preserved g c = λ left h.
    let before = c.loop-count.invariant left h in
    let more = was-some c.in_ok-next_record.field-0 _ _ (grind (arith, common_steps)) (c.in_ok-next_record.ensures.reads before.0 before.1) in
    let P : List Record → Type 0 = λ rest. Seen (g.R.FileRow.row_of c.args.width) left rest c.loop-count.rows.items c.loop-count.count in
    let some : (g.R.FileRow.row_of c.args.width) (fields_of c.next_record.new.entry) ≡ Some c.in-Some.row = grind (arith, common_steps) in
    let pushed : c.loop-count.rows.items ++ c.in-Some.row ∷ [] ≡ c.push.new.self.items = grind (arith, common_steps) in
    let Q : List _ → Type 0 = λ rows. Seen (g.R.FileRow.row_of c.args.width) left more.0 rows (c.loop-count.count + 1) in
    let seen = seen-more (g.R.FileRow.row_of c.args.width) left more.0 (fields_of c.next_record.new.entry) _ c.loop-count.count c.in-Some.row (subst P more.1 before.2) some in
    (more.0, more.2, subst Q pushed seen)

pub returns-then-branch : goal.returns-then-branch
returns-then-branch g c = λ left h.
    let before = c.loop-count.invariant left h in
    let more = was-some c.in_ok-next_record-2.field-0 _ _ (grind (arith, common_steps)) (c.in_ok-next_record-2.ensures.reads before.0 before.1) in
    let P : List Record → ℕ → Type 0 = λ rest count. Seen (g.R.FileRow.row_of c.args.width) left rest c.loop-count.rows.items count in
    let Q : List Record → Type 0 = λ rest. P rest c.loop-count.count in
    let R : ℕ → Type 0 = P (fields_of c.next_record-2.new.entry ∷ more.0) in
    let full : c.loop-count.count ≡ 20000 = omega arith in
    inr (seen-long 20000 (g.R.FileRow.row_of c.args.width) left more.0 (fields_of c.next_record-2.new.entry) _ (subst R full (subst Q more.1 before.2)))

pub returns : goal.returns
returns g c = λ left h.
    let before = c.loop-count.invariant left h in
    let end : before.0 ≡ [] = was-none c.in_ok-next_record-2.field-0 _ _ (grind (arith, common_steps)) (c.in_ok-next_record-2.ensures.reads before.0 before.1) in
    let P : List Record → Type 0 = λ rest. Seen (g.R.FileRow.row_of c.args.width) left rest c.loop-count.rows.items c.loop-count.count in
    seen-read 20000 (g.R.FileRow.row_of c.args.width) left c.loop-count.rows c.loop-count.count _ (subst P end before.2) (omega arith) c.unless_empty-2.ensures
