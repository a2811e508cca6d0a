use Rattle.std.proofs.Common.{◌≡◌, refl, inr, [], arith, true, false}
use Rattle.std.proofs.lemmas.Grind.{common_steps}
use Rattle.csv.specs.Records.{fields_of}
use Rattle.eg_input.specs.Rows.{is_header, file_rows}
use Rattle.eg_input.proofs.Seen.{was-none, was-some}
use Rattle.eg_input.proofs.reader.read_file.Goals as goal

pub returns-then-not-branch : goal.returns-then-not-branch
unfolding file_rows
returns-then-not-branch g c = λ left h.
    let end : left ≡ [] = was-none c.in_ok-next_record.field-0 _ _ (grind (arith, common_steps)) (c.in_ok-next_record.ensures.reads left h) in
    inr (rw end refl)

pub returns-then-not-is_header : goal.returns-then-not-is_header
unfolding file_rows
returns-then-not-is_header g c = λ left h.
    let more = was-some c.in_ok-next_record.field-0 _ _ (grind (arith, common_steps)) (c.in_ok-next_record.ensures.reads left h) in
    let other : is_header g.R.FileRow.headers (fields_of c.next_record.new.entry) ≡ false = grind (arith, common_steps) in
    inr (rw (more.1, other) refl)

pub returns : goal.returns
unfolding file_rows
returns g c = λ left h.
    let more = was-some c.in_ok-next_record.field-0 _ _ (grind (arith, common_steps)) (c.in_ok-next_record.ensures.reads left h) in
    let same : is_header g.R.FileRow.headers (fields_of c.next_record.new.entry) ≡ true = grind (arith, common_steps) in
    rw (more.1, same, ← c.len.ensures) (c.read_below.ensures more.0 more.2)
