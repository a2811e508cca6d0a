use Rattle.std.proofs.Common.{◌≡◌, drop, map}
use Rattle.csv.specs.Records.{fields_of}
use Rattle.eg_input.specs.Records.{is_same_record}
use Rattle.eg_input.proofs.field.has_fields.Given as goal

-- the fields before were the same
abbrev pub invariant-loop-i : goal.invariant-loop-i
invariant-loop-i l =
    is_same_record (drop l.i (fields_of l.entry)) (map (λ field. field.now) (drop l.i l.fields)) ≡ is_same_record (fields_of l.entry) (map (λ field. field.now) l.fields)
