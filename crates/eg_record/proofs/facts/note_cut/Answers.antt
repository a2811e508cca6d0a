use Rattle.std.proofs.Common.{◌∙◌, sym, ap}
use Rattle.std.specs.Prelude.{option_map}
use Rattle.std.specs.Option.{option_or}
use Rattle.eg_record.specs.Detection.{first_watch, detected_at, cutting_at}
use Rattle.eg_record.proofs.RowsLemmas.{option_or-None}
use Rattle.eg_record.proofs.LawLemmas.{nothing_cuts}
use Rattle.eg_record.proofs.facts.note_cut.Goals as goal

pub returns-then-is_detected : goal.returns-then-is_detected
unfolding detected_at cutting_at
returns-then-is_detected c = c.note_detection.ensures
    ∙ ap (λ found. option_or c.args.cut.now (option_map (λ watch. (watch, c.args.row.now.tick)) (first_watch found))) c.cutting.ensures

pub returns-else-is_detected : goal.returns-else-is_detected
returns-else-is_detected c =
    sym (ap (option_or c.args.cut.now) (nothing_cuts c.args.row.now (c.requires c.if-is_detected.false)) ∙ option_or-None c.args.cut.now)
