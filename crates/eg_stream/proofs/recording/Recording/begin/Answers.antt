use Rattle.std.proofs.Common.{◌∙◌, sym, subst, ◌+◌}
use Rattle.eg_outcome.specs.Changes.{change_of}
use Rattle.eg_outcome.specs.Lines.{LineComes}
use Rattle.eg_input.specs.declared.recorded.TheConstants.{MOST_BYTES}
use Rattle.eg_stream.proofs.BeginLemmas.{begins, begins_not}
use Rattle.eg_stream.proofs.recording.Recording.begin.Goals as goal

pub returns-in-Ok : goal.returns-in-Ok
returns-in-Ok g c =
    let lines = change_of g.L.Lines.shows c.args.lines.now c.next_line-came.new.lines in
    begins lines c.deref.result.now c.next_line-came.result c.in-Ok.columns
    (subst (λ buffer. LineComes (MOST_BYTES + 1) lines buffer c.next_line-came.result) (sym c.deref.ensures.value) c.next_line-came.ensures)
    (sym c.columns_in.ensures ∙ c.in-Ok.is)

pub returns-in-Err : goal.returns-in-Err
returns-in-Err g c =
    let lines = change_of g.L.Lines.shows c.args.lines.now c.next_line-came.new.lines in
    begins_not lines c.deref.result.now c.next_line-came.result c.in-Err.end
    (subst (λ buffer. LineComes (MOST_BYTES + 1) lines buffer c.next_line-came.result) (sym c.deref.ensures.value) c.next_line-came.ensures)
    (sym c.columns_in.ensures ∙ c.in-Err.is)
