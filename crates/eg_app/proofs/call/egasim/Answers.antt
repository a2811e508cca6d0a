use Rattle.std.proofs.Common.{subst}
use Rattle.eg_lines.specs.Lines.{ShownLines}
use Rattle.eg_outcome.specs.Changes.{change, change_of}
use Rattle.eg_desk.specs.Words.{command_of, word_bytes}
use Rattle.eg_app.specs.Ends.{Completes}
use Rattle.eg_app.proofs.EndsLemmas.{none_shown, without_lines}
use Rattle.eg_app.proofs.call.egasim.Goals as goal

pub returns-clause-ends : goal.returns-clause-ends
returns-clause-ends g c =
    let store = change_of g.S.Store.shows c.args.store.now c.egasim_on_lines.new.store in
    let out = change_of g.K.Sink.shows c.args.out.now c.egasim_on_lines.new.out in
    let ticks = change c.args.steps.now c.egasim_on_lines.new.steps in
    without_lines (command_of (word_bytes c.args.words.now)) _ _ (λ same. (same.1, same.2)) store out ticks _ _ c.egasim_on_lines.result
    (none_shown _ _ c.new.ensures.items c.new-lines.ensures.shown) c.egasim_on_lines.ensures.ends

pub returns-clause-completes : goal.returns-clause-completes
returns-clause-completes g c =
    let store = change_of g.S.Store.shows c.args.store.now c.egasim_on_lines.new.store in
    let out = change_of g.K.Sink.shows c.args.out.now c.egasim_on_lines.new.out in
    subst (λ (shown : ShownLines). Completes (command_of (word_bytes c.args.words.now)) store shown out c.egasim_on_lines.result)
    (none_shown _ _ c.new.ensures.items c.new-lines.ensures.shown) c.egasim_on_lines.ensures.completes
