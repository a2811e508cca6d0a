use Rattle.std.proofs.Common.{◌∙◌, Option, Some, ap, sym, subst, option_map}
use Rattle.eg_outcome.specs.Changes.{change, change_of}
use Rattle.eg_desk.specs.Words.{Command, said}
use Rattle.eg_app.specs.Ends.{Completes, call}
use Rattle.eg_app.specs.Headline.{TellsHeadline}
use Rattle.eg_app.proofs.EndsLemmas.{completes}
use Rattle.eg_app.proofs.HeadlineLemmas.{tells_headline}
use Rattle.eg_app.proofs.call.egasim_on_lines.Goals as goal

pub returns-clause-completes : goal.returns-clause-completes
returns-clause-completes g c =
    let store = change_of g.S.Store.shows c.args.store.now c.work-end.new.store in
    let lines = change_of g.L.Lines.shows c.args.lines.now c.work-end.new.lines in
    let out = change_of g.K.Sink.shows c.args.out.now c.work-end.new.out in
    let o = c.work-end.result.outcome in
    subst (λ (asked : Option Command). Completes asked store lines.before out o) (ap (option_map said) (sym c.in-Some.is) ∙ c.of.ensures.command)
    (completes (Some (said c.in-Some.command)) _ (call store lines out (change c.args.steps.now c.work-end.new.steps)) o c.work-end.ensures.ends)

pub returns-clause-headline : goal.returns-clause-headline
returns-clause-headline g c =
    let store = change_of g.S.Store.shows c.args.store.now c.work-end.new.store in
    let lines = change_of g.L.Lines.shows c.args.lines.now c.work-end.new.lines in
    let out = change_of g.K.Sink.shows c.args.out.now c.work-end.new.out in
    λ done. subst (λ (asked : Option Command). TellsHeadline asked store.before out) (ap (option_map said) (sym c.in-Some.is) ∙ c.of.ensures.command)
    (tells_headline (Some (said c.in-Some.command)) _ (call store lines out (change c.args.steps.now c.work-end.new.steps)) c.work-end.result.outcome c.work-end.ensures.ends done)
