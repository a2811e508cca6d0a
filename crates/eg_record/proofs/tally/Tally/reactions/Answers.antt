use Rattle.std.proofs.Common.{◌∙◌, ap}
use Rattle.eg_record.specs.Tallies.{TallyParts}
use Rattle.eg_record.specs.Reactions.{combined}
use Rattle.eg_record.specs.Inner.RowMore.{span_reactions}
use Rattle.eg_record.proofs.TallyLemmas.{tally_tells}
use Rattle.eg_record.proofs.tally.Tally.reactions.Goals as goal

pub returns-clause-reactions : goal.returns-clause-reactions
returns-clause-reactions c rows stands =
    tally_tells c.args.self.now rows c.reactions_to.result
    (c.reactions_to.ensures ∙ ap (λ (v : TallyParts). combined (span_reactions v.facts.ticks v.spans) v.spans.ended) c.self.view_is) stands
