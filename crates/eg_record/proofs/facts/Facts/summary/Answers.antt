use Rattle.std.proofs.Common.{◌∙◌, ap}
use Rattle.eg_record.specs.Facts.{summary_with}
use Rattle.eg_record.proofs.TallyLemmas.{summary_with-rows}
use Rattle.eg_record.proofs.facts.Facts.summary.Goals as goal

pub returns-clause-rows : goal.returns-clause-rows
unfolding summary_with
returns-clause-rows c weights threshold rows facts =
    ap (λ name. summary_with name c.args.self.now c.args.trap c.args.bound) (c.new.ensures ∙ c.in_ok-name.ensures.ok)
    ∙ ap (λ facts. summary_with c.args.name.now facts c.args.trap c.args.bound) facts
    ∙ summary_with-rows c.args.name.now weights threshold rows c.args.trap c.args.bound
