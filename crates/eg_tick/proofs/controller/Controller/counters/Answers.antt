use Rattle.std.proofs.Common.{◌∙◌, ap}
use Rattle.eg_level2.specs.Words.{words_of}
use Rattle.eg_tick.specs.Kept.{ControllerParts}
use Rattle.eg_tick.specs.Margins.{counters_kept}
use Rattle.eg_tick.proofs.WeighLemmas.{counters_stand}
use Rattle.eg_tick.proofs.controller.Controller.counters.Goals as goal

pub returns : goal.returns
returns g c s h stands =
    c.counters.ensures ∙ ap (λ (v : ControllerParts g.row.E.Denot). counters_kept (words_of v.kept.memory.words) v.kept.span.monitor.value) c.self.view_is
    ∙ counters_stand s c.args.self.now.kept h stands
