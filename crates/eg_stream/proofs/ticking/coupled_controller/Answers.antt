use Rattle.std.proofs.Common.{◌∙◌, ap}
use Rattle.eg_stream.proofs.TickingLemmas.{coupled-begins}
use Rattle.eg_stream.proofs.ticking.coupled_controller.Goals as goal

pub returns : goal.returns
returns c =
    coupled-begins c.args.calibration.now c.copy.result c.args.input.now c.as_slice-image.result.now c.copied-fault.result c.in-Ok.controller
    c.copy.ensures c.as_slice-image.ensures (c.copied-fault.ensures ∙ c.as_ref.ensures.value) c.in-Ok.ensures.stands
    (c.in-Ok.ensures.kept_sure ∙ ap (λ m. m.sure) c.new.ensures.shown)
