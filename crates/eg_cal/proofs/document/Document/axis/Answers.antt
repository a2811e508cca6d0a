use Rattle.std.proofs.Common.{◌∙◌, Some, ap}
use Rattle.eg_cal.proofs.AxisLemmas.{axis-accepted, axis-refused}
use Rattle.eg_cal.proofs.document.Document.axis.Goals as goal

pub returns-in-Some-new : goal.returns-in-Some-new
returns-in-Some-new c =
    axis-accepted _ _ _ _ (ap Some c.as_slice.ensures ∙ c.in-Some.ensures.value) c.in-Some-new.ensures.0 c.in-Some-new.ensures.1

pub returns-in-None : goal.returns-in-None
returns-in-None c =
    let within = c.in-Some.ensures.count in
    axis-refused _ _ _ _ c.in-Some.ensures.value c.as_slice.ensures within.0 within.1 c.in-None.ensures
