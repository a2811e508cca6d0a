use Rattle.eg_model.proofs.SpanLemmas.{spans_are_histories}
use Rattle.eg_model.proofs.spans.spans_are_histories.Goals as goal

pub returns : goal.returns
returns c = spans_are_histories
