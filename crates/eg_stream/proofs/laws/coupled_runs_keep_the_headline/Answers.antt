use Rattle.eg_stream.proofs.HeadlineLemmas.{coupled-headline}
use Rattle.eg_stream.proofs.RowLemmas.{rows_come_in_turn, text_tells_rows}
use Rattle.eg_stream.proofs.laws.coupled_runs_keep_the_headline.Goals as goal

pub returns : goal.returns
returns c = record { keeps = coupled-headline; rows = rows_come_in_turn; text = text_tells_rows }
