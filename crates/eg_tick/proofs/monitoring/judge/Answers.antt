use Rattle.eg_tick.proofs.MonitorLemmas.{judged, judged-mark, judged-confirms, judged-opens}
use Rattle.eg_tick.proofs.monitoring.judge.Goals as goal

pub returns-clause-holds : goal.returns-clause-holds
returns-clause-holds c kind s x h comes = (judged kind s x h _ _ _ _ _ comes _ _ (record { wild = c.verdict-verdict.ensures.wild; orderly = c.verdict-verdict.ensures.orderly })).1

pub returns-clause-tells : goal.returns-clause-tells
returns-clause-tells c kind s x h comes =
    let both = judged kind s x h _ _ _ _ _ comes _ _ (record { wild = c.verdict-verdict.ensures.wild; orderly = c.verdict-verdict.ensures.orderly }) in
    record {
      mark = judged-mark kind s x h _ _ _ _ _ comes _ _ _ _ c.requires.questions c.mark-mark.ensures c.expected_number.ensures c.requires.asked;
      verdict = both.0;
      confirms = judged-confirms kind s x h _ _ _ _ _ comes _ _ _ _ both.1 c.is_first.ensures c.confirmed-before.ensures.verdicts c.confirmed.ensures.verdicts;
      opens = judged-opens kind s x h _ _ _ _ _ comes _ c.opens.ensures;
    }
