use Rattle.eg_level2.proofs.DebounceLemmas.{fed_makes, fed_finding, unfed_makes, unfed_finding, rest_makes, rest_finding}
use Rattle.eg_level2.proofs.MakesLemmas.{early_last, done, ended}
use Rattle.eg_level2.proofs.debounce.debounce.Goals.{then-not-feeds_now-via-then-not-feeds_now, then-not-feeds_now-via-else-not-feeds_now+then-is_still}
use Rattle.eg_level2.proofs.debounce.debounce.Goals as goal

pub returns-in_err-keep : goal.returns-in_err-keep
returns-in_err-keep g c = ended c.from_residual.result c.from_residual.ensures.0 (elim c.then-not-feeds_now.branch [
  | then-not-feeds_now-via-then-not-feeds_now w ↦ unfed_makes c.args.rules.now c.args.phase c.feeds_now.ensures w.if-not-feeds_now.true c.next_token-token.ensures c.word.ensures
      (early_last c.from_residual.result c.from_residual.ensures.0 c.in_err-keep.ensures)
  | then-not-feeds_now-via-else-not-feeds_now+then-is_still w ↦ rest_makes c.args.rules.now c.args.phase c.requires.mirrored w.is_still.ensures w.if-is_still.true
      c.feeds_now.ensures w.if-not-feeds_now.false c.next_token-token.ensures c.word.ensures (early_last c.from_residual.result c.from_residual.ensures.0 c.in_err-keep.ensures)
])

pub returns-then-not-feeds_now : goal.returns-then-not-feeds_now
returns-then-not-feeds_now g c = elim c.then-not-feeds_now.branch [
  | then-not-feeds_now-via-then-not-feeds_now w ↦ record {
    makes = unfed_makes c.args.rules.now c.args.phase c.feeds_now.ensures w.if-not-feeds_now.true c.next_token-token.ensures c.word.ensures (done c.in_ok-keep.ensures);
    answers = unfed_finding _ c.args.rules.now c.args.phase c.quiet.ensures c.feeds_now.ensures w.if-not-feeds_now.true;
  }
  | then-not-feeds_now-via-else-not-feeds_now+then-is_still w ↦ record {
    makes = rest_makes c.args.rules.now c.args.phase c.requires.mirrored w.is_still.ensures w.if-is_still.true c.feeds_now.ensures w.if-not-feeds_now.false
        c.next_token-token.ensures c.word.ensures (done c.in_ok-keep.ensures);
    answers = rest_finding _ c.args.rules.now c.args.phase c.quiet.ensures w.is_still.ensures w.if-is_still.true c.feeds_now.ensures w.if-not-feeds_now.false;
  }
]

pub returns-in_err-keep_fed : goal.returns-in_err-keep_fed
returns-in_err-keep_fed g c = ended c.from_residual-in_err-keep_fed.result c.from_residual-in_err-keep_fed.ensures.0
    (fed_makes c.args.rules.now c.args.phase c.feed_all-feeds.ensures c.feeds_now.ensures c.if-not-feeds_now.false c.next_token-token.ensures c.word.ensures
    (early_last c.from_residual-in_err-keep_fed.result c.from_residual-in_err-keep_fed.ensures.0 c.in_err-keep_fed.ensures))

pub returns : goal.returns
returns g c = record {
  makes = fed_makes c.args.rules.now c.args.phase c.feed_all-feeds.ensures c.feeds_now.ensures c.if-not-feeds_now.false c.next_token-token.ensures c.word.ensures (done c.in_ok-keep_fed.ensures);
  answers = fed_finding _ c.args.rules.now c.args.phase c.finding.ensures c.found.ensures c.feed_all-feeds.ensures c.feeds_now.ensures c.if-not-feeds_now.false;
}
