use Rattle.std.proofs.Common.{append_assoc}
use Rattle.eg_replay.specs.Texts.{watch_line}
use Rattle.eg_replay.proofs.replay_lines.push_watch.Goals as goal

pub returns : goal.returns
unfolding watch_line
returns c = simp (c.in_ok-write-2.ensures.bytes, c.in_ok-push_tick.ensures, c.in_ok-write.ensures.bytes, append_assoc)
