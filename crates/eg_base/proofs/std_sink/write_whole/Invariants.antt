use Rattle.std.proofs.Common.{◌≤◌, length, take}
use Rattle.std.specs.Io.KnownBytes.{Appends}
use Rattle.eg_base.proofs.std_sink.write_whole.Given as goal

-- what was taken so far is a front of the bytes, and the stream grew by it
abbrev pub invariant-loop : goal.invariant-loop
invariant-loop g l = record {
  within : l.taken ≤ length l.bytes;
  so_far : Appends (g.W.Write.contents l.fn.stream) (g.W.Write.contents l.stream) (take l.taken l.bytes);
}
