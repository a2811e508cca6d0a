use Rattle.std.proofs.Common.{◌≡◌, ◌∙◌, sym, inl, true, None, Some, arith, ◌+◌, ◌<◌}
use Rattle.std.proofs.lemmas.Grind.{common_steps}
use Rattle.eg_outcome.proofs.ComingLemmas.{seen_line}
use Rattle.eg_input.specs.declared.recorded.TheConstants.{MOST_BYTES}
use Rattle.eg_input.specs.Recording.{recorded_of}
use Rattle.eg_input.proofs.LengthLaws.{recorded_of-seen}
use Rattle.eg_stream.proofs.recording.Recording.next.Goals as goal

pub returns-in-Some-clause-next : goal.returns-in-Some-clause-next
returns-in-Some-clause-next g c =
    let came : c.in_ok-next_line.field-0 ≡ true = grind (arith, common_steps) in
    seen_line (recorded_of c.args.self.now.columns) (MOST_BYTES + 1) _ c.next_line.new.line.items c.deref.result.now c.in_ok-next_line.field-0 (Some c.in-Some.recorded)
    (λ line. recorded_of-seen c.args.self.now.columns line (MOST_BYTES + 1) (let few : 80 < 80 + 1 = omega arith in few)) c.in_ok-next_line.ensures came c.deref.ensures.value
    (sym c.recorded_of.ensures ∙ c.in-Some.is)

pub returns-in-None-clause-next : goal.returns-in-None-clause-next
returns-in-None-clause-next g c =
    let came : c.in_ok-next_line.field-0 ≡ true = grind (arith, common_steps) in
    let line = seen_line (recorded_of c.args.self.now.columns) (MOST_BYTES + 1) _ c.next_line.new.line.items c.deref.result.now c.in_ok-next_line.field-0 None
    (λ line. recorded_of-seen c.args.self.now.columns line (MOST_BYTES + 1) (let few : 80 < 80 + 1 = omega arith in few)) c.in_ok-next_line.ensures came c.deref.ensures.value
    (sym c.recorded_of.ensures ∙ c.in-None.is) in
    inl (c.refused.ensures, line.0, line.1, line.2, line.3)
