use Rattle.std.proofs.Common.{◌≡◌, ◌∙◌, sym, ap, false, arith}
use Rattle.std.proofs.lemmas.Grind.{common_steps}
use Rattle.eg_record.specs.Detection.{is_trip}
use Rattle.eg_replay.specs.Inner.TickMore.{first_with, found_with}
use Rattle.eg_replay.proofs.TallyLemmas.{nothing-found}
use Rattle.eg_replay.proofs.findings.Findings.note_found.Goals as goal

pub returns-then-not-is_trip : goal.returns-then-not-is_trip
returns-then-not-is_trip c =
    let found = c.args.found.now in
    let pedal : found.pedal ≡ false = grind (arith, common_steps) in
    let trip : is_trip found ≡ false = grind (arith, common_steps) in
    sym (nothing-found c.args.tick found c.args.self.now pedal trip)

pub returns : goal.returns
unfolding found_with
returns c = λ i. record (found_with c.args.tick c.args.found.now c.args.self.now) {
  pedal = c.note_first.ensures i;
  plate = c.note_first-2.ensures i;
  load = c.note_first-3.ensures i;
  speed = c.note_first-4.ensures i;
  torque = c.note_first-5.ensures i;
  trip = (c.note_first-6.ensures ∙ ap (λ b. first_with c.args.tick b c.args.self.now.trip) c.is_trip-2.ensures) i;
}
