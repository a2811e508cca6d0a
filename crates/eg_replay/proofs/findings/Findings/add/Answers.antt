use Rattle.std.proofs.Common.{◌∙◌, ap, max}
use Rattle.eg_replay.specs.Inner.TickMore.{greater_counters, surplus_with, found_with, findings_with}
use Rattle.eg_replay.specs.declared.findings.Findings.{Findings}
use Rattle.eg_replay.proofs.findings.Findings.add.Goals as goal

pub returns : goal.returns
unfolding findings_with found_with
returns c = λ i. record (findings_with c.args.told.now c.args.lasting c.args.self.now) {
  pedal = ap (λ (f : Findings). f.pedal) c.note_found.ensures i;
  plate = ap (λ (f : Findings). f.plate) c.note_found.ensures i;
  load = ap (λ (f : Findings). f.load) c.note_found.ensures i;
  speed = ap (λ (f : Findings). f.speed) c.note_found.ensures i;
  torque = ap (λ (f : Findings). f.torque) c.note_found.ensures i;
  trip = ap (λ (f : Findings). f.trip) c.note_found.ensures i;
  greatest = (c.greater_counters-self.ensures ∙ ap (λ (f : Findings). greater_counters c.args.told.now.counters f.greatest) c.note_found.ensures) i;
  stretch = (c.max-self.ensures ∙ ap (λ (f : Findings). max c.args.lasting f.stretch) c.note_found.ensures) i;
  surplus = (ap (λ (f : Findings). f.surplus) c.note_found.ensures ∙ c.surplus_with-self.ensures ∙ ap (λ b. surplus_with c.args.told.now b c.args.self.now.surplus) c.is_some.ensures) i;
}
