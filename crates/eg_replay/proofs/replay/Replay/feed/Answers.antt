use Rattle.eg_level2.specs.Words.{AreWithin, words_of}
use Rattle.std.proofs.Common.{◌≡◌, ◌∙◌, List, sym, ap, subst}
use Rattle.eg_input.specs.declared.recorded.Recorded.{Recorded}
use Rattle.eg_replay.specs.Replay.{given_readings, told_after}
use Rattle.eg_replay.specs.Running.{ReplayParts, IsReplayOf}
use Rattle.eg_replay.proofs.RunLemmas.{HasFed, fed-stands, fed-told}
use Rattle.eg_replay.proofs.replay.Replay.feed.Goals as goal

fed : (c : goal.After-counters) → HasFed c.self.inside.calibration c.self.inside.level2 c.args.recorded.now c.given-readings.result c.self.inside.tick
    c.self.inside.memory c.show_readings.new.memory c.run_modules-found.new.memory c.run_modules-found.result
fed c = record {
  accepted = c.self.invariant.accepted;
  rules = c.self.invariant.rules;
  is = subst (λ v. c.given-readings.result ≡ given_readings v.cal c.args.recorded.now) (sym c.self.view_is) c.given-readings.ensures;
  are_words = c.show_readings.ensures.are_words;
  readings = c.show_readings.ensures.readings;
  asked = c.show_readings.ensures.asked;
  words = c.show_readings.ensures.words;
  ran = c.run_modules-found.ensures.words;
  finds = c.run_modules-found.ensures.found;
}

pub invariant_of-self : goal.invariant_of-self
invariant_of-self c = record {
  accepted = c.self.invariant.accepted;
  rules = c.self.invariant.rules;
  questions = c.self.invariant.questions;
  looked_up = c.self.invariant.looked_up;
  sound = record {
    are_words = c.run_modules-found.ensures.are_words;
    mirrored = c.run_modules-found.ensures.mirrored;
    within = subst (λ rules. AreWithin rules (words_of c.run_modules-found.new.memory)) c.self.invariant.rules c.run_modules-found.ensures.within;
  };
}

-- what it stood for
stood : (c : goal.After-counters) (seen : List Recorded) → IsReplayOf c.args.self.now seen →
    IsReplayOf (record { cal = c.self.inside.calibration; memory = c.self.inside.memory }) seen
stood c seen stands = subst (λ v. IsReplayOf v seen) (sym c.self.view_is) stands

pub returns-clause-told : goal.returns-clause-told
returns-clause-told c seen stands = fed-told _ _ _ _ _ _ _ _ _ (fed c) seen (stood c seen stands) _ _ c.signals.ensures c.counters.ensures
    ∙ ap (λ (v : ReplayParts). told_after v.cal c.args.recorded.now seen) c.self.view_is

pub returns-clause-stands : goal.returns-clause-stands
returns-clause-stands c seen stands = fed-stands _ _ _ _ _ _ _ _ _ (fed c) seen (stood c seen stands)
