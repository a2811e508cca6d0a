use Rattle.std.proofs.Common.{◌≢◌, ◌<◌, ℕ, inl, inr, arith}
use Rattle.eg_level2.proofs.ResultLemmas.{seed-kept}
use Rattle.eg_level2.proofs.StepLemmas.{same_rules, check_run, signal_run, debounce_run, react_run, orderly_run, given_up_run}
use Rattle.eg_level2.proofs.level2.Level2.module_with_lookup.Goals as goal

later : (n : ℕ) → n ≢ 0 → 0 < n
later n apart = omega arith

pub returns-then-number-eq-CHECK : goal.returns-then-number-eq-CHECK
returns-then-number-eq-CHECK g c = elim c.check.ensures [
  | inl clean ↦ orderly_run c.args.self.now c.args.tick c.args.phase c.args.disturbance c.args.number c.requires.number clean.0
      (check_run c.args.self.now _ c.args.tick c.args.phase c.args.disturbance _ c.if-number-eq-CHECK.true (seed-kept _ _ _ c.requires.prepared.row) clean.1)
  | inr broken ↦ given_up_run c.args.self.now c.args.tick c.args.phase c.args.disturbance c.args.number c.if-number-eq-CHECK.true broken.0 broken.1 broken.2
]

pub returns-then-number-le-PAIRS : goal.returns-then-number-le-PAIRS
returns-then-number-le-PAIRS g c = orderly_run c.args.self.now c.args.tick c.args.phase c.args.disturbance c.args.number c.requires.number
    (c.requires.mirrored (later c.args.number c.if-number-eq-CHECK.false))
    (signal_run _ c.args.number _ c.if-number-le-PAIRS.true (c.run_signal.ensures c.args.tick c.args.phase))

pub returns-then-number-eq-DEBOUNCE : goal.returns-then-number-eq-DEBOUNCE
returns-then-number-eq-DEBOUNCE g c = orderly_run c.args.self.now c.args.tick c.args.phase c.args.disturbance c.args.number c.requires.number
    (c.requires.mirrored (later c.args.number c.if-number-eq-CHECK.false))
    (debounce_run c.args.self.now _ c.args.tick c.args.phase c.args.disturbance _ c.if-number-eq-DEBOUNCE.true (same_rules _ _ c.self.view_is) c.debounce.ensures)

pub returns : goal.returns
returns g c = orderly_run c.args.self.now c.args.tick c.args.phase c.args.disturbance c.args.number c.requires.number
    (c.requires.mirrored (later c.args.number c.if-number-eq-CHECK.false))
    (react_run c.args.self.now _ c.args.tick c.args.phase c.args.disturbance _ (omega arith) c.react.ensures)
