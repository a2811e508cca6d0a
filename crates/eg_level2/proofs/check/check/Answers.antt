use Rattle.std.proofs.Common.{inl, inr, rules}
use Rattle.std.proofs.lemmas.Result.{IfOk-from_err}
use Rattle.eg_level2.specs.Words.{AreMirrored}
use Rattle.eg_level2.proofs.MakesLemmas.{early_last, done, ended}
use Rattle.eg_level2.proofs.check.check.Goals as goal

pub returns-in_err-give_up : goal.returns-in_err-give_up
returns-in_err-give_up g c =
    let differs : ¬ AreMirrored (g.M.Guarded.shows c.args.memory.now).words = search rules in
    inr (
      differs,
      ended c.from_residual.result c.from_residual.ensures.0 (early_last c.from_residual.result c.from_residual.ensures.0 c.in_err-give_up.ensures.makes),
      IfOk-from_err c.from_residual.result _ c.from_residual.ensures.0,
    )

pub returns-then-not-is_mirrored : goal.returns-then-not-is_mirrored
returns-then-not-is_mirrored g c =
    let differs : ¬ AreMirrored (g.M.Guarded.shows c.args.memory.now).words = search rules in
    inr (differs, record { makes = done c.in_ok-give_up.ensures.makes; answers = c.mirror.ensures }, c.in_ok-give_up.ensures.mirrored)

pub returns-in_err-go_on : goal.returns-in_err-go_on
returns-in_err-go_on g c =
    let are : AreMirrored (g.M.Guarded.shows c.args.memory.now).words = search rules in
    inl (
      are,
      ended c.from_residual-in_err-go_on.result c.from_residual-in_err-go_on.ensures.0
          (early_last c.from_residual-in_err-go_on.result c.from_residual-in_err-go_on.ensures.0 c.in_err-go_on.ensures),
    )

pub returns : goal.returns
returns g c =
    let are : AreMirrored (g.M.Guarded.shows c.args.memory.now).words = search rules in
    inl (are, record { makes = done c.in_ok-go_on.ensures; answers = c.quiet.ensures })
