use Rattle.std.proofs.Common.{refl, subst}
use Rattle.std.specs.Option.{option_copied}
use Rattle.eg_base.specs.Outside.{ShownStore}
use Rattle.eg_outcome.specs.Changes.{change}
use Rattle.eg_outcome.specs.Inputs.{outcomes}
use Rattle.eg_desk.specs.Words.{said_work}
use Rattle.eg_app.specs.Gathered.{GathersBy}
use Rattle.eg_app.specs.Missing.{EndsBy, TellsMissingOwn}
use Rattle.eg_app.proofs.MissingLemmas.{missing_behind}
use Rattle.eg_app.proofs.gather.gather.Goals as goal

pub returns-in-Ok-clause-missing : goal.returns-in-Ok-clause-missing
returns-in-Ok-clause-missing g c =
    let a = c.in-By in
    let work = said_work a.work in
    let cal = c.in-Ok.calibration in
    let come = outcomes c.gather_by.result in
    let before = g.S.Store.shows c.args.store.now in
    let after = g.S.Store.shows c.gather_by.new.store in
    let same = c.in-Ok.ensures.keeps.shown refl in
    rw a.is (missing_behind (option_copied a.calibration) work (change before after) cal come c.in-Ok.ensures.missing
    (subst (λ (shown : ShownStore). GathersBy cal work (change shown after) come) same c.gather_by.ensures.gathers)
    (subst (λ (shown : ShownStore). TellsMissingOwn work shown (EndsBy come)) same c.gather_by.ensures.missing))
