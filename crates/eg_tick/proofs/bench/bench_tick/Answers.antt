use Rattle.eg_tick.proofs.RunLemmas.{next_at, next_row, slices-at}
use Rattle.eg_tick.proofs.bench.bench_tick.Goals as goal

pub returns-clause-at : goal.returns-clause-at
returns-clause-at g c = λ r plan drive at.
    let law = g.met.E.BenchedEngine in
    next_at _ _ r c.args.tick c.args.controller.now c.tick.new.self at _ _ drive (slices-at r _ c.args.tick _ plan c.row.ensures.row)
    g.E.Engine.shows law.shows_as g.E.Engine.steps law.steps_as (c.in_ok-row.ensures.made.engine _ _ at.stands) c.engine-engine.ensures.shown (c.in_ok-row.ensures.made.stands _ _ at.stands)

pub returns-clause-row : goal.returns-clause-row
returns-clause-row g c = λ r plan drive at.
    let law = g.met.E.BenchedEngine in
    next_row _ _ r c.args.tick c.args.controller.now c.tick.new.self at _ _ drive (slices-at r _ c.args.tick _ plan c.row.ensures.row)
    g.E.Engine.shows law.shows_as g.E.Engine.steps law.steps_as (c.in_ok-row.ensures.made.engine _ _ at.stands) c.engine-engine.ensures.shown c.in_ok-row.row (c.in_ok-row.ensures.made.row _ _ at.stands)
