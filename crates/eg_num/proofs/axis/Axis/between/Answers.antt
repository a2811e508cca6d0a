use Rattle.std.proofs.Common.{◌+◌, ◌<◌, ◌≤◌, sym, ◌∙◌, arith, slice_index, length}
use Rattle.std.proofs.lemmas.Grind.{common_steps}
use Rattle.eg_num.proofs.InterpolationLemmas.{at-located_low, at-located_high, at-pair}
use Rattle.eg_num.proofs.axis.Axis.between.Goals as goal

pub returns-then-x-points : goal.returns-then-x-points
returns-then-x-points c = λ value low high.
    let h : c.args.x ≤ slice_index c.args.self.now c.args.i = grind (arith, common_steps) in
    sym low ∙ sym (at-located_low c.args.self.now value c.args.x c.args.i c.points-points.ensures.axis c.requires h)

pub returns-then-points-i : goal.returns-then-points-i
returns-then-points-i c = λ value low high.
    let h : slice_index c.args.self.now (c.args.i + 1) ≤ c.args.x = grind (arith, common_steps) in
    sym high ∙ sym (at-located_high c.args.self.now value c.args.x c.args.i c.points-points.ensures.axis c.requires h)

pub returns-else-points-i : goal.returns-else-points-i
returns-else-points-i c = λ value low high.
    let below : c.args.i + 1 < length c.args.self.now = (let e = c.requires.within in omega arith) in
    let from : slice_index c.args.self.now c.args.i ≤ c.args.x = grind (arith, common_steps) in
    let to : c.args.x ≤ slice_index c.args.self.now (c.args.i + 1) = grind (arith, common_steps) in
    let e = at-pair c.args.self.now value c.args.x c.args.i c.points-points.ensures.axis.2 below from to in
    cc
