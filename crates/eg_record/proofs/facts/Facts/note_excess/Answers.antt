use Rattle.std.proofs.Common.{◌≡◌, max, arith}
use Rattle.eg_record.specs.Excess.{above}
use Rattle.eg_record.proofs.StretchLemmas.{above-none}
use Rattle.eg_record.proofs.facts.Facts.note_excess.Goals as goal

pub returns-else-lasts-gt0 : goal.returns-else-lasts-gt0
returns-else-lasts-gt0 c =
    let self = c.args.self.now in
    let none : c.args.lasts ≡ 0 = let no = c.if-lasts-gt0.false in omega arith in
    let here = above-none c.args.threshold c.args.row.now (c.requires none) in
    let stretch : self.stretch ≡ max self.stretch c.args.lasts = omega arith in
    let peak : self.peak ≡ max self.peak (above c.args.threshold c.args.row.now) = omega arith in
    λ i. record self { stretch = stretch i; peak = peak i }
