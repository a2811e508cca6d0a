use Rattle.std.proofs.Common.{◌≡◌, List, length}
use Rattle.eg_input.specs.declared.answered.PartnerAnswer.{PartnerAnswer}
use Rattle.eg_outcome.specs.Changes.{change}
use Rattle.eg_tick.specs.Commanding.{commands_next}
use Rattle.eg_stream.specs.Coupled.{unit_of, entries_by}
use Rattle.eg_stream.specs.Texts.{coupled_text}
use Rattle.eg_stream.specs.Streams.{HasWritten}
use Rattle.eg_stream.proofs.CouplingLemmas.{HasMade}
use Rattle.eg_stream.proofs.coupling.couple.Given as goal

-- as many answers were taken as turns are done, a tick was made of each, and all that is said of them was put
abbrev pub invariant-loop-taken : goal.invariant-loop-taken
invariant-loop-taken g l =
    (answers : List PartnerAnswer)
    × HasMade (unit_of l.calibration l.input) answers l.controller (change (g.L.Lines.shows l.fn.lines) (g.L.Lines.shows l.lines)) (change l.fn.steps l.steps)
    × HasWritten (coupled_text (unit_of l.calibration l.input) answers) (change (g.K.Sink.shows l.fn.out) (g.K.Sink.shows l.out))
    × (length answers ≡ l.taken)
    × (l.told ≡ commands_next (unit_of l.calibration l.input).setting (entries_by (unit_of l.calibration l.input) answers))
    × (l.calibration.rules.kt ≡ l.partner.kt)
