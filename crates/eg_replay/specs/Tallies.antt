-- What a tally keeps of ticks that are gone, and for which ticks it stands. Lists of ticks stand newest
-- first.
use Rattle.std.specs.Prelude.{◌≡◌, ℕ, List}
use Rattle.eg_replay.specs.declared.tick_signals.TickSignals.{TickSignals}
use Rattle.eg_replay.specs.declared.findings.Findings.{Findings}
use Rattle.eg_replay.specs.Findings.{findings_of, lasting}

-- the findings of the ticks, and how many ticks in a row have an excess up to the last
pub record TallyParts : Type 0 where
  pub findings : Findings
  pub lasting : ℕ

-- the tally stands for these ticks: its findings are theirs, and so many in a row have an excess up to the
-- last
pub record IsTallyOf (tally : TallyParts) (ticks : List TickSignals) : Type 0 where
  pub findings : tally.findings ≡ findings_of ticks
  pub lasts : tally.lasting ≡ lasting ticks

-- what a tally always keeps: it stands for some ticks
abbrev pub IsTally : TallyParts → Type 0
IsTally tally = (ticks : List TickSignals) × IsTallyOf tally ticks
