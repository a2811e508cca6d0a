-- The name of the file at fault, and the note that has this name (F6).
use Rattle.std.specs.Prelude.{◌≡◌, ◌⊎◌, ℕ, List, [], codes, Option, Some, None, unwrap_or}
use Rattle.std.specs.Option.{MatchOption}
use Rattle.eg_base.specs.Outside.{ShownStore, ShownSink}
use Rattle.eg_outcome.specs.Changes.{Change}
use Rattle.eg_outcome.specs.Notes.{PutsNote, note_of}
use Rattle.eg_outcome.specs.declared.outcome.Outcome.{Outcome}
use Rattle.eg_outcome.specs.declared.outcome.Role.{Role}
use Rattle.eg_outcome.specs.declared.outcome.Role.TheVariants as role
use Rattle.eg_outcome.specs.Roles.{role_in}
use Rattle.eg_outcome.specs.Runs.{NamesFile}
use Rattle.eg_desk.specs.Words.{Command, by, answers, asm, dis, Work, check, campaign_in}

-- the name behind `--cal` or of the file of `answers`, else empty
abbrev pub calibration_name : Command → List ℕ
calibration_name (by calibration work) = unwrap_or calibration []
calibration_name (answers file) = file
calibration_name _ = []

-- the name of the check file, else that of standard input (F6)
abbrev pub checked_by : Work → List ℕ
checked_by (check file) = file
checked_by _ = codes "standard input"

abbrev pub checked_name : Command → List ℕ
checked_name (by calibration work) = checked_by work
checked_name _ = codes "standard input"

-- the name of the campaign, or of the file of `asm` or `dis`, else empty
abbrev pub own_name : Command → List ℕ
own_name (by calibration work) = unwrap_or (campaign_in work) []
own_name (asm file) = file
own_name (dis file) = file
own_name _ = []

-- The name that the words have for the file of this role, else empty. The words don't name traces and images
-- of runs.
abbrev pub name_in_words : Command → Option Role → List ℕ
name_in_words command (Some role.Calibration) = calibration_name command
name_in_words command (Some role.Check) = checked_name command
name_in_words command (Some _) = own_name command
name_in_words command None = []

-- the name that comes with an outcome: that of the trace or image of a run at fault
abbrev pub NamesBy : Work → ShownStore → Outcome → Option (List ℕ) → Type 0
NamesBy work store o name =
    MatchOption (campaign_in work) (name ≡ None) (λ campaign. NamesFile campaign store (role_in o) name)

abbrev pub Names : Command → ShownStore → Outcome → Option (List ℕ) → Type 0
Names (by calibration work) store o name = NamesBy work store o name
Names command store o name = name ≡ None

-- F6: the name of the file at fault, empty if there is none. The name comes with the outcome, if the campaign
-- gives it; else the words have it.
abbrev pub IsFileName : Option Command → ShownStore → Outcome → List ℕ → Type 0
IsFileName (Some command) store o name = Names command store o (Some name)
    ⊎ (Names command store o None × (name ≡ name_in_words command (role_in o)))
IsFileName None store o name = name ≡ []

-- F6: the note of an outcome was put
abbrev pub NotesOutcome : Option Command → ShownStore → Change ShownSink → Outcome → Type 0
NotesOutcome command store notes o =
    (name : List ℕ) × IsFileName command store o name × PutsNote notes (note_of o name)
