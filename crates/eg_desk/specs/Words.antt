-- The commands (F1), and which words ask for them (F2). A word is the list of its bytes.
use Rattle.std.specs.Prelude.{ℕ, ◌+◌, ◌≤◌, List, [], map, codes, length, Option, Some, None, option_and_then, option_map, Bool, true, false, ◌&&◌, ◌==◌, not, nat_le, nat_lt, if◌then◌else◌, bytes_eq, string_bytes, slice_index_or, slice_index}
use Rattle.std.specs.Option.{option_copied}
use Rattle.std.specs.declared.string.String.{String}
use Rattle.std.specs.declared.alloc.Global.{Global}
use Rattle.eg_input.specs.Fields.{decimal}
use Rattle.eg_outcome.specs.declared.telling.Telling.{Telling}
use Rattle.eg_outcome.specs.declared.telling.Telling.TheVariants.{Report, Rows}
use Rattle.eg_outcome.specs.declared.telling.Columns.TheVariants.{Table, Margins}
use Rattle.eg_desk.specs.declared.command.Command.{Command as Parsed}
use Rattle.eg_desk.specs.declared.command.Command.TheVariants as parsed
use Rattle.eg_desk.specs.declared.work.Work.{Work as ParsedWork}
use Rattle.eg_desk.specs.declared.work.Work.TheVariants as parsed_work

-- F1: what is done by a calibration. `run` also stands for `table` and `margins`, by its `Telling`.
pub data Work : Type 0 where
  check : (file : List ℕ) → Work
  bound : Work
  limits : Work
  coverage : Work
  run : Telling → (campaign : List ℕ) → Work
  record_run : (campaign : List ℕ) (name : List ℕ) → Work
  sweep : (campaign : List ℕ) (name : List ℕ) (step : ℕ) → Work
  replay : Work
  signals : Work
  couple : (campaign : List ℕ) (name : List ℕ) → Work

-- F1; `by` has the file behind `--cal`, if the words name one
pub data Command : Type 0 where
  by : (calibration : Option (List ℕ)) → Work → Command
  soak : (seed runs : ℕ) → Command
  answers : (file : List ℕ) → Command
  asm : (file : List ℕ) → Command
  dis : (file : List ℕ) → Command

-- the name of the campaign, if one is read
abbrev pub campaign_in : Work → Option (List ℕ)
campaign_in (run telling campaign) = Some campaign
campaign_in (record_run campaign name) = Some campaign
campaign_in (sweep campaign name step) = Some campaign
campaign_in (couple campaign name) = Some campaign
campaign_in _ = None

-- the work reads lines of standard input
abbrev pub reads_lines : Work → Bool
reads_lines replay = true
reads_lines signals = true
reads_lines (couple campaign name) = true
reads_lines _ = false

abbrev pub asks_lines : Option Command → Bool
asks_lines (Some (by calibration work)) = reads_lines work
asks_lines _ = false

-- the command that a value of the code says
abbrev pub said_work : ParsedWork → Work
said_work (parsed_work.Check file) = check file.now
said_work parsed_work.Bound = bound
said_work parsed_work.Limits = limits
said_work parsed_work.Coverage = coverage
said_work (parsed_work.Run telling campaign) = run telling campaign.now
said_work (parsed_work.Record named) = record_run named.campaign.now named.name.now
said_work (parsed_work.Sweep named step) = sweep named.campaign.now named.name.now step
said_work parsed_work.Replay = replay
said_work parsed_work.Signals = signals
said_work (parsed_work.Couple named) = couple named.campaign.now named.name.now

abbrev pub said : Parsed → Command
said (parsed.By calibration work) = by (option_copied calibration) (said_work work)
said (parsed.Soak seed runs) = soak seed runs
said (parsed.Answers file) = answers file.now
said (parsed.Asm file) = asm file.now
said (parsed.Dis file) = dis file.now

abbrev pub word_bytes : List (String Global) → List (List ℕ)
word_bytes words = map string_bytes words

-- the word at a place, empty if there is none
abbrev pub word : List (List ℕ) → ℕ → List ℕ
word words i = slice_index_or words i []

-- F2, of the names of files and runs; 45 is `-`
abbrev pub is_name : List ℕ → Bool
is_name word = nat_lt 0 (length word) && not (slice_index word 0 == 45)

-- F2: `--cal NAME` stands right after the command
abbrev pub names_calibration : List (List ℕ) → Bool
names_calibration words =
    nat_le 3 (length words) && bytes_eq (word words 1) (codes "--cal") && is_name (word words 2)

-- The words are the command alone. Words of its own would begin at place `own`: 1, or 3 behind `--cal NAME`.
abbrev pub is_alone : List ℕ → List (List ℕ) → ℕ → Bool
is_alone command words own = (length words == own) && bytes_eq (word words 0) command

-- the words are the command and the name of a file
abbrev pub is_on_file : List ℕ → List (List ℕ) → ℕ → Bool
is_on_file command words own =
    (length words == own + 1) && bytes_eq (word words 0) command && is_name (word words own)

-- the words are the command and `count` words of its own, first the names of a campaign and a run
abbrev pub is_on_run : List ℕ → List (List ℕ) → (own count : ℕ) → Bool
is_on_run command words own count = (length words == own + count) && bytes_eq (word words 0) command
    && is_name (word words own) && is_name (word words (own + 1))

abbrev pub within : (least most : ℕ) → ℕ → Option ℕ
within least most n = if nat_le least n && nat_le n most then Some n else None

-- the number from `least` to `most` that 1 to `digits` decimal digits write
abbrev pub number_in : (digits least most : ℕ) → List ℕ → Option ℕ
number_in digits least most word = option_and_then (within least most) (decimal digits word)

-- F2, STEP
abbrev pub step_in : List ℕ → Option ℕ
step_in word = number_in 5 1 20000 word

-- the commands on one run of a campaign
unfoldable pub run_work_of : List (List ℕ) → ℕ → Option Work
run_work_of words own = if is_on_run (codes "record") words own 2 then
    Some (record_run (word words own) (word words (own + 1)))
    else if is_on_run (codes "couple") words own 2 then Some (couple (word words own) (word words (own + 1)))
    else if is_on_run (codes "sweep") words own 3 then
    option_map (sweep (word words own) (word words (own + 1))) (step_in (word words (own + 2)))
    else None

-- the commands that may have `--cal`
unfoldable pub work_of : List (List ℕ) → ℕ → Option Work
work_of words own = if is_alone (codes "bound") words own then Some bound
    else if is_alone (codes "limits") words own then Some limits
    else if is_alone (codes "coverage") words own then Some coverage
    else if is_alone (codes "replay") words own then Some replay
    else if is_alone (codes "signals") words own then Some signals
    else if is_on_file (codes "check") words own then Some (check (word words own))
    else if is_on_file (codes "run") words own then Some (run Report (word words own))
    else if is_on_file (codes "table") words own then Some (run (Rows Table) (word words own))
    else if is_on_file (codes "margins") words own then Some (run (Rows Margins) (word words own))
    else run_work_of words own

-- F2, SEED and RUNS
abbrev pub seed_in : List ℕ → Option ℕ
seed_in word = number_in 10 0 4294967295 word

abbrev pub runs_in : List ℕ → Option ℕ
runs_in word = number_in 10 1 500 word

abbrev pub is_soak : List (List ℕ) → Bool
is_soak words = bytes_eq (word words 0) (codes "soak")

abbrev pub soak_by : (seed runs : Option ℕ) → Option Command
soak_by (Some seed) (Some runs) = Some (soak seed runs)
soak_by _ _ = None

abbrev pub soak_form : List (List ℕ) → Option Command
soak_form words =
    if length words == 3 then soak_by (seed_in (word words 1)) (runs_in (word words 2)) else None

-- F1, F2: what the words ask for, or none if they form no command
unfoldable pub command_of : List (List ℕ) → Option Command
command_of words = if is_soak words then soak_form words
    else if is_on_file (codes "answers") words 1 then Some (answers (word words 1))
    else if is_on_file (codes "asm") words 1 then Some (asm (word words 1))
    else if is_on_file (codes "dis") words 1 then Some (dis (word words 1))
    else if names_calibration words then option_map (by (Some (word words 2))) (work_of words 3)
    else option_map (by None) (work_of words 1)

-- F2, of STEP and RUNS
abbrev pub WorkKeepsLimits : Work → Type 0
WorkKeepsLimits (sweep campaign name step) = (1 ≤ step) × (step ≤ 20000)
WorkKeepsLimits _ = Unit {0}

abbrev pub KeepsLimits : Command → Type 0
KeepsLimits (soak seed runs) = (1 ≤ runs) × (runs ≤ 500)
KeepsLimits (by calibration work) = WorkKeepsLimits work
KeepsLimits _ = Unit {0}
