-- The keys of a campaign file, and what they may hold (F15, F16).
use Rattle.std.specs.Prelude.{ℕ, ◌-◌, List, [], ◌∷◌, codes}
use Rattle.eg_sensor.specs.declared.tracks.TheConstants.{PEDAL_1, BRAKE_2}
use Rattle.eg_answer.specs.declared.modules.TheConstants.{CHECK, PEDAL, PAIRS, REACT}
use Rattle.eg_answer.specs.declared.words.TheConstants.{STORED_WORDS}
use Rattle.eg_fault.specs.declared.class_name.ClassName.{ClassName}
use Rattle.eg_fault.specs.declared.class_name.ClassName.TheVariants.{Disturb}
use Rattle.eg_fault.specs.declared.key.FaultKey.{FaultKey}
use Rattle.eg_fault.specs.declared.key.FaultKey.TheVariants as own
use Rattle.eg_fault.specs.declared.paths.TheConstants.{PATH_1, PATH_2}
use Rattle.eg_fault.specs.Names.{key_text}
use Rattle.eg_plan.specs.declared.key.RunKey.{RunKey}
use Rattle.eg_plan.specs.declared.key.RunKey.TheVariants.{Run, Name, Trace, Image, Slices, Engine, Faults, Class, Onset, Own, Unknown}

-- as a key stands in the file, and as a note prints it (F17)
abbrev pub text_of : RunKey → List ℕ
text_of Run = codes "run"
text_of Name = codes "name"
text_of Trace = codes "trace"
text_of Image = codes "image"
text_of Slices = codes "slices"
text_of Engine = codes "engine"
text_of Faults = codes "faults"
text_of Class = codes "class"
text_of Onset = codes "onset"
text_of (Own key) = key_text key
text_of Unknown = codes "unknown"

-- F15, F16. A number is a TOML integer, and a truth value a TOML boolean.
pub data Content : Type 0 where
  run_name : Content  -- 1 to 32 of the characters a to z, 0 to 9 and -, not beginning with -
  file_name : Content  -- 1 to 200 bytes, not beginning with -
  slice_rows : Content  -- 1 to 64 rows of nine numbers; where the key is absent, one row of nine 100
  engine_name : Content  -- gasoline or diesel; where the key is absent, gasoline
  number : ℕ → ℕ → Content  -- a number from .. to ..
  optional : ℕ → Content  -- a number from 0 to ..; where the key is absent, 0
  shift : Content  -- a number from -65535 to 65535, and not 0
  words : Content  -- 1 to 64 numbers from 0 to 65535
  ticks : Content  -- 1 to 64 strictly rising numbers from 0 to 19999
  truths : Content  -- 1 to 64 truth values

pub record KeyRule : Type 0 where
  pub key : RunKey
  pub content : Content

-- how a line of the table is written
infix 4 ◌holds◌
abbrev pub ◌holds◌ : RunKey → Content → KeyRule
k holds c = record { key = k; content = c }

-- ---- the keys of a run ----

abbrev pub name : KeyRule
name = Name holds run_name

abbrev pub trace : KeyRule
trace = Trace holds file_name

abbrev pub image : KeyRule
image = Image holds file_name

abbrev pub slices : KeyRule
slices = Slices holds slice_rows

abbrev pub engine : KeyRule
engine = Engine holds engine_name

-- F17, point 6.1
abbrev pub run_keys : List KeyRule
run_keys = name ∷ trace ∷ image ∷ slices ∷ engine ∷ []

-- ---- the keys of a fault ----

abbrev pub onset : KeyRule
onset = Onset holds number 0 19999

-- F16: only a module that gives a signal can be disturbed
abbrev modules_of : ClassName → Content
modules_of Disturb = number PEDAL PAIRS
modules_of _ = number CHECK REACT

-- F16
abbrev content_of : ClassName → FaultKey → Content
content_of class own.Track = number PEDAL_1 BRAKE_2
content_of class own.Values = words
content_of class own.Add = shift
content_of class own.Mask = number 1 65535
content_of class own.At = number 0 1000
content_of class own.Module = modules_of class
content_of class own.Word = number 0 (STORED_WORDS - 1)
content_of class own.Offset = number 0 99
content_of class own.Questions = words
content_of class own.Opens = truths
content_of class own.Path = number PATH_1 PATH_2
content_of class own.After = ticks
content_of class own.Every = optional 20000

abbrev pub rule_of : ClassName → FaultKey → KeyRule
rule_of class key = Own key holds content_of class key
