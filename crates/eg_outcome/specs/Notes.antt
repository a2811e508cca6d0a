-- The note on how a call ended (F6). A call that ends Done has no note.
use Rattle.std.specs.Prelude.{ℕ, List, [], ◌++◌, codes, decimal, IsTrue}
use Rattle.eg_base.specs.Outside.{ShownSink, Rose, Appends, AppendsPrefix}
use Rattle.eg_input.specs.declared.fault.TraceFault.{TraceFault}
use Rattle.eg_input.specs.declared.fault.TraceFault.TheVariants as trace_fault
use Rattle.eg_input.specs.declared.fault.ImageFault.{ImageFault}
use Rattle.eg_input.specs.declared.fault.ImageFault.TheVariants as image_fault
use Rattle.eg_asm.specs.declared.fault.AsmFault.{AsmFault}
use Rattle.eg_asm.specs.declared.fault.AsmFault.TheVariants as asm_fault
use Rattle.eg_cal.specs.declared.key.CalFault.{CalFault}
use Rattle.eg_cal.specs.declared.key.CalFault.TheVariants as cal_fault
use Rattle.eg_cal.specs.Keys.{text_of}
use Rattle.eg_plan.specs.declared.key.CampaignFault.{CampaignFault}
use Rattle.eg_plan.specs.declared.key.CampaignFault.TheVariants as campaign_fault
use Rattle.eg_plan.specs.Keys.{text_of as run_key_text}
use Rattle.eg_outcome.specs.Changes.{Change}
use Rattle.eg_outcome.specs.declared.outcome.Outcome.{Outcome}
use Rattle.eg_outcome.specs.declared.outcome.Outcome.TheVariants as outcome
use Rattle.eg_outcome.specs.declared.outcome.AnswerFault.{AnswerFault}
use Rattle.eg_outcome.specs.declared.outcome.AnswerFault.TheVariants as answer_fault
use Rattle.eg_outcome.specs.declared.outcome.Refusal.{Refusal}
use Rattle.eg_outcome.specs.declared.outcome.Refusal.TheVariants as refusal
use Rattle.eg_outcome.specs.declared.says.Says.{Says}
use Rattle.eg_outcome.specs.declared.says.Says.TheVariants as says
use Rattle.eg_outcome.specs.Shown.{shown_name}

-- ---- the line ----

abbrev pub line_of : (file text : List ℕ) → List ℕ
line_of file text = shown_name file ++ (codes ": " ++ (text ++ codes "\n"))

-- F21
abbrev pub calibration_says : CalFault → List ℕ
calibration_says cal_fault.Memory = codes "no memory"
calibration_says cal_fault.Text = codes "not TOML"
calibration_says (cal_fault.Key key) = codes "key " ++ text_of key
calibration_says (cal_fault.Axis key) = codes "axis " ++ text_of key
calibration_says (cal_fault.Rising row) = codes "row " ++ decimal row ++ codes " falls"
calibration_says cal_fault.Window = codes "answer window"
calibration_says (cal_fault.Answer index) = codes "answer " ++ decimal index

-- F11, F14
abbrev pub trace_says : TraceFault → List ℕ
trace_says trace_fault.Memory = codes "no memory"
trace_says trace_fault.Header = codes "header"
trace_says (trace_fault.Row line) = codes "record " ++ decimal line
trace_says trace_fault.Empty = codes "no records"
trace_says trace_fault.Long = codes "more than 20000 records"

-- F37
abbrev pub answer_says : AnswerFault → List ℕ
answer_says (answer_fault.LoadBelowTorque n) = codes "load below torque in record " ++ decimal n
answer_says (answer_fault.TorqueWhileOff n) = codes "torque with the stages off in record " ++ decimal n

-- F24
abbrev pub image_says : ImageFault → List ℕ
image_says image_fault.Memory = codes "no memory"
image_says (image_fault.Line line) = codes "line " ++ decimal line
image_says image_fault.Long = codes "more than 1024 lines"

-- F27
abbrev pub source_says : AsmFault → List ℕ
source_says asm_fault.Memory = codes "no memory"
source_says (asm_fault.Line line) = codes "line " ++ decimal line
source_says (asm_fault.Label line) = codes "label in line " ++ decimal line
source_says asm_fault.Long = codes "more than 1024 words"

-- F17, F18
abbrev pub campaign_says : CampaignFault → List ℕ
campaign_says campaign_fault.Memory = codes "no memory"
campaign_says campaign_fault.Text = codes "not TOML"
campaign_says (campaign_fault.Key n key) = codes "run " ++ decimal n ++ codes " key " ++ run_key_text key
campaign_says (campaign_fault.TwoFaults n) = codes "run " ++ decimal n ++ codes " has two faults"
campaign_says (campaign_fault.Name n) = codes "run " ++ decimal n ++ codes " repeats a name"
campaign_says campaign_fault.Many = codes "more than 1000 runs"
campaign_says (campaign_fault.Ticks n) = codes "run " ++ decimal n ++ codes " passes 1000000 ticks"

-- the note that a value of the code says, for a file of this name
abbrev pub line_said : Says → List ℕ → List ℕ
line_said (says.Words words) file = line_of file words.now
line_said (says.Number before n) file = line_of file (before.now ++ decimal n)
line_said (says.Between before n behind) file = line_of file (before.now ++ decimal n ++ behind.now)
line_said (says.Key before key) file = line_of file (before.now ++ key.now)
line_said (says.RunKey n key) file = line_of file (codes "run " ++ decimal n ++ codes " key " ++ key.now)
line_said (says.Alone words) file = words.now ++ codes "\n"

-- F6, the notes of status 4
abbrev pub refusal_note : Refusal → List ℕ → List ℕ
refusal_note (refusal.Size _) file = line_of file (codes "longer than 4194304 bytes")
refusal_note (refusal.Calibration fault) file = line_of file (calibration_says fault)
refusal_note (refusal.Check fault) file = line_of file (trace_says fault)
refusal_note (refusal.Campaign fault) file = line_of file (campaign_says fault)
refusal_note (refusal.Trace _ fault) file = line_of file (trace_says fault)
refusal_note (refusal.Image _ fault) file = line_of file (image_says fault)
refusal_note refusal.NoRun file = codes "no such run\n"
refusal_note (refusal.Source fault) file = line_of file (source_says fault)
refusal_note (refusal.Answer fault) file = line_of file (answer_says fault)
refusal_note refusal.Grid file = codes "grid too large\n"

-- F6
abbrev pub note_of : Outcome → List ℕ → List ℕ
note_of outcome.Done file = []
note_of outcome.Usage file = codes "not a command of egasim\n"
note_of (outcome.ReadFault _) file = codes "cannot read " ++ (shown_name file ++ codes "\n")
note_of (outcome.Refused r) file = refusal_note r file
note_of outcome.WriteFault file = codes "cannot write\n"
note_of outcome.Memory file = codes "no memory\n"

-- ---- how it is put ----

-- The note or a prefix of it was put; the whole note, if the output is sure and counts no fault in the call.
pub record PutsNote (notes : Change ShownSink) (line : List ℕ) : Type 0 where
  pub prefix : AppendsPrefix notes.before notes.after line
  pub whole : IsTrue notes.before.sure → ¬ Rose notes.before.faults notes.after.faults →
      Appends notes.before notes.after line
