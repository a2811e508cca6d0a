-- What an outcome says of the output (F3), and how work follows if something comes.
use Rattle.std.specs.Prelude.{◌≡◌, ◌≢◌, ℕ, List, IsTrue, Result, Ok, Err}
use Rattle.eg_base.specs.Outside.{ShownSink, Rose, Appends, AppendsPrefix}
use Rattle.eg_outcome.specs.Changes.{Change}
use Rattle.eg_input.specs.declared.fault.TraceFault.TheVariants as trace_fault
use Rattle.eg_input.specs.declared.fault.ImageFault.TheVariants as image_fault
use Rattle.eg_asm.specs.declared.fault.AsmFault.TheVariants as asm_fault
use Rattle.eg_cal.specs.declared.key.CalFault.TheVariants as cal_fault
use Rattle.eg_plan.specs.declared.key.CampaignFault.TheVariants as campaign_fault
use Rattle.eg_outcome.specs.declared.outcome.Outcome.{Outcome}
use Rattle.eg_outcome.specs.declared.outcome.Outcome.TheVariants as outcome
use Rattle.eg_outcome.specs.declared.outcome.Refusal.TheVariants as refusal

-- F3, of a known text. On WriteFault a fault of writing was met; on Done and Memory none was.
abbrev pub LineEnds : List ℕ → Change ShownSink → Outcome → Type 0
LineEnds line out outcome.Done = Appends out.before out.after line × (out.after.faults ≡ out.before.faults)
LineEnds line out outcome.WriteFault =
    AppendsPrefix out.before out.after line × Rose out.before.faults out.after.faults
LineEnds line out outcome.Memory =
    AppendsPrefix out.before out.after line × (out.after.faults ≡ out.before.faults)
LineEnds line out _ = ⊥

-- If something came, the work follows with it; else the call ends, and `nothing` holds.
abbrev pub WorkFollows :
    {X : Type 0} → (X → Outcome → Type 0) → (nothing : Type 0) → Result X Outcome → Outcome → Type 0
WorkFollows work nothing (Ok x) o = work x o
WorkFollows work nothing (Err end) o = (o ≡ end) × nothing

-- If something came, more comes of it; else the end stays the same.
abbrev pub Then :
    {X Y : Type 0} → (X → Result Y Outcome → Type 0) → Result X Outcome → Result Y Outcome → Type 0
Then more (Ok x) come = more x come
Then more (Err end) come = come ≡ Err end

-- F3: memory that ran out is the outcome Memory, and no refusal
abbrev pub TellsNoMemory : Outcome → Type 0
TellsNoMemory (outcome.Refused (refusal.Calibration cal_fault.Memory)) = ⊥
TellsNoMemory (outcome.Refused (refusal.Check trace_fault.Memory)) = ⊥
TellsNoMemory (outcome.Refused (refusal.Campaign campaign_fault.Memory)) = ⊥
TellsNoMemory (outcome.Refused (refusal.Trace run trace_fault.Memory)) = ⊥
TellsNoMemory (outcome.Refused (refusal.Image run image_fault.Memory)) = ⊥
TellsNoMemory (outcome.Refused (refusal.Source asm_fault.Memory)) = ⊥
TellsNoMemory _ = Unit {0}

abbrev pub IsDoneOrMemory : Outcome → Type 0
IsDoneOrMemory outcome.Done = Unit {0}
IsDoneOrMemory outcome.Memory = Unit {0}
IsDoneOrMemory _ = ⊥

-- outcomes of calls that put nothing (F5)
abbrev pub PutsNothing : Outcome → Type 0
PutsNothing outcome.Usage = Unit {0}
PutsNothing (outcome.ReadFault _) = Unit {0}
PutsNothing (outcome.Refused _) = Unit {0}
PutsNothing _ = ⊥

-- ---- what every call tells ----

-- How putting a text ends. A sure output stays sure, and its memory doesn't run out.
pub record PutsText (text : List ℕ) (out : Change ShownSink) (o : Outcome) : Type 0 where
  pub ends : LineEnds text out o
  pub put : PutsNothing o → ⊥
  pub sure : IsTrue out.before.sure → o ≢ outcome.Memory
  pub stays_sure : out.after.sure ≡ out.before.sure
