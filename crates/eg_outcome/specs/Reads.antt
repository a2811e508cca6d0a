-- What comes of a file that is read (F3, F7): what its bytes say, or how the call ends. `says` is what the
-- bytes of a kind of file say.
use Rattle.std.specs.Prelude.{◌≡◌, ◌⊎◌, ◌↔◌, ℕ, List, IsTrue, IsOk, IfErr, Result, Ok, Err, if◌then◌else◌}
use Rattle.eg_base.specs.Outside.{ShownStore, Rose, IsMissing}
use Rattle.eg_outcome.specs.Changes.{Change, Stays, MeetsNoFault}
use Rattle.eg_outcome.specs.Files.{AreRead, is_too_long}
use Rattle.eg_outcome.specs.declared.outcome.Outcome.{Outcome}
use Rattle.eg_outcome.specs.declared.outcome.Outcome.TheVariants as outcome
use Rattle.eg_outcome.specs.declared.outcome.Refusal.{Refusal}
use Rattle.eg_outcome.specs.declared.outcome.Refusal.TheVariants as refusal
use Rattle.eg_outcome.specs.declared.outcome.Role.{Role}
use Rattle.eg_outcome.specs.Outcomes.{TellsNoMemory}

abbrev pub refused : {X Fault End : Type 0} → (Fault → End) → Result X Fault → Result X End
refused why (Ok x) = Ok x
refused why (Err fault) = Err (why fault)

-- F7: Size comes before the rules of the kind
abbrev pub sized : {X : Type 0} → Role → (List ℕ → Result X Refusal) → List ℕ → Result X Refusal
sized file says bytes = if is_too_long bytes then Err (refusal.Size file) else says bytes

abbrev pub whole : Role → List ℕ → Result (List ℕ) Refusal
whole file = sized file (λ bytes. Ok bytes)

-- once the bytes are known: the file is accepted with this value, or refused, or memory ran out
abbrev pub BytesCome : {X : Type 0} → (List ℕ → Result X Refusal) → List ℕ → Result X Outcome → Type 0
BytesCome says bytes (Ok x) = says bytes ≡ Ok x
BytesCome says bytes (Err (outcome.Refused r)) = says bytes ≡ Err r
BytesCome says bytes (Err outcome.Memory) = Unit {0}
BytesCome says bytes (Err _) = ⊥

-- the file of this name was read
abbrev pub ReadComes : {X : Type 0} → (List ℕ → Result X Refusal) → List ℕ → ShownStore → Result X Outcome
    → Type 0
ReadComes says name store come = (bytes : List ℕ) × AreRead store name bytes × BytesCome says bytes come

-- What comes of the file of this name. If the file is refused or memory runs out, no fault of reading was
-- met; if a value comes, the work says whether one was. Over a sure store reading fails only if there is no
-- such file.
abbrev pub FileComes : {X : Type 0} → Role → (List ℕ → Result X Refusal) → List ℕ → Change ShownStore
    → Result X Outcome → Type 0
FileComes file says name store (Ok x) = ReadComes says name store.before (Ok x)
FileComes file says name store (Err (outcome.ReadFault role)) = (role ≡ file)
    × Rose store.before.faults store.after.faults
    × (IsTrue store.before.sure → IsMissing store.before.files name)
FileComes file says name store (Err outcome.Memory) = MeetsNoFault store
FileComes file says name store (Err end) = MeetsNoFault store × ReadComes says name store.before (Err end)

-- ---- what a call that reads tells and leaves ----

-- What comes of the file of this name. Over a sure store reading fails exactly if there is no such file. No
-- refusal says that memory ran out.
pub record ReadsFile {X : Type 0} (file : Role) (says : List ℕ → Result X Refusal) (name : List ℕ)
    (store : Change ShownStore) (come : Result X Outcome) : Type 0 where
  pub comes : FileComes file says name store come
  pub missing : IsTrue store.before.sure →
      ((come ≡ Err (outcome.ReadFault file)) ↔ IsMissing store.before.files name)
  pub no_memory : IfErr come TellsNoMemory

-- what the bytes of a file come to; no refusal says that memory ran out
pub record Says {X : Type 0} (says : List ℕ → Result X Refusal) (bytes : List ℕ) (come : Result X Outcome) :
    Type 0 where
  pub comes : BytesCome says bytes come
  pub no_memory : IfErr come TellsNoMemory

-- F5: no file changes. If a value comes, nothing that the store shows changes.
pub record KeepsFiles {X E : Type 0} (store : Change ShownStore) (come : Result X E) : Type 0 where
  pub files : store.after.files ≡ store.before.files
  pub shown : IsOk come → Stays store

-- ---- when it is there, and when it is accepted ----

-- no fault of reading is counted, or the store is sure and has the file
abbrev pub Finds : List ℕ → Change ShownStore → Type 0
Finds name store = ¬ Rose store.before.faults store.after.faults
    ⊎ (IsTrue store.before.sure × ¬ IsMissing store.before.files name)

-- whatever a read of the file may give is accepted
abbrev pub Accepts : {X : Type 0} → (List ℕ → Result X Refusal) → List ℕ → ShownStore → Type 0
Accepts says name store = (bytes : List ℕ) → AreRead store name bytes → IsOk (says bytes)
