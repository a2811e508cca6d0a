-- From where runs under faults go on: what was played of a run up to a tick, and what is kept of the run
-- without a fault.
use Rattle.std.specs.Prelude.{◌≡◌, ◌==◌, ℕ, Bool, false, ◌+◌, ◌*◌, ◌-◌, ◌/◌, ◌≤◌, ◌<◌, List, filter, take, length, Option, Some, None, IsTrue, slice_index_or}
use Rattle.std.specs.declared.alloc.Global.{Global}
use Rattle.std.specs.declared.boxed.Box.{Box}
use Rattle.eg_fault.specs.declared.class.Fault.{Fault}
use Rattle.eg_values.specs.Calibration.{CalibrationParts}
use Rattle.eg_record.specs.declared.row.Row.{Row}
use Rattle.eg_record.specs.Tallies.{IsTallyOf}
use Rattle.eg_record.specs.Margins.{IsMarginTallyOf}
use Rattle.eg_model.specs.Engines.{BenchEngine}
use Rattle.eg_model.specs.Bench.{Run}
use Rattle.eg_model.specs.Records.{rows_to}
use Rattle.eg_model.specs.Branching.{under}
use Rattle.eg_tick.specs.Weights.{TickCount}
use Rattle.eg_tick.specs.Benched.{ComeTo}
use Rattle.eg_tick.specs.Run.{IsAt}
use Rattle.eg_tick.specs.Margins.{weighed_to}
use Rattle.eg_tick.specs.Facts.{IsToldOf}
use Rattle.eg_campaign.specs.declared.kinds.Benches.{Benches}
use Rattle.eg_campaign.specs.declared.checkpoints.Played.{Played}
use Rattle.eg_campaign.specs.declared.checkpoints.Shared.{Shared}
use Rattle.eg_plan.specs.declared.run_input.RunInput.{RunInput}
use Rattle.eg_campaign.specs.Plays.{run_with}
use Rattle.eg_tick.specs.Counting.{count_with}
use Rattle.eg_campaign.specs.Groups.{faultless, checkpoint_ticks}

-- ---- what was played of a run ----

-- the same run under this fault, or without one
abbrev pub run_under : Option Fault → Run → Run
run_under fault r = record r { setting = under fault r.setting }

-- both benches are for runs of this calibration
pub record AreFor (cal : CalibrationParts) (benches : Benches) : Type 0 where
  pub gasoline : benches.gasoline.controller.kept.cal ≡ cal
  pub diesel : benches.diesel.controller.kept.cal ≡ cal

-- a run has the slice plan and the drive of an input
pub record PlaysInput (input : RunInput) (r : Run) : Type 0 where
  pub plan : r.plan ≡ input.plan.slices
  pub drive : r.drive ≡ input.drive

-- The first t ticks of a run of this engine were played: the controller has come to the last of them, and the
-- tally, which uses the calibration of the run, stands for their rows. Where the run is weighed, the other
-- tally stands for what the debouncers weigh after each of them.
pub record HasPlayed {S E M : Type 0} (weighed : Bool) (b : BenchEngine S) (come_to : ComeTo S E) (r : Run)
    (t : ℕ) (played : Played E M) : Type 0 where
  pub at : IsAt b come_to r t played.controller
  pub ticks : played.controller.kept.ticks ≡ t
  pub threshold : played.tally.threshold ≡ r.setting.cal.rules.threshold
  pub weights : played.tally.weights ≡ r.setting.cal.rules.torque
  pub fed : played.tally.facts.ticks ≡ t
  pub tally : IsTallyOf played.tally (rows_to b r t)
  pub margins : IsMarginTallyOf played.margins (weighed_to weighed b r t)

-- the rows of a run from tick `from` on, up to tick t: newest first
unfoldable pub rows_between : {S : Type 0} → BenchEngine S → Run → (from t : ℕ) → List Row
rows_between b r from t = take (t - from) (rows_to b r t)

-- A run of this engine was played from tick `from` on, up to tick t, and these ticks were counted.
pub record HasMade {S E M : Type 0} (weighed : Bool) (b : BenchEngine S) (come_to : ComeTo S E) (r : Run)
    (from t : ℕ) (played : Played E M) (was is : TickCount) : Type 0 where
  pub least : from ≤ t
  pub to : HasPlayed weighed b come_to r t played
  pub counted : is ≡ count_with was (rows_between b r from t)

-- ---- what is kept of it ----

-- what was played of a run up to tick t is kept here
abbrev pub IsKept : {S E M : Type 0} → (weighed : Bool) → BenchEngine S → ComeTo S E → Run → (t : ℕ)
    → Option (Box (Played E M) Global) → Type 0
IsKept weighed b come_to r t (Some kept) = HasPlayed weighed b come_to r t kept.value
IsKept weighed b come_to r t None = ⊥

-- a checkpoint is wanted at the k-th hundredth tick
abbrev pub IsWantedAt : List Bool → ℕ → Type 0
IsWantedAt wanted k = IsTrue (slice_index_or wanted k false)

-- one is wanted where a run under this fault goes on from
abbrev pub IsWantedFor : List Bool → Option Fault → Type 0
IsWantedFor wanted (Some fault) = IsWantedAt wanted (fault.onset / checkpoint_ticks)
IsWantedFor wanted None = Unit {0}

-- of the inputs from this index on up to n, those that the run there leads have what they want
abbrev pub AreWantedIn : List RunInput → (leaders : List ℕ) → (index n : ℕ) → (wanted : List Bool) → Type 0
AreWantedIn inputs leaders index n wanted = (i : ℕ) → index ≤ i → i < n → slice_index_or leaders i 0 ≡ index →
    (input : RunInput) → input ≡ slice_index_or inputs i input → IsWantedFor wanted input.plan.fault

-- for each run how many it leads, by the leader of each
pub record AreCounts (leaders counts : List ℕ) : Type 0 where
  pub as_many : length counts ≡ length leaders
  pub each : (k : ℕ) → k < length leaders →
      slice_index_or counts k 0 ≡ length (filter (λ leader. leader == k) leaders)

-- What is kept of the first n ticks of a run: what was played at each hundredth tick below n but the first,
-- where that is wanted.
pub record AreCheckpoints {S E M : Type 0} (weighed : Bool) (b : BenchEngine S) (come_to : ComeTo S E)
    (r : Run) (wanted : List Bool) (n : ℕ) (kept : List (Option (Box (Played E M) Global))) : Type 0 where
  pub enough : n ≤ length kept * checkpoint_ticks
  pub no_more : length kept * checkpoint_ticks < n + checkpoint_ticks
  pub each : (k : ℕ) → k < length kept → (d : Option (Box (Played E M) Global)) → 1 ≤ k →
      IsWantedAt wanted k → IsKept weighed b come_to r (k * checkpoint_ticks) (slice_index_or kept k d)

-- what is shared of a run: its checkpoints, and what is told of it
pub record IsSharedBy {S E : Type 0} (weighed : Bool) (b : BenchEngine S) (come_to : ComeTo S E) (r : Run)
    (shared : Shared E) : Type 0 where
  pub checkpoints : AreCheckpoints weighed b come_to r shared.wanted (length r.drive) shared.checkpoints.items
  pub told : IsToldOf weighed b r shared.told

-- ---- runs of a group ----

-- what is shared of the run of an input without its fault
abbrev pub IsSharedFor : {S E : Type 0} → (weighed : Bool) → BenchEngine S → ComeTo S E → CalibrationParts
    → RunInput → Shared E → Type 0
IsSharedFor weighed b come_to cal input shared =
    IsSharedBy weighed b come_to (run_with cal (faultless input)).run shared
