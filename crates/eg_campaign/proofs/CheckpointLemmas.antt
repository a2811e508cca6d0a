-- What was played of a run, tick by tick: its rows and what they count, and what is kept of it.
use Rattle.std.proofs.Common.{◌≡◌, ◌∙◌, refl, sym, ap, ap₂, subst, ℕ, zero, suc, ◌+◌, ◌-◌, ◌*◌, ◌/◌, ◌%◌, ◌^◌, ◌<◌, ◌≤◌, Bool, true, false, List, [], ◌∷◌, ◌++◌, take, drop, length, add-one, arith, Bor, Option, Some, None}
use Rattle.std.specs.Option.{option_copied}
use Rattle.std.specs.Prelude.{slice_index_or, slice_set, if◌then◌else◌, nat_lt, reverse}
use Rattle.std.proofs.Math.Seq.{take-length}
use Rattle.std.proofs.lemmas.Bool.{lt-ltb}
use Rattle.std.proofs.lemmas.Bool.Decides.{nat_tests}
use Rattle.std.proofs.lemmas.List.{length-append, length-reverse, length-drop, reverse-append, take-append-drop, drop_at}
use Rattle.eg_num.specs.Drive.{DriveRow}
use Rattle.eg_fault.specs.declared.class.Fault.{Fault}
use Rattle.eg_values.specs.Calibration.{CalibrationParts}
use Rattle.eg_guard.specs.Memory.{ShownMemory}
use Rattle.eg_record.specs.declared.row.Row.{Row}
use Rattle.eg_record.specs.Tallies.{TallyParts, IsTallyOf}
use Rattle.eg_record.specs.Margins.{IsMarginTallyOf}
use Rattle.eg_model.specs.Engines.{BenchEngine}
use Rattle.eg_model.specs.Bench.{Run, drive_at}
use Rattle.eg_model.specs.Branching.{BeginsFrom}
use Rattle.eg_model.specs.Rows.{record_rows}
use Rattle.eg_model.specs.Records.{row_at, rows_to}
use Rattle.eg_model.proofs.BranchLaws.{records_branch}
use Rattle.eg_model.proofs.RecordTicks.{rows_to-suc, record_rows-is, records_are_rows}
use Rattle.eg_tick.specs.Benched.{ComeTo}
use Rattle.eg_tick.specs.Kept.{Kept}
use Rattle.eg_tick.specs.Weights.{TickCount, weight_of}
use Rattle.eg_tick.specs.Run.{run_by, IsAt}
use Rattle.eg_tick.specs.Margins.{weighed_of, weighed_to}
use Rattle.eg_tick.proofs.RunLemmas.{counted, drive-at}
use Rattle.eg_tick.proofs.FactLaws.{counted-next}
use Rattle.eg_tick.proofs.BranchLemmas.{branch_of}
use Rattle.eg_tick.proofs.BranchedRuns.{branch_at}
use Rattle.std.specs.declared.alloc.Global.{Global}
use Rattle.std.specs.declared.boxed.Box.{Box}
use Rattle.eg_campaign.specs.declared.checkpoints.Played.{Played}
use Rattle.eg_campaign.specs.declared.checkpoints.Shared.{Shared}
use Rattle.eg_plan.specs.declared.run_input.RunInput.{RunInput}
use Rattle.eg_tick.specs.Counting.{count_with}
use Rattle.eg_campaign.specs.Plays.{run_with}
use Rattle.eg_campaign.specs.Groups.{faultless, checkpoint_ticks, checkpoint, own_under}
use Rattle.eg_campaign.specs.Inner.Checkpoints.{run_under, PlaysInput, HasPlayed, rows_between, HasMade, IsKept, IsWantedAt, IsWantedFor, AreCheckpoints, IsSharedBy}
use Rattle.eg_tick.proofs.CountLemmas.{front-take, counts_reverse}

-- ---- counts ----

-- no rows
pub counted_none : (was : TickCount) (rows : List Row) → rows ≡ [] → was ≡ count_with was [] → was ≡ count_with was rows
counted_none was rows none same = same ∙ ap (count_with was) (sym none)

-- one row more
counted_next : (was is now : TickCount) (rows : List Row) (row : Row) → is ≡ count_with was rows →
    now.count ≡ (is.count + 1) % 2 ^ 64 → now.weights ≡ (is.weights + weight_of row) % 2 ^ 64 → now ≡ count_with was (row ∷ rows)
counted_next was is now rows row before count weight = counted-next was is now (length rows) rows row before count weight
    ∙ ap (λ n. counted was n (row ∷ rows)) (add-one (length rows))

-- ---- places ----

-- what holds of each item of a list, by its place, and of one behind it
each-more : {X : Type 0} (P : ℕ → X → Type 0) (xs : List X) (x : X) → ((k : ℕ) → k < length xs → (d : X) → P k (slice_index_or xs k d)) →
    P (length xs) x → (k : ℕ) → k < length (xs ++ x ∷ []) → (d : X) → P k (slice_index_or (xs ++ x ∷ []) k d)
each-more P [] x each last zero below d = last
each-more P [] x each last (suc k) below d = absurd (omega (arith, below))
each-more P (y ∷ xs) x each last zero below d = each zero (omega arith) d
each-more P (y ∷ xs) x each last (suc k) below d =
    each-more (λ n. P (suc n)) xs x (λ n l e. each (suc n) (omega (arith, l)) e) last k (omega (arith, below)) d

one_more : (t : ℕ) → suc t ≡ t + 1
one_more t = omega arith

-- the drive row of a tick of an input is that of a run that has it
pub drive_is : (input : RunInput) (r : Run) (drive : List DriveRow) (t : ℕ) (row : DriveRow) → PlaysInput input r → drive ≡ input.drive →
    t < length input.drive → row ≡ slice_index_or drive t row → drive_at r t ≡ row
drive_is input r drive t row goes is within at =
    drive-at r drive t row (goes.drive ∙ sym is) (subst (λ d. t < length d) (sym is) within) at

module _ {S E : Type 0} (b : BenchEngine S) (come_to : ComeTo S E) (r : Run) where
  -- ---- the rows from a tick on ----

  rows_between-none : (t : ℕ) → rows_between b r t t ≡ []
  unfolding rows_between
  rows_between-none t = let none : t - t ≡ 0 = omega arith in ap (λ n. take n (rows_to b r t)) none

  rows_between-next : (from t : ℕ) → from ≤ t → row_at b r t ∷ rows_between b r from t ≡ rows_between b r from (t + 1)
  unfolding rows_between
  rows_between-next from t least =
      let more : suc (t - from) ≡ t + 1 - from = omega (arith, least) in
      ap (λ rows. take (suc (t - from)) rows) (sym (rows_to-suc b r t)) ∙ ap₂ (λ n m. take n (rows_to b r m)) more (one_more t)

  rows_between-all : (t : ℕ) → rows_between b r 0 t ≡ rows_to b r t
  unfolding rows_between
  rows_between-all t =
      let all : t - 0 ≡ t = omega arith in
      ap (λ n. take n (rows_to b r t)) (all ∙ sym (records_are_rows b r t).1) ∙ take-length (rows_to b r t)

  -- in the order of time they are what is left behind those before
  between-in_time : (from t : ℕ) → from ≤ t → drop from (reverse (rows_to b r t)) ≡ reverse (rows_between b r from t)
  unfolding rows_between
  between-in_time from t least =
      let some = take (t - from) (rows_to b r t) in
      let rest = drop (t - from) (rows_to b r t) in
      let before : t - (t - from) ≡ from = omega (arith, least) in
      ap (λ l. drop from (reverse l)) (sym (take-append-drop (t - from) (rows_to b r t)))
      ∙ ap (drop from) (reverse-append some rest)
      ∙ drop_at (reverse rest) (reverse some) from
      (length-reverse rest ∙ length-drop (t - from) (rows_to b r t) ∙ ap (λ n. n - (t - from)) (records_are_rows b r t).1 ∙ before)

  -- those that a run under a fault makes
  pub under-is : (fault : Fault) → fault.onset < length r.drive →
      own_under (Some fault) (length r.drive) (reverse (record_rows b r))
      ≡ reverse (rows_between b r (fault.onset / checkpoint_ticks * checkpoint_ticks) (length r.drive))
  unfolding own_under checkpoint
  under-is fault within =
      let before : fault.onset / checkpoint_ticks * checkpoint_ticks ≤ length r.drive = omega (arith, within) in
      ap (λ t. if t then drop (fault.onset / checkpoint_ticks * checkpoint_ticks) (reverse (record_rows b r)) else []) (lt-ltb fault.onset (length r.drive) within)
      ∙ ap (λ l. drop (fault.onset / checkpoint_ticks * checkpoint_ticks) (reverse l)) (record_rows-is b r)
      ∙ between-in_time (fault.onset / checkpoint_ticks * checkpoint_ticks) (length r.drive) before

-- ---- what was played ----

module _ {S E : Type 0} (weighed : Bool) (b : BenchEngine S) (come_to : ComeTo S E) (r : Run) where
  pub played_next : {M : Type 0} (t : ℕ) (old new : Played E M) (row : Row) → HasPlayed weighed b come_to r t old → row ≡ row_at b r t →
      IsAt b come_to r (t + 1) new.controller → new.controller.kept.ticks ≡ t + 1 →
      new.tally.threshold ≡ old.tally.threshold → new.tally.weights ≡ old.tally.weights → new.tally.facts.ticks ≡ old.tally.facts.ticks + 1 →
      ((rows : List Row) → IsTallyOf old.tally rows → IsTallyOf new.tally (row ∷ rows)) →
      (IsMarginTallyOf old.margins (weighed_to weighed b r t) → IsMarginTallyOf new.margins (weighed_to weighed b r (t + 1))) → HasPlayed weighed b come_to r (t + 1) new
  played_next t old new row played is at ticks threshold weights fed stands weighs = record {
    at = at;
    ticks = ticks;
    threshold = threshold ∙ played.threshold;
    weights = weights ∙ played.weights;
    fed = fed ∙ ap (λ n. n + 1) played.fed;
    tally = subst (IsTallyOf new.tally) (ap (λ x. x ∷ rows_to b r t) is ∙ sym (rows_to-suc b r t) ∙ ap (rows_to b r) (one_more t))
        (stands (rows_to b r t) played.tally);
    margins = weighs played.margins;
  }

  pub made_none : {M : Type 0} (t : ℕ) (played : Played E M) (was : TickCount) → was ≡ count_with was [] → HasPlayed weighed b come_to r t played →
      HasMade weighed b come_to r t t played was was
  made_none t played was same is = record {
    least = omega arith;
    to = is;
    counted = counted_none was (rows_between b r t t) (rows_between-none b come_to r t) same;
  }

  pub made_next : {M : Type 0} (from t : ℕ) (old new : Played E M) (was is now : TickCount) (row : Row) → HasMade weighed b come_to r from t old was is →
      row ≡ row_at b r t → HasPlayed weighed b come_to r (t + 1) new →
      now.count ≡ (is.count + 1) % 2 ^ 64 → now.weights ≡ (is.weights + weight_of row) % 2 ^ 64 → HasMade weighed b come_to r from (t + 1) new was now
  made_next from t old new was is now row made here played count weight = record {
    least = let l = made.least in omega (arith, l);
    to = played;
    counted = counted_next was is now (rows_between b r from t) row made.counted count weight
        ∙ ap (count_with was) (ap (λ x. x ∷ rows_between b r from t) here ∙ rows_between-next b come_to r from t made.least);
  }

  -- in the order of time
  pub made_in_time : {M : Type 0} (from t : ℕ) (played : Played E M) (was is : TickCount) → HasMade weighed b come_to r from t played was is →
      is ≡ count_with was (reverse (rows_between b r from t))
  made_in_time from t played was is made = counts_reverse was is (length (rows_between b r from t)) (rows_between b r from t) refl made.counted

  -- the run was played from its first tick on, up to one, and to its end
  pub made_front : {M : Type 0} (t : ℕ) (played : Played E M) (was is : TickCount) → HasMade weighed b come_to r 0 t played was is → t ≤ length r.drive →
      is ≡ count_with was (take t (reverse (record_rows b r)))
  made_front t played was is made within = made_in_time 0 t played was is made
      ∙ ap (count_with was) (ap reverse (rows_between-all b come_to r t) ∙ sym (front-take b r t within))

  pub made_all : {M : Type 0} (played : Played E M) (was is : TickCount) → HasMade weighed b come_to r 0 (length r.drive) played was is →
      is ≡ count_with was (reverse (record_rows b r))
  made_all played was is made = made_in_time 0 (length r.drive) played was is made
      ∙ ap (λ l. count_with was (reverse l)) (rows_between-all b come_to r (length r.drive) ∙ sym (record_rows-is b r))

  -- ---- what is kept ----

  pub kept_none : {M : Type 0} (wanted : List Bool) (kept : List (Option (Box (Played E M) Global))) → kept ≡ [] →
      AreCheckpoints weighed b come_to r wanted 0 kept
  kept_none wanted kept none = subst (AreCheckpoints weighed b come_to r wanted 0) (sym none) (record {
    enough = omega arith;
    no_more = omega arith;
    each = λ k below d late wants. absurd (omega (arith, below));
  })

  -- one more at tick t, where it is wanted and t isn't the first
  pub kept_more : {M : Type 0} (wanted : List Bool) (t : ℕ) (kept after : List (Option (Box (Played E M) Global))) (one : Option (Box (Played E M) Global)) →
      after ≡ kept ++ one ∷ [] → t % checkpoint_ticks ≡ 0 →
      (1 ≤ t → IsWantedAt wanted (t / checkpoint_ticks) → IsKept weighed b come_to r t one) →
      AreCheckpoints weighed b come_to r wanted t kept → AreCheckpoints weighed b come_to r wanted (t + 1) after
  kept_more wanted t kept after one pushed whole played are =
      let long : length (kept ++ one ∷ []) ≡ length kept + 1 = length-append kept (one ∷ []) in
      let here : t ≡ length kept * checkpoint_ticks = omega (arith, whole, are.enough, are.no_more) in
      let place : t / checkpoint_ticks ≡ length kept = omega (arith, here) in
      subst (AreCheckpoints weighed b come_to r wanted (t + 1)) (sym pushed) (record {
        enough = omega (arith, long, here);
        no_more = omega (arith, long, here);
        each = each-more (λ k one. 1 ≤ k → IsWantedAt wanted k → IsKept weighed b come_to r (k * checkpoint_ticks) one) kept one are.each
            (λ late wants. subst (λ n. IsKept weighed b come_to r n one) here
            (played (omega (arith, here, late)) (subst (IsWantedAt wanted) (sym place) wants)));
      })

-- ---- branches ----

module _ {S E : Type 0} (weighed : Bool) (b : BenchEngine S) (come_to : ComeTo S E) (r : Run) where
  -- a branch under a fault has played the run under it
  pub branched_at : {M N : Type 0} (t : ℕ) (fault : Option Fault) (memory : ShownMemory) (old : Played E M) (new : Played E N) →
      old.controller.kept.fault ≡ None → BeginsFrom old.controller.kept.ticks fault →
      new.controller.kept ≡ branch_of old.controller.kept fault memory → memory.words ≡ old.controller.kept.memory.words →
      new.controller.engine ≡ old.controller.engine → new.tally ≡ old.tally → new.margins ≡ old.margins →
      HasPlayed weighed b come_to r t old → HasPlayed weighed b come_to (run_under fault r) t new
  unfolding weighed_to
  branched_at t fault memory old new without from kept words engine same weighs is =
      let none : r.setting.fault ≡ None = sym is.at.stands.fault ∙ without in
      let begins : BeginsFrom t fault = subst (λ n. BeginsFrom n fault) is.ticks from in
      record {
        at = branch_at b come_to r none fault t old.controller new.controller memory begins kept words engine is.at;
        ticks = ap (λ (k : Kept). k.ticks) kept ∙ is.ticks;
        threshold = ap (λ (p : TallyParts). p.threshold) same ∙ is.threshold;
        weights = ap (λ (p : TallyParts). p.weights) same ∙ is.weights;
        fed = ap (λ (p : TallyParts). p.facts.ticks) same ∙ is.fed;
        tally = subst (λ p. IsTallyOf p (rows_to b (run_under fault r) t)) (sym same)
            (subst (IsTallyOf old.tally) (sym (records_branch b r none fault t begins).rows_are) is.tally);
        margins = subst (λ m. IsMarginTallyOf m (weighed_to weighed b (run_under fault r) t)) (sym weighs)
            (subst (λ past. IsMarginTallyOf old.margins (if weighed then weighed_of r.setting.cal past else []))
            (sym (records_branch b r none fault t begins).moments_are) is.margins);
      }

  -- and one without a fault the run itself
  pub without-is : r.setting.fault ≡ None → run_under None r ≡ r
  without-is none = ap (λ f. run_under f r) (sym none)

-- the run of an input under its fault, from the last checkpoint on that isn't after the onset
module _ {S E : Type 0} (weighed : Bool) (b : BenchEngine S) (come_to : ComeTo S E) (cal : CalibrationParts) (input : RunInput) (fault : Fault)
    (is : input.plan.fault ≡ Some fault) (within : fault.onset < length input.drive) where
  pub kept_under : (shared : Shared E) → IsSharedBy weighed b come_to (run_with cal (faultless input)).run shared →
      IsWantedFor shared.wanted (Some fault) → 1 ≤ fault.onset / checkpoint_ticks → (d : Option (Box (Played E (List ℕ)) Global)) →
      IsKept weighed b come_to (run_with cal (faultless input)).run (fault.onset / checkpoint_ticks * checkpoint_ticks)
      (slice_index_or shared.checkpoints.items (fault.onset / checkpoint_ticks) d)
  kept_under shared kept wants late d =
      let place : ℕ = fault.onset / checkpoint_ticks in
      let below : place < length shared.checkpoints.items = omega (arith, within, kept.checkpoints.enough) in
      kept.checkpoints.each place below d late wants

  pub played_under : (copy : Fault) → copy ≡ fault → {N : Type 0} (from : Played E (List ℕ)) (branch : Played E N) →
      HasPlayed weighed b come_to (run_with cal (faultless input)).run (fault.onset / checkpoint_ticks * checkpoint_ticks) from →
      ((r : Run) (t : ℕ) → HasPlayed weighed b come_to r t from → HasPlayed weighed b come_to (run_under (Some copy) r) t branch) →
      HasPlayed weighed b come_to (run_with cal input).run (fault.onset / checkpoint_ticks * checkpoint_ticks) branch
  played_under copy same from branch played branched =
      let place : ℕ = fault.onset / checkpoint_ticks in
      subst (λ f. HasPlayed weighed b come_to (run_by cal input.image f input.plan.slices input.drive) (place * checkpoint_ticks) branch)
      (ap (λ f. Some f) same ∙ sym is)
      (branched (run_with cal (faultless input)).run (place * checkpoint_ticks) played)

  -- the rows that are made for it
  pub rows-are : (rows : List Row) → rows ≡ reverse (record_rows b (run_with cal input).run) →
      own_under input.plan.fault (length input.drive) rows ≡ reverse (rows_between b (run_with cal input).run (fault.onset / checkpoint_ticks * checkpoint_ticks) (length input.drive))
  rows-are rows made = ap (own_under input.plan.fault (length input.drive)) made
      ∙ ap (λ f. own_under f (length input.drive) (reverse (record_rows b (run_with cal input).run))) is
      ∙ under-is b come_to (run_with cal input).run fault within

-- ---- runs that aren't played ----

-- where there is no fault, none begins within the run
pub never_begins : (ticks : ℕ) (fault : Option (Bor Fault)) → ((f : Bor Fault) → fault ≡ Some f → ⊥) → BeginsFrom ticks (option_copied fault)
never_begins ticks None none = tt
never_begins ticks (Some f) none = absurd (none f refl)

-- and no row is made
pub makes_none : (ticks : ℕ) (fault : Option Fault) (rows : List Row) → BeginsFrom ticks fault → own_under fault ticks rows ≡ []
unfolding own_under
makes_none ticks None rows from = refl
makes_none ticks (Some f) rows from = ap (λ t. if t then drop (checkpoint f.onset) rows else []) (not-lt from)
  where
    not-lt : ticks ≤ f.onset → nat_lt f.onset ticks ≡ false
    not-lt l = grind (arith, nat_tests)

-- ---- which are wanted ----

-- once one is wanted, it is
set_here : (wanted : List Bool) (k : ℕ) → k < length wanted → IsWantedAt (slice_set wanted k true) k
set_here [] k below = absurd (omega (arith, below))
set_here (x ∷ wanted) zero below = refl
set_here (x ∷ wanted) (suc k) below = set_here wanted k (omega (arith, below))

pub wants_here : (wanted after : List Bool) (fault : Fault) → fault.onset / checkpoint_ticks < length wanted →
    after ≡ slice_set wanted (fault.onset / checkpoint_ticks) true → IsWantedFor after (Some fault)
wants_here wanted after fault below is = subst (λ w. IsWantedAt w (fault.onset / checkpoint_ticks)) (sym is)
    (set_here wanted (fault.onset / checkpoint_ticks) below)
