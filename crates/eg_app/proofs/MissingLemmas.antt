-- Which files a call says to be missing, from what it gathers.
use Rattle.std.proofs.Common.{◌≡◌, List, ℕ, Option, Some, None, inl, inr, subst}
use Rattle.std.specs.Prelude.{◌↔◌, ◌⊎◌, Result, Ok, Err, IfSome, IsTrue}
use Rattle.eg_base.specs.Outside.{ShownStore, IsMissing}
use Rattle.eg_values.specs.Calibration.{CalibrationParts}
use Rattle.eg_outcome.specs.Changes.{Change}
use Rattle.eg_outcome.specs.declared.outcome.Outcome.{Outcome}
use Rattle.eg_outcome.specs.declared.outcome.Outcome.TheVariants.{Memory, ReadFault}
use Rattle.eg_outcome.specs.declared.outcome.Role.{Role}
use Rattle.eg_outcome.specs.declared.outcome.Role.TheVariants as role
use Rattle.eg_outcome.specs.Calibrations.{MissesCalibration}
use Rattle.eg_desk.specs.Ends.{read_alone}
use Rattle.eg_app.specs.declared.job.Job.{Job}
use Rattle.eg_desk.specs.Words.{Command, by, soak, answers, asm, dis, Work}
use Rattle.eg_app.specs.Gathered.{GathersBy}
use Rattle.eg_app.specs.Missing.{EndsBy, own_file, TellsExactly, TellsMissing, TellsMissingBehind, TellsMissingBy, TellsMissingOwn}
use Rattle.eg_app.proofs.FileLemmas.{IsStop}
use Rattle.eg_app.proofs.HeadlineLemmas.{work_stops}

pub ends_by : {X : Type 0} (come : Result X Outcome) (e : Outcome) → come ≡ Err e → EndsBy come e
ends_by (Ok x) e is = absurd cc
ends_by (Err end) e is = cc

-- it came, and what is read behind it is told
pub missing_behind : (calibration : Option (List ℕ)) (work : Work) (store : Change ShownStore) (cal : CalibrationParts) (come : Result Job Outcome)
    → (IsTrue store.before.sure → ((let read : Result CalibrationParts Outcome = Ok cal in read ≡ Err (ReadFault role.Calibration))
    ↔ MissesCalibration calibration store.before))
    → GathersBy cal work store come → TellsMissingOwn work store.before (EndsBy come) → TellsMissingBy calibration work store.before (EndsBy come)
missing_behind calibration work store cal come told gathers own = record {
  of_calibration = λ sure. (λ is. absurd (stops come gathers is), λ missing. absurd (ends_by (let read : Result CalibrationParts Outcome = Ok cal in read) _ ((told sure).1 missing)));
  of_own = behind calibration;
}
  where
    stops : (come : Result Job Outcome) → GathersBy cal work store come → EndsBy come (ReadFault role.Calibration) → ⊥
    stops (Ok one) gathers is = is
    stops (Err end) gathers is = subst IsStop is (work_stops cal work store end gathers)

    told_own : (file : Option (Role × List ℕ)) → IfSome file (λ one. IsMissing store.before.files one.1 → EndsBy come (ReadFault one.0))
        → IfSome file (λ one. IsMissing store.before.files one.1 → EndsBy come (ReadFault one.0) ⊎ EndsBy come Memory)
    told_own None tells = tt
    told_own (Some one) tells = λ missing. inl (tells missing)

    behind : (calibration : Option (List ℕ)) → TellsMissingBehind calibration work store.before (EndsBy come)
    behind None = own
    behind (Some name) = λ sure accepts there. told_own (own_file work) (own sure)

-- ---- how the call ends ----

-- not what lines come from
abbrev pub IsOfFile : Role → Type 0
IsOfFile role.Check = ⊥
IsOfFile _ = Unit {0}

module _ (store : ShownStore) (A B : Outcome → Type 0) (forth : (e : Outcome) → A e → B e)
    (back : (r : Role) → IsOfFile r → B (ReadFault r) → A (ReadFault r)) where
  exactly : (file : Role) (missing : Type 0) → IsOfFile file → TellsExactly file missing store A → TellsExactly file missing store B
  exactly file missing is tells sure = (λ told. (tells sure).0 (back file is told), λ gone. forth (ReadFault file) ((tells sure).1 gone))

  first : (file : Option (Role × List ℕ)) → IfSome file (λ one. IsMissing store.files one.1 → A (ReadFault one.0))
      → IfSome file (λ one. IsMissing store.files one.1 → B (ReadFault one.0))
  first None tells = tt
  first (Some one) tells = λ missing. forth (ReadFault one.0) (tells missing)

  either : (o p : Outcome) → A o ⊎ A p → B o ⊎ B p
  either o p (inl is) = inl (forth o is)
  either o p (inr is) = inr (forth p is)

  later : (file : Option (Role × List ℕ)) → IfSome file (λ one. IsMissing store.files one.1 → A (ReadFault one.0) ⊎ A Memory)
      → IfSome file (λ one. IsMissing store.files one.1 → B (ReadFault one.0) ⊎ B Memory)
  later None tells = tt
  later (Some one) tells = λ missing. either (ReadFault one.0) Memory (tells missing)

  behind : (calibration : Option (List ℕ)) (work : Work) → TellsMissingBehind calibration work store A → TellsMissingBehind calibration work store B
  behind None work tells = λ sure. first (own_file work) (tells sure)
  behind (Some name) work tells = λ sure accepts there. later (own_file work) (tells sure accepts there)

  -- how the job is performed tells of no file
  pub missing_since : (command : Option Command) → TellsMissing command store A → TellsMissing command store B
  missing_since (Some (by calibration work)) tells = record {
    of_calibration = exactly role.Calibration (MissesCalibration calibration store) tt tells.of_calibration;
    of_own = behind calibration work tells.of_own;
  }
  missing_since (Some (answers file)) tells = exactly role.Calibration (IsMissing store.files file) tt tells
  missing_since (Some (asm file)) tells = exactly role.Source (IsMissing store.files file) tt tells
  missing_since (Some (dis file)) tells = exactly read_alone (IsMissing store.files file) tt tells
  missing_since (Some (soak seed runs)) tells = tt
  missing_since None tells = tt
