-- Runs that are played one after another.
use Rattle.std.proofs.Common.{◌≡◌, ◌∙◌, sym, ap, ap₂, subst, All, ℕ, ◌+◌, ◌<◌, List, [], ◌∷◌, ◌++◌, map, take, get_or, length, add-one}
use Rattle.std.specs.Prelude.{Option, reverse}
use Rattle.std.proofs.Math.Seq.{take-suc}
use Rattle.std.proofs.lemmas.List.{map-append, get_or-map, get_or_default}
use Rattle.std.proofs.lemmas.List.Elements.{All-push}
use Rattle.eg_num.specs.Drive.{DriveRow}
use Rattle.eg_fault.specs.declared.class.Fault.{Fault}
use Rattle.eg_values.specs.Calibration.{CalibrationParts}
use Rattle.eg_answer.specs.Times.{reaction_of}
use Rattle.eg_word.specs.declared.registers.Trap.{Trap}
use Rattle.eg_record.specs.declared.summary.Summary.{Summary}
use Rattle.eg_record.specs.Summaries.{summary_of}
use Rattle.eg_model.specs.Rows.{record_rows, record_trap, report_of}
use Rattle.eg_tick.specs.Run.{run_by}
use Rattle.eg_plant.specs.declared.engine_kind.EngineKind.{EngineKind}
use Rattle.eg_model.specs.Engines.{bench_of}
use Rattle.eg_model.specs.EngineRuns.{EngineRun, rows_of_run, rows_in_time, report_of_run}

-- ---- runs ----

-- runs of equal parts are equal
pub same_run : (cal cal' : CalibrationParts) (image image' : List ℕ) (fault fault' : Option Fault)
    (plan plan' : List (List ℕ)) (drive drive' : List DriveRow) → cal ≡ cal' → image ≡ image' → fault ≡ fault' →
    plan ≡ plan' → drive ≡ drive' → run_by cal image fault plan drive ≡ run_by cal' image' fault' plan' drive'
same_run cal cal' image image' fault fault' plan plan' drive drive' a b c d e = cc

-- the rows that the engine of a run makes are those of the engine that it names
pub rows_by : (r : EngineRun) (k : EngineKind) → r.engine ≡ k → reverse (record_rows (bench_of k) r.run) ≡ rows_in_time r
unfolding rows_in_time
rows_by r k is = ap (λ engine. reverse (record_rows (bench_of engine) r.run)) (sym is)

-- what the report says of a run whose facts and trap are told
pub report_is : (name name' : List ℕ) (r : EngineRun) (trap : Option (Trap × ℕ)) (bound : ℕ) (summary : Summary) → name ≡ name' →
    trap ≡ record_trap (bench_of r.engine) r.run → bound ≡ reaction_of r.run.setting.cal.times →
    summary ≡ summary_of name (rows_of_run r) trap r.run.setting.cal.rules.threshold r.run.setting.cal.rules.torque bound → summary ≡ report_of_run name' r
unfolding report_of
report_is name name' r trap bound summary named trapped bounded told = told
    ∙ ap₂ (λ (t : Option (Trap × ℕ)) (b : ℕ). summary_of name (rows_of_run r) t r.run.setting.cal.rules.threshold r.run.setting.cal.rules.torque b) trapped bounded
    ∙ ap (λ (n : List ℕ). report_of_run n r) named

-- ---- the front of a list ----

-- one item more
pub map-more : {X Y : Type 0} (f : X → Y) (xs : List X) (i : ℕ) (x : X) → i < length xs → x ≡ get_or xs i x →
    map f (take (i + 1) xs) ≡ map f (take i xs) ++ f x ∷ []
map-more f xs i x below is = ap (λ n. map f (take n xs)) (add-one i) ∙ ap (map f) (take-suc xs i x below)
    ∙ map-append f (take i xs) (get_or xs i x ∷ []) ∙ ap (λ y. map f (take i xs) ++ f y ∷ []) (sym is)

-- the item at a place of what is made of a list
pub mapped-at : {X Y : Type 0} (f : X → Y) (xs : List X) (ys : List Y) → ys ≡ map f xs → (i : ℕ) (x : X) (d : Y) → i < length xs → x ≡ get_or xs i x →
    get_or ys i d ≡ f x
mapped-at f xs ys are i x d below at = ap (λ l. get_or l i d) are ∙ get_or-map f xs i x d below ∙ ap f (sym at)

-- one item more in a list that is made of the front
pub map-next : {X Y : Type 0} (f : X → Y) (xs : List X) (i : ℕ) (d : X) (made now : List Y) → i < length xs → now ≡ made ++ f (get_or xs i d) ∷ [] →
    made ≡ map f (take i xs) → now ≡ map f (take (i + 1) xs)
map-next f xs i d made now below is so_far = is ∙ ap (λ l. l ++ f (get_or xs i d) ∷ []) so_far
    ∙ sym (map-more f xs i (get_or xs i d) below (get_or_default xs i d (get_or xs i d) below))

pub all-more : {X : Type 0} (P : X → Type 0) (xs : List X) (i : ℕ) (x : X) → i < length xs → x ≡ get_or xs i x →
    All P (take i xs) → P x → All P (take (i + 1) xs)
all-more P xs i x below is all here = subst (All P)
    (sym (ap (λ n. take n xs) (add-one i) ∙ take-suc xs i x below ∙ ap (λ y. take i xs ++ y ∷ []) (sym is)))
    (All-push P (take i xs) x all here)
