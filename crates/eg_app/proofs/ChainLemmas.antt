-- What holds of a call that reads one thing after another, by what comes of each.
use Rattle.std.proofs.Common.{◌≡◌, refl, sym, subst}
use Rattle.std.specs.Prelude.{Result, Ok, Err}
use Rattle.eg_outcome.specs.Outcomes.{WorkFollows, Then}
use Rattle.eg_outcome.specs.declared.outcome.Outcome.{Outcome}
use Rattle.eg_outcome.specs.declared.outcome.Outcome.TheVariants.{Done}
use Rattle.eg_app.specs.declared.job.Job.{Job}
use Rattle.eg_app.specs.Gathered.{Makes}

-- ---- results ----

pub same_error : {X : Type 0} (come : Result X Outcome) (end e : Outcome) → come ≡ Err end → come ≡ Err e → e ≡ end
same_error come end e first second = cc

pub same_value : {X : Type 0} (come : Result X Outcome) (x y : X) → come ≡ Ok x → come ≡ Ok y → x ≡ y
same_value come x y first second = cc

pub no_value : {X : Type 0} (x : X) (end : Outcome) → Err end ≡ Ok x → ⊥
no_value x end same = absurd cc

-- ---- a call whose work follows from what comes ----

-- what holds of each end without a value, and where the work ends so, holds of how the call ends
pub of_work : {X : Type 0} (P : Outcome → Type 0) {Comes : Result X Outcome → Type 0} {work : X → Outcome → Type 0} {nothing : Type 0} (o : Outcome)
    → ((come : Result X Outcome) × Comes come × WorkFollows work nothing come o)
    → ((end : Outcome) → Comes (Err end) → P end) → ((x : X) → Comes (Ok x) → work x o → P o) → P o
of_work P o (Ok x, comes, works) without with_value = with_value x comes works
of_work P o (Err end, comes, (is, same)) without with_value = subst P (sym is) (without end comes)

-- the same where the call ends Done, and no end without a value is Done
pub of_done : {X T : Type 0} {Comes : Result X Outcome → Type 0} {work : X → Outcome → Type 0} {nothing : Type 0}
    → ((come : Result X Outcome) × Comes come × WorkFollows work nothing come Done)
    → ((end : Outcome) → Comes (Err end) → end ≡ Done → ⊥) → ((x : X) → Comes (Ok x) → work x Done → T) → T
of_done (Ok x, comes, works) never with_value = with_value x comes works
of_done (Err end, comes, (is, same)) never with_value = absurd (never end comes (sym is))

-- ---- one step after another ----

-- what holds of each end of the first step, and where the rest ends so, holds of the end without a value
pub of_chain : {X Y : Type 0} (P : Outcome → Type 0) {Comes : Result X Outcome → Type 0} {more : X → Result Y Outcome → Type 0} (end : Outcome)
    → ((read : Result X Outcome) × Comes read × Then more read (Err end))
    → ((e : Outcome) → Comes (Err e) → P e) → ((x : X) → Comes (Ok x) → more x (Err end) → P end) → P end
of_chain P end (Ok x, comes, rest) first later = later x comes rest
of_chain P end (Err e, comes, same) first later = subst P (same_error (Err end) end e refl same) (first e comes)

-- where a value comes, the first step has one, and the rest comes to it
pub of_value : {X Y T : Type 0} {Comes : Result X Outcome → Type 0} {more : X → Result Y Outcome → Type 0} (y : Y)
    → ((read : Result X Outcome) × Comes read × Then more read (Ok y)) → ((x : X) → Comes (Ok x) → more x (Ok y) → T) → T
of_value y (Ok x, comes, rest) later = later x comes rest
of_value y (Err e, comes, same) later = absurd (no_value y e (sym same))

-- ---- a job that is made of what comes ----

-- what holds of each end without what comes, holds of the end without a job
pub without_job : {X : Type 0} (P : Outcome → Type 0) (of : X → Job) {Comes : Result X Outcome → Type 0} (end : Outcome)
    → Makes of Comes (Err end) → ((e : Outcome) → Comes (Err e) → P e) → P end
without_job P of end come first = of_chain P end come first (λ x read same. absurd (no_value (of x) end same))

-- where there is a job, it is made of what came
pub with_job : {X T : Type 0} (of : X → Job) {Comes : Result X Outcome → Type 0} (one : Job)
    → Makes of Comes (Ok one) → ((x : X) → Comes (Ok x) → one ≡ of x → T) → T
with_job of one come later = of_value one come (λ x read made. later x read (same_value (Ok one) one (of x) refl made))
