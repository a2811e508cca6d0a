-- One run more of those that are drawn.
use Rattle.std.proofs.Common.{◌≡◌, ◌∙◌, refl, sym, ap, ℕ, zero, suc, ◌+◌, ◌*◌, ◌≤◌, List, [], ◌∷◌, ◌++◌, map, length, add-one, append_assoc, length-append, arith}
use Rattle.std.proofs.lemmas.List.{map-append, flat_map_more}
use Rattle.eg_record.specs.declared.row.Row.{Row}
use Rattle.eg_model.specs.Engines.{gasoline}
use Rattle.eg_tick.specs.Weights.{TickCount}
use Rattle.eg_tick.specs.Counting.{count_with}
use Rattle.eg_model.specs.EngineRuns.{rows_in_time, rows_of_runs}
use Rattle.eg_tick.proofs.CountLemmas.{counts_more, long}
use Rattle.eg_draw.specs.declared.runs.DrawnRun.{DrawnRun}
use Rattle.eg_draw.specs.Runs.{drawn_run, state_after}
use Rattle.eg_draw.proofs.ProperLemmas.{drawn_proper}
use Rattle.eg_soak.specs.Facts.{drawn_facts}
use Rattle.eg_soak.specs.Soak.{run_drawn, drawn_runs}

-- the state in which run n is drawn, the first being 0
unfoldable pub state_of : ℕ → ℕ → ℕ
state_of zero x = x
state_of (suc n) x = state_of n (state_after x)

pub state-more : (n x : ℕ) → state_of (suc n) x ≡ state_after (state_of n x)
unfolding state_of
state-more zero x = refl
state-more (suc n) x = state-more n (state_after x)

runs-more : (n x : ℕ) → drawn_runs (suc n) x ≡ drawn_runs n x ++ run_drawn (drawn_run (state_of n x)) ∷ []
unfolding drawn_runs state_of
runs-more zero x = refl
runs-more (suc n) x = ap (λ runs. run_drawn (drawn_run x) ∷ runs) (runs-more n (state_after x))

-- with the state and the draw that are at hand
runs-next : (n x state : ℕ) (drawn : DrawnRun) → state ≡ state_of n x → drawn ≡ drawn_run state →
    drawn_runs (n + 1) x ≡ drawn_runs n x ++ run_drawn drawn ∷ []
runs-next n x state drawn at is = ap (λ k. drawn_runs k x) (add-one n) ∙ runs-more n x
    ∙ ap (λ d. drawn_runs n x ++ run_drawn d ∷ []) (sym (is ∙ ap drawn_run at))

pub state-next : (n x state now : ℕ) → state ≡ state_of n x → now ≡ state_after state → now ≡ state_of (n + 1) x
state-next n x state now is next = next ∙ ap state_after is ∙ sym (state-more n x) ∙ ap (λ k. state_of k x) (sym (add-one n))

-- what counts of one run more, and what is counted with it
pub facts-next : (n x state : ℕ) (drawn : DrawnRun) → state ≡ state_of n x → drawn ≡ drawn_run state →
    map drawn_facts (drawn_runs (n + 1) x) ≡ map drawn_facts (drawn_runs n x) ++ drawn_facts (run_drawn drawn) ∷ []
facts-next n x state drawn at is = ap (map drawn_facts) (runs-next n x state drawn at is)
    ∙ map-append drawn_facts (drawn_runs n x) (run_drawn drawn ∷ [])

pub counts-next : (from old new : TickCount) (n x state : ℕ) (drawn : DrawnRun) → state ≡ state_of n x → drawn ≡ drawn_run state →
    old ≡ count_with from (rows_of_runs (drawn_runs n x)) → new ≡ count_with old (rows_in_time (run_drawn drawn)) →
    new ≡ count_with from (rows_of_runs (drawn_runs (n + 1) x))
unfolding rows_of_runs
counts-next from old new n x state drawn at is before now =
    counts_more from old new (rows_of_runs (drawn_runs n x)) (rows_in_time (run_drawn drawn)) before now
    ∙ ap (count_with from) (flat_map_more rows_in_time [] (drawn_runs n x) (run_drawn drawn)
    ∙ ap rows_of_runs (sym (runs-next n x state drawn at is)))

pub runs-length : (n x : ℕ) → length (drawn_runs n x) ≡ n
unfolding drawn_runs
runs-length zero x = refl
runs-length (suc n) x = ap (λ k. suc k) (runs-length n (state_after x))

-- their ticks
pub runs-ticks : (n x : ℕ) → length (rows_of_runs (drawn_runs n x)) ≡ n * 2000
unfolding drawn_runs rows_of_runs rows_in_time
runs-ticks zero x = refl
runs-ticks (suc n) x =
    let run = run_drawn (drawn_run x) in
    let more = rows_of_runs (drawn_runs n (state_after x)) in
    let both : length (rows_in_time run ++ more) ≡ length (rows_in_time run) + length more = length-append (rows_in_time run) more in
    let one : length (rows_in_time run) ≡ 2000 = sym (long gasoline run.run) ∙ (drawn_proper x).rows in
    let others : length more ≡ n * 2000 = runs-ticks n (state_after x) in
    omega (arith, both, one, others)

-- the rows of the first of them are the first of the rows of all
pub runs-front : (k all x : ℕ) → k ≤ all → (rest : List Row) × (rows_of_runs (drawn_runs k x) ++ rest ≡ rows_of_runs (drawn_runs all x))
unfolding drawn_runs rows_of_runs
runs-front zero all x few = (rows_of_runs (drawn_runs all x), refl)
runs-front (suc k) zero x few = absurd (omega (arith, few))
runs-front (suc k) (suc all) x few =
    let (rest, e) = runs-front k all (state_after x) (omega (arith, few)) in
    let own = rows_in_time (run_drawn (drawn_run x)) in
    (rest, append_assoc own (rows_of_runs (drawn_runs k (state_after x))) rest ∙ ap (λ l. own ++ l) e)
