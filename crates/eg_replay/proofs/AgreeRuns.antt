-- Closed and open loop agree on the bench: the spans of a run are histories at whose ticks the fault acts.
use Rattle.std.proofs.Common.{◌≡◌, ◌∙◌, sym, ap, subst, ℕ, zero, suc, ◌+◌, ◌-◌, ◌≤◌, ◌<◌, ◌∷◌, [], Bool, false, List, All, length, arith, None}
use Rattle.std.proofs.lemmas.List.Elements.{All-nil, All-cons}
use Rattle.eg_fault.specs.Effects.{Effects, no_effects}
use Rattle.eg_fault.specs.Faults.{effects}
use Rattle.eg_fault.specs.Running.{RunAlike}
use Rattle.eg_fault.proofs.RunningLemmas.{same, same-before, same-spared}
use Rattle.eg_model.specs.History.{Setting, Entry, Tick, Drive}
use Rattle.eg_model.specs.Moments.{moments_in, moments_of}
use Rattle.eg_model.specs.Spans.{span_so_far, span_kind, moments, ticks, span_ticks}
use Rattle.eg_model.specs.Premises.{Follows}
use Rattle.eg_model.specs.SpanHistories.{SpanIsHistory}
use Rattle.eg_model.specs.Engines.{BenchEngine}
use Rattle.eg_model.specs.Bench.{Run, drive_at, entry_at, moments_to, entries_to}
use Rattle.eg_model.proofs.SpanLemmas.{spans_are_histories}
use Rattle.eg_model.proofs.TickLemmas.{length-moments_in}
use Rattle.eg_model.proofs.StartUpLaws.{runs_without_reset}
use Rattle.eg_model.proofs.RecordTicks.{records_are_histories, length-entries}
use Rattle.eg_replay.specs.Agreement.{TellsTheSame, RunsFreely, RunsAgree, RunsWithoutResetAgree, FaultsSpareLevel2}
use Rattle.eg_replay.proofs.AgreeLemmas.{Free, spans_agree}

-- ---- the ticks of a run ----

-- those of a history from this tick on, and those of a run, where level 2 runs freely from tick `first` to before tick n
module _ (s : Setting) (first n : ℕ) (free : (t : ℕ) → first ≤ t → t < n → RunsFreely (effects s.fault t)) where
  history-free : (begin : ℕ) (h : List Tick) → first ≤ begin → begin + length h ≤ n → Follows s.fault begin h → All Free h
  unfolding Follows
  history-free begin [] from within follows = All-nil Free
  history-free begin (x ∷ h) from within follows = All-cons Free x h
      (subst RunsFreely (sym follows.0) (free (begin + length h) (omega (arith, from)) (omega (arith, within))))
      (history-free begin h from (omega (arith, within)) follows.1)

  ticks-free : (h : List Entry) → first ≤ 0 → length h ≤ n → All Free (ticks s h)
  unfolding ticks
  ticks-free [] from within = All-nil Free
  ticks-free (e ∷ h) from within = All-cons Free
      (record { effects = effects s.fault (length h); entry = e }) (ticks s h)
      (free (length h) (omega (arith, from)) (omega (arith, within))) (ticks-free h from (omega (arith, within)))

  span-agrees : (h : List Entry) → length h ≡ n → first ≤ n - length (span_so_far (moments s h)) → span_kind (moments s h) ≡ Drive →
      TellsTheSame s.cal (span_so_far (moments s h))
  span-agrees h whole from driven =
      let span : SpanIsHistory s h = spans_are_histories s h in
      let are = span.moments_are ∙ ap (λ kind. moments_in kind s (span_ticks s h)) driven in
      let all = history-free span.begin (span_ticks s h)
      (let size = span.size in let long = ap length are ∙ length-moments_in Drive s (span_ticks s h) in omega (arith, from, whole, size, long))
      (let size = span.size in omega (arith, size, whole)) span.follows in
      subst (TellsTheSame s.cal) (sym are) (spans_agree s (span_ticks s h) all)

  whole-agrees : (h : List Entry) → first ≤ 0 → length h ≤ n → All (λ (e : Entry). e.drive.reset ≡ false) h →
      TellsTheSame s.cal (moments s h)
  whole-agrees h from within never = subst (TellsTheSame s.cal) (sym (runs_without_reset s h never))
      (unfold moments_of in spans_agree s (ticks s h) (ticks-free h from within))

-- ---- on the bench ----

module _ {E : Type 0} (b : BenchEngine E) where
  within : (r : Run) (n : ℕ) → length (entries_to b r n) ≤ n
  within r n = let is = length-entries b r n in omega (arith, is)

  never : (r : Run) (n : ℕ) → ((t : ℕ) → t < n → (drive_at r t).reset ≡ false) →
      All (λ (e : Entry). e.drive.reset ≡ false) (entries_to b r n)
  unfolding entries_to entry_at
  never r zero quiet = All-nil (λ (e : Entry). e.drive.reset ≡ false)
  never r (suc t) quiet = All-cons (λ (e : Entry). e.drive.reset ≡ false)
      (entry_at b r t (moments_to b r t)) (entries_to b r t)
      (quiet t (omega arith)) (never r t (λ i before. quiet i (omega (arith, before))))

  pub runs_agree : RunsAgree b
  runs_agree r n free driven =
      let are = records_are_histories b r n in
      subst (λ past. TellsTheSame r.setting.cal (span_so_far past)) (sym are)
      (span-agrees r.setting (n - length (span_so_far (moments_to b r n))) n free (entries_to b r n) (length-entries b r n)
      (let same = ap (λ past. length (span_so_far past)) are in omega (arith, same)) (sym (ap span_kind are) ∙ driven))

  pub runs_without_reset_agree : RunsWithoutResetAgree b
  runs_without_reset_agree r n free quiet =
      subst (TellsTheSame r.setting.cal) (sym (records_are_histories b r n))
      (whole-agrees r.setting 0 n free (entries_to b r n) (omega arith) (within r n) (never r n quiet))

-- ---- the faults that spare level 2 ----

alike-free : (x : Effects) → RunAlike (effects None 0) x → RunsFreely x
unfolding effects no_effects
alike-free x alike = record {
  runs = record { ran = λ i. sym (ap (λ (ran : ℕ → Bool). ran i) alike.ran); unflipped = sym alike.flip };
  undisturbed = λ i. sym (ap (λ (mixed : ℕ → ℕ). mixed i) alike.disturbance);
}

pub faults_spare_level_2 : FaultsSpareLevel2
unfolding effects
faults_spare_level_2 = record {
  without = λ t. alike-free _ (same no_effects);
  before = λ fault t early. alike-free _ (same-before fault t early);
  under = λ fault t spares. alike-free _ (same-spared fault t spares);
}
