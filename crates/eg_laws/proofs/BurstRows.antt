-- How many ticks of a window can have excess, whether it is confirmed or not: of bits, and of the rows of each record.
use Rattle.std.proofs.Common.{◌≡◌, ℕ, suc, ◌+◌, ◌-◌, ◌*◌, ◌≤◌, ◌<◌, Bool, true, false, List, [], ◌∷◌, ◌++◌, map, length, refl, sym, ap, ◌∙◌, subst, arith, inl, inr, Option, Some, None, is_some}
use Rattle.std.proofs.Math.Nat.{div-lt_iff_lt-mul, lt-div-mul-add}
use Rattle.std.proofs.lemmas.Bool.{cases_Bool, cases_lt, true≢false}
use Rattle.std.proofs.lemmas.List.{length-map}
use Rattle.std.proofs.lemmas.Option.{same_Some}
use Rattle.eg_num.specs.Windows.{WeightParts, AreWeights, is_first, first_index}
use Rattle.eg_num.proofs.FirstIndexLemmas.{is_first-parts, is_some-first_index, first_index-first, first_index-other, first_index_within}
use Rattle.eg_answer.specs.Times.{reaction_of}
use Rattle.eg_plant.specs.PlantParts.{PlantParts}
use Rattle.eg_fault.proofs.ActingLemmas.{listed_valid}
use Rattle.eg_record.specs.declared.row.Row.{Row}
use Rattle.eg_record.specs.Excess.{true_excess}
use Rattle.eg_model.specs.Engines.{BenchEngine, KeepsBenchLaws}
use Rattle.eg_laws.specs.Bursts.{most_bad, bad_in}
use Rattle.eg_laws.specs.FaultyBursts.{RowsEndBursts, RowsEndBurstsAtOnce, RecordsEndBursts, RecordsEndBurstsAtOnce}
use Rattle.eg_model.proofs.RecordSpans.{SpanTo}
use Rattle.eg_model.proofs.RecordLaws.{each_drive, proper_span}
use Rattle.eg_model.proofs.SpanLaws.{reaction_least}
use Rattle.eg_laws.proofs.BurstLaws.{bad_in-cons, bursts_are_sparse}
use Rattle.eg_laws.proofs.StretchLaws.{Ends}
use Rattle.eg_laws.proofs.StretchRows.{ends_in_time, ends_at_once}
use Rattle.eg_model.proofs.ReactionLaw.{reacts_in_time}

-- ---- bits ----

module _ (w : WeightParts) (are : AreWeights w) where
  some : 0 < w.up + w.down
  some = let a = are.0 in omega arith

  -- each feed more is at most one bad one more
  most_near : (n m extra : ℕ) → n ≤ m + extra → most_bad w n ≤ most_bad w m + extra
  unfolding most_bad
  most_near n m extra near = below ((div-lt_iff_lt-mul some).1
      (law (w.limit - 1) n m extra w.up w.down _ near (lt-div-mul-add some)))
    where
      law : (l n m extra u d q : ℕ) → n ≤ m + extra → l + m * d < q * (u + d) + (u + d) → l + n * d < suc (q + extra) * (u + d)
      law l n m extra u d q near low = let scaled = scale n (m + extra) d near in let parts = split_up m extra d in
          let sum = spread q extra u d in omega (arith, low, scaled, parts, sum)
        where
          scale : (n k d : ℕ) → n ≤ k → n * d ≤ k * d
          scale n k d near = grind arith

          split_up : (m extra d : ℕ) → (m + extra) * d ≡ m * d + extra * d
          split_up m extra d = grind arith

          spread : (q extra u d : ℕ) → q * (u + d) + (u + d) + extra * d ≤ suc (q + extra) * (u + d)
          spread q extra u d = grind arith

      below : {a b : ℕ} → a < suc b → a ≤ b
      below less = omega (arith, less)

  bad_more : (b : Bool) (window : List Bool) → bad_in (b ∷ window) ≤ suc (bad_in window)
  bad_more true window = let e = bad_in-cons true window in omega (arith, e)
  bad_more false window = let e = bad_in-cons false window in omega (arith, e)

  -- of the last feed of a window, and of those before it up to the k-th, all may be bad: the k-th is the first at which the
  -- limit is reached
  since_first : (window before : List Bool) (c k : ℕ) → first_index w (window ++ before) ≡ Some c → c + k ≡ length (window ++ before) →
      bad_in window ≤ most_bad w (length window - k) + k
  since_first [] before c k first size = go (unfold bad_in in refl)
    where
      go : bad_in [] ≡ 0 → bad_in [] ≤ most_bad w (0 - k) + k
      go e = omega (arith, e)
  since_first (b ∷ window) before c k first size = elim (cases_Bool (is_first w (b ∷ window ++ before))) [
    | inl now ↦ (let place = same_Some _ c (sym (first_index-first w b (window ++ before) now) ∙ first) in
        let sparse = bursts_are_sparse w are window before (is_first-parts w b (window ++ before) now).1 in
        let near = most_near (length window) (suc (length window) - k) 0 (omega (arith, place, size)) in
        let more = bad_more b window in
        omega (arith, sparse, near, more, place, size))
    | inr other ↦ (let earlier = sym (first_index-other w b (window ++ before) other) ∙ first in
        let within = first_index_within w (window ++ before) c earlier in
        let rest = since_first window before c (k - 1) earlier (omega (arith, size)) in
        let near = most_near (length window - (k - 1)) (suc (length window) - k) 0 (omega (arith, within, size)) in
        let more = bad_more b window in
        omega (arith, rest, near, more, within, size))
  ]

  few_bad : (after : ℕ) (window before : List Bool) → 1 ≤ after → Ends w after (window ++ before) →
      bad_in window ≤ most_bad w (length window - after) + after
  unfolding Ends
  few_bad after [] before least ends = go (unfold bad_in in refl)
    where
      go : bad_in [] ≡ 0 → bad_in [] ≤ most_bad w (0 - after) + after
      go e = omega (arith, e)
  few_bad after (false ∷ window) before least ends =
      let rest = few_bad after window before least ends.1 in
      let near = most_near (length window - after) (suc (length window) - after) 0 (omega arith) in
      let same = bad_in-cons false window in
      omega (arith, rest, near, same)
  few_bad after (true ∷ window) before least ends = go (first_index w (window ++ before)) refl
    where
      go : (first : Option ℕ) → first_index w (window ++ before) ≡ first → bad_in (true ∷ window) ≤ most_bad w (suc (length window) - after) + after
      go None none =
          let sparse = bursts_are_sparse w are window before (sym (is_some-first_index w (window ++ before)) ∙ ap is_some none) in
          let near = most_near (length window) (suc (length window) - after) (after - 1) (omega arith) in
          let more = bad_in-cons true window in
          omega (arith, sparse, near, more, least)
      go (Some c) first = elim (cases_lt (length (window ++ before)) (c + after)) [
        | inr late ↦ absurd (true≢false (ends.0 c first late))
        | inl soon ↦ (let within = first_index_within w (window ++ before) c first in
            let rest = since_first window before c (length (window ++ before) - c) first (omega (arith, within)) in
            let near = most_near (length window - (length (window ++ before) - c)) (suc (length window) - after)
            (after - 1 - (length (window ++ before) - c)) (omega (arith, soon)) in
            let more = bad_in-cons true window in
            omega (arith, rest, near, more, soon, within, least))
      ]

  -- so it is of rows
  few_rows : (threshold after : ℕ) (window before : List Row) → 1 ≤ after →
      Ends w after (map (true_excess threshold) window ++ map (true_excess threshold) before) →
      bad_in (map (true_excess threshold) window) ≤ most_bad w (length window - after) + after
  few_rows threshold after window before least law = subst
      (λ n. bad_in (map (true_excess threshold) window) ≤ most_bad w (n - after) + after) (length-map window (true_excess threshold))
      (few_bad after (map (true_excess threshold) window) (map (true_excess threshold) before) least law)

-- ---- each record ----

module _ {E : Type 0} {b : BenchEngine E} {Keeps : PlantParts → E → Type 0} (keeps : KeepsBenchLaws b Keeps) where
  pub records_end_bursts : RecordsEndBursts b
  records_end_bursts r run listed = each_drive b (RowsEndBursts r.setting.cal.rules.torque r.setting.cal.rules.threshold
      (reaction_of r.setting.cal.times)) r
      (λ start count span is later window before e. few_rows r.setting.cal.rules.torque run.accepted.torque r.setting.cal.rules.threshold _ window before
      (reaction_least r.setting.cal.times run.accepted.times run.accepted.answers)
      (ends_in_time r.setting start (SpanTo b r count) run.accepted is.follows
      (proper_span keeps r run (listed_valid r.setting.fault listed) start count span is)
      (reacts_in_time r.setting run.accepted listed start) later window before e))

  pub records_end_bursts_at_once : RecordsEndBurstsAtOnce b
  records_end_bursts_at_once r run listed = each_drive b (RowsEndBurstsAtOnce r.setting.fault r.setting.cal.rules.torque
      r.setting.cal.rules.threshold) r
      (λ start count span is later window before e soon. few_rows r.setting.cal.rules.torque run.accepted.torque r.setting.cal.rules.threshold 1 window before
      (omega arith) (ends_at_once r.setting start (SpanTo b r count) run.accepted is.follows
      (proper_span keeps r run (listed_valid r.setting.fault listed) start count span is) listed later window before e soon))
