-- Whether each shut-off path conducts: by the ticks of a span, and by the rows of each record.
use Rattle.std.proofs.Common.{◌≡◌, ◌∙◌, refl, sym, ap, ap₂, subst, ℕ, zero, suc, ◌+◌, ◌/◌, ◌%◌, ◌≤◌, ◌<◌, Bool, true, false, not, ◌&&◌, ◌||◌, List, [], ◌∷◌, ◌++◌, All, length, arith, inl, inr, Option, Some, None}
use Rattle.std.specs.Prelude.{nat_lt, is_some}
use Rattle.std.proofs.lemmas.List.{append-nil}
use Rattle.std.specs.List.{list_any}
use Rattle.std.proofs.lemmas.Bool.{cases_lt, or_from, ltb-true, leb-true, lt-ltb, le-ltb, ne_eqb}
use Rattle.std.proofs.lemmas.List.Elements.{All-head, All-tail, All-nil, All-cons}
use Rattle.std.proofs.Math.Nat.{div-lt_iff_lt-mul}
use Rattle.eg_num.specs.Windows.{WeightParts, is_confirmed}
use Rattle.eg_answer.specs.Times.{AreTimes, feeds_to_confirm, test_ticks_of}
use Rattle.eg_answer.specs.declared.modules.TheConstants.{REACT}
use Rattle.eg_answer.specs.declared.marks.Verdict.{Verdict}
use Rattle.eg_values.specs.Calibration.{IsAccepted}
use Rattle.eg_fault.specs.Effects.{Effects, no_effects}
use Rattle.eg_fault.specs.Faults.{effects}
use Rattle.eg_fault.specs.declared.class.Fault.{Fault}
use Rattle.eg_fault.specs.declared.paths.TheConstants.{PATH_1, PATH_2}
use Rattle.eg_fault.proofs.ActingLemmas.{before_onset}
use Rattle.eg_record.specs.declared.row.Row.{Row}
use Rattle.eg_model.specs.History.{Setting, Tick, Test, Signals, drives, Moment}
use Rattle.eg_model.specs.Signals.{tripped}
use Rattle.eg_model.specs.Detection.{torque_bit, finds}
use Rattle.eg_model.specs.Answers.{verdicts_in}
use Rattle.eg_model.specs.Paths.{is_testing, is_told_to_open, orders_open, latch1, latch2, path1_at, path2_at}
use Rattle.eg_model.specs.Moments.{moment, moment_in, moments_in, moments_of}
use Rattle.eg_model.specs.Rows.{row_of}
use Rattle.eg_model.specs.Premises.{Follows}
use Rattle.eg_model.specs.StartUp.{IsUndisturbed}
use Rattle.eg_model.specs.Engines.{BenchEngine}
use Rattle.eg_model.specs.Records.{is_before_onset}
use Rattle.eg_laws.specs.Paths.{trips, opened_1, opened_2, FollowsLatches, RowsFollowLatches, IsTested, RecordsFollowLatches, RecordsTestPaths}
use Rattle.eg_model.proofs.TickLemmas.{Each, along, parts_of, nothing, Fields, fields, fields_in, bit_of, no_trip, moment-orders, tripped-cons, length-moments_in}
use Rattle.eg_model.proofs.TripLemmas.{latch1-cons}
use Rattle.eg_model.proofs.Silence.{latch2-cons, wrongs, wrongs-cons, with_wrong, verdict_none, period_least}
use Rattle.eg_model.proofs.SharpCutLaw.{AllGood}
use Rattle.eg_model.proofs.StartUpLaws.{tests_pass}
use Rattle.eg_model.proofs.SpanRows.{rows_after, length-rows_after, SpanRows, row_tick}
use Rattle.eg_model.proofs.RecordSpans.{SpanTo, SpanIn, span_in, kind_by}
use Rattle.eg_model.proofs.RecordLaws.{each_drive}
use Rattle.eg_laws.proofs.FewVerdicts.{shut_unless_confirmed, too_few, quotient_short, no_less, closes, NoneOpens}

-- ---- each row, with those before it ----

unfoldable pub EachRow : (Row → List Row → Type 0) → List Row → Type 0
EachRow P [] = Unit {0}
EachRow P (row ∷ before) = P row before × EachRow P before

pub each_split : (P : Row → List Row → Type 0) (rows later : List Row) (row : Row) (before : List Row) → EachRow P rows → rows ≡ later ++ row ∷ before → P row before
unfolding EachRow
each_split P [] [] row before each e = absurd (nothing e)
each_split P [] (y ∷ later) row before each e = absurd (nothing e)
each_split P (x ∷ rows) [] row before each e = along P e each.0
each_split P (x ∷ rows) (y ∷ later) row before each e = each_split P rows later row before each.1 (parts_of e).1

-- ---- a drive span ----

module _ (s : Setting) (start : ℕ) where
  abbrev Now : Tick → List Tick → Moment
  Now x h = moment s x.effects x.entry (moments_of s h)

  abbrev RowNow : Tick → List Tick → Row
  RowNow x h = row_of (start + length (moments_of s h)) (Now x h)

  pub trips_row : (x : Tick) (h : List Tick) → trips (RowNow x h) ≡ (Now x h).trip
  unfolding trips row_of
  trips_row x h = sym (fields s x.effects x.entry (moments_of s h)).trip

  trips_rows : (h : List Tick) → list_any trips (SpanRows s start h) ≡ tripped (moments_of s h)
  unfolding rows_after moments_of tripped
  trips_rows [] = refl
  trips_rows (x ∷ h) = ap₂ (λ a b. a || b) (trips_row x h) (trips_rows h)

  -- what the fault does at the tick of a row
  acts : (x : Tick) (h : List Tick) → x.effects ≡ effects s.fault (start + length h) → effects s.fault (RowNow x h).tick ≡ x.effects
  acts x h is = ap (effects s.fault) (row_tick s start x h) ∙ sym is

  answers_are : (x : Tick) (h : List Tick) → (RowNow x h).found.answers ≡ (Now x h).confirms
  unfolding row_of
  answers_are x h = (fields s x.effects x.entry (moments_of s h)).answers

  opened_1_is : (h : List Tick) → Follows s.fault start h → opened_1 s.fault (SpanRows s start h) ≡ latch1 (moments_of s h)
  unfolding rows_after moments_of opened_1 Follows
  opened_1_is [] follows = unfold latch1 in refl
  opened_1_is (x ∷ h) follows =
      ap₂ (λ a b. a || b) (ap₂ (λ (e : Effects) t. e.ran REACT && t) (acts x h follows.0) (trips_rows (x ∷ h))
      ∙ sym (moment-orders s x.effects x.entry (moments_of s h))) (opened_1_is h follows.1)
      ∙ sym (latch1-cons (Now x h) (moments_of s h))

  opened_2_is : (h : List Tick) → Follows s.fault start h → opened_2 s.fault (SpanRows s start h) ≡ latch2 (moments_of s h)
  unfolding rows_after moments_of opened_2 Follows
  opened_2_is [] follows = unfold latch2 in refl
  opened_2_is (x ∷ h) follows =
      ap₂ (λ a b. a || b) (ap₂ (λ a b. a || b) (answers_are x h)
      (ap (λ (e : Effects). e.opens) (acts x h follows.0) ∙ sym (fields s x.effects x.entry (moments_of s h)).opens)) (opened_2_is h follows.1)
      ∙ sym (latch2-cons (Now x h) (moments_of s h))

  follow : (x : Tick) (h : List Tick) → Follows s.fault start (x ∷ h) → FollowsLatches s.fault (RowNow x h) (SpanRows s start h)
  unfolding row_of Follows path1_at path2_at
  follow x h follows = record {
    path1 = (fields s x.effects x.entry (moments_of s h)).path1
        ∙ ap₂ (λ (e : Effects) b. e.conducts PATH_1 b) (sym (acts x h follows.0)) (sym (opened_1_is h follows.1));
    path2 = (fields s x.effects x.entry (moments_of s h)).path2
        ∙ ap₂ (λ (e : Effects) b. e.conducts PATH_2 b) (sym (acts x h follows.0)) (sym (opened_2_is h follows.1));
  }

  all_follow : (h : List Tick) → Follows s.fault start h → EachRow (FollowsLatches s.fault) (SpanRows s start h)
  unfolding EachRow rows_after moments_of Follows
  all_follow [] follows = tt
  all_follow (x ∷ h) follows = (follow x h follows, all_follow h follows.1)

-- ---- a test span in which nothing is out of order ----

module _ (s : Setting) where
  abbrev Past : List Tick → List Moment
  Past h = moments_in Test s h

  abbrev Then : Tick → List Tick → Moment
  Then x h = moment_in Test s x.effects x.entry (Past h)

  -- no watch trips
  none_found : (w : WeightParts) (bit : Signals → Bool) (feeds : Bool) (now : Signals) (past : List Moment) → feeds ≡ false → finds w bit feeds now past ≡ false
  unfolding finds
  none_found w bit feeds now past none = rw none refl

  no_trip_now : (x : Tick) (h : List Tick) → IsUndisturbed x → (Then x h).trip ≡ false
  unfolding drives
  no_trip_now x h plain = no_trip f (f.mirror ∙ ap (λ (e : Effects). is_some e.flip) plain ∙ (unfold no_effects in refl))
      (λ p. f.pair p ∙ none_found s.cal.rules.pair (bit_of p) _ (Then x h).signals (Past h) f.feeds)
      (f.torque ∙ none_found s.cal.rules.torque torque_bit _ (Then x h).signals (Past h) f.feeds)
    where
      f : Fields Test (drives Test) s x.effects x.entry (Past h) (Then x h)
      f = fields_in Test s x.effects x.entry (Past h)

  untripped : (h : List Tick) → All IsUndisturbed h → tripped (Past h) ≡ false
  unfolding moments_in
  untripped [] plain = unfold tripped in refl
  untripped (x ∷ h) plain = tripped-cons (Then x h) (Past h)
      ∙ or_from _ _ (no_trip_now x h (All-head IsUndisturbed x h plain)) (untripped h (All-tail IsUndisturbed x h plain))

  -- so path 1 isn't ordered open before react is told to
  none_ordered : (ran told trip before : Bool) → told ≡ false → trip ≡ false → before ≡ false → (ran && (told || (trip || before))) ≡ false
  none_ordered true told trip before a b c = or_from _ _ a (or_from _ _ b c)
  none_ordered false told trip before a b c = refl

  shut_1 : (h : List Tick) → All IsUndisturbed h → length h < test_ticks_of s.cal.times → latch1 (Past h) ≡ false
  unfolding moments_in orders_open is_told_to_open
  shut_1 [] plain early = unfold latch1 in refl
  shut_1 (x ∷ h) plain early = latch1-cons (Then x h) (Past h)
      ∙ or_from _ _ ((fields_in Test s x.effects x.entry (Past h)).orders
      ∙ none_ordered (x.effects.ran REACT) _ _ _
      (ne_eqb _ _ (λ same. let size = length-moments_in Test s h in absurd (omega (arith, same, size, early))))
      (no_trip_now x h (All-head IsUndisturbed x h plain)) (untripped h (All-tail IsUndisturbed x h plain)))
      (shut_1 h (All-tail IsUndisturbed x h plain) (omega (arith, early)))

  -- and as long as too few periods have ended wrong answers aren't confirmed
  one_longer : (v : Option Verdict) (bits : List Bool) → length (with_wrong v bits) ≤ suc (length bits)
  unfolding with_wrong
  one_longer None bits = omega arith
  one_longer (Some v) bits = omega arith

  none_longer : (bits : List Bool) → length (with_wrong None bits) ≡ length bits
  unfolding with_wrong
  none_longer bits = refl

  few_verdicts : AreTimes s.cal.times → (h : List Tick) → length (wrongs (Past h)) ≤ length h / s.cal.times.period
  unfolding moments_in
  few_verdicts are [] = go (unfold wrongs verdicts_in in refl)
    where
      go : length (wrongs []) ≡ 0 → length (wrongs []) ≤ 0 / s.cal.times.period
      go e = omega (arith, e)
  few_verdicts are (x ∷ h) = go (few_verdicts are h) ((length h + 1) % s.cal.times.period) refl
    where
      some : 0 < s.cal.times.period
      some = period_least s.cal.times are

      more : length (wrongs (Then x h ∷ Past h)) ≡ length (with_wrong (Then x h).verdict (wrongs (Past h)))
      more = ap length (wrongs-cons (Then x h) (Past h))

      go : length (wrongs (Past h)) ≤ length h / s.cal.times.period → (n : ℕ) → (length h + 1) % s.cal.times.period ≡ n → length (wrongs (Then x h ∷ Past h)) ≤ suc (length h) / s.cal.times.period
      go before zero ends =
          let longer = one_longer (Then x h).verdict (wrongs (Past h)) in
          let grown = closes s.cal.times.period (length h) some ends in
          omega (arith, more, longer, before, grown)
      go before (suc n) inside =
          let none : (Then x h).verdict ≡ None = (fields_in Test s x.effects x.entry (Past h)).verdict
          ∙ verdict_none s.cal.times are x.effects _ (Past h)
          (subst (λ k. 0 < (k + 1) % s.cal.times.period) (sym (length-moments_in Test s h)) (omega (arith, inside))) in
          let same = more ∙ ap (λ v. length (with_wrong v (wrongs (Past h)))) none ∙ none_longer (wrongs (Past h)) in
          let grown = no_less s.cal.times.period (length h) some in
          omega (arith, same, before, grown)

  none_opens : (h : List Tick) → All IsUndisturbed h → NoneOpens h
  unfolding Each
  none_opens [] plain = tt
  none_opens (x ∷ h) plain = (
    ap (λ (e : Effects). e.opens) (All-head IsUndisturbed x h plain) ∙ (unfold no_effects in refl),
    none_opens h (All-tail IsUndisturbed x h plain),
  )

  shut_2 : IsAccepted s.cal → (h : List Tick) → All IsUndisturbed h → length h < test_ticks_of s.cal.times → latch2 (Past h) ≡ false
  unfolding test_ticks_of feeds_to_confirm
  shut_2 accepted h plain early = shut_unless_confirmed Test s h (none_opens h plain)
      (subst (λ bits. is_confirmed s.cal.times.weights bits ≡ false) (append-nil (wrongs (Past h)))
      (too_few s.cal.times.weights (wrongs (Past h)) [] (omega (arith, accepted.answers.3)) (unfold AllGood in tt)
      (quotient_short s.cal.times.weights.limit s.cal.times.weights.up (length (wrongs (Past h)))
      (omega (arith, accepted.answers.3)) (omega (arith, accepted.answers.0))
      (let few = few_verdicts accepted.times h in
      let less = (div-lt_iff_lt-mul (period_least s.cal.times accepted.times)).1 early in omega (arith, few, less)))))

  -- ---- the paths at a tick of the test ----

  abbrev Both : Tick → List Tick → Bool → Type 0
  Both x h on = ((Then x h).path1 ≡ on) × ((Then x h).path2 ≡ on)

  conduct : IsAccepted s.cal → (x : Tick) (h : List Tick) → All IsUndisturbed (x ∷ h) → length h < test_ticks_of s.cal.times → Both x h true
  unfolding path1_at path2_at
  conduct accepted x h plain early = (
    (fields_in Test s x.effects x.entry (Past h)).path1 ∙ at PATH_1 (latch1 (Past h)) (shut_1 h rest early),
    (fields_in Test s x.effects x.entry (Past h)).path2 ∙ at PATH_2 (latch2 (Past h)) (shut_2 accepted h rest early),
  )
    where
      rest : All IsUndisturbed h
      rest = All-tail IsUndisturbed x h plain

      at : (path : ℕ) (latch : Bool) → latch ≡ false → x.effects.conducts path latch ≡ true
      at path latch shut = ap₂ (λ (e : Effects) b. e.conducts path b) (All-head IsUndisturbed x h plain) shut ∙ (unfold no_effects in refl)

  both_off : (reads a b : Bool) → (reads && not (a || b)) ≡ true → (a ≡ false) × (b ≡ false)
  both_off reads a b e = (grind arith, grind arith)

  open_at_end : IsAccepted s.cal → (x : Tick) (h : List Tick) → All IsUndisturbed (x ∷ h) → length h ≡ test_ticks_of s.cal.times → Both x h false
  open_at_end accepted x h plain last = both_off _ _ _
      (sym (fields_in Test s x.effects x.entry (Past h)).passes ∙ (tests_pass s accepted x h plain).passes last)

  tested : IsAccepted s.cal → (x : Tick) (h : List Tick) → All IsUndisturbed (x ∷ h) → length h ≤ test_ticks_of s.cal.times →
      Both x h (nat_lt (length h) (test_ticks_of s.cal.times))
  tested accepted x h plain within = elim (cases_lt (length h) (test_ticks_of s.cal.times)) [
    | inl early ↦ subst (Both x h) (sym (lt-ltb _ _ early)) (conduct accepted x h plain early)
    | inr last ↦ subst (Both x h) (sym (le-ltb _ _ last)) (open_at_end accepted x h plain (omega (arith, last, within)))
  ]

  -- ---- the rows of the test ----

  module _ (accepted : IsAccepted s.cal) (start : ℕ) where
    quiet : (fault : Option Fault) (t u : ℕ) → is_before_onset fault t ≡ true → u ≤ t → effects fault u ≡ no_effects
    unfolding is_before_onset
    quiet None t u early le = unfold effects in refl
    quiet (Some f) t u early le = before_onset f u (let less = ltb-true _ _ early in omega (arith, less, le))

    quiet_ticks : (t : ℕ) → is_before_onset s.fault t ≡ true → (h : List Tick) → Follows s.fault start h → start + length h ≤ t + 1 →
        All IsUndisturbed h
    unfolding Follows
    quiet_ticks t early [] follows within = All-nil IsUndisturbed
    quiet_ticks t early (x ∷ h) follows within = All-cons IsUndisturbed x h
        (follows.0 ∙ quiet s.fault t (start + length h) early (omega (arith, within))) (quiet_ticks t early h follows.1 (omega (arith, within)))

    abbrev Tested : Row → List Row → Type 0
    Tested row before = is_before_onset s.fault row.tick ≡ true → row.testing ≡ true → IsTested (test_ticks_of s.cal.times) row before

    row_tested : (x : Tick) (h : List Tick) → Follows s.fault start (x ∷ h) → Tested (row_of (start + length (Past h)) (Then x h)) (rows_after start (Past h))
    unfolding row_of is_testing
    row_tested x h follows early testing = record {
      path1 = both.0 ∙ ap (λ n. nat_lt n (test_ticks_of s.cal.times)) (sym same);
      path2 = both.1 ∙ ap (λ n. nat_lt n (test_ticks_of s.cal.times)) (sym same);
    }
      where
        same : length (rows_after start (Past h)) ≡ length h
        same = length-rows_after start (Past h) ∙ length-moments_in Test s h

        within : length (Past h) ≤ test_ticks_of s.cal.times
        within = leb-true _ _ (sym (fields_in Test s x.effects x.entry (Past h)).testing ∙ testing)

        both : Both x h (nat_lt (length h) (test_ticks_of s.cal.times))
        both = tested accepted x h
            (quiet_ticks (start + length (Past h)) early (x ∷ h) follows (let size = length-moments_in Test s h in omega (arith, size)))
            (let size = length-moments_in Test s h in omega (arith, size, within))

    all_tested : (h : List Tick) → Follows s.fault start h → EachRow Tested (rows_after start (Past h))
    unfolding EachRow rows_after moments_in Follows
    all_tested [] follows = tt
    all_tested (x ∷ h) follows = (row_tested x h follows, all_tested h follows.1)

-- ---- each record ----

module _ {E : Type 0} (b : BenchEngine E) where
  pub records_follow_latches : RecordsFollowLatches b
  records_follow_latches r = each_drive b (RowsFollowLatches r.setting.fault) r
      (λ start count span is later row before e. each_split (FollowsLatches r.setting.fault) _ later row before
      (all_follow r.setting start (SpanTo b r count) is.follows) e)

  pub records_test_paths : RecordsTestPaths b
  records_test_paths r run newer span older e is later row before split =
      each_split (Tested r.setting run.accepted (length older)) _ later row before
      (all_tested r.setting run.accepted (length older) (SpanTo b r (length (span ++ older))) known.follows) (sym known.rows_are ∙ split)
    where
      known : SpanIn b r (length older) (length (span ++ older)) Test span
      known = unfold kind_by in span_in b r newer span older e is.span true is.tests
