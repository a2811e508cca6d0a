-- Which lapses keep missing ticks, and that these are cut, by the rows of records.
use Rattle.std.proofs.Common.{◌≡◌, ◌∙◌, refl, sym, ap, subst, ℕ, ◌+◌, ◌-◌, ◌*◌, ◌/◌, ◌%◌, ◌≤◌, ◌<◌, Bool, true, false, not, List, [], ◌∷◌, ◌++◌, All, length, length-append, append_assoc, arith, Some, max}
use Rattle.std.proofs.lemmas.Bool.{true≢false, ne_eqb}
use Rattle.std.proofs.Math.Nat.{mod-lt, lt-div-mul-add, div-mul-le_self, add-mul-mod_self_right}
use Rattle.eg_num.specs.Windows.{first_index}
use Rattle.eg_answer.specs.Times.{feeds_to_confirm, reaction_of}
use Rattle.eg_values.specs.Calibration.{IsAccepted}
use Rattle.eg_plant.specs.PlantParts.{PlantParts}
use Rattle.eg_fault.specs.Effects.{no_effects}
use Rattle.eg_fault.specs.Faults.{is_left_out, effects_of}
use Rattle.eg_fault.specs.declared.class.Class.TheVariants.{Lapse}
use Rattle.eg_fault.specs.declared.class.Fault.{Fault}
use Rattle.eg_fault.proofs.ActingLemmas.{at_tick, from_onset}
use Rattle.eg_record.specs.declared.row.Row.{Row}
use Rattle.eg_record.specs.Excess.{true_excess}
use Rattle.eg_model.specs.History.{Setting, Tick}
use Rattle.eg_model.specs.Answers.{is_whole}
use Rattle.eg_model.specs.Premises.{Follows, AreProper, is_on_after, true_excesses}
use Rattle.eg_model.specs.Records.{ReactWithin}
use Rattle.eg_model.specs.Engines.{BenchEngine, KeepsBenchLaws}
use Rattle.eg_laws.specs.Availability.{misses_tick}
use Rattle.eg_laws.specs.MissedTicks.{KeepsMissing, LapsesKeepMissing, NeverRunsAgain, CutForGood, MissesAreCut, RecordsCutMisses, RecordsCutForGood, MissesOpenPath2, RecordsOpenAtMisses}
use Rattle.eg_model.proofs.Silence.{period_least}
use Rattle.eg_model.proofs.SpanRows.{Between, between, follows-end, proper-end, SpanRows, RowAfter, row_on, row_tick, all_rows, true_unnumbered, bits_after, IsFirstAt, first_confirms}
use Rattle.eg_model.proofs.SpanLaws.{reaction_least}
use Rattle.eg_model.proofs.RecordSpans.{SpanTo}
use Rattle.eg_model.proofs.RecordLaws.{each_drive, proper_span}
use Rattle.eg_model.proofs.SharpCutLaw.{whole_plain}
use Rattle.eg_laws.proofs.SingleMisses.{whole_lapse}
use Rattle.eg_laws.proofs.FindingLaws.{found_by_off}
use Rattle.eg_laws.proofs.StretchRows.{rows_end_stretches}
use Rattle.eg_fault.specs.Classes.{closes}
use Rattle.eg_model.specs.Lapses.{IsLapse}
use Rattle.eg_laws.proofs.CoverageLaws.{open_at}
use Rattle.eg_laws.proofs.OneVerdict.{latched}
use Rattle.eg_laws.proofs.MissedTickLaws.{lapse_opens_none, off_on, misses_react}

-- ---- which lapses ----

in_turn : (after : List ℕ) (every k turns : ℕ) → 1 ≤ every → is_left_out after every (k + turns * every) ≡ is_left_out after every k
unfolding is_left_out
in_turn after every k turns some = rw (ne_eqb every 0 (λ none. omega (arith, some, none)), add-mul-mod_self_right k turns every) refl

module _ (onset : ℕ) (after : List ℕ) (every : ℕ) where
  abbrev lapse : Fault
  lapse = record { onset = onset; class = Lapse after every }

  misses-is : (tick : ℕ) → onset ≤ tick → misses_tick (Some lapse) tick ≡ is_left_out after every (tick - onset)
  unfolding misses_tick effects_of
  misses-is tick from = ap (λ x. not (is_whole x)) (from_onset lapse tick from) ∙ not_run (is_left_out after every (tick - onset))
    where
      not_run : (out : Bool) → not (is_whole (record no_effects { ran = λ i. not out })) ≡ out
      not_run out = ap not (whole_lapse out) ∙ both out
        where
          both : (b : Bool) → not (not b) ≡ b
          both b = grind arith

  -- no tick before the onset is missed
  begun : (tick : ℕ) → misses_tick (Some lapse) tick ≡ true → onset ≤ tick
  unfolding misses_tick
  begun tick misses = at_tick (λ x. not (is_whole x) ≡ true → onset ≤ tick) lapse tick
      (λ early none. absurd (true≢false (sym none ∙ ap not whole_plain))) (λ from out. from) misses

  -- a tick that comes whole turns after a missed one is missed too
  missed_again : (tick turns : ℕ) → 1 ≤ every → misses_tick (Some lapse) tick ≡ true → misses_tick (Some lapse) (tick + turns * every) ≡ true
  missed_again tick turns some misses = let from = begun tick misses in
      misses-is (tick + turns * every) (omega (arith, from))
      ∙ ap (is_left_out after every) (later tick onset (turns * every) from) ∙ in_turn after every (tick - onset) turns some
      ∙ sym (misses-is tick from) ∙ misses
    where
      later : (t o n : ℕ) → o ≤ t → t + n - o ≡ t - o + n
      later t o n l = omega (arith, l)

-- the turns after which a tick that far away has come
turns_to : (every away : ℕ) → 1 ≤ every → (turns : ℕ) × (away ≤ turns * every) × (turns * every < away + every)
turns_to every away some = (
  (away + (every - 1)) / every,
  (let long = lt-div-mul-add {a = away + (every - 1)} {b = every} some in omega (arith, long, some)),
  (let short = div-mul-le_self (away + (every - 1)) every in omega (arith, short, some)),
)

pub lapses_keep_missing : LapsesKeepMissing
lapses_keep_missing onset after every count some few = record {
  lapse = record { onset = onset; after = after; every = every; is = refl };
  again = λ first tick misses late. let turns = turns_to every (tick - first) some in record {
    missed = first + turns.0 * every;
    from = (let l = turns.1 in omega (arith, l, late));
    before = (let l = turns.2 in omega (arith, l, late, few));
    misses = missed_again onset after every first turns.0 some misses;
  };
}

always_out : (k : ℕ) → is_left_out (0 ∷ []) 1 k ≡ true
unfolding is_left_out
always_out k = rw (first (k % 1) (mod-lt k (omega arith))) refl
  where
    first : (n : ℕ) → n < 1 → n ≡ 0
    first n l = omega (arith, l)

pub never_runs_again : NeverRunsAgain
never_runs_again onset tick from = misses-is onset (0 ∷ []) 1 tick from ∙ always_out (tick - onset)

-- ---- by the rows ----

module _ (s : Setting) (accepted : IsAccepted s.cal) (keeps : KeepsMissing s.fault s.cal.times.period) (start : ℕ) (h : List Tick)
    (follows : Follows s.fault start h) where
  abbrev bound : ℕ
  bound = reaction_of s.cal.times

  off_after : (tick : ℕ) → start ≤ tick → misses_tick s.fault tick ≡ true →
      All (λ row. tick + bound ≤ row.tick → row.on ≡ false) (SpanRows s start h)
  off_after tick from misses = all_rows (λ row. tick + bound ≤ row.tick → row.on ≡ false) s start h
      (λ newer x before whole late. row_on s start x before ∙ off_on s accepted keeps start tick from misses x before
      (follows-end s.fault start newer (x ∷ before) (subst (Follows s.fault start) whole follows))
      (subst (λ n. tick + bound ≤ n) (row_tick s start x before) late))

  reacts_by : AreProper s h → ReactWithin bound s.cal.rules.torque s.cal.rules.threshold start (SpanRows s start h)
  reacts_by proper c first = all_rows (λ row. start + c + bound ≤ row.tick → row.on ≡ false) s start h
      (λ newer x before whole late. row_on s start x before ∙ off newer x before whole
      (subst (λ n. start + c + bound ≤ n) (row_tick s start x before) late))
    where
      bit : Row → Bool
      bit = true_excess s.cal.rules.threshold

      at : IsFirstAt s.cal.rules.torque bit s h c
      at = first_confirms s.cal.rules.torque bit s h c (subst (λ bits. first_index s.cal.rules.torque bits ≡ Some c)
          (bits_after bit (true_unnumbered s.cal.rules.threshold) s start h) first)

      confirmed : List Tick
      confirmed = at.at ∷ at.before

      off : (newer : List Tick) (x : Tick) (before : List Tick) → h ≡ newer ++ x ∷ before →
          start + c + bound ≤ start + length before → is_on_after s before x ≡ false
      off newer x before whole late = subst (λ g. is_on_after s g x ≡ false) (sym cut.ends)
          (misses_react s accepted keeps start confirmed (unfold true_excesses in at.confirmed) cut.more x
          (subst (λ g. Follows s.fault start (x ∷ g)) cut.ends
          (follows-end s.fault start newer (x ∷ before) (subst (Follows s.fault start) whole follows)))
          (subst (AreProper s) cut.ends (proper-end s (newer ++ x ∷ []) before (subst (AreProper s) (whole ∙ parted) proper)))
          (let sum = ap length cut.ends ∙ length-append cut.more confirmed in omega (arith, sum, late, at.size)))
        where
          parted : newer ++ x ∷ before ≡ (newer ++ x ∷ []) ++ before
          parted = sym (append_assoc newer (x ∷ []) before)

          cut : Between (newer ++ x ∷ []) before at.more confirmed
          cut = between (newer ++ x ∷ []) before at.more confirmed (sym parted ∙ sym whole ∙ at.whole)
              (let some = reaction_least s.cal.times accepted.times accepted.answers in omega (arith, some, at.size, late))

  misses_are_cut : AreProper s h → MissesAreCut s start (SpanRows s start h)
  misses_are_cut proper = record {
    reacts = reacts_by proper;
    stretches = rows_end_stretches s start h accepted follows proper (misses_react s accepted keeps start);
    off = off_after;
    found = λ tick from misses. found_by_off s start h follows (lapse_opens_none s.fault keeps.lapse) (tick + bound)
        (let some = reaction_least s.cal.times accepted.times accepted.answers in omega (arith, some, from))
        (off_on s accepted keeps start tick from misses);
  }

module _ {E : Type 0} {b : BenchEngine E} {Keeps : PlantParts → E → Type 0} (laws : KeepsBenchLaws b Keeps) where
  pub records_cut_misses : RecordsCutMisses b
  records_cut_misses r run valid keeps = each_drive b (MissesAreCut r.setting) r
      (λ start count span is. misses_are_cut r.setting run.accepted keeps start (SpanTo b r count) is.follows
      (proper_span laws r run valid start count span is))

pub records_cut_for_good : {E : Type 0} (b : BenchEngine E) → RecordsCutForGood b
records_cut_for_good b r run onset is = each_drive b (CutForGood onset (reaction_of r.setting.cal.times)) r
    (λ start count span in_span. off_after r.setting run.accepted keeps start (SpanTo b r count) in_span.follows (max onset start) (omega arith)
    (subst (λ f. misses_tick f (max onset start) ≡ true) (sym is) (never_runs_again onset (max onset start) (omega arith))))
  where
    keeps : KeepsMissing r.setting.fault r.setting.cal.times.period
    keeps = subst (λ f. KeepsMissing f r.setting.cal.times.period) (sym is)
        (lapses_keep_missing onset (0 ∷ []) 1 r.setting.cal.times.period (omega arith) (period_least r.setting.cal.times run.accepted.times))

-- ---- where one wrong verdict confirms ----

module _ (s : Setting) (accepted : IsAccepted s.cal) (lapse : IsLapse s.fault) (single : feeds_to_confirm s.cal.times.weights ≡ 1)
    (start : ℕ) (h : List Tick) (follows : Follows s.fault start h) where
  misses_open : MissesOpenPath2 s start (SpanRows s start h)
  misses_open tick from out = all_rows (λ row. max tick start + reaction_of s.cal.times ≤ row.tick → row.path2 ≡ false) s start h
      (λ newer x before whole late. open_now x before
      (follows-end s.fault start newer (x ∷ before) (subst (Follows s.fault start) whole follows))
      (subst (λ n. max tick start + reaction_of s.cal.times ≤ n) (row_tick s start x before) late))
    where
      open_now : (x : Tick) (before : List Tick) → Follows s.fault start (x ∷ before) →
          max tick start + reaction_of s.cal.times ≤ start + length before → (RowAfter s start x before).path2 ≡ false
      open_now x before on late = open_at s (record { onset = lapse.onset; class = Lapse lapse.after lapse.every }) lapse.is
          (unfold closes in refl) start x before on
          (latched s accepted lapse start tick from out single before (unfold Follows in on.1) (omega (arith, late, from)))

pub records_open_on_misses : {E : Type 0} (b : BenchEngine E) → RecordsOpenAtMisses b
records_open_on_misses b r run lapse single = each_drive b (MissesOpenPath2 r.setting) r
    (λ start count span is. misses_open r.setting run.accepted lapse single start (SpanTo b r count) is.follows)
