-- What the numbers of `coverage` mean: what follows for the rows of a span.
use Rattle.std.proofs.Common.{◌≡◌, ◌∙◌, refl, sym, ap, ap₂, subst, ℕ, ◌+◌, ◌≤◌, ◌<◌, Bool, true, false, ◌&&◌, ◌||◌, max, List, [], ◌∷◌, ◌++◌, All, map, length, length-append, append_assoc, arith, inl, inr, Option, Some}
use Rattle.std.specs.List.{list_any}
use Rattle.std.proofs.lemmas.Bool.{cases_Bool, or_cases, or_left, or_right, and_from, and_right, true≢false}
use Rattle.std.proofs.lemmas.List.Elements.{All-head, All-nil, All-cons}
use Rattle.std.proofs.lemmas.Option.{same_Some}
use Rattle.std.proofs.lemmas.List.{map-append, length-map}
use Rattle.eg_num.specs.Windows.{WeightParts, is_confirmed, is_first, first_index}
use Rattle.eg_num.proofs.FirstIndexLemmas.{first_index-confirmed, first_index-first, first_index-other}
use Rattle.eg_answer.specs.declared.modules.TheConstants.{REACT}
use Rattle.eg_fault.specs.Effects.{Effects, no_effects}
use Rattle.eg_fault.specs.Faults.{effects}
use Rattle.eg_fault.specs.declared.class.Fault.{Fault}
use Rattle.eg_fault.specs.declared.paths.TheConstants.{PATH_1, PATH_2}
use Rattle.eg_record.specs.declared.row.Row.{Row}
use Rattle.eg_record.specs.declared.watch.Watch.TheVariants.{Answers}
use Rattle.eg_record.specs.Detection.{is_found}
use Rattle.eg_record.specs.Excess.{true_excess}
use Rattle.eg_record.specs.Spans.{EachDriveSpan}
use Rattle.eg_record.proofs.GivenLemmas.{Contains-head, Contains-tail}
use Rattle.eg_model.specs.History.{Setting, Tick}
use Rattle.eg_model.specs.Paths.{both_conduct}
use Rattle.eg_model.specs.Moments.{moments_of}
use Rattle.eg_model.specs.Reaction.{is_at_once}
use Rattle.eg_model.specs.Rows.{row_of as row_at, record_rows}
use Rattle.eg_model.specs.Engines.{BenchEngine}
use Rattle.eg_model.specs.Bench.{Run}
use Rattle.eg_model.specs.Records.{ReactWithin, RowsReactAtOnce}
use Rattle.eg_model.proofs.TickLemmas.{fields, length-moments}
use Rattle.eg_model.proofs.SpanRows.{RowAfter, row_tick, all_rows, length-rows_after, LastTick, last_tick}
use Rattle.eg_model.proofs.RecordSpans.{SpanTo}
use Rattle.eg_model.proofs.RecordLaws.{each_drive}
use Rattle.eg_laws.specs.Findings.{Finds}
use Rattle.eg_laws.specs.Paths.{trips, opened_1, opened_2, RowsFollowLatches}
use Rattle.eg_laws.specs.Availability.{has_tripped}
use Rattle.eg_laws.specs.Availability as available
use Rattle.eg_laws.specs.PairsFound.{Pair, Pedal, Plate, Load, Speed, finds_pair, has_found}
use Rattle.eg_laws.specs.Coverage.{OpensPath2}
use Rattle.eg_laws.proofs.PairsFoundLaws.{All-end}
use Rattle.eg_desk.specs.Coverage.{found}
use Rattle.eg_desk.specs.Means.{IsOffFrom, FindsAnswersWithin, FindsApart, CutsApart}

-- ---- rows ----

-- what holds of each row holds of one of them, and the other way round
pub at_row : (P : Row → Type 0) (rows later : List Row) (row : Row) (before : List Row) → rows ≡ later ++ row ∷ before → All P rows →
    P row
at_row P rows later row before e all = All-head P row before (All-end P later (row ∷ before) (subst (All P) e all))

pub all_by : (P : Row → Type 0) (rows : List Row) →
    ((later before : List Row) (row : Row) → rows ≡ later ++ row ∷ before → P row) → All P rows
all_by P [] p = All-nil P
all_by P (x ∷ rows) p = All-cons P x rows (p [] rows x refl)
    (all_by P rows (λ later before row e. p (x ∷ later) before row (ap (λ k. x ∷ k) e)))

any_more : (p q : Row → Bool) → ((row : Row) → p row ≡ true → q row ≡ true) → (rows : List Row) →
    list_any p rows ≡ true → list_any q rows ≡ true
any_more p q more [] e = absurd (true≢false (sym e))
any_more p q more (row ∷ rows) e = elim (or_cases (p row) (list_any p rows) e) [
  | inl now ↦ or_left _ _ (more row now)
  | inr before ↦ or_right (q row) _ (any_more p q more rows before)
]

pub any_append : (p : Row → Bool) (front rows : List Row) → list_any p rows ≡ true → list_any p (front ++ rows) ≡ true
any_append p [] rows e = e
any_append p (row ∷ front) rows e = or_right (p row) _ (any_append p front rows e)

-- ---- whether the stages are on ----

abbrev pub IsBoth : Row → Type 0
IsBoth row = row.on ≡ (row.path1 && row.path2)

both_at : (s : Setting) (start : ℕ) (x : Tick) (h : List Tick) → IsBoth (RowAfter s start x h)
unfolding row_at both_conduct
both_at s start x h = let f = fields s x.effects x.entry (moments_of s h) in f.on ∙ sym (ap₂ (λ a b. a && b) f.path1 f.path2)

pub both_paths : {E : Type 0} (b : BenchEngine E) (r : Run) → EachDriveSpan (λ start rows. All IsBoth rows) (record_rows b r)
both_paths b r = each_drive b (λ start rows. All IsBoth rows) r
    (λ start count span is. all_rows IsBoth r.setting start (SpanTo b r count)
    (λ newer x before whole. both_at r.setting start x before))

pub off_by_1 : (row : Row) → IsBoth row → row.path1 ≡ false → row.on ≡ false
off_by_1 row both none = both ∙ ap (λ a. a && row.path2) none

pub off_by_2 : (row : Row) → IsBoth row → row.path2 ≡ false → row.on ≡ false
off_by_2 row both none = both ∙ and_right row.path1 row.path2 none

-- ---- what a fault does to the paths ----

-- both paths obey their latches, react runs, and nothing orders path 2 open
pub record Obeys (x : Effects) : Type 0 where
  pub open_1 : x.conducts PATH_1 true ≡ false
  pub open_2 : x.conducts PATH_2 true ≡ false
  pub shut_2 : x.conducts PATH_2 false ≡ true
  pub orders : x.opens ≡ false

abbrev pub Runs : Effects → Type 0
Runs x = x.ran REACT ≡ true

pub obeys_plain : Obeys no_effects
unfolding no_effects
obeys_plain = record { open_1 = refl; open_2 = refl; shut_2 = refl; orders = refl }

pub runs_plain : Runs no_effects
unfolding no_effects
runs_plain = refl

module _ (f : Fault) (start : ℕ) (rows : List Row) (follow : RowsFollowLatches (Some f) start rows)
    (both : All IsBoth rows) where
  -- where a trip came the latch of path 1 is open at the next row
  opened_by_trip : ((t : ℕ) → Runs (effects (Some f) t)) → (before : List Row) → list_any trips before ≡ true →
      opened_1 (Some f) before ≡ true
  unfolding opened_1
  opened_by_trip runs [] e = absurd (true≢false (sym e))
  opened_by_trip runs (row ∷ before) e = or_left _ _ (and_from _ _ (runs row.tick) e)

  pub off_after_trip : ((t : ℕ) → Runs (effects (Some f) t)) → ((t : ℕ) → Obeys (effects (Some f) t)) →
      (later before : List Row) (row : Row) → rows ≡ later ++ row ∷ before → list_any trips before ≡ true → row.on ≡ false
  off_after_trip runs obeys later before row e trip = off_by_1 row (at_row IsBoth rows later row before e both)
      ((follow later row before e).path1 ∙ ap ((effects (Some f) row.tick).conducts PATH_1) (opened_by_trip runs before trip)
      ∙ (obeys row.tick).open_1)

  -- where path 2 was opened, and nothing orders that, `answers` was found
  found_answers : ((t : ℕ) → Obeys (effects (Some f) t)) → (before : List Row) → opened_2 (Some f) before ≡ true →
      Finds (Answers ∷ []) before
  unfolding opened_2 is_found
  found_answers obeys [] e = absurd (true≢false (sym e))
  found_answers obeys (row ∷ before) e = elim (or_cases (row.found.answers || (effects (Some f) row.tick).opens) _ e) [
    | inl now ↦ elim (or_cases row.found.answers (effects (Some f) row.tick).opens now) [
      | inl found ↦ record {
        row = row;
        stands = Contains-head row before;
        watch = Answers;
        is_one = (0, (omega arith), refl);
        found = found;
      }
      | inr opens ↦ absurd (true≢false (sym opens ∙ (obeys row.tick).orders))
    ]
    | inr earlier ↦ (let g = found_answers obeys before earlier in record {
      row = g.row;
      stands = Contains-tail row before g.row g.stands;
      watch = g.watch;
      is_one = g.is_one;
      found = g.found;
    })
  ]

  -- where path 2 doesn't conduct from a tick on, they were found by then, and the stages are off
  pub answers_within : ((t : ℕ) → Obeys (effects (Some f) t)) → (onset n : ℕ) → OpensPath2 onset n start rows →
      FindsAnswersWithin onset n start rows
  answers_within obeys onset n opens later before row e late = go (opened_2 (Some f) before) refl
    where
      shut : (effects (Some f) row.tick).conducts PATH_2 (opened_2 (Some f) before) ≡ false
      shut = sym (follow later row before e).path2
          ∙ at_row (λ r. max onset start + n ≤ r.tick → r.path2 ≡ false) rows later row before e opens late

      go : (b : Bool) → opened_2 (Some f) before ≡ b → Finds (Answers ∷ []) before
      go true is = found_answers obeys before is
      go false is = absurd (true≢false (sym (ap ((effects (Some f) row.tick).conducts PATH_2) is ∙ (obeys row.tick).shut_2)
          ∙ shut))

  pub off_within : (onset n : ℕ) → OpensPath2 onset n start rows → IsOffFrom onset n start rows
  off_within onset n opens = all_by (λ row. max onset start + n ≤ row.tick → row.on ≡ false) rows (λ later before row e late.
      off_by_2 row (at_row IsBoth rows later row before e both)
      (at_row (λ r. max onset start + n ≤ r.tick → r.path2 ≡ false) rows later row before e opens late))

-- ---- pairs ----

-- a pair whose watch trips
unfoldable pub cuts : Pair → Bool
cuts Pedal = false
cuts _ = true

pair_trips : (pair : Pair) → cuts pair ≡ true → (row : Row) → finds_pair pair row.found ≡ true → trips row ≡ true
unfolding cuts finds_pair trips
pair_trips Pedal e row found = absurd (true≢false (sym e))
pair_trips Plate e row found = grind arith
pair_trips Load e row found = grind arith
pair_trips Speed e row found = grind arith

pub mirror_trips : (row : Row) → row.found.mirror ≡ true → trips row ≡ true
unfolding trips
mirror_trips row found = grind arith

tripped_rows : (rows : List Row) → has_tripped rows ≡ true → list_any trips rows ≡ true
unfolding has_tripped trips available.trips
tripped_rows rows e = any_more (λ row. available.trips row.found) trips (λ row now. now) rows e

pub cuts_apart : (pair : Pair) → cuts pair ≡ true → (s : Setting) (f : Fault) (n start : ℕ) (rows : List Row) →
    RowsFollowLatches (Some f) start rows → All IsBoth rows → ((t : ℕ) → Runs (effects (Some f) t)) →
    ((t : ℕ) → Obeys (effects (Some f) t)) → FindsApart pair s n start rows → CutsApart pair s n start rows
unfolding has_found
cuts_apart pair trips_it s f n start rows follow both runs obeys finds later stretch before e all enough =
    all_by (λ row. row.on ≡ false) later (λ newer mid row split. off_after_trip f start rows follow both runs obeys newer
    (mid ++ (stretch ++ before)) row (e ∙ ap (λ l. l ++ (stretch ++ before)) split ∙ along newer row mid)
    (any_append trips mid (stretch ++ before) came))
  where
    came : list_any trips (stretch ++ before) ≡ true
    came = elim (finds later stretch before e all enough) [
      | inl found ↦ any_more (λ row. finds_pair pair row.found) trips (pair_trips pair trips_it) (stretch ++ before) found
      | inr trip ↦ tripped_rows (stretch ++ before) trip
    ]

    along : (newer : List Row) (row : Row) (mid : List Row) →
        (newer ++ row ∷ mid) ++ (stretch ++ before) ≡ newer ++ row ∷ (mid ++ (stretch ++ before))
    along [] row mid = refl
    along (x ∷ newer) row mid = ap (λ k. x ∷ k) (along newer row mid)

-- ---- a reaction at once ----

-- a row of a drive span has the number of the rows before it, counted from the span's begin
abbrev pub IsPlaced : (start : ℕ) → List Row → Type 0
IsPlaced start rows = (later before : List Row) (row : Row) → rows ≡ later ++ row ∷ before → row.tick ≡ start + length before

pub placed : {E : Type 0} (b : BenchEngine E) (r : Run) → EachDriveSpan IsPlaced (record_rows b r)
placed b r = each_drive b IsPlaced r (λ start count span is later before row e. place start later before row
    (last_tick r.setting start (SpanTo b r count) is.follows later before row e))
  where
    place : (start : ℕ) (later before : List Row) (row : Row) → LastTick r.setting start row before →
        row.tick ≡ start + length before
    place start later before row last = ap (λ (y : Row). y.tick) last.row_is ∙ row_tick r.setting start last.tick last.past
        ∙ ap (λ n. start + n) (sym (ap length last.before_are ∙ length-rows_after start (moments_of r.setting last.past)
        ∙ length-moments r.setting last.past))

-- a list that goes on from its first place on was confirmed by then
confirmed_by : (w : WeightParts) (more bits : List Bool) (c : ℕ) → first_index w (more ++ bits) ≡ Some c → c < length bits →
    is_confirmed w bits ≡ true
confirmed_by w [] bits c first below = first_index-confirmed w bits c first
confirmed_by w (bit ∷ more) bits c first below = elim (cases_Bool (is_first w (bit ∷ (more ++ bits)))) [
  | inl now ↦ absurd (let same : length (more ++ bits) ≡ c = same_Some _ _ (sym (first_index-first w bit (more ++ bits) now)
      ∙ first) in
      let sum = length-append more bits in omega (arith, same, sum, below))
  | inr other ↦ confirmed_by w more bits c (sym (first_index-other w bit (more ++ bits) other) ∙ first) below
]

pub react_next : (fault : Option Fault) (w : WeightParts) (threshold start : ℕ) (rows : List Row) → ((t : ℕ) →
    is_at_once fault t ≡ true) →
    IsPlaced start rows → RowsReactAtOnce fault w threshold start rows → ReactWithin 1 w threshold start rows
react_next fault w threshold start rows soon place law c first =
    all_by (λ row. start + c + 1 ≤ row.tick → row.on ≡ false) rows (λ later before row e late.
    at_row (λ y. y.on ≡ false) (later ++ row ∷ []) later row [] refl (law (later ++ row ∷ []) before
    (e ∙ sym (append_assoc later (row ∷ []) before)) (confirmed later before row e late) (soon (start + length before))))
  where
    bit : Row → Bool
    bit = true_excess threshold

    confirmed : (later before : List Row) (row : Row) → rows ≡ later ++ row ∷ before → start + c + 1 ≤ row.tick →
        is_confirmed w (map bit before) ≡ true
    confirmed later before row e late = confirmed_by w (map bit (later ++ row ∷ [])) (map bit before) c
        (subst (λ l. first_index w l ≡ Some c) (ap (map bit) (e ∙ sym (append_assoc later (row ∷ []) before))
        ∙ map-append bit (later ++ row ∷ []) before) first)
        (let at = place later before row e in let size = length-map before bit in omega (arith, late, at, size))
