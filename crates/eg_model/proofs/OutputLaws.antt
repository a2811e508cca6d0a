-- What is true of a tick but for level 1's world depends on what comes in but for the slices, and on the ticks before
-- but for level 1's world: whatever is read of them is the same of the bare ones, which are without level 1.
use Rattle.std.proofs.Common.{◌≡◌, ◌∙◌, refl, sym, ap, ap₂, ℕ, Bool, true, false, ◌||◌, ◌&&◌, ◌-◌, List, [], ◌∷◌, map, take, length, Option, Some, None}
use Rattle.std.specs.Prelude.{filter, if◌then◌else◌}
use Rattle.std.proofs.lemmas.List.{length-map, take-map}
use Rattle.eg_num.specs.Drive.{DriveRow}
use Rattle.eg_num.specs.Windows.{is_first}
use Rattle.eg_num.proofs.WindowLemmas.{list_any-map}
use Rattle.eg_answer.specs.Times.{TimeParts}
use Rattle.eg_answer.specs.Periods.{with_verdict, is_wrong}
use Rattle.eg_answer.specs.declared.marks.Verdict.{Verdict}
use Rattle.eg_fault.specs.Effects.{Effects}
use Rattle.eg_fault.specs.Faults.{effects}
use Rattle.eg_fault.specs.declared.paths.TheConstants.{PATH_1, PATH_2}
use Rattle.eg_model.specs.History.{Setting, Entry, Tick, SpanKind, Signals, Moment}
use Rattle.eg_model.specs.Signals.{tripped, is_limited, last_signals, signal, signals_at}
use Rattle.eg_model.specs.Detection.{feeds_at, fed_bits, finds, pedal_bit, plate_bit, load_bit, speed_bit, torque_bit}
use Rattle.eg_model.specs.Answers.{is_answer, whole_since_answer, is_sent, is_good, mark_at, with_answer, answers_in, verdict_at, verdicts_in, confirms_at}
use Rattle.eg_model.specs.Paths.{orders_open, latch1, latch2, path1_at, path2_at, both_conduct}
use Rattle.eg_model.specs.Moments.{last_limit, limit_at, readings_at, sensed_at, moment_in, moments_in}
use Rattle.eg_model.specs.Spans.{span_so_far, span_kind, has_passed, kind_at, before_at, moment_at, next_after, moments}
use Rattle.eg_model.specs.Outputs.{running, without_slices, tick_without_slices, without_level1, SpansDisregardLevel1, RunsDisregardLevel1}
use Rattle.eg_model.proofs.TickLemmas.{parts_of, nothing}

-- ---- what is read of the ticks before ----

tripped-bare : (past : List Moment) → tripped (map without_level1 past) ≡ tripped past
unfolding tripped without_level1
tripped-bare past = list_any-map (λ m. m.trip) without_level1 past

limited-bare : (past : List Moment) → is_limited (map without_level1 past) ≡ is_limited past
unfolding is_limited without_level1
limited-bare past = list_any-map (λ m. m.found.pedal) without_level1 past

latch1-bare : (past : List Moment) → latch1 (map without_level1 past) ≡ latch1 past
unfolding latch1 without_level1
latch1-bare past = list_any-map (λ m. m.orders) without_level1 past

latch2-bare : (past : List Moment) → latch2 (map without_level1 past) ≡ latch2 past
unfolding latch2 without_level1
latch2-bare past = list_any-map (λ m. m.confirms || m.opens) without_level1 past

path1-bare : (x : Effects) (past : List Moment) → path1_at x (map without_level1 past) ≡ path1_at x past
unfolding path1_at
path1-bare x past = ap (x.conducts PATH_1) (latch1-bare past)

path2-bare : (x : Effects) (past : List Moment) → path2_at x (map without_level1 past) ≡ path2_at x past
unfolding path2_at
path2-bare x past = ap (x.conducts PATH_2) (latch2-bare past)

signals-bare : (past : List Moment) → last_signals (map without_level1 past) ≡ last_signals past
unfolding last_signals without_level1
signals-bare [] = refl
signals-bare (m ∷ past) = refl

limit-bare : (past : List Moment) → last_limit (map without_level1 past) ≡ last_limit past
unfolding last_limit without_level1
limit-bare [] = refl
limit-bare (m ∷ past) = refl

fed_bits-bare : (bit : Signals → Bool) (past : List Moment) → fed_bits bit (map without_level1 past) ≡ fed_bits bit past
unfolding fed_bits without_level1
fed_bits-bare bit [] = refl
fed_bits-bare bit (m ∷ past) = go m.feeds (fed_bits-bare bit past)
  where
    go : (b : Bool) → fed_bits bit (map without_level1 past) ≡ fed_bits bit past →
        map (λ m. bit m.signals) (if b then without_level1 m ∷ filter (λ m. m.feeds) (map without_level1 past)
        else filter (λ m. m.feeds) (map without_level1 past))
        ≡ map (λ m. bit m.signals) (if b then m ∷ filter (λ m. m.feeds) past else filter (λ m. m.feeds) past)
    go true same = ap (λ bits. bit m.signals ∷ bits) same
    go false same = same

whole-bare : (past : List Moment) → whole_since_answer (map without_level1 past) ≡ whole_since_answer past
unfolding whole_since_answer without_level1
whole-bare [] = refl
whole-bare (m ∷ past) = ap (λ b. is_answer m.mark || (m.whole && b)) (whole-bare past)

answers-bare : (past : List Moment) → answers_in (map without_level1 past) ≡ answers_in past
unfolding answers_in without_level1
answers-bare [] = refl
answers-bare (m ∷ past) = ap (with_answer m.tick m.mark) (answers-bare past)

-- also of the last n of them
last_answers-bare : (n : ℕ) (past : List Moment) → answers_in (take n (map without_level1 past)) ≡ answers_in (take n past)
last_answers-bare n past = ap answers_in (take-map without_level1 n past) ∙ answers-bare (take n past)

verdicts-bare : (past : List Moment) → verdicts_in (map without_level1 past) ≡ verdicts_in past
unfolding verdicts_in without_level1
verdicts-bare [] = refl
verdicts-bare (m ∷ past) = ap (with_verdict m.verdict) (verdicts-bare past)

confirms-bare : (times : TimeParts) (verdict : Option Verdict) (past : List Moment) →
    confirms_at times verdict (map without_level1 past) ≡ confirms_at times verdict past
unfolding confirms_at
confirms-bare times None past = refl
confirms-bare times (Some verdict) past = ap (λ before. is_first times.weights (map is_wrong (verdict ∷ before))) (verdicts-bare past)

pub length-bare : (past : List Moment) → length (map without_level1 past) ≡ length past
length-bare past = length-map past without_level1

-- ---- one tick ----

moment-bare : (kind : SpanKind) (s : Setting) (image : List ℕ) (x : Effects) (e : Entry) (past : List Moment) →
    without_level1 (moment_in kind (running image s) x (without_slices e) (map without_level1 past))
    ≡ without_level1 (moment_in kind s x e past)
unfolding without_level1 without_slices moment_in limit_at readings_at sensed_at signals_at signal feeds_at finds mark_at is_sent is_good verdict_at orders_open both_conduct
moment-bare kind s image x e past =
    rw (
      length-bare past,
      tripped-bare past,
      limited-bare past,
      signals-bare past,
      limit-bare past,
      fed_bits-bare pedal_bit past,
      fed_bits-bare plate_bit past,
      fed_bits-bare load_bit past,
      fed_bits-bare speed_bit past,
      fed_bits-bare torque_bit past,
      whole-bare past,
      last_answers-bare (s.cal.times.period - 1) past,
      path1-bare x past,
      path2-bare x past,
      confirms-bare s.cal.times _ past,
    ) refl

-- ---- histories ----

-- what is true of a tick depends on what came in but for the slices, and on what was true before but for level 1
pub moment_in-alike : (kind : SpanKind) (s : Setting) (image : List ℕ) (x : Effects) (e other : Entry) (past others : List Moment) →
    without_slices e ≡ without_slices other → map without_level1 past ≡ map without_level1 others →
    without_level1 (moment_in kind s x e past) ≡ without_level1 (moment_in kind (running image s) x other others)
moment_in-alike kind s image x e other past others same before =
    sym (moment-bare kind s s.image x e past)
    ∙ ap₂ (λ entry ms. without_level1 (moment_in kind s x entry ms)) same before
    ∙ moment-bare kind (running image s) s.image x other others

pub spans_disregard_level1 : SpansDisregardLevel1
unfolding moments_in tick_without_slices
spans_disregard_level1 kind s image [] [] same = refl
spans_disregard_level1 kind s image [] (y ∷ others) same = absurd (nothing same)
spans_disregard_level1 kind s image (x ∷ h) [] same = absurd (nothing (sym same))
spans_disregard_level1 kind s image (x ∷ h) (y ∷ others) same =
    grown x y (parts_of same).0 (moments_in kind s h) (moments_in kind (running image s) others)
    (spans_disregard_level1 kind s image h others (parts_of same).1)
  where
    grown : (x y : Tick) → tick_without_slices x ≡ tick_without_slices y → (past others : List Moment) →
        map without_level1 past ≡ map without_level1 others →
        map without_level1 (moment_in kind s x.effects x.entry past ∷ past)
        ≡ map without_level1 (moment_in kind (running image s) y.effects y.entry others ∷ others)
    grown x y one past others before = ap₂ (λ m ms. m ∷ ms)
        (moment_in-alike kind s image x.effects x.entry y.entry past others (ap (λ t. t.entry) one) before
        ∙ ap (λ f. without_level1 (moment_in kind (running image s) f y.entry others)) (ap (λ t. t.effects) one)) before

-- ---- the spans of a run ----

kind-bare : (past : List Moment) → span_kind (map without_level1 past) ≡ span_kind past
unfolding span_kind without_level1
kind-bare [] = refl
kind-bare (m ∷ past) = refl

passed-bare : (past : List Moment) → has_passed (map without_level1 past) ≡ has_passed past
unfolding has_passed without_level1
passed-bare [] = refl
passed-bare (m ∷ past) = refl

span-bare : (past : List Moment) → span_so_far (map without_level1 past) ≡ map without_level1 (span_so_far past)
unfolding span_so_far without_level1
span-bare [] = refl
span-bare (m ∷ past) = ap (λ rest. without_level1 m ∷ rest) (go m.fresh (span-bare past))
  where
    go : (b : Bool) → span_so_far (map without_level1 past) ≡ map without_level1 (span_so_far past) →
        (if b then [] else span_so_far (map without_level1 past)) ≡ map without_level1 (if b then [] else span_so_far past)
    go true same = refl
    go false same = same

kind_at-bare : (drive : DriveRow) (past : List Moment) → kind_at drive (map without_level1 past) ≡ kind_at drive past
kind_at-bare drive past = unfold kind_at in rw (passed-bare past, kind-bare past) refl

before-bare : (drive : DriveRow) (past : List Moment) → before_at drive (map without_level1 past) ≡ map without_level1 (before_at drive past)
before-bare drive past = unfold before_at in
    ap₂ (λ p span. if drive.reset || p then [] else span) (passed-bare past) (span-bare past)
    ∙ go (drive.reset || has_passed past)
  where
    go : (b : Bool) → (if b then [] else map without_level1 (span_so_far past)) ≡ map without_level1 (if b then [] else span_so_far past)
    go true = refl
    go false = refl

both_conduct-bare : (x : Effects) (past : List Moment) → both_conduct x (map without_level1 past) ≡ both_conduct x past
unfolding both_conduct
both_conduct-bare x past = ap₂ (λ a b. a && b) (path1-bare x past) (path2-bare x past)

-- what doesn't depend on level 1 is the same of ticks that are the same but for level 1
pub carried : {A : Type 0} (f : List Moment → A) → ((ms : List Moment) → f (map without_level1 ms) ≡ f ms) →
    (past others : List Moment) → map without_level1 past ≡ map without_level1 others → f past ≡ f others
carried f bare past others same = sym (bare past) ∙ ap f same ∙ bare others

module _ (past others : List Moment) (same : map without_level1 past ≡ map without_level1 others) where
  pub length-alike : length past ≡ length others
  length-alike = carried length length-bare past others same

  pub passed-alike : has_passed past ≡ has_passed others
  passed-alike = carried has_passed passed-bare past others same

  pub kind-alike : (drive : DriveRow) → kind_at drive past ≡ kind_at drive others
  kind-alike drive = carried (kind_at drive) (kind_at-bare drive) past others same

  pub before-alike : (drive : DriveRow) → map without_level1 (before_at drive past) ≡ map without_level1 (before_at drive others)
  before-alike drive = sym (before-bare drive past) ∙ ap (before_at drive) same ∙ before-bare drive others

  pub on-alike : (x : Effects) → both_conduct x past ≡ both_conduct x others
  on-alike x = carried (both_conduct x) (both_conduct-bare x) past others same

drive_of : (e other : Entry) → without_slices e ≡ without_slices other → e.drive ≡ other.drive
unfolding without_slices
drive_of e other same = ap (λ x. x.drive) same

-- the next tick of a run
pub next-alike : (s : Setting) (image : List ℕ) (e other : Entry) (past others : List Moment) →
    without_slices e ≡ without_slices other → map without_level1 past ≡ map without_level1 others →
    without_level1 (next_after s e past) ≡ without_level1 (next_after (running image s) other others)
unfolding next_after moment_at
next-alike s image e other past others same before =
    moment_in-alike (kind_at e.drive past) s image (effects s.fault (length past)) e other (before_at e.drive past)
    (before_at other.drive others) same befores
    ∙ ap₂ (λ kind x. without_level1 (moment_in kind (running image s) x other (before_at other.drive others)))
    kinds (ap (effects s.fault) (length-alike past others before))
  where
    one_drive : e.drive ≡ other.drive
    one_drive = drive_of e other same

    kinds : kind_at e.drive past ≡ kind_at other.drive others
    kinds = ap (λ drive. kind_at drive past) one_drive ∙ kind-alike past others before other.drive

    befores : map without_level1 (before_at e.drive past) ≡ map without_level1 (before_at other.drive others)
    befores = ap (λ drive. map without_level1 (before_at drive past)) one_drive ∙ before-alike past others before other.drive

pub runs_disregard_level1 : RunsDisregardLevel1
unfolding moments
runs_disregard_level1 s image [] [] same = refl
runs_disregard_level1 s image [] (y ∷ others) same = absurd (nothing same)
runs_disregard_level1 s image (x ∷ h) [] same = absurd (nothing (sym same))
runs_disregard_level1 s image (x ∷ h) (y ∷ others) same =
    grown x y (parts_of same).0 (moments s h) (moments (running image s) others)
    (runs_disregard_level1 s image h others (parts_of same).1)
  where
    grown : (x y : Entry) → without_slices x ≡ without_slices y → (past others : List Moment) →
        map without_level1 past ≡ map without_level1 others →
        map without_level1 (next_after s x past ∷ past) ≡ map without_level1 (next_after (running image s) y others ∷ others)
    grown x y one past others before = ap₂ (λ m ms. m ∷ ms) (next-alike s image x y past others one before) before
