-- What is so at each tick of a history, and what a tick is made of.
use Rattle.std.proofs.Common.{◌≡◌, ℕ, suc, Bool, true, false, not, ◌||◌, ◌&&◌, List, [], ◌∷◌, ◌++◌, length, refl, sym, ap, ◌∙◌, is_some, subst, rules}
use Rattle.std.specs.Prelude.{if◌then◌else◌, ◌==◌}
use Rattle.std.specs.List.{list_any}
use Rattle.std.proofs.lemmas.Bool.{or_right, or_left, or_parts, and_from}
use Rattle.eg_num.specs.Windows.{is_first}
use Rattle.eg_num.specs.declared.watches.Watches.{Watches}
use Rattle.eg_num.specs.Arithmetic.{estimate}
use Rattle.eg_sensor.specs.Readings.{used_pedal}
use Rattle.eg_torque.specs.Ramp.{ramped}
use Rattle.eg_answer.specs.Formulas.{permitted_torque, estimated_torque, excess_number, disagreeing_pairs}
use Rattle.eg_answer.specs.declared.marks.AnswerMark.TheVariants.{Absent, Good, Bad}
use Rattle.eg_answer.specs.declared.modules.TheConstants.{PEDAL, PERMITTED, ACTUAL, EXCESS, PAIRS, REACT, DEBOUNCE}
use Rattle.eg_record.specs.Excess.{full_excess}
use Rattle.eg_torque.specs.Excess.{is_excess}
use Rattle.eg_fault.specs.Effects.{Effects}
use Rattle.eg_model.specs.History.{Setting, Entry, Tick, SpanKind, Drive, drives, Moment, Signals}
use Rattle.eg_model.specs.Signals.{tripped, is_limited, last_signals, signal, signals_at}
use Rattle.eg_model.specs.Detection.{feeds_at, fed_bits, finds, pedal_bit, plate_bit, load_bit, speed_bit, torque_bit}
use Rattle.eg_model.specs.Answers.{is_answer, is_whole, mark_at, verdict_at, confirms_at}
use Rattle.eg_model.specs.Paths.{is_testing, is_told_to_open, reads_back, orders_open, path1_at, path2_at, both_conduct}
use Rattle.eg_model.specs.Level1.{world_at}
use Rattle.eg_model.specs.Moments.{readings_at, limit_at, some_trips, moment_in, moment, moments_in, moments_of}
use Rattle.eg_model.specs.Rows.{row_of}
use Rattle.eg_model.specs.Seeing.{Runs}

-- P at each tick
unfoldable pub Each : (Tick → Type 0) → List Tick → Type 0
Each P [] = Unit {0}
Each P (x ∷ h) = P x × Each P h

pub Each-map : {P Q : Tick → Type 0} → ((x : Tick) → P x → Q x) → (h : List Tick) → Each P h → Each Q h
unfolding Each
Each-map f [] p = tt
Each-map f (x ∷ h) p = (f x p.0, Each-map f h p.1)

pub length-moments_in : (kind : SpanKind) (s : Setting) (h : List Tick) → length (moments_in kind s h) ≡ length h
unfolding moments_in
length-moments_in kind s [] = refl
length-moments_in kind s (x ∷ h) = ap suc (length-moments_in kind s h)

pub length-moments : (s : Setting) (h : List Tick) → length (moments_of s h) ≡ length h
unfolding moments_of
length-moments s h = length-moments_in Drive s h

-- ---- lists ----

pub parts_of : {A : Type 0} {a c : A} {rest more : List A} → a ∷ rest ≡ c ∷ more → (a ≡ c) × (rest ≡ more)
parts_of f = (cc, cc)

pub nothing : {A : Type 0} {a : A} {rest : List A} → [] ≡ a ∷ rest → ⊥
nothing f = cc

-- what holds of the first of some and of the rest holds of what these are
pub along : {A : Type 0} (P : A → List A → Type 0) {a c : A} {rest more : List A} → a ∷ rest ≡ c ∷ more → P a rest → P c more
along P {a} {c} {rest} {more} e p = subst (λ x. P x more) (parts_of e).0 (subst (P a) (parts_of e).1 p)

-- ---- the watches of the four pairs ----

pub data Pair : Type 0 where
  Pedal : Pair
  Plate : Pair
  Load : Pair
  Speed : Pair

-- the bit that the debouncer of a pair is fed with, and whether its watch is found
unfoldable pub bit_of : Pair → Signals → Bool
bit_of Pedal = pedal_bit
bit_of Plate = plate_bit
bit_of Load = load_bit
bit_of Speed = speed_bit

unfoldable pub found_by : Pair → Watches → Bool
found_by Pedal f = f.pedal
found_by Plate f = f.plate
found_by Load f = f.load
found_by Speed f = f.speed

-- ---- each field of a moment ----

-- what each is, where the engine is driven or not
pub record Fields (kind : SpanKind) (driven : Bool) (s : Setting) (x : Effects) (e : Entry) (past : List Moment)
    (m : Moment) : Type 0 where
  pub fresh : m.fresh ≡ (length past == 0)
  pub tick : m.tick ≡ length past
  pub entry : m.entry ≡ e
  pub limit : m.limit ≡ limit_at s.cal e.drive past
  pub testing : m.testing ≡ is_testing kind s.cal.times (length past)
  pub passes : m.passes ≡ (reads_back kind s.cal.times (length past) && not (m.path1 || m.path2))
  pub path1 : m.path1 ≡ path1_at x past
  pub path2 : m.path2 ≡ path2_at x past
  pub on : m.on ≡ (driven && both_conduct x past)
  pub signals : m.signals ≡ signals_at s.cal.rules x (readings_at s.cal x e) past
  pub pedal : m.signals.pedal
      ≡ signal x past PEDAL (last_signals past).pedal (used_pedal (readings_at s.cal x e).pedal (is_limited past))
  pub permitted : m.signals.permitted ≡ signal x past PERMITTED (last_signals past).permitted
      (ramped s.cal.rules.fall (last_signals past).permitted
      (permitted_torque s.cal.rules (readings_at s.cal x e) m.signals.pedal))
  pub actual : m.signals.actual
      ≡ signal x past ACTUAL (last_signals past).actual (estimated_torque s.cal.rules (readings_at s.cal x e))
  pub excess : m.signals.excess ≡ signal x past EXCESS (last_signals past).excess
      (excess_number s.cal.rules m.signals.permitted m.signals.actual)
  pub pairs : m.signals.pairs
      ≡ signal x past PAIRS (last_signals past).pairs (disagreeing_pairs s.cal.rules (readings_at s.cal x e))
  pub feeds : m.feeds ≡ (driven && feeds_at x past)
  pub mirror : m.found.mirror ≡ is_some x.flip
  pub pair : (p : Pair) → found_by p m.found ≡ finds s.cal.rules.pair (bit_of p) m.feeds m.signals past
  pub torque : m.found.torque ≡ finds s.cal.rules.torque torque_bit m.feeds m.signals past
  pub answers : m.found.answers ≡ (driven && m.confirms)
  pub start : m.found.start ≡ (reads_back kind s.cal.times (length past) && (m.path1 || m.path2))
  pub trip : m.trip ≡ some_trips m.found.mirror m.found.plate m.found.load m.found.speed m.found.torque
  pub orders : m.orders ≡ orders_open kind s.cal.times x m.trip past
  pub whole : m.whole ≡ is_whole x
  pub mark : m.mark ≡ (if driven then mark_at s.cal.times x m.trip past else Absent)
  pub verdict : m.verdict ≡ verdict_at s.cal.times x m.mark past
  pub confirms : m.confirms ≡ confirms_at s.cal.times m.verdict past
  pub opens : m.opens ≡ x.opens
  pub world : m.world ≡ world_at s.image x e.slices (readings_at s.cal x e) m.signals past

-- no other proof opens the definition
pair_in : (kind : SpanKind) (s : Setting) (x : Effects) (e : Entry) (past : List Moment) (p : Pair) →
    found_by p (moment_in kind s x e past).found ≡ finds s.cal.rules.pair (bit_of p)
    (moment_in kind s x e past).feeds (moment_in kind s x e past).signals past
unfolding moment_in found_by bit_of
pair_in kind s x e past Pedal = refl
pair_in kind s x e past Plate = refl
pair_in kind s x e past Load = refl
pair_in kind s x e past Speed = refl

pub fields_in : (kind : SpanKind) (s : Setting) (x : Effects) (e : Entry) (past : List Moment) →
    Fields kind (drives kind) s x e past (moment_in kind s x e past)
unfolding moment_in signals_at
fields_in kind s x e past = search (rules, pair_in)

-- where it is driven
pub fields : (s : Setting) (x : Effects) (e : Entry) (past : List Moment) →
    Fields Drive true s x e past (moment s x e past)
unfolding moment drives
fields s x e past = fields_in Drive s x e past

-- no trip comes of watches that aren't found
pub no_trip : {kind : SpanKind} {driven : Bool} {s : Setting} {x : Effects} {e : Entry} {past : List Moment} {m : Moment} →
    Fields kind driven s x e past m → m.found.mirror ≡ false → ((p : Pair) → found_by p m.found ≡ false) →
    m.found.torque ≡ false → m.trip ≡ false
unfolding found_by
no_trip f mirror none torque = f.trip ∙ rw (mirror, none Plate, none Load, none Speed, torque) refl

-- an answer was sent where the mark says so
pub answered : (sent good : Bool) → is_answer (if sent then (if good then Good else Bad) else Absent) ≡ sent
unfolding is_answer
answered true true = refl
answered true false = refl
answered false good = refl

module _ (s : Setting) (x : Effects) (e : Entry) (past : List Moment) where
  pub moment-orders : (moment s x e past).orders ≡ (x.ran REACT && tripped ((moment s x e past) ∷ past))
  moment-orders = (fields s x e past).orders ∙ (unfold orders_open is_told_to_open tripped in refl)

  pub moment-exceeds :
      is_excess (moment s x e past).entry.shown.torque (moment s x e past).limit s.cal.rules.threshold
      ≡ is_excess e.shown.torque (moment s x e past).limit s.cal.rules.threshold
  unfolding moment moment_in
  moment-exceeds = refl

  pub moment-full_excess : (tick : ℕ) → full_excess s.cal.rules.kt s.cal.rules.threshold (row_of tick (moment s x e past))
      ≡ is_excess (estimate s.cal.rules.kt e.shown.load_1) (moment s x e past).limit s.cal.rules.threshold
  unfolding full_excess row_of moment moment_in
  moment-full_excess tick = refl

  pub trip_from_torque : (moment s x e past).found.torque ≡ true → (moment s x e past).trip ≡ true
  trip_from_torque h = (fields s x e past).trip ∙ or_right _ _ h

  pub trip_from_mirror : (moment s x e past).found.mirror ≡ true → (moment s x e past).trip ≡ true
  trip_from_mirror h = (fields s x e past).trip ∙ or_left _ _ (or_left _ _ (or_left _ _ (or_left _ _ h)))

  pub moment-torque : (moment s x e past).feeds ≡ true →
      is_first s.cal.rules.torque (torque_bit (moment s x e past).signals ∷ fed_bits torque_bit past)
      ≡ true → (moment s x e past).found.torque ≡ true
  moment-torque feeds first = (fields s x e past).torque ∙ (unfold finds in and_from _ _ feeds first)

  pub moment-feeds : Runs x → tripped past ≡ false → (moment s x e past).feeds ≡ true
  moment-feeds r h = (fields s x e past).feeds ∙ (unfold feeds_at in rw (r.ran DEBOUNCE, h, r.unflipped) refl)

pub tripped-cons : (m : Moment) (past : List Moment) → tripped (m ∷ past) ≡ (m.trip || tripped past)
unfolding tripped
tripped-cons m past = refl

pub untripped_before : (m : Moment) (past : List Moment) → tripped (m ∷ past) ≡ false → tripped past ≡ false
untripped_before m past u = (or_parts _ _ (sym (tripped-cons m past) ∙ u)).1

-- what came at some tick has come by each later one, as a trip
pub stays : (f : Moment → Bool) (s : Setting) (more h : List Tick) → list_any f (moments_of s h) ≡ true →
    list_any f (moments_of s (more ++ h)) ≡ true
unfolding moments_of
stays f s [] h u = u
stays f s (x ∷ more) h u = or_right _ _ (stays f s more h u)

pub tripped_on : (s : Setting) (more h : List Tick) → tripped (moments_of s h) ≡ true →
    tripped (moments_of s (more ++ h)) ≡ true
unfolding tripped
tripped_on s more h u = stays (λ m. m.trip) s more h u
