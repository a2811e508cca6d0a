-- A trip comes by the tick at which the torque's bits are confirmed, and then the stages go off.
use Rattle.std.proofs.Common.{inl, inr, ◌≡◌, Bool, true, false, ◌||◌, List, [], ◌∷◌, ◌++◌, map, refl, sym, ap, ◌∙◌}
use Rattle.std.proofs.lemmas.Bool.{false≢true, true≢false, cases_Bool, and_from, or_left, or_right, and_left}
use Rattle.eg_num.specs.Windows.{WeightParts, is_confirmed}
use Rattle.eg_num.proofs.WindowLemmas.{Below, below_none, below_more, is_confirmed-Below}
use Rattle.eg_num.proofs.FirstIndexLemmas.{is_first_from}
use Rattle.eg_torque.specs.Excess.{is_excess}
use Rattle.eg_answer.specs.declared.modules.TheConstants.{REACT}
use Rattle.eg_fault.specs.Effects.{Effects}
use Rattle.eg_fault.specs.declared.paths.TheConstants.{PATH_1}
use Rattle.eg_model.specs.History.{Setting, Entry, Tick, Moment, Signals}
use Rattle.eg_model.specs.Signals.{tripped}
use Rattle.eg_model.specs.Detection.{fed_bits, torque_bit}
use Rattle.eg_model.specs.Paths.{latch1, path1_at, both_conduct}
use Rattle.eg_model.specs.Moments.{moment, moments_of}
use Rattle.eg_model.specs.Rows.{row_of, rows_of}
use Rattle.eg_model.specs.Premises.{true_excesses, is_on_after}
use Rattle.eg_model.specs.Seeing.{Runs}
use Rattle.eg_record.specs.Excess.{true_excess}
use Rattle.eg_model.proofs.TickLemmas.{stays, Each, tripped-cons, untripped_before, moment-orders, moment-feeds, moment-torque, trip_from_torque, fields}

pub fed_bits-cons : (b : Signals → Bool) (m : Moment) (past : List Moment) → m.feeds ≡ true →
    fed_bits b (m ∷ past) ≡ b m.signals ∷ fed_bits b past
unfolding fed_bits
fed_bits-cons b m past h = rw h refl

-- all modules run at each tick of a history
abbrev pub RunsAll : List Tick → Type 0
RunsAll h = Each (λ x. Runs x.effects) h

-- while no trip came every tick feeds
pub fed_untripped : (s : Setting) (b : Signals → Bool) → (h : List Tick) → RunsAll h →
    tripped (moments_of s h) ≡ false → fed_bits b (moments_of s h) ≡ map (λ m. b m.signals) (moments_of s h)
unfolding moments_of Each
fed_untripped s b [] r u = unfold fed_bits in refl
fed_untripped s b (x ∷ h) r u =
    let past = moments_of s h in
    let m = moment s x.effects x.entry past in
    let u' : tripped past ≡ false = untripped_before m past u in
    fed_bits-cons b m past (moment-feeds s x.effects x.entry past r.0 u')
    ∙ ap (λ bits. b m.signals ∷ bits) (fed_untripped s b h r.1 u')

pub confirmed_none : (w : WeightParts) (b : Signals → Bool) → is_confirmed w (fed_bits b []) ≡ true → ⊥
unfolding fed_bits is_confirmed
confirmed_none w b c = false≢true c

pub fed_bits-skip : (b : Signals → Bool) (m : Moment) (past : List Moment) → m.feeds ≡ false →
    fed_bits b (m ∷ past) ≡ fed_bits b past
unfolding fed_bits
fed_bits-skip b m past h = rw h refl

-- where the fed torque bits are confirmed a trip has come, whichever ticks fed them
pub trip_from_fed : (s : Setting) (h : List Tick) →
    is_confirmed s.cal.rules.torque (fed_bits torque_bit (moments_of s h)) ≡ true →
    tripped (moments_of s h) ≡ true
unfolding moments_of
trip_from_fed s [] c = absurd (confirmed_none s.cal.rules.torque torque_bit c)
trip_from_fed s (x ∷ h) c = tripped-cons _ _ ∙ go now.feeds refl (confirmed past) refl (trip_from_fed s h)
  where
    past : List Moment
    past = moments_of s h

    now : Moment
    now = moment s x.effects x.entry past

    confirmed : List Moment → Bool
    confirmed ms = is_confirmed s.cal.rules.torque (fed_bits torque_bit ms)

    go : (feeds : Bool) → now.feeds ≡ feeds → (before : Bool) → confirmed past ≡ before →
        (confirmed past ≡ true → tripped past ≡ true) → (now.trip || tripped past) ≡ true
    go feeds e true before ih = or_right _ _ (ih before)
    go true e false before ih =
        let first = is_first_from s.cal.rules.torque (torque_bit now.signals) (fed_bits torque_bit past)
        (rw (← fed_bits-cons torque_bit now past e) c) before in
        or_left _ _ (trip_from_torque s x.effects x.entry past
        (moment-torque s x.effects x.entry past e first))
    go false e false before ih =
        absurd (true≢false (sym c
        ∙ ap (is_confirmed s.cal.rules.torque) (fed_bits-skip torque_bit now past e) ∙ before))

-- the true excess of a tick
abbrev pub exceeds : Setting → Moment → Bool
exceeds s m = is_excess m.entry.shown.torque m.limit s.cal.rules.threshold

-- the torque bit is set at each tick with true excess, as long as no trip came
unfoldable pub Sees : Setting → List Tick → Type 0
Sees s [] = Unit {0}
Sees s (x ∷ h) =
    (tripped (moments_of s h) ≡ false → exceeds s (moment s x.effects x.entry (moments_of s h)) ≡ true →
    torque_bit (moment s x.effects x.entry (moments_of s h)).signals ≡ true)
    × Sees s h

seen_below : (s : Setting) (h : List Tick) → Sees s h → tripped (moments_of s h) ≡ false →
    Below (true_excesses s h) (map (λ m. torque_bit m.signals) (moments_of s h))
unfolding moments_of Sees true_excesses rows_of row_of true_excess
seen_below s [] sees u = below_none
seen_below s (x ∷ h) sees u =
    let u' = untripped_before (moment s x.effects x.entry (moments_of s h)) (moments_of s h) u in
    below_more (sees.0 u') (seen_below s h sees.1 u')

-- by the tick at which true excess is confirmed a trip has come
pub trip_by_excess : (s : Setting) → (h : List Tick) → RunsAll h → Sees s h →
    is_confirmed s.cal.rules.torque (true_excesses s h) ≡ true → tripped (moments_of s h) ≡ true
trip_by_excess s h r sees c = elim (cases_Bool (tripped (moments_of s h))) [
  | inl u ↦ u
  | inr u ↦ trip_from_fed s h
      (rw (fed_untripped s torque_bit h r u) (is_confirmed-Below s.cal.rules.torque (seen_below s h sees u) c))
]

-- ---- the latch of path 1 ----

-- react runs at each tick of a history
abbrev pub ReactsAll : List Tick → Type 0
ReactsAll h = Each (λ x. x.effects.ran REACT ≡ true) h

pub latch1-cons : (m : Moment) (past : List Moment) →
    latch1 (m ∷ past) ≡ (m.orders || latch1 past)
unfolding latch1
latch1-cons m past = refl

-- once a trip came, react has ordered path 1 open
pub latch1_from_trip : (s : Setting) → (x : Tick) (h : List Tick) → x.effects.ran REACT ≡ true →
    tripped (moments_of s (x ∷ h)) ≡ true → latch1 (moments_of s (x ∷ h)) ≡ true
unfolding moments_of
latch1_from_trip s x h r u =
    latch1-cons (moment s x.effects x.entry (moments_of s h)) (moments_of s h)
    ∙ or_left _ _ (moment-orders s x.effects x.entry (moments_of s h) ∙ and_from _ _ r u)

-- and it stays open
pub latch1_on : (s : Setting) (more h : List Tick) → latch1 (moments_of s h) ≡ true → latch1 (moments_of s (more ++ h)) ≡ true
unfolding latch1
latch1_on s more h u = stays (λ m. m.orders) s more h u

-- where it is open, and no fault makes it conduct, the stages are off
pub off_by_latch1 : (s : Setting) (x : Effects) (e : Entry) (past : List Moment) → x.conducts PATH_1 true ≡ false →
    latch1 past ≡ true → (moment s x e past).on ≡ false
unfolding both_conduct path1_at
off_by_latch1 s x e past opens u =
    (fields s x e past).on ∙ and_left _ _ (ap (x.conducts PATH_1) u ∙ opens)

no_trip_at_first : (s : Setting) → tripped (moments_of s []) ≡ true → ⊥
unfolding moments_of tripped
no_trip_at_first s u = false≢true u

-- a trip at some tick of h at whose last tick react ran: off at each later tick
pub off_after_trip : (s : Setting) (h more : List Tick) → ReactsAll h → tripped (moments_of s h) ≡ true →
    (x : Tick) → x.effects.conducts PATH_1 true ≡ false → is_on_after s (more ++ h) x ≡ false
unfolding Each is_on_after
off_after_trip s [] more r u x opens = absurd (no_trip_at_first s u)
off_after_trip s (y ∷ h) more r u x opens =
    off_by_latch1 s x.effects x.entry (moments_of s (more ++ y ∷ h)) opens
    (latch1_on s more (y ∷ h) (latch1_from_trip s y h r.0 u))
