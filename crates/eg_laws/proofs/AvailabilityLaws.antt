-- Misses that are far apart never cut: the laws by the ticks of a history, and by its rows.
use Rattle.std.proofs.Common.{◌≡◌, ℕ, ◌+◌, Bool, true, false, not, ◌&&◌, List, [], ◌∷◌, All, length, refl, sym, ap, ap₂, ◌∙◌, subst, arith, inl, inr}
use Rattle.std.specs.List.{list_any}
use Rattle.std.proofs.lemmas.List.Elements.{All-head, All-tail}
use Rattle.std.proofs.lemmas.Bool.{and_left, and_from, or_from, or_parts}
use Rattle.eg_torque.specs.declared.ramp.TheConstants.{NO_RAMP}
use Rattle.eg_values.specs.Calibration.{IsAccepted}
use Rattle.eg_fault.specs.Effects.{Effects, no_effects}
use Rattle.eg_fault.specs.declared.paths.TheConstants.{PATH_1, PATH_2}
use Rattle.eg_record.specs.Excess.{full_excess}
use Rattle.eg_model.specs.History.{Setting, Entry, Tick, Moment, Signals}
use Rattle.eg_model.specs.Signals.{tripped}
use Rattle.eg_model.specs.Detection.{fed_bits, torque_bit}
use Rattle.eg_model.specs.Paths.{latch1, latch2, path1_at, path2_at, both_conduct}
use Rattle.eg_model.specs.Moments.{moment, moments_of}
use Rattle.eg_model.specs.Rows.{row_of}
use Rattle.eg_model.specs.Premises.{IsProper, AreProper, Follows, is_on_after, full_excesses}
use Rattle.eg_model.specs.Lapses.{IsLapse}
use Rattle.eg_model.specs.Engines.{IsOneLoad}
use Rattle.eg_laws.specs.Availability.{IsSpacedLapse, KeepsPath2, TripsAloneCut, NoTripComes}
use Rattle.eg_model.proofs.TickLemmas.{Pedal, bit_of, found_by, fields, tripped-cons}
use Rattle.eg_model.proofs.PlainTick.{plain, torque_bit-is}
use Rattle.eg_model.proofs.SharpCutLaw.{AllGood, Untouched, untouched_at_first, still_untouched, feeds-is, none-cons, unfound_now, unlimited-cons, latch1_shut, full_excesses-cons}
use Rattle.eg_model.proofs.TripLemmas.{fed_bits-skip}
use Rattle.eg_model.proofs.LapseRuns.{AllOrNone, AllOrNoneEach, lapse_all_or_none, trip_opens}
use Rattle.eg_model.proofs.ClassLemmas.{of_history}
use Rattle.eg_laws.proofs.MissTicks.{missed, as_tick, to_tick, lapse_tick, lapse_conducts, missed-feeds, missed-pair, missed-trip}
use Rattle.eg_laws.proofs.MissVerdicts.{spaced_spares, recovering}

-- ---- a trip alone cuts ----

pub keeps_path_2 : KeepsPath2
keeps_path_2 s accepted start h lapse follows untripped =
    (recovering s accepted start h (spaced_spares s start (start + length h) lapse) follows untripped).closed

runs_or_none : (s : Setting) → IsLapse s.fault → (start : ℕ) (h : List Tick) → Follows s.fault start h → AllOrNoneEach h
runs_or_none s lapse start h follows = of_history AllOrNone s.fault start h follows (λ t low high. lapse_all_or_none s.fault lapse t)

pub path_2_conducts : (s : Setting) → IsAccepted s.cal → (start : ℕ) (h : List Tick) (x : Tick) → IsSpacedLapse s start (start + length h) →
    Follows s.fault start (x ∷ h) → tripped (moments_of s h) ≡ false → (moment s x.effects x.entry (moments_of s h)).path2 ≡ true
unfolding Follows
path_2_conducts s accepted start h x lapse follows untripped = (fields s x.effects x.entry (moments_of s h)).path2 ∙ shut
  where
    shut : path2_at x.effects (moments_of s h) ≡ true
    shut = unfold path2_at in ap (x.effects.conducts PATH_2) (keeps_path_2 s accepted start h lapse follows.1 untripped)
        ∙ ap (λ (g : Effects). g.conducts PATH_2 false) follows.0 ∙ lapse_conducts s.fault lapse.lapse (start + length h) PATH_2 false

pub trips_alone_cut : TripsAloneCut
unfolding is_on_after Follows
trips_alone_cut s accepted start h x lapse follows = go (tripped past) refl
  where
    past : List Moment
    past = moments_of s h

    conducts : (path : ℕ) (is_open : Bool) → x.effects.conducts path is_open ≡ not is_open
    conducts path is_open = ap (λ (g : Effects). g.conducts path is_open) follows.0
        ∙ lapse_conducts s.fault lapse.lapse (start + length h) path is_open

    on_is : (moment s x.effects x.entry past).on ≡ (not (latch1 past) && not (latch2 past))
    on_is = (fields s x.effects x.entry past).on ∙ both
      where
        both : both_conduct x.effects past ≡ (not (latch1 past) && not (latch2 past))
        both = unfold both_conduct path1_at path2_at in
            ap₂ (λ a b. a && b) (conducts PATH_1 (latch1 past)) (conducts PATH_2 (latch2 past))

    go : (trip : Bool) → tripped past ≡ trip → (moment s x.effects x.entry past).on ≡ not trip
    go true u = on_is ∙ and_left _ _ (ap not (trip_opens s h (runs_or_none s lapse.lapse start h follows.1) u))
    go false u = on_is ∙ and_from _ _ (ap not (latch1_shut s h u)) (ap not (keeps_path_2 s accepted start h lapse follows.1 u))

-- ---- where the full-efficiency excess comes at no tick ----

-- nothing is found, and each bit that was fed is good
record Spared (s : Setting) (h : List Tick) : Type 0 where
  pub untouched : Untouched (moments_of s h)
  pub torque : AllGood (fed_bits torque_bit (moments_of s h))

spared_at_first : (s : Setting) → Spared s []
unfolding moments_of fed_bits AllGood
spared_at_first s = record { untouched = untouched_at_first; torque = tt }

-- there is none at the tick x after h
abbrev NoExcess : Setting → Tick → List Tick → Type 0
NoExcess s x h = full_excess s.cal.rules.kt s.cal.rules.threshold
    (row_of (length (moments_of s h)) (moment s x.effects x.entry (moments_of s h))) ≡ false

module _ (s : Setting) (accepted : IsAccepted s.cal) (no_ramp : s.cal.rules.fall ≡ NO_RAMP) (e : Entry) (h : List Tick)
    (proper : IsProper s (both_conduct no_effects (moments_of s h)) e) (loads : IsOneLoad e.shown)
    (none : NoExcess s (plain e) h) (spared : Spared s h) where
  abbrev past : List Moment
  past = moments_of s h

  abbrev now : Moment
  now = moment s no_effects e past

  torque_good : torque_bit now.signals ≡ false
  torque_good = torque_bit-is s e past proper loads spared.untouched.untripped spared.untouched.unlimited (inl no_ramp) ∙ none

  torque_unfound : now.found.torque ≡ false
  torque_unfound = (fields s no_effects e past).torque ∙ unfound_now s.cal.rules.torque torque_bit now.feeds now.signals past
      (let l = accepted.torque.3 in omega arith) torque_good spared.torque

  spared_plain : Spared s (plain e ∷ h)
  unfolding moments_of
  spared_plain = record {
    untouched = still_untouched s accepted e past proper loads spared.untouched torque_unfound;
    torque = none-cons torque_bit now past (feeds-is s accepted e past proper loads spared.untouched) torque_good spared.torque;
  }

-- where level 2 misses a tick it is fed nothing
spared_missed : (s : Setting) (e : Entry) (h : List Tick) → Spared s h → Spared s (record { effects = missed; entry = e } ∷ h)
unfolding moments_of
spared_missed s e h spared = record {
  untouched = record {
    untripped = tripped-cons m past ∙ or_from _ _ (missed-trip s e past) spared.untouched.untripped;
    unlimited = unfold found_by in unlimited-cons m past (missed-pair s e past Pedal) spared.untouched.unlimited;
    pairs = λ p. unfed (bit_of p) (spared.untouched.pairs p);
  };
  torque = unfed torque_bit spared.torque;
}
  where
    past : List Moment
    past = moments_of s h

    m : Moment
    m = moment s missed e past

    unfed : (bit : Signals → Bool) → AllGood (fed_bits bit past) → AllGood (fed_bits bit (m ∷ past))
    unfed bit good = subst AllGood (sym (fed_bits-skip bit m past (missed-feeds s e past))) good

no_excesses : (s : Setting) (x : Tick) (h : List Tick) → list_any (λ excess. excess) (full_excesses s (x ∷ h)) ≡ false →
    NoExcess s x h × (list_any (λ excess. excess) (full_excesses s h) ≡ false)
no_excesses s x h none = or_parts _ _ (ap (list_any (λ excess. excess)) (sym (full_excesses-cons s x h)) ∙ none)

spares : (s : Setting) → IsAccepted s.cal → s.cal.rules.fall ≡ NO_RAMP → IsLapse s.fault → (start : ℕ) (h : List Tick) →
    Follows s.fault start h → AreProper s h → All (λ x. IsOneLoad x.entry.shown) h →
    list_any (λ excess. excess) (full_excesses s h) ≡ false → Spared s h
unfolding Follows AreProper
spares s accepted no_ramp lapse start [] follows proper loads none = spared_at_first s
spares s accepted no_ramp lapse start (x ∷ h) follows proper loads none =
    let parts = no_excesses s x h none in
    let before = spares s accepted no_ramp lapse start h follows.1 proper.1
    (All-tail (λ x. IsOneLoad x.entry.shown) x h loads) parts.1 in
    elim (lapse_tick s.fault lapse (start + length h)) [
      | inl quiet ↦ as_tick (λ y. Spared s (y ∷ h)) x no_effects (follows.0 ∙ quiet)
          (spared_plain s accepted no_ramp x.entry h
          (to_tick (λ y. IsProper s (both_conduct y.effects (moments_of s h)) y.entry) x no_effects (follows.0 ∙ quiet) proper.0)
          (All-head (λ x. IsOneLoad x.entry.shown) x h loads)
          (to_tick (λ y. NoExcess s y h) x no_effects (follows.0 ∙ quiet) parts.0) before)
      | inr out ↦ as_tick (λ y. Spared s (y ∷ h)) x missed (follows.0 ∙ out) (spared_missed s x.entry h before)
    ]

pub no_trip_comes : NoTripComes
no_trip_comes s accepted no_ramp lapse start h follows proper loads none =
    (spares s accepted no_ramp lapse start h follows proper loads none).untouched.untripped
