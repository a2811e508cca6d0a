-- After all slices and modules of a tick the memory holds the world and the words of the model's tick.
use Rattle.std.proofs.Common.{◌≡◌, ◌∙◌, refl, sym, ap, ap₂, subst, ℕ, ◌+◌, ◌≤◌, ◌<◌, Bool, true, false, List, [], ◌∷◌, length, arith}
use Rattle.std.specs.Prelude.{if◌then◌else◌}
use Rattle.eg_word.specs.declared.registers.Registers.{Registers}
use Rattle.eg_word.specs.World.{View, World}
use Rattle.eg_host.specs.Slices.{world_slice, slices_from}
use Rattle.eg_values.specs.Calibration.{IsAccepted}
use Rattle.eg_level2.specs.Words.{Words, AreMirrored, words_of}
use Rattle.eg_level2.specs.Ticks.{after_tick}
use Rattle.eg_fault.specs.Effects.{Effects, readings_under}
use Rattle.eg_sensor.specs.Brake.{gated}
use Rattle.eg_sensor.specs.declared.readings.Readings.{Readings}
use Rattle.eg_values.specs.Calibration.{CalibrationParts}
use Rattle.eg_model.specs.History.{Setting, Entry, Tick, SpanKind, Moment}
use Rattle.eg_model.specs.Signals.{last_signals}
use Rattle.eg_model.specs.Premises.{Follows}
use Rattle.eg_model.specs.Level1.{last_world, ports_of, view_in, world_at}
use Rattle.eg_model.specs.Moments.{is_braking, sensed_at, readings_at, moments_in}
use Rattle.eg_model.specs.Rows.{signal_list}
use Rattle.eg_agree.specs.Doings.{doing_at}
use Rattle.eg_agree.specs.Standing.{signals_of, KeepsWords}
use Rattle.eg_agree.specs.Ticking.{IsTick}
use Rattle.eg_fault.specs.Faults.{IsNoneOrValid}
use Rattle.eg_agree.specs.Replies.{doing_after, words_over, moment_after}
use Rattle.eg_agree.proofs.WholeRuns.{words_stand, is_tick_over, last_checks_stand, words_rest}
use Rattle.eg_tick.specs.Stands.{HoldsLevel1, HoldsLevel2}
use Rattle.eg_tick.specs.Inner.Working.{work_at}
use Rattle.eg_turns.specs.Board.{by_tracks, ten_ports}
use Rattle.eg_turns.specs.Midway.{Work, signals_in, view_at, rest_of}
use Rattle.eg_turns.specs.Working.{Holds}
use Rattle.eg_model.proofs.TickLemmas.{fields_in}

-- ---- what slices are shown ----

-- the readings of a tick have two tracks of each pair, gated or not
pub tracks-are : (cal : CalibrationParts) (x : Effects) (e : Entry) → by_tracks (readings_at cal x e) ≡ readings_at cal x e
unfolding by_tracks readings_at sensed_at readings_under
tracks-are cal x e = go (is_braking cal x e.drive)
  where
    go : (pressed : Bool) → by_tracks (if pressed then gated (sensed_at x e) else sensed_at x e)
        ≡ (if pressed then gated (sensed_at x e) else sensed_at x e)
    go true = refl
    go false = refl

in_order : (r : Readings) → ten_ports r ≡ ports_of (by_tracks r)
unfolding ports_of by_tracks
in_order r = refl

-- so the ports hold them in the order of the model
ports-are : (cal : CalibrationParts) (x : Effects) (e : Entry) → ten_ports (readings_at cal x e) ≡ ports_of (readings_at cal x e)
ports-are cal x e = in_order (readings_at cal x e) ∙ ap ports_of (tracks-are cal x e)

-- ---- level 1's world ----

-- nine slices that are shown the same make the same
slices-same : (view other : ℕ → View) (budgets : List ℕ) (j : ℕ) (world : World) → j + length budgets ≤ 9
    → ((i : ℕ) → i ≤ 8 → view i ≡ other i) → slices_from j view budgets world ≡ slices_from j other budgets world
unfolding slices_from
slices-same view other [] j world within same = refl
slices-same view other (budget ∷ budgets) j world within same =
    ap (λ sees. slices_from (j + 1) view budgets (world_slice sees budget world)) (same j (omega (arith, within)))
    ∙ slices-same view other budgets (j + 1) (world_slice (other j) budget world) (omega (arith, within)) same

tick-same : (runs : Bool) (view other : ℕ → View) (budgets : List ℕ) (world : World) → length budgets ≡ 9
    → ((i : ℕ) → i ≤ 8 → view i ≡ other i)
    → (if runs then slices_from 0 view budgets world else world) ≡ (if runs then slices_from 0 other budgets world else world)
tick-same true view other budgets world nine same = slices-same view other budgets 0 world (omega (arith, nine)) same
tick-same false view other budgets world nine same = refl

-- ---- what the memory holds of level 2 ----

-- words that are exactly those of the ticks mean what the model says of them
pub holds_level2 : (kind : SpanKind) (s : Setting) → IsAccepted s.cal → IsNoneOrValid s.fault → (begin : ℕ) (h : List Tick) → Follows s.fault begin h → length h < 65536 →
    (memory : List ℕ) → AreMirrored memory → words_of memory ≡ words_over kind s h → HoldsLevel2 kind s memory h
holds_level2 kind s accepted valid begin h follows short memory mirrored same = record {
  mirrored = mirrored;
  exact = same;
  words = subst (λ words. KeepsWords s words (moments_in kind s h)) (sym same) (words_stand kind s accepted begin h follows);
  last = ap (λ (words : Words). words.last) same ∙ last_checks_stand kind s h;
  rests = λ unflipped whole. subst (λ (words : Words). (words.token ≡ 0) × (words.flow ≡ 255)) (sym same)
      (words_rest kind s accepted valid begin h follows short unflipped whole);
}

-- ---- one tick more ----

module _ (kind : SpanKind) (s : Setting) (accepted : IsAccepted s.cal) (begin : ℕ) (x : Tick) (h : List Tick) (follows : Follows s.fault begin (x ∷ h)) where
  abbrev past : List Moment
  past = moments_in kind s h

  abbrev w : Work
  w = work_at kind s x h

  tick : IsTick s x.effects (doing_after kind s x h) (words_over kind s h) (moment_after kind s x h) past
  tick = is_tick_over kind s accepted begin x h follows

  view-is : (j : ℕ) → j ≤ 8
      → view_at w j ≡ view_in s.image x.effects (readings_at s.cal x.effects x.entry) (last_signals past) (moment_after kind s x h).signals j
  unfolding view_at view_in work_at doing_after doing_at signals_in signal_list signals_of
  view-is j within = ap₂ (λ ports results. record { image = s.image; ports = ports; results = results })
      (ports-are s.cal x.effects x.entry) (tick.seen j within)

  -- the slices make the model's world
  pub world-is : length x.entry.slices ≡ 9 → rest_of w 0 w.world ≡ (moment_after kind s x h).world
  unfolding rest_of work_at world_at
  world-is nine = tick-same x.effects.level1 (view_at w) _ x.entry.slices (last_world past) nine view-is ∙ sym ((fields_in kind s x.effects x.entry past).world)

  -- ---- what the memory holds after it ----

  pub level1-next : (m : Registers) (memory : List ℕ) → length x.entry.slices ≡ 9 → Holds w.image (after_tick w.doing w.words) (rest_of w 0 w.world) m memory
      → HoldsLevel1 s m memory (moments_in kind s (x ∷ h))
  unfolding last_world moments_in work_at
  level1-next m memory nine is = record { code = is.code; world = is.world_is ∙ world-is nine }

  pub level2-next : (m : Registers) (memory : List ℕ) → IsNoneOrValid s.fault → length h < 65535
      → Holds w.image (after_tick w.doing w.words) (rest_of w 0 w.world) m memory → HoldsLevel2 kind s memory (x ∷ h)
  unfolding words_over work_at
  level2-next m memory valid short is =
      holds_level2 kind s accepted valid begin (x ∷ h) follows (omega arith) memory is.mirrored is.words_are
