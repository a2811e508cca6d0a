-- The phase of a tick, and the mark of a moment, in a span of either kind.
use Rattle.std.proofs.Common.{arith, ◌≡◌, ℕ, Bool, true, false, ◌&&◌, List, refl, ap, ◌∙◌}
use Rattle.std.specs.Prelude.{if◌then◌else◌}
use Rattle.std.proofs.lemmas.Bool.{or_left}
use Rattle.eg_answer.specs.Times.{TimeParts}
use Rattle.eg_answer.specs.declared.marks.AnswerMark.TheVariants.{Absent, Good, Bad}
use Rattle.eg_fault.specs.Effects.{Effects, sends_at}
use Rattle.eg_level2.specs.declared.phase.Phase.{Phase}
use Rattle.eg_level2.specs.declared.phase.Phase.TheVariants as phase
use Rattle.eg_level2.specs.Phases.{feeds, sends, orders}
use Rattle.eg_model.specs.History.{Setting, Entry, SpanKind, Drive, Test, drives, Moment}
use Rattle.eg_model.specs.Answers.{is_answer, is_sent, is_good, mark_at}
use Rattle.eg_model.specs.Paths.{is_told_to_open}
use Rattle.eg_model.specs.Moments.{moment_in}
use Rattle.eg_model.proofs.TickLemmas.{fields_in, answered}
use Rattle.eg_agree.specs.Doings.{phase_at}

-- ---- the phase of a tick ----

-- The debouncers are fed while the engine is driven, an answer is sent at the send ticks of those, and path 1 is
-- ordered open where react is told to.
pub record Tells (driven due told : Bool) (p : Phase) : Type 0 where
  pub feeds : feeds p ≡ driven
  pub sends : sends p ≡ (driven && due)
  pub orders : orders p ≡ told

pub phase-tells : (kind : SpanKind) (times : TimeParts) (x : Effects) (tick : ℕ) →
    Tells (drives kind) (sends_at x times tick) (is_told_to_open kind times tick) (phase_at kind times x tick)
unfolding phase_at drives feeds sends orders
phase-tells Drive times x tick = unfold is_told_to_open in go (sends_at x times tick)
  where
    go : (now : Bool) → Tells true now false (if now then phase.Send else phase.Quiet)
    go true = record { feeds = refl; sends = refl; orders = refl }
    go false = record { feeds = refl; sends = refl; orders = refl }
phase-tells Test times x tick = go (is_told_to_open Test times tick)
  where
    go : (now : Bool) → Tells false (sends_at x times tick) now (if now then phase.TestOrder else phase.Test)
    go true = record { feeds = refl; sends = refl; orders = refl }
    go false = record { feeds = refl; sends = refl; orders = refl }

-- ---- the mark of a moment ----

-- two tests in one
both : (driven sent good : Bool) →
    (if driven then (if sent then (if good then Good else Bad) else Absent) else Absent)
    ≡ (if driven && sent then (if good then Good else Bad) else Absent)
both driven sent good = grind arith

module _ (kind : SpanKind) (s : Setting) (x : Effects) (e : Entry) (past : List Moment) where
  abbrev m : Moment
  m = moment_in kind s x e past

  -- an answer is sent while the engine is driven
  abbrev pub sent_in : Bool
  sent_in = drives kind && is_sent s.cal.times x m.trip past

  pub moment_in-mark : m.mark ≡ (if sent_in then (if is_good x past then Good else Bad) else Absent)
  unfolding mark_at
  moment_in-mark = (fields_in kind s x e past).mark
      ∙ both (drives kind) (is_sent s.cal.times x m.trip past) (is_good x past)

  pub moment_in-answer : is_answer m.mark ≡ sent_in
  moment_in-answer = ap is_answer moment_in-mark ∙ answered sent_in (is_good x past)

  pub trips_from_mirror : m.found.mirror ≡ true → m.trip ≡ true
  trips_from_mirror h = (fields_in kind s x e past).trip ∙ or_left _ _ (or_left _ _ (or_left _ _ (or_left _ _ h)))
