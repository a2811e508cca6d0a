-- One row more: what facts become, and what a tally stands for.
use Rattle.std.proofs.Common.{◌≡◌, ◌∙◌, ◌∷◌, [], List, ℕ, Bool, Some, None, map, max, length, refl, sym, ap, subst, add-one, arith}
use Rattle.std.specs.Prelude.{Option, if◌then◌else◌}
use Rattle.std.specs.Option.{option_or}
use Rattle.eg_num.specs.Windows.{WeightParts, is_confirmed, greatest_of}
use Rattle.eg_num.specs.Counting.{StandsFor}
use Rattle.eg_word.specs.declared.registers.Trap.{Trap}
use Rattle.eg_num.proofs.CounterLemmas.{counted-nil}
use Rattle.eg_record.specs.declared.row.Row.{Row}
use Rattle.eg_record.specs.declared.facts.Facts.{Facts}
use Rattle.eg_record.specs.Rows.{first_given}
use Rattle.eg_record.specs.Spans.{this_span}
use Rattle.eg_record.specs.Detection.{first_detection, first_cut}
use Rattle.eg_record.specs.Excess.{true_excess, is_excess_confirmed, first_confirmed, lasting, above, peak_of}
use Rattle.eg_record.specs.Stages.{first_off, last_on}
use Rattle.eg_record.specs.Facts.{facts_of, summary_with}
use Rattle.eg_record.specs.Summaries.{summary_of}
use Rattle.eg_record.specs.declared.reactions.Reactions.{Reactions}
use Rattle.eg_record.specs.declared.span_tally.SpanTally.{SpanTally}
use Rattle.eg_record.specs.Reactions.{combined, reactions_of}
use Rattle.eg_record.specs.Inner.RowMore.{lasts_with, facts_with, spans_with, span_reactions}
use Rattle.eg_record.specs.Tallies.{TallyParts, AreSpansOf, IsTallyOf}
use Rattle.eg_record.proofs.ExcessLemmas.{begins, fed_stands, fed_answers}
use Rattle.eg_record.proofs.ReactionLemmas.{told-all, spans_with-is}
use Rattle.eg_record.proofs.StretchLemmas.{lasting-nil, lasting-more, stretch_of-more}

peak_of-more : (t : ℕ) (row : Row) (rows : List Row) → peak_of t (row ∷ rows) ≡ max (peak_of t rows) (above t row)
unfolding peak_of greatest_of
peak_of-more t row rows = omega arith

-- the facts of these rows and of one more
pub facts_of-more : (w : WeightParts) (t : ℕ) (row : Row) (rows : List Row) → row.tick ≡ length rows →
    facts_of w t (row ∷ rows) ≡ facts_with t row (is_excess_confirmed w t (row ∷ rows)) (lasting t (this_span (row ∷ rows))) (facts_of w t rows)
unfolding facts_of facts_with first_detection first_cut first_off first_given last_on first_confirmed
facts_of-more w t row rows tick = λ i. record (facts_with t row (is_excess_confirmed w t (row ∷ rows)) (lasting t (this_span (row ∷ rows))) (facts_of w t rows)) {
  confirmed = option_or (first_confirmed w t rows) (if is_excess_confirmed w t (row ∷ rows) then Some (sym tick i) else None);
  stretch = stretch_of-more t row rows i;
  peak = peak_of-more t row rows i;
  ticks = sym (add-one (length rows)) i;
}

pub ticks_of : (w : WeightParts) (t : ℕ) (rows : List Row) → (facts_of w t rows).ticks ≡ length rows
unfolding facts_of
ticks_of w t rows = refl

-- a tally that was fed nothing
pub new_tally : (w : WeightParts) (t value lasts : ℕ) (facts : Facts) (spans : SpanTally) → facts ≡ facts_of w t [] → value ≡ 0 → lasts ≡ 0 → AreSpansOf w t spans [] →
    IsTallyOf (record { threshold = t; weights = w; facts = facts; value = value; lasts = lasts; spans = spans }) []
unfolding this_span
new_tally w t value lasts facts spans same zero none are =
    record { run = tt; facts = same; counter = zero ∙ sym (counted-nil w); lasts = none ∙ sym (lasting-nil t); spans = are }

-- What the counter of a tally is fed at a row: it begins anew where a span does, gets the bit of the row, and answers whether the excess is confirmed.
pub record IsFed (tally : TallyParts) (row : Row) (new : ℕ) (confirmed : Bool) : Type 0 where
  pub begun : ℕ
  pub begins : begun ≡ (if row.fresh then 0 else tally.value)
  pub bit : Bool
  pub bit_is : bit ≡ true_excess tally.threshold row
  pub windows : (bits : List Bool) → StandsFor tally.weights begun bits → StandsFor tally.weights new (bit ∷ bits)
  pub answers : (bits : List Bool) → StandsFor tally.weights begun bits → confirmed ≡ is_confirmed tally.weights (bit ∷ bits)

-- a tally that stands for these rows, fed one row more
pub fed_tally : (tally : TallyParts) (row : Row) (new lasts : ℕ) (confirmed : Bool) (facts : Facts) (spans : SpanTally) (rows : List Row) → row.tick ≡ tally.facts.ticks →
    IsFed tally row new confirmed → lasts ≡ lasts_with tally.threshold row tally.lasts → facts ≡ facts_with tally.threshold row confirmed lasts tally.facts → spans ≡ spans_with row confirmed tally.spans →
    IsTallyOf tally rows → IsTallyOf (record { threshold = tally.threshold; weights = tally.weights; facts = facts; value = new; lasts = lasts; spans = spans }) (row ∷ rows)
fed_tally tally row new lasts confirmed facts spans rows tick fed last added kept before =
    let w = tally.weights in
    let t = tally.threshold in
    let here : row.tick ≡ length rows = tick ∙ ap (λ (f : Facts). f.ticks) before.facts ∙ ticks_of w t rows in
    let begun = begins w (true_excess t) row.fresh tally.value fed.begun (this_span rows) fed.begins before.counter in
    let bits = map (true_excess t) (if row.fresh then [] else this_span rows) in
    let told = fed_answers w t row rows fed.bit confirmed fed.bit_is (fed.answers bits begun) in
    let lasted : lasts ≡ lasting t (this_span (row ∷ rows)) = last ∙ ap (lasts_with t row) before.lasts ∙ lasting-more t row rows in
    record {
      run = (here, before.run);
      facts = added ∙ (λ i. facts_with t row (sym told i) (lasted i) (before.facts i)) ∙ sym (facts_of-more w t row rows here);
      lasts = lasted;
      counter = fed_stands w t row rows fed.bit new fed.bit_is (fed.windows bits begun);
      spans = subst (λ s. AreSpansOf w t s (row ∷ rows)) (sym kept) (spans_with-is w t tally.spans row rows confirmed here before.run (sym told) before.spans);
    }

-- what a tally that stands for these rows tells of their reactions
pub tally_tells : (tally : TallyParts) (rows : List Row) (told : Reactions) → told ≡ combined (span_reactions tally.facts.ticks tally.spans) tally.spans.ended →
    IsTallyOf tally rows → told ≡ reactions_of tally.weights tally.threshold rows
tally_tells tally rows told is stands =
    is ∙ ap (λ n. combined (span_reactions n tally.spans) tally.spans.ended) (ap (λ (f : Facts). f.ticks) stands.facts ∙ ticks_of tally.weights tally.threshold rows)
    ∙ told-all tally.weights tally.threshold tally.spans rows stands.run stands.spans

-- the summary with the facts of some rows is theirs
pub summary_with-rows : (name : List ℕ) (w : WeightParts) (t : ℕ) (rows : List Row) (trap : Option (Trap × ℕ)) (bound : ℕ) →
    summary_with name (facts_of w t rows) trap bound ≡ summary_of name rows trap t w bound
unfolding facts_of summary_with summary_of
summary_with-rows name w t rows trap bound = refl
