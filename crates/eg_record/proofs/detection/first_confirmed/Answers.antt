use Rattle.std.proofs.Common.{◌≡◌, ◌∙◌, ◌+◌, [], List, Some, reverse, map, drop, length, sym, ap, subst, arith, refl}
use Rattle.std.specs.Prelude.{if◌then◌else◌}
use Rattle.eg_num.specs.Counting.{StandsFor}
use Rattle.eg_num.proofs.CounterLemmas.{counted-nil}
use Rattle.eg_record.specs.declared.row.Row.{Row}
use Rattle.eg_record.specs.Spans.{this_span}
use Rattle.eg_record.specs.Excess.{true_excess, first_confirmed}
use Rattle.eg_record.proofs.RowsLemmas.{so_far, so_far-more, so_far-all, length-so_far, reverse-so_far, AreRows-tick}
use Rattle.eg_record.proofs.ExcessLemmas.{begins, fed_stands, fed_answers, first_confirmed-here, first_confirmed-none, first_confirmed-append}
use Rattle.eg_record.proofs.detection.first_confirmed.Goals as goal

pub loop-row-init : goal.loop-row-init
unfolding so_far this_span first_confirmed
loop-row-init c = record {
  within = omega arith;
  stands = c.new-counter.ensures ∙ sym (counted-nil c.args.weights.now);
  unconfirmed = refl;
}

pub returns-then-feed : goal.returns-then-feed
returns-then-feed c =
    let w = c.args.weights.now in
    let t = c.args.threshold in
    let rows = c.args.rows.now in
    let i = c.loop-row.row-index in
    let row = c.row-item.result in
    let before = so_far rows i in
    let rest = if row.fresh then [] else this_span before in
    let begun = begins w (true_excess t) row.fresh _ _ (this_span before) c.counter_at-counter.ensures c.loop-row.invariant.stands in
    let now = fed_answers w t row before c.is_excess.result c.feed.result c.is_excess.ensures (c.feed.ensures.confirmed (map (true_excess t) rest) begun) ∙ c.if-feed.true in
    let tick : row.tick ≡ length before = AreRows-tick rows i row c.row-item.is c.loop-row-test.true c.requires ∙ sym (length-so_far rows i (omega arith)) in
    let more = so_far-more rows i row c.row-item.is c.loop-row-test.true in
    let here = ap (first_confirmed w t) more ∙ first_confirmed-here w t row before c.loop-row.invariant.unconfirmed now ∙ ap Some (sym tick) in
    sym (ap (first_confirmed w t) (reverse-so_far rows (i + 1)) ∙ first_confirmed-append w t (reverse (drop (i + 1) rows)) (so_far rows (i + 1)) row.tick here)

pub loop-row-preserved : goal.loop-row-preserved
loop-row-preserved c =
    let w = c.args.weights.now in
    let t = c.args.threshold in
    let rows = c.args.rows.now in
    let i = c.loop-row.row-index in
    let row = c.row-item.result in
    let before = so_far rows i in
    let bits = map (true_excess t) (if row.fresh then [] else this_span before) in
    let more = so_far-more rows i row c.row-item.is c.loop-row-test.true in
    let begun = begins w (true_excess t) row.fresh _ _ (this_span before) c.counter_at-counter.ensures c.loop-row.invariant.stands in
    let stands = fed_stands w t row before c.is_excess.result c.feed.new.self.value c.is_excess.ensures (c.feed.ensures.windows bits begun) in
    let other = fed_answers w t row before c.is_excess.result c.feed.result c.is_excess.ensures (c.feed.ensures.confirmed bits begun) ∙ c.if-feed.false in
    record {
      within = c.feed.ensures.within;
      stands = subst (λ (rs : List Row). StandsFor w c.feed.new.self.value (map (true_excess t) (this_span rs))) (sym more) stands;
      unconfirmed = ap (first_confirmed w t) more ∙ first_confirmed-none w t row before c.loop-row.invariant.unconfirmed other;
    }

pub returns : goal.returns
returns c =
    let rows = c.args.rows.now in
    sym (ap (first_confirmed c.args.weights.now c.args.threshold) (sym (so_far-all rows c.loop-row.row-index c.loop-row-test.false)) ∙ c.loop-row.invariant.unconfirmed)
