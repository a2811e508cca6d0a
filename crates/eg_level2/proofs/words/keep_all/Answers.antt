use Rattle.std.proofs.Common.{◌<◌, ◌≤◌, ap, length, slice_index, arith, rules}
use Rattle.eg_level2.proofs.StoreLemmas.{mirror-more}
use Rattle.eg_level2.proofs.MakesLemmas.{goes_from, stops_from, ends_from}
use Rattle.eg_level2.proofs.words.keep_all.Goals as goal

pub loop-number-init : goal.loop-number-init
loop-number-init g c = record { makes = λ new result rest. rest; mirrored = λ k below. absurd (omega arith) }

pub loop-number-preserved : goal.loop-number-preserved
loop-number-preserved g c =
    let e = ap (slice_index c.args.words.now) c.from.ensures in
    let within : c.loop-number.number < length c.args.words.now = search rules in
    let fits : slice_index c.args.words.now c.from.result < 65536 = search rules in
    record {
      makes = λ new result rest. c.loop-number.invariant.makes new result (goes_from result c.args.words.now c.loop-number.number _ within e c.in_ok-keep.ensures rest);
      mirrored = mirror-more _ _ c.loop-number.number _ (omega arith) fits c.in_ok-keep.ensures.stored c.loop-number.invariant.mirrored;
    }

pub returns-in_err-keep-clause-makes : goal.returns-in_err-keep-clause-makes
returns-in_err-keep-clause-makes g c =
    let within : c.loop-number.number < length c.args.words.now = search rules in
    c.loop-number.invariant.makes _ _
    (stops_from c.from_residual.result c.args.words.now c.loop-number.number _ c.from_residual.ensures.0 within (ap (slice_index c.args.words.now) c.from.ensures) c.in_err-keep.ensures)

pub returns-clause-makes : goal.returns-clause-makes
returns-clause-makes g c =
    let past : length c.args.words.now ≤ c.loop-number.number = search rules in
    c.loop-number.invariant.makes _ _ (ends_from c.args.words.now c.loop-number.number past)
