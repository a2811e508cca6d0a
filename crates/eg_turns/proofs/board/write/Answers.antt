use Rattle.std.proofs.Common.{refl, ◌∙◌, ◌≤◌, ◌<◌, length, arith, rules}
use Rattle.eg_base.proofs.ResultLemmas.{at_err}
use Rattle.eg_level2.specs.Stores.{after_stores}
use Rattle.eg_turns.proofs.BoardLemmas.{none_written, more_written}
use Rattle.eg_turns.proofs.MadeLemmas.{made-more, all-made, refused}
use Rattle.eg_turns.proofs.board.write.Goals as goal

pub loop-value-init : goal.loop-value-init
unfolding after_stores
loop-value-init g c = record { at = omega arith; written = none_written _ _ _; made = refl; are_words = c.requires.are_words; sure = refl }

pub loop-value-preserved : goal.loop-value-preserved
loop-value-preserved g c = record {
  at = omega (arith, c.loop-value.invariant.at);
  written =
      more_written _ _ _ c.args.first c.loop-value.value-index c.loop-value.address _ c.args.values.now c.in_ok-put.ensures.stored c.loop-value.invariant.at refl
      c.loop-value.invariant.are_words.count (omega (arith, c.loop-value.invariant.at, c.requires.within)) c.loop-value.invariant.written;
  made =
      let within : c.loop-value.value-index < length c.args.values.now = search rules in
      made-more _ _ _ c.args.first c.loop-value.value-index c.loop-value.address _ c.args.values.now c.in_ok-put.ensures.stored c.loop-value.invariant.at refl within
      (let size = c.loop-value.invariant.are_words.count in omega (arith, c.loop-value.invariant.at, c.requires.within, size)) c.loop-value.invariant.made;
  are_words = c.put.ensures.keeps.are_words c.loop-value.invariant.are_words;
  sure = c.put.ensures.keeps.stays_sure ∙ c.loop-value.invariant.sure;
}

pub returns-in_err-put-clause-stopped : goal.returns-in_err-put-clause-stopped
returns-in_err-put-clause-stopped g c =
    at_err c.from_residual.result (refused _ _ _ c.args.first c.loop-value.value-index c.args.values.now c.in_err-put.ensures.stopped c.loop-value.invariant.made)

pub returns-clause-made : goal.returns-clause-made
returns-clause-made g c =
    let most : length c.args.values.now ≤ c.loop-value.value-index = search rules in
    all-made _ _ c.args.first c.loop-value.value-index c.args.values.now most c.loop-value.invariant.made
