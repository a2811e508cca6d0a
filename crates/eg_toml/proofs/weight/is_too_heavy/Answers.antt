use Rattle.std.proofs.Common.{◌≡◌, ◌∙◌, ◌<◌, ◌≤◌, ◌-◌, ◌∷◌, List, ℕ, length, drop, slice_index, ap, refl, sym, subst, arith}
use Rattle.std.specs.Prelude.{fold}
use Rattle.std.proofs.lemmas.List.{drop_more, length-drop}
use Rattle.eg_toml.specs.Weight.{weighed_on, heaviest}
use Rattle.eg_toml.proofs.WeightLemmas.{slice_from, whole_on, counted_on, stays_heavy}
use Rattle.eg_toml.proofs.weight.is_too_heavy.Goals as goal

first : (rest : List ℕ) → 1 ≤ length rest → rest ≡ slice_index rest 0 ∷ drop 1 rest
first rest some = drop_more rest 0 0 (omega arith)

pub returns-then-scale-gt-HEAVIEST : goal.returns-then-scale-gt-HEAVIEST
returns-then-scale-gt-HEAVIEST c =
    let w = c.loop-rest.scale in let after = c.put.new.self in
    let bytes = c.args.bytes.now in let rest = c.loop-rest.rest.now in let behind = drop 1 rest in
    let here = first rest c.in-len1-up.len_at_least in
    let whole = whole_on w after bytes rest behind behind (slice_index rest 0) here c.put.ensures refl c.loop-rest.invariant.whole in
    let heavy = subst (λ w. heaviest < w.weight) c.scale.view_is c.if-scale-gt-HEAVIEST.true in
    sym (stays_heavy after behind bytes whole heavy)

pub loop-rest-preserved : goal.loop-rest-preserved
loop-rest-preserved c =
    let w = c.loop-rest.scale in let after = c.put.new.self in
    let bytes = c.args.bytes.now in let rest = c.loop-rest.rest.now in let behind = drop 1 rest in
    let left = c.past_comments-rest.result.now in
    let some = c.in-len1-up.len_at_least in let within = c.loop-rest.invariant.left in
    let shorter : length left ≤ length behind =
    subst (λ slice. length left ≤ length slice) (slice_from 1 rest) c.past_comments-rest.ensures.short in
    let same = c.past_comments-rest.ensures.same ∙ ap (fold weighed_on after) (slice_from 1 rest) in
    record {
      whole = whole_on w after bytes rest behind left (slice_index rest 0) (first rest some) c.put.ensures same c.loop-rest.invariant.whole;
      small = subst (λ w. w.weight ≤ heaviest) c.scale.view_is c.if-scale-gt-HEAVIEST.false;
      left = omega (arith, shorter, within, length-drop 1 rest);
      counts = counted_on w after (length bytes - length rest) (length bytes - length left) (slice_index rest 0)
          (omega (arith, shorter, within, some, length-drop 1 rest)) c.put.ensures c.loop-rest.invariant.counts;
    }
