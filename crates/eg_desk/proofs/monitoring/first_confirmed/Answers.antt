use Rattle.std.proofs.Common.{◌≡◌, ◌∙◌, ◌∷◌, ◌≤◌, ◌+◌, ℕ, true, false, Some, None, reverse, drop, length, refl, sym, ap, subst, arith}
use Rattle.std.specs.Prelude.{Option, is_some}
use Rattle.eg_num.specs.Windows.{is_confirmed, first_index}
use Rattle.eg_num.specs.Counting.{StandsFor}
use Rattle.eg_num.specs.Places.{IsFirst}
use Rattle.eg_num.proofs.CounterLemmas.{counted-nil}
use Rattle.eg_num.proofs.FirstIndexLemmas.{is_first_from, first_index-first, first_index-append, is_some-first_index}
use Rattle.eg_num.proofs.PlaceLemmas.{place_law}
use Rattle.eg_desk.specs.Check.{excesses}
use Rattle.eg_desk.proofs.ExcessLemmas.{bits_so_far, bits_so_far-all, length-bits_so_far, reverse-bits_so_far, length-excesses, next-row}
use Rattle.eg_desk.proofs.monitoring.first_confirmed.Goals as goal

-- an option without a value
no_place : (place : Option ℕ) → is_some place ≡ false → place ≡ None
no_place None e = refl
no_place (Some t) e = absurd cc

pub loop-tick-init : goal.loop-tick-init
unfolding bits_so_far is_confirmed
loop-tick-init c = record {
  goes_on = refl;
  within = omega arith;
  stands = c.new-counter.ensures ∙ sym (counted-nil c.args.rules.now.torque);
  unconfirmed = refl;
}

pub returns-then-feed : goal.returns-then-feed
returns-then-feed c =
    let w = c.args.rules.now.torque in
    let rows = c.args.rows.now in
    let all = excesses c.args.rules.now rows in
    let tick = c.loop-tick.tick in
    let bits = bits_so_far all tick in
    let b = c.excess.result in
    let next = next-row c.args.rules.now rows tick c.loop-tick.permitted c.row_permits-permitted.result c.index-rows-tick.result b c.loop-tick-test.true c.index-rows-tick.is c.row_permits-permitted.ensures c.excess.ensures c.loop-tick.invariant.goes_on in
    let within : tick ≤ length all = (let below = c.loop-tick-test.true in let many = length-excesses c.args.rules.now 0 rows in omega (arith, many)) in
    let now : is_confirmed w (b ∷ bits) ≡ true = sym (c.feed.ensures.confirmed bits c.loop-tick.invariant.stands) ∙ c.if-feed.true in
    let here : first_index w (b ∷ bits) ≡ Some tick =
    first_index-first w b bits (is_first_from w b bits now c.loop-tick.invariant.unconfirmed) ∙ ap Some (length-bits_so_far all tick within) in
    let first : first_index w (reverse all) ≡ Some tick =
    ap (first_index w) (reverse-bits_so_far all (tick + 1)) ∙ first_index-append w (reverse (drop (tick + 1) all)) _ tick (ap (first_index w) next.0 ∙ here) in
    let P : Option ℕ → Type 0 = IsFirst w all in
    subst P first (place_law w c.limit-limit.ensures.weights all).least

pub loop-tick-preserved : goal.loop-tick-preserved
loop-tick-preserved c =
    let w = c.args.rules.now.torque in
    let bits = bits_so_far (excesses c.args.rules.now c.args.rows.now) c.loop-tick.tick in
    let next = next-row c.args.rules.now c.args.rows.now c.loop-tick.tick c.loop-tick.permitted c.row_permits-permitted.result c.index-rows-tick.result c.excess.result c.loop-tick-test.true c.index-rows-tick.is c.row_permits-permitted.ensures c.excess.ensures c.loop-tick.invariant.goes_on in
    let more = sym next.0 in
    record {
      goes_on = next.1;
      within = c.feed.ensures.within;
      stands = subst (StandsFor w c.feed.new.self.value) more (c.feed.ensures.windows bits c.loop-tick.invariant.stands);
      unconfirmed = ap (is_confirmed w) (sym more) ∙ sym (c.feed.ensures.confirmed bits c.loop-tick.invariant.stands) ∙ c.if-feed.false;
    }

pub returns : goal.returns
returns c =
    let w = c.args.rules.now.torque in
    let all = excesses c.args.rules.now c.args.rows.now in
    let past : length all ≤ c.loop-tick.tick = (let end = c.loop-tick-test.false in let many = length-excesses c.args.rules.now 0 c.args.rows.now in omega (arith, many)) in
    let unconfirmed : is_confirmed w (reverse all) ≡ false = ap (is_confirmed w) (sym (bits_so_far-all all c.loop-tick.tick past)) ∙ c.loop-tick.invariant.unconfirmed in
    let none : first_index w (reverse all) ≡ None = no_place (first_index w (reverse all)) (is_some-first_index w (reverse all) ∙ unconfirmed) in
    let P : Option ℕ → Type 0 = IsFirst w all in
    subst P none (place_law w c.limit-limit.ensures.weights all).least
