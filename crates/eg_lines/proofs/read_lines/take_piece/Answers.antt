use Rattle.std.proofs.Common.{◌≡◌, ◌≢◌, ◌∙◌, sym, subst, ℕ, ◌-◌, ◌<◌, ◌≤◌, List, length, refl, arith, rules, slice_index_or, inl, inr}
use Rattle.std.specs.Io.BufRead.{FillKeeps}
use Rattle.std.proofs.lemmas.Bool.{cases_lt}
use Rattle.eg_lines.proofs.ReaderLemmas.{reads-line, reads-cut}
use Rattle.eg_lines.proofs.read_lines.take_piece.Goals as goal

pub returns-in_ok-give-in-Some-eq10-clause-taken : goal.returns-in_ok-give-in-Some-eq10-clause-taken
returns-in_ok-give-in-Some-eq10-clause-taken g c =
    let shown : List ℕ = c.in-Ok.shown.now in
    let count : ℕ = c.line_length-count.result in
    let line = c.line_length-count.ensures in
    let rested = c.fill_buf.follows.lender-at-none in
    let filled = subst (FillKeeps _ (g.R.Read.remaining rested) (g.R.BufRead.consumable_len rested)) c.in-Ok.is c.fill_buf.follows.holds-at-none in
    let feed : slice_index_or shown count 0 ≡ 10 = search rules in
    let room : count ≤ c.args.most - length c.args.begun.now.items = search rules in
    reads-line c.args.most _ (g.R.Read.remaining rested) _ (g.R.BufRead.consumable_len rested) shown c.args.begun.now.items _ _ _ count _
    (record { front = c.in-Ok.ensures.front; kept = filled.0; fits = filled.1 }) (search rules) feed refl room c.requires.one_line line.before
    c.in_ok-give-in-Some-eq10.ensures.given c.in_ok-give-in-Some-eq10.ensures.none_begun c.consume.ensures.bytes

pub returns-in_ok-give-in-Some-clause-taken : goal.returns-in_ok-give-in-Some-clause-taken
returns-in_ok-give-in-Some-clause-taken g c =
    let shown : List ℕ = c.in-Ok.shown.now in
    let count : ℕ = c.line_length-count.result in
    let line = c.line_length-count.ensures in
    let rested = c.fill_buf.follows.lender-at-none in
    let filled = subst (FillKeeps _ (g.R.Read.remaining rested) (g.R.BufRead.consumable_len rested)) c.in-Ok.is c.fill_buf.follows.holds-at-none in
    let within : count < length shown = search rules in
    let is : slice_index_or shown count 0 ≡ c.in-Some.field-0 = search rules in
    let other : slice_index_or shown count 0 ≢ 10 = λ ten. c.in-Some.field-0-test.1 (sym is ∙ ten) in
    let asked : c.saturating_sub.result ≡ c.args.most - length c.args.begun.now.items = search rules in
    let full : count ≡ c.saturating_sub.result = elim (cases_lt count c.saturating_sub.result) [
      | inl less ↦ absurd (other (line.stops less within))
      | inr no_less ↦ let most = line.most in omega arith
    ] in
    reads-cut c.args.most _ (g.R.Read.remaining rested) _ (g.R.BufRead.consumable_len rested) shown c.args.begun.now.items c.give-in-Some.new.begun.items c.args.into.now.items c.give-in-Some.new.into.items count
    (record { front = c.in-Ok.ensures.front; kept = filled.0; fits = filled.1 }) within other (full ∙ asked) c.requires.one_line line.before
    c.in_ok-give-in-Some.ensures.given c.consume-in-Some.ensures.bytes
