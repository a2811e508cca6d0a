use Rattle.std.proofs.Common.{subst, ℕ, List, refl, rules}
use Rattle.std.specs.Io.BufRead.{FillKeeps}
use Rattle.eg_lines.proofs.ReaderLemmas.{passes-part, passes-line, passes-end}
use Rattle.eg_lines.proofs.read_lines.pass_over.Goals as goal

pub returns-then-is_empty-clause-passed : goal.returns-then-is_empty-clause-passed
returns-then-is_empty-clause-passed g c =
    let rested = c.fill_buf.follows.lender-at-none in
    let filled = subst (FillKeeps _ (g.R.Read.remaining rested) (g.R.BufRead.consumable_len rested)) c.in-Ok.is c.fill_buf.follows.holds-at-none in
    passes-end (g.R.Read.remaining c.args.reader.now) (g.R.Read.remaining rested) (search rules) filled.0

pub returns-then-count-shown-clause-passed : goal.returns-then-count-shown-clause-passed
returns-then-count-shown-clause-passed g c =
    let shown : List ℕ = c.in-Ok.shown.now in
    let count : ℕ = c.line_length-count.result in
    let line = c.line_length-count.ensures in
    let rested = c.fill_buf.follows.lender-at-none in
    let filled = subst (FillKeeps _ (g.R.Read.remaining rested) (g.R.BufRead.consumable_len rested)) c.in-Ok.is c.fill_buf.follows.holds-at-none in
    passes-line _ (g.R.Read.remaining rested) _ (g.R.BufRead.consumable_len rested) shown count _
    (record { front = c.in-Ok.ensures.front; kept = filled.0; fits = filled.1 }) (search rules) (search rules) refl line.before c.consume.ensures.bytes

pub returns-clause-passed : goal.returns-clause-passed
returns-clause-passed g c =
    let shown : List ℕ = c.in-Ok.shown.now in
    let count : ℕ = c.line_length-count.result in
    let line = c.line_length-count.ensures in
    let rested = c.fill_buf.follows.lender-at-none in
    let filled = subst (FillKeeps _ (g.R.Read.remaining rested) (g.R.BufRead.consumable_len rested)) c.in-Ok.is c.fill_buf.follows.holds-at-none in
    passes-part _ (g.R.Read.remaining rested) _ (g.R.BufRead.consumable_len rested) shown count
    (record { front = c.in-Ok.ensures.front; kept = filled.0; fits = filled.1 }) line.within line.before c.consume-2.ensures.bytes
