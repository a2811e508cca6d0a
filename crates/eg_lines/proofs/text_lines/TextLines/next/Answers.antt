use Rattle.std.proofs.Common.{◌≡◌, ◌∙◌, sym, ap, subst, ℕ, ◌+◌, ◌-◌, List, [], ◌++◌, length, take, drop, true, false, arith, rules, take_all, length-drop, min}
use Rattle.std.proofs.lemmas.List.{nil_from_length, drop-drop}
use Rattle.eg_lines.specs.Lines.{lines_in}
use Rattle.eg_lines.specs.Sources.{Gives}
use Rattle.eg_lines.proofs.LineLemmas.{gives-none, gives-line}
use Rattle.eg_lines.proofs.text_lines.TextLines.next.Goals as goal

-- a text from a place on, as the code cuts it
from_place : (text all : List ℕ) (start : ℕ) → all ≡ text → take (length all - start) (drop start all) ≡ drop start text
from_place text all start is =
    let long = length-drop start all in
    take_all (length all - start) (drop start all) (omega arith) ∙ ap (drop start) is

pub returns-then-is_empty-clause-given : goal.returns-then-is_empty-clause-given
returns-then-is_empty-clause-given c =
    let none : drop c.self.inside.start c.self.inside.text.items ≡ [] =
    sym (from_place c.self.inside.text.items c.deref.result.now c.self.inside.start c.deref.ensures.value) ∙ nil_from_length _ (search rules) in
    subst (λ lines. Gives c.args.most lines false lines c.args.into.now.items c.args.into.now.items) c.self.view_is
    (gives-none c.args.most (drop c.self.inside.start c.self.inside.text.items) c.args.into.now.items none)

pub returns-clause-given : goal.returns-clause-given
returns-clause-given c =
    let start : ℕ = c.self.inside.start in
    let text : List ℕ = c.self.inside.text.items in
    let rest : List ℕ = take (length c.deref.result.now - start) (drop start c.deref.result.now) in
    let seen : rest ≡ drop start text = from_place text c.deref.result.now start c.deref.ensures.value in
    let line = c.line_length-length in
    let k : ℕ = c.min-2.result in
    let added : _ ≡ c.args.into.now.items ++ take (min line.result c.args.most) rest =
    c.in_ok-extend_from_slice.ensures.items ∙ ap (λ n. c.args.into.now.items ++ take n rest) c.min.ensures in
    let given = gives-line c.args.most rest c.args.into.now.items c.extend_from_slice.new.self.items line.result
    (search rules) line.ensures.within line.ensures.before (λ more. line.ensures.stops more more) added in
    let left : drop (min (length rest) (line.result + 1)) rest ≡ drop (start + k) text =
    ap (λ n. drop n rest) (sym c.min-2.ensures) ∙ ap (drop k) seen ∙ drop-drop k start text in
    subst (λ lines. Gives c.args.most lines true (lines_in (drop (start + k) text)) c.args.into.now.items c.extend_from_slice.new.self.items) (ap lines_in seen ∙ c.self.view_is)
    (subst (λ bytes. Gives c.args.most (lines_in rest) true (lines_in bytes) c.args.into.now.items c.extend_from_slice.new.self.items) left given)
