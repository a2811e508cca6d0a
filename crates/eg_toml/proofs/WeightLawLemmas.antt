-- What stands in comments and in texts weighs nothing.
use Rattle.std.proofs.Common.{◌≡◌, ℕ, ◌+◌, ◌||◌, not, ◌==◌, if◌then◌else◌, Bool, true, false, List, [], ◌∷◌, ◌++◌, refl, ap, sym, ◌∙◌, arith}
use Rattle.std.specs.Prelude.{fold}
use Rattle.std.specs.List.{list_all}
use Rattle.std.specs.Str.{byte, chars}
use Rattle.std.proofs.lemmas.Bool.{and_parts}
use Rattle.std.proofs.lemmas.Bool.Decides.{nat_tests}
use Rattle.std.proofs.lemmas.List.Sums.{fold-append}
use Rattle.eg_toml.specs.declared.places.Place.{Place}
use Rattle.eg_toml.specs.declared.places.Place.TheVariants.{Outside, Comment, Opened, Line}
use Rattle.eg_toml.specs.declared.weight.Due.{Due}
use Rattle.eg_toml.specs.declared.weight.Due.TheVariants as due
use Rattle.eg_toml.specs.Places.{is_delimiter, settled, in_line, behind}
use Rattle.eg_toml.specs.Weight.{Weighed, with_place, weighed_outside, weighed_on, unweighed}
use Rattle.eg_toml.specs.WeightLaws.{StandsOutside, CommentsWeighNothing, TextsWeighNothing, is_plain}

-- ---- one byte ----

nothing_more : (n : ℕ) → n + 0 ≡ n
nothing_more n = omega arith

-- a byte outside
on_outside : (w : Weighed) (c : ℕ) → settled w.place c ≡ Outside → weighed_on w c ≡ with_place (weighed_outside w c) (behind Outside c)
on_outside w c e = rw (e) refl

-- the begin of a comment and a line end weigh nothing, and leave what is due
abbrev with_due_of : Weighed → Due → Weighed
with_due_of w d = record w { due = d }

abbrev with_weight : Weighed → Place → ℕ → Weighed
with_weight w place n = record w { place = place; weight = n }

hash_leaves : (w : Weighed) (d : Due) → with_place (weighed_outside (with_due_of w d) (byte "#")) Comment ≡ with_place (with_due_of w d) Comment
unfolding chars
hash_leaves w due.Nothing = ap (with_weight (with_due_of w due.Nothing) Comment) (nothing_more w.weight)
hash_leaves w due.Heading = ap (with_weight (with_due_of w due.Heading) Comment) (nothing_more w.weight)
hash_leaves w due.Value = ap (with_weight (with_due_of w due.Value) Comment) (nothing_more w.weight)
hash_leaves w due.Item = ap (with_weight (with_due_of w due.Item) Comment) (nothing_more w.weight)

line_end_leaves : (w : Weighed) (d : Due) → with_place (weighed_outside (with_due_of w d) (byte "\n")) Outside ≡ with_place (with_due_of w d) Outside
unfolding chars
line_end_leaves w due.Nothing = ap (with_weight (with_due_of w due.Nothing) Outside) (nothing_more w.weight)
line_end_leaves w due.Heading = ap (with_weight (with_due_of w due.Heading) Outside) (nothing_more w.weight)
line_end_leaves w due.Value = ap (with_weight (with_due_of w due.Value) Outside) (nothing_more w.weight)
line_end_leaves w due.Item = ap (with_weight (with_due_of w due.Item) Outside) (nothing_more w.weight)

pub on_hash : (w : Weighed) → settled w.place (byte "#") ≡ Outside → weighed_on w (byte "#") ≡ with_place w Comment
unfolding chars
on_hash w e = on_outside w (byte "#") e ∙ hash_leaves w w.due

on_line_end : (w : Weighed) → settled w.place (byte "\n") ≡ Outside → weighed_on w (byte "\n") ≡ with_place w Outside
unfolding chars
on_line_end w e = on_outside w (byte "\n") e ∙ line_end_leaves w w.due

-- ---- comments ----

not-true : (b : Bool) → not b ≡ true → b ≡ false
not-true true e = absurd cc
not-true false e = refl

comment_run : (w : Weighed) (comment rest : List ℕ) → list_all (λ c. not (c == byte "\n")) comment ≡ true
    → fold weighed_on (with_place w Comment) (comment ++ byte "\n" ∷ rest) ≡ fold weighed_on (with_place w Outside) rest
unfolding chars
comment_run w [] rest e = refl
comment_run w (c ∷ cs) rest e =
    let (here, more) = and_parts (not (c == byte "\n")) (list_all (λ c. not (c == byte "\n")) cs) e in
    ap (λ b. fold weighed_on (with_place w (if b then Outside else Comment)) (cs ++ byte "\n" ∷ rest)) (not-true (c == byte "\n") here) ∙ comment_run w cs rest more

pub comments : CommentsWeighNothing
comments front comment rest hash line_end plain =
    let w = fold weighed_on unweighed front in
    ap (λ v. v.weight)
    (fold-append weighed_on unweighed front (byte "#" ∷ comment ++ byte "\n" ∷ rest)
    ∙ ap (λ v. fold weighed_on v (comment ++ byte "\n" ∷ rest)) (on_hash w hash)
    ∙ comment_run w comment rest plain
    ∙ ap (λ v. fold weighed_on v rest) (sym (on_line_end w line_end))
    ∙ sym (fold-append weighed_on unweighed front (byte "\n" ∷ rest)))

-- ---- texts ----

delimiter_opens : (d : ℕ) → is_delimiter d ≡ true → behind Outside d ≡ Opened d
unfolding chars
delimiter_opens d e = rw (no_hash d e, e) refl
  where
    no_hash : (d : ℕ) → (d == 34 || d == 39) ≡ true → (d == 35) ≡ false
    no_hash d e = grind (arith, nat_tests)

-- behind a byte that stands for itself
in_text : (first : Bool) (w : Weighed) (d c : ℕ) → is_plain d c ≡ true
    → weighed_on (with_place w (if first then Opened d else Line d)) c ≡ with_place w (Line d)
unfolding chars
in_text true w d c e =
    let (other, no_escape) = and_parts (not (c == d)) (not (c == byte "\\")) e in
    rw (not-true (c == d) other, not-true (c == byte "\\") no_escape) refl
in_text false w d c e =
    let (other, no_escape) = and_parts (not (c == d)) (not (c == byte "\\")) e in
    rw (not-true (c == d) other, not-true (c == byte "\\") no_escape) refl

same : (d : ℕ) → (d == d) ≡ true
same d = grind (arith, nat_tests)

text_run : (w : Weighed) (d : ℕ) (text rest : List ℕ) → list_all (is_plain d) text ≡ true
    → fold weighed_on (with_place w (Line d)) (text ++ d ∷ rest) ≡ fold weighed_on (with_place w Outside) rest
text_run w d [] rest e = ap (λ b. fold weighed_on (with_place w (if b then Outside else in_line d d)) rest) (same d)
text_run w d (c ∷ cs) rest e =
    let (here, more) = and_parts (is_plain d c) (list_all (is_plain d) cs) e in
    ap (λ v. fold weighed_on v (cs ++ d ∷ rest)) (in_text false w d c here) ∙ text_run w d cs rest more

-- what is known behind a text doesn't depend on it
text_told : (d a : ℕ) (front text rest : List ℕ) → is_delimiter d ≡ true → StandsOutside front d → list_all (is_plain d) (a ∷ text) ≡ true
    → fold weighed_on unweighed (front ++ (d ∷ a ∷ text ++ d ∷ rest))
    ≡ fold weighed_on (with_place (weighed_outside (fold weighed_on unweighed front) d) Outside) rest
text_told d a front text rest delimiter outside plain =
    let w = fold weighed_on unweighed front in
    let (here, more) = and_parts (is_plain d a) (list_all (is_plain d) text) plain in
    fold-append weighed_on unweighed front (d ∷ a ∷ text ++ d ∷ rest)
    ∙ ap (λ v. fold weighed_on v (a ∷ text ++ d ∷ rest)) (on_outside w d outside ∙ ap (with_place (weighed_outside w d)) (delimiter_opens d delimiter))
    ∙ ap (λ v. fold weighed_on v (text ++ d ∷ rest)) (in_text true (weighed_outside w d) d a here)
    ∙ text_run (weighed_outside w d) d text rest more

pub texts : TextsWeighNothing
texts d a b front text other rest delimiter outside one two =
    ap (λ v. v.weight) (text_told d a front text rest delimiter outside one ∙ sym (text_told d b front other rest delimiter outside two))
