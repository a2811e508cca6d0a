use Rattle.std.proofs.Common.{rules, ◌≡◌, ◌∙◌, ap, ◌+◌, ◌<◌, ◌++◌, ◌∷◌, [], ℕ, List, subst, arith, inr, length, Some, None}
use Rattle.std.proofs.lemmas.Grind.{common_steps}
use Rattle.std.proofs.lemmas.List.{nil_from_length}
use Rattle.std.specs.Slice.Iter.{split_inclusive_rest}
use Rattle.eg_input.specs.Images.{Line, lines_of, word_of}
use Rattle.eg_input.proofs.LineLemmas.{took_line, lines_of-nothing}
use Rattle.eg_input.proofs.Seen.{Seen, seen-more}
use Rattle.eg_input.proofs.WordLemmas.{seen-words, seen-bad_line, seen-long_file}
use Rattle.eg_input.proofs.image.read_image.Goals as goal

pub returns-then-len-eq-MOST_WORDS-clause-words : goal.returns-then-len-eq-MOST_WORDS-clause-words
returns-then-len-eq-MOST_WORDS-clause-words c =
    let P : List Line → ℕ → Type 0 = λ rest count. Seen word_of (lines_of c.args.bytes.now) rest c.loop-line.words.items count in
    let taken : lines_of (split_inclusive_rest c.loop-line.line-iterator) ≡ c.in-Some.line.now ∷ lines_of (split_inclusive_rest c.next.new.self) =
    took_line _ _ _ _ _ _ c.in-Some.ensures.steps (λ a r f called. search rules) in
    let full : length c.loop-line.words.items ≡ 1024 = grind (arith, common_steps) in
    let Q : List Line → Type 0 = λ rest. P rest 1024 in
    let R : ℕ → Type 0 = P (lines_of (split_inclusive_rest c.loop-line.line-iterator)) in
    inr (seen-long_file 1024 _ c.in-Some.line.now _ c.loop-line.words.items (subst Q taken (subst R full c.loop-line.invariant.seen)))

pub returns-in_default-clause-words : goal.returns-in_default-clause-words
returns-in_default-clause-words c =
    let Q : List Line → Type 0 = λ rest. Seen word_of (lines_of c.args.bytes.now) rest c.loop-line.words.items (length c.loop-line.words.items) in
    let taken : lines_of (split_inclusive_rest c.loop-line.line-iterator) ≡ c.in-Some.line.now ∷ lines_of (split_inclusive_rest c.next.new.self) =
    took_line _ _ _ _ _ _ c.in-Some.ensures.steps (λ a r f called. search rules) in
    let none : word_of c.in-Some.line.now ≡ None = grind (arith, common_steps) in
    let count : length c.loop-line.words.items ≡ c.len-in_default.result = grind (arith, common_steps) in
    let room : length c.loop-line.words.items < 1024 = grind (arith, common_steps) in
    let seen = seen-bad_line 1024 _ c.in-Some.line.now _ c.loop-line.words.items _ (subst Q taken c.loop-line.invariant.seen) room none in
    inr (rw (← count) seen)

pub loop-line-preserved : goal.loop-line-preserved
loop-line-preserved c =
    let Q : List Line → Type 0 = λ rest. Seen word_of (lines_of c.args.bytes.now) rest c.loop-line.words.items (length c.loop-line.words.items) in
    let taken : lines_of (split_inclusive_rest c.loop-line.line-iterator) ≡ c.in-Some.line.now ∷ lines_of (split_inclusive_rest c.next.new.self) =
    took_line _ _ _ _ _ _ c.in-Some.ensures.steps (λ a r f called. search rules) in
    let some : word_of c.in-Some.line.now ≡ Some c.in-Some-word_of.word = grind (arith, common_steps) in
    let pushed : c.loop-line.words.items ++ c.in-Some-word_of.word ∷ [] ≡ c.push.new.self.items = grind (arith, common_steps) in
    let count : length c.loop-line.words.items + 1 ≡ length c.push.new.self.items = grind (arith, common_steps) in
    let seen = seen-more word_of _ _ c.in-Some.line.now _ _ c.in-Some-word_of.word (subst Q taken c.loop-line.invariant.seen) some in
    let R : List ℕ → Type 0 = λ words. Seen word_of (lines_of c.args.bytes.now) (lines_of (split_inclusive_rest c.next.new.self)) words (length c.loop-line.words.items + 1) in
    let S : ℕ → Type 0 = Seen word_of (lines_of c.args.bytes.now) (lines_of (split_inclusive_rest c.next.new.self)) c.push.new.self.items in
    record {
      can = search rules;
      finite = tt;
      seen = subst S count (subst R pushed seen);
      few = grind (arith, common_steps);
    }

pub returns-clause-words : goal.returns-clause-words
returns-clause-words c =
    let end : lines_of (split_inclusive_rest c.loop-line.line-iterator) ≡ [] = ap lines_of (nil_from_length _ c.in-None.ensures.steps.0) ∙ lines_of-nothing in
    let Q : List Line → Type 0 = λ rest. Seen word_of (lines_of c.args.bytes.now) rest c.loop-line.words.items (length c.loop-line.words.items) in
    seen-words 1024 (lines_of c.args.bytes.now) c.loop-line.words.items _ (subst Q end c.loop-line.invariant.seen) c.loop-line.invariant.few
