-- Which line writes which word, what `line_words` answers for each kind of list of lines, and what the reader of the lines has seen.
use Rattle.std.proofs.Common.{◌≡◌, ◌∙◌, sym, ap, refl, subst, ℕ, ◌+◌, ◌≤◌, ◌<◌, List, [], ◌∷◌, ◌++◌, length, take, true, false, arith, None, Ok, Err, append-nil, length-append}
use Rattle.std.specs.Prelude.{All, is_none, filter_map, nat_lt}
use Rattle.std.proofs.lemmas.Bool.Decides.{nat_tests}
use Rattle.std.proofs.lemmas.List.{take_all}
use Rattle.std.proofs.Math.Seq.{take-append_seam}
use Rattle.eg_input.specs.Images.{Line, word_of, line_words, words_unless}
use Rattle.eg_input.specs.declared.fault.ImageFault.TheVariants as fault
use Rattle.eg_input.proofs.RowsLemmas.{position_from-none, first_missing}
use Rattle.eg_input.proofs.Seen.{Seen}

-- at most `most` lines that each write a word
pub words-all : (most : ℕ) (lines : List Line) → length lines ≤ most → All (λ line. is_none (word_of line) ≡ false) lines
    → line_words most lines ≡ Ok (filter_map word_of lines)
unfolding line_words words_unless
words-all most lines few clean =
    let enough : nat_lt most (length lines) ≡ false = grind (arith, nat_tests) in
    rw (take_all most lines few, position_from-none (λ line. is_none (word_of line)) 1 lines clean, enough) refl

-- a line that writes no word, behind fewer than `most` lines that do
pub words-bad : (most : ℕ) (good : List Line) (bad : Line) (rest : List Line) → length good < most → All (λ line. is_none (word_of line) ≡ false) good
    → word_of bad ≡ None → line_words most (good ++ bad ∷ rest) ≡ Err (fault.Line (length good + 1))
unfolding line_words words_unless
words-bad most good bad rest room clean here = rw (first_missing 1 most word_of good bad rest room clean here) refl

-- more than `most` lines, the first `most` of which write a word
pub words-long : (most : ℕ) (lines : List Line) → most < length lines → All (λ line. is_none (word_of line) ≡ false) (take most lines)
    → line_words most lines ≡ Err fault.Long
unfolding line_words words_unless
words-long most lines more clean =
    let long : nat_lt most (length lines) ≡ true = grind (arith, nat_tests) in
    rw (position_from-none (λ line. is_none (word_of line)) 1 (take most lines) clean, long) refl

-- where all was seen, these are the words
pub seen-words : (most : ℕ) (lines : List Line) (words : List ℕ) (count : ℕ) → Seen word_of lines [] words count → count ≤ most
    → line_words most lines ≡ Ok words
seen-words most lines words count s room =
    let whole : lines ≡ s.seen = s.parts ∙ append-nil s.seen in
    let counted = s.counted in
    rw whole (words-all most s.seen (omega arith) s.clean ∙ ap (λ (ws : List ℕ). Ok ws) (sym s.rows_are))

-- a line that writes no word, behind lines that were seen, is the first one
pub seen-bad_line : (most : ℕ) (lines : List Line) (line : Line) (rest : List Line) (words : List ℕ) (count : ℕ)
    → Seen word_of lines (line ∷ rest) words count → count < most → word_of line ≡ None
    → line_words most lines ≡ Err (fault.Line (count + 1))
seen-bad_line most lines line rest words count s room bad =
    let counted = s.counted in
    rw (s.parts, ← s.counted) (words-bad most s.seen line rest (omega arith) s.clean bad)

-- a line behind `most` lines that were seen makes the file too long
pub seen-long_file : (most : ℕ) (lines : List Line) (line : Line) (rest : List Line) (words : List ℕ)
    → Seen word_of lines (line ∷ rest) words most → line_words most lines ≡ Err fault.Long
seen-long_file most lines line rest words s =
    let P : ℕ → Type 0 = λ n. take n (s.seen ++ line ∷ rest) ≡ s.seen in
    let front : P most = subst P s.counted (take-append_seam s.seen (line ∷ rest)) in
    let Q : List Line → Type 0 = All (λ l. is_none (word_of l) ≡ false) in
    let counted = s.counted in
    rw s.parts (words-long most (s.seen ++ line ∷ rest) (omega (arith, length-append s.seen (line ∷ rest))) (subst Q (sym front) s.clean))
