-- The code's rule for the word of a line and the one in the file's words are the same, and such lines are cut as they stand.
use Rattle.std.proofs.Common.{◌≡◌, ◌∙◌, sym, ap, refl, subst, ℕ, ◌+◌, ◌*◌, ◌-◌, List, [], ◌∷◌, ◌++◌, length, take, drop, false, arith, Option, Some, None, Ok, Err, append_assoc}
use Rattle.std.specs.Prelude.{Result, All, fold, codes, option_map}
use Rattle.std.specs.Char.{is_newline}
use Rattle.std.specs.Int.{from_be_bytes, w16}
use Rattle.std.specs.List.{AllZip, concat}
use Rattle.std.specs.Result.{result_ok}
use Rattle.std.specs.Str.{bytes_eq}
use Rattle.std.proofs.lemmas.Bool.{eqb-true, false_from_ne_true}
use Rattle.std.proofs.lemmas.List.{take-append-drop}
use Rattle.std.proofs.lemmas.List.Elements.{All-nil, All-cons, All-head, All-tail}
use Rattle.std.proofs.lemmas.Slice.Eq.{bytes_eq-Decides}
use Rattle.hex.specs.Hex.{decode_pairs, decode_sized, digit_or_error, hex_digit_value, ◌>>=◌}
use Rattle.hex.specs.declared.error.FromHexError.{FromHexError}
use Rattle.hex.proofs.HexLemmas.{decode_sized-ok}
use Rattle.std.proofs.lemmas.Option.{cond_some, option_and_then_some}
use Rattle.eg_input.specs.Images.{Line, lines_of, word_of_digits, word_of, WritesWord, WritesSome}
use Rattle.eg_input.proofs.LineLemmas.{lines_of-line}

-- the word of four digits, where each has a value
unfoldable four : Option ℕ → Option ℕ → Option ℕ → Option ℕ → Option ℕ
four (Some a) (Some b) (Some c) (Some d) = Some (fold (λ number value. 16 * number + value) 0 (a ∷ b ∷ c ∷ d ∷ []))
four _ _ _ _ = None

-- four digits write the word of their values
word_of_digits-four : (a b c d : ℕ) → word_of_digits (a ∷ b ∷ c ∷ d ∷ []) ≡ four (hex_digit_value a) (hex_digit_value b) (hex_digit_value c) (hex_digit_value d)
unfolding word_of_digits decode_pairs four
word_of_digits-four a b c d = at (hex_digit_value a) (hex_digit_value b) (hex_digit_value c) (hex_digit_value d)
  where
    byte : ℕ → ℕ → ℕ → Option ℕ → Option ℕ → Result ℕ FromHexError
    byte high low i h l = digit_or_error high i h >>= (λ x. digit_or_error low (i + 1) l >>= (λ y. Ok (x * 16 + y)))

    at : (va vb vc vd : Option ℕ)
        → option_map (from_be_bytes w16) (result_ok (byte a b 0 va vb >>= (λ x. (byte c d 2 vc vd >>= (λ y. Ok (y ∷ []))) >>= (λ ys. Ok (x ∷ ys))))) ≡ four va vb vc vd
    at None vb vc vd = refl
    at (Some v) None vc vd = refl
    at (Some v) (Some w) None vd = refl
    at (Some v) (Some w) (Some x) None = refl
    at (Some v) (Some w) (Some x) (Some y) = ap (λ (n : ℕ). Some n) (omega arith)

-- where four digits write a word, each has a value
four-some : (a b c d : ℕ) (word : ℕ) (va vb vc vd : Option ℕ) → hex_digit_value a ≡ va → hex_digit_value b ≡ vb → hex_digit_value c ≡ vc → hex_digit_value d ≡ vd
    → four va vb vc vd ≡ Some word
    → (values : List ℕ) × AllZip (λ digit value. hex_digit_value digit ≡ Some value) (a ∷ b ∷ c ∷ d ∷ []) values × (word ≡ fold (λ number value. 16 * number + value) 0 values)
unfolding four
four-some a b c d word None vb vc vd ia ib ic id is = absurd cc
four-some a b c d word (Some v) None vc vd ia ib ic id is = absurd cc
four-some a b c d word (Some v) (Some w) None vd ia ib ic id is = absurd cc
four-some a b c d word (Some v) (Some w) (Some x) None ia ib ic id is = absurd cc
four-some a b c d word (Some v) (Some w) (Some x) (Some y) ia ib ic id is = (v ∷ w ∷ x ∷ y ∷ [], (ia, (ib, (ic, (id, tt)))), cc)

-- digits that write a word are four, each of which has a value
word_of_digits-some : (digits : List ℕ) (word : ℕ) → length digits ≡ 4 → word_of_digits digits ≡ Some word
    → (values : List ℕ) × AllZip (λ digit value. hex_digit_value digit ≡ Some value) digits values × (word ≡ fold (λ number value. 16 * number + value) 0 values)
word_of_digits-some [] word long is = absurd (omega arith)
word_of_digits-some (a ∷ []) word long is = absurd (omega arith)
word_of_digits-some (a ∷ b ∷ []) word long is = absurd (omega arith)
word_of_digits-some (a ∷ b ∷ c ∷ []) word long is = absurd (omega arith)
word_of_digits-some (a ∷ b ∷ c ∷ d ∷ []) word long is =
    four-some a b c d word (hex_digit_value a) (hex_digit_value b) (hex_digit_value c) (hex_digit_value d) refl refl refl refl (sym (word_of_digits-four a b c d) ∙ is)
word_of_digits-some (a ∷ b ∷ c ∷ d ∷ e ∷ digits) word long is = absurd (omega arith)

-- digits that write a word are four
word_of_digits-length : (digits : List ℕ) (word : ℕ) → word_of_digits digits ≡ Some word → length digits ≡ 4
unfolding word_of_digits
word_of_digits-length digits word is = at (decode_sized digits 2) refl is
  where
    at : (r : Result (List ℕ) FromHexError) → decode_sized digits 2 ≡ r → option_map (from_be_bytes w16) (result_ok r) ≡ Some word → length digits ≡ 4
    at (Ok bytes) ok h = decode_sized-ok digits 2 bytes ok
    at (Err e) ok h = absurd cc

-- a line that writes a word by the code's rule is such digits and a line feed
pub written-word_of : (line : Line) (word : ℕ) → word_of line ≡ Some word → WritesWord line word
unfolding word_of
written-word_of line word is = option_and_then_some word_of_digits _ word is (λ digits cut h.
    let ends = cond_some (bytes_eq (drop (length line - 1) line) (codes "\n")) (take (length line - 1) line) digits cut in
    let feed : drop (length line - 1) line ≡ codes "\n" = (bytes_eq-Decides (drop (length line - 1) line) (codes "\n")).0 ends.0 in
    let long = word_of_digits-length digits word h in
    let some = word_of_digits-some digits word long h in
    record {
      digits = digits;
      values = some.0;
      parts = sym (take-append-drop (length line - 1) line) ∙ rw (ends.1, feed) refl;
      four = long;
      written = some.1;
      number = some.2;
    })

-- four digits and a line feed write their word by the code's rule
word_of-digits : (digits values : List ℕ) → length digits ≡ 4 → AllZip (λ digit value. hex_digit_value digit ≡ Some value) digits values
    → word_of (digits ++ codes "\n") ≡ Some (fold (λ number value. 16 * number + value) 0 values)
unfolding word_of four
word_of-digits [] values long written = absurd (omega arith)
word_of-digits (a ∷ []) values long written = absurd (omega arith)
word_of-digits (a ∷ b ∷ []) values long written = absurd (omega arith)
word_of-digits (a ∷ b ∷ c ∷ []) values long written = absurd (omega arith)
word_of-digits (a ∷ b ∷ c ∷ d ∷ []) [] long written = absurd written
word_of-digits (a ∷ b ∷ c ∷ d ∷ []) (v ∷ []) long written = absurd written.1
word_of-digits (a ∷ b ∷ c ∷ d ∷ []) (v ∷ w ∷ []) long written = absurd written.1.1
word_of-digits (a ∷ b ∷ c ∷ d ∷ []) (v ∷ w ∷ x ∷ []) long written = absurd written.1.1.1
word_of-digits (a ∷ b ∷ c ∷ d ∷ []) (v ∷ w ∷ x ∷ y ∷ []) long written =
    word_of_digits-four a b c d ∙ rw (written.0, written.1.0, written.1.1.0, written.1.1.1.0) refl
word_of-digits (a ∷ b ∷ c ∷ d ∷ []) (v ∷ w ∷ x ∷ y ∷ z ∷ values) long written = absurd written.1.1.1.1
word_of-digits (a ∷ b ∷ c ∷ d ∷ e ∷ digits) values long written = absurd (omega arith)

pub word_of-written : (line : Line) (word : ℕ) → WritesWord line word → word_of line ≡ Some word
word_of-written line word h = ap word_of h.parts ∙ word_of-digits h.digits h.values h.four h.written ∙ ap (λ (n : ℕ). Some n) (sym h.number)

-- a line feed is no digit
not_newline : (digit value : ℕ) → hex_digit_value digit ≡ Some value → is_newline digit ≡ false
not_newline digit value is = false_from_ne_true (is_newline digit) (λ feed. let none = rw (eqb-true digit 10 feed) at is in cc)

digits-lack_newline : (digits values : List ℕ) → AllZip (λ digit value. hex_digit_value digit ≡ Some value) digits values → All (λ b. is_newline b ≡ false) digits
digits-lack_newline [] values h = All-nil _
digits-lack_newline (d ∷ digits) [] h = absurd h
digits-lack_newline (d ∷ digits) (v ∷ values) h = All-cons (λ b. is_newline b ≡ false) d digits (not_newline d v h.0) (digits-lack_newline digits values h.1)

-- a line that writes a word is cut as it stands
lines_of-word : (line : Line) (after : List ℕ) → WritesSome line → lines_of (line ++ after) ≡ line ∷ lines_of after
lines_of-word line after h =
    let P : Line → Type 0 = λ l. lines_of (l ++ after) ≡ l ∷ lines_of after in
    subst P (sym h.1.parts) (lines_of-line h.1.digits 10 after (digits-lack_newline h.1.digits h.1.values h.1.written) refl)

-- several lines that write words are cut as they stand
pub lines_of-words : (good : List Line) (after : List ℕ) → All WritesSome good → lines_of (concat good ++ after) ≡ good ++ lines_of after
lines_of-words [] after h = refl
lines_of-words (line ∷ good) after h =
    ap lines_of (append_assoc line (concat good) after) ∙ lines_of-word line (concat good ++ after) (All-head WritesSome line good h)
    ∙ ap (λ (lines : List Line). line ∷ lines) (lines_of-words good after (All-tail WritesSome line good h))
