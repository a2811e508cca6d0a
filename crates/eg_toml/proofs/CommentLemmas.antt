-- A document is the same, and weighs the same, without the comments at its front.
use Rattle.std.proofs.Common.{◌≡◌, ◌≢◌, ◌∙◌, refl, ap, sym, subst, ℕ, zero, suc, ◌+◌, ◌≤◌, ◌<◌, ◌==◌, if◌then◌else◌, Bool, true, false, List, [], ◌∷◌, length, drop, Option, Some, None, option_map, option_and_then, inl, inr, arith}
use Rattle.std.specs.Prelude.{fold}
use Rattle.std.specs.List.{prefix_len}
use Rattle.std.specs.Str.{IsUtf8, is_utf8}
use Rattle.std.proofs.lemmas.Bool.{cases_Bool}
use Rattle.std.proofs.lemmas.Bool.Decides.{nat_tests}
use Rattle.std.proofs.lemmas.List.{length-drop}
use Rattle.std.proofs.lemmas.Option.{none-some, option_and_then_some}
use Rattle.std.proofs.lemmas.Str.{IsUtf8-from_is_utf8, IsUtf8-append, IsUtf8-from_ascii}
use Rattle.std.proofs.lemmas.Str.Ascii.{IsAscii-nil, IsAscii-cons}
use Rattle.toml_parser.specs.Lexical.{first, skip_blank, skip_from, skip_turn}
use Rattle.toml.specs.Data.{Members}
use Rattle.toml.specs.Tables.{Document, close, define, no_nodes}
use Rattle.toml.specs.Parse.{line, lines, skip_bom, parse_document}
use Rattle.eg_toml.specs.Documents.{document_of}
use Rattle.eg_toml.specs.Inner.Comments.{is_visible, IsKeptBy}
use Rattle.eg_toml.specs.declared.places.Place.TheVariants.{Comment}
use Rattle.eg_toml.specs.Weight.{Weighed, weighed_on, unweighed, weight_of}
use Rattle.eg_toml.proofs.DocumentLemmas.{document-some}
use Rattle.eg_toml.proofs.WeightLemmas.{in_comment}

-- lines that are read with room for so many expressions are read with more room
lines-room : (n m : ℕ) (doc : Document) (text : List ℕ) (all : Document) → n ≤ m → lines n doc text ≡ Some all → lines m doc text ≡ Some all
unfolding lines
lines-room zero m doc text all room read = absurd (none-some all read)
lines-room (suc n) zero doc text all room read = absurd (omega arith)
lines-room (suc n) (suc m) doc text all room read = cases (length (skip_blank text) == 0) (λ next rest. lines-room n m next rest all (omega arith)) read
  where
    cases : (b : Bool) → ((next : Document) → (rest : List ℕ) → lines n next rest ≡ Some all → lines m next rest ≡ Some all)
        → (if b then Some doc else option_and_then (λ e. option_and_then (λ next. lines n next e.1) (define doc e.0)) (line (skip_blank text))) ≡ Some all
        → (if b then Some doc else option_and_then (λ e. option_and_then (λ next. lines m next e.1) (define doc e.0)) (line (skip_blank text))) ≡ Some all
    cases true more read = read
    cases false more read =
        option_and_then_some _ (line (skip_blank text)) all read λ e is changed.
        option_and_then_some _ (define doc e.0) all changed λ next defined rest.
        rw (is, defined) (more next e.1 rest)

-- what differs in its front alone, which is skipped, has the same lines
lines-blank : (n : ℕ) (doc : Document) (text rest : List ℕ) → skip_blank text ≡ skip_blank rest → lines n doc text ≡ lines n doc rest
unfolding lines
lines-blank zero doc text rest same = refl
lines-blank (suc n) doc text rest same = rw same

-- the same of documents
parse-blank : (text rest : List ℕ) (ms : Members) → skip_blank text ≡ skip_blank rest → length rest ≤ length text → skip_bom text ≡ text → skip_bom rest ≡ rest
    → parse_document rest ≡ Some ms → parse_document text ≡ Some ms
unfolding parse_document
parse-blank text rest ms same within begins goes_on parsed =
    let before : option_map (λ doc. close doc.0) (lines (suc (length rest)) (no_nodes, []) rest) ≡ Some ms = rw goes_on at parsed in
    rw begins (carried (lines (suc (length rest)) (no_nodes, []) rest) (lines (suc (length text)) (no_nodes, []) text)
    (λ all read. lines-blank _ _ text rest same ∙ lines-room (suc (length rest)) _ _ rest all (omega arith) read) before)
  where
    carried : (o p : Option Document) → ((doc : Document) → o ≡ Some doc → p ≡ Some doc)
        → option_map (λ doc. close doc.0) o ≡ Some ms → option_map (λ doc. close doc.0) p ≡ Some ms
    carried None p h e = absurd (none-some ms e)
    carried (Some doc) p h e = rw (h doc refl) e

-- the text of a document
document-parts : {P : Type 0} (bytes : List ℕ) (ms : Members) → document_of bytes ≡ Some ms → (IsUtf8 bytes → parse_document bytes ≡ Some ms → P) → P
document-parts {P} bytes ms e use_both = cases (is_utf8 bytes) (λ h. IsUtf8-from_is_utf8 bytes h) e
  where
    cases : (b : Bool) → (b ≡ true → IsUtf8 bytes) → (if b then parse_document bytes else None) ≡ Some ms → P
    cases true utf8 e = use_both (utf8 refl) e
    cases false utf8 e = absurd (none-some ms e)

kept : (text rest : List ℕ) → skip_blank text ≡ skip_blank rest → length rest ≤ length text → skip_bom text ≡ text → skip_bom rest ≡ rest
    → (IsUtf8 rest → IsUtf8 text) → IsKeptBy text rest
kept text rest same within begins goes_on utf8 ms e =
    document-parts rest ms e λ is_text parsed.
    document-some text ms (utf8 is_text) (parse-blank text rest ms same within begins goes_on parsed)

-- an ASCII byte in front of a text
behind-ascii : (c : ℕ) (rest : List ℕ) → c < 128 → IsUtf8 rest → IsUtf8 (c ∷ rest)
behind-ascii c rest ascii utf8 = IsUtf8-append (c ∷ []) rest (IsUtf8-from_ascii (c ∷ []) (IsAscii-cons c [] ascii IsAscii-nil)) utf8

-- no byte order mark
no-mark : (c : ℕ) (rest : List ℕ) → c < 128 → skip_bom (c ∷ rest) ≡ c ∷ rest
unfolding skip_bom
no-mark c rest ascii =
    let other : (c == 0xEF) ≡ false = grind (arith, nat_tests) in
    rw other

-- a line feed is left out in front of a `#` or a line feed
pub line_feed-over : (c : ℕ) (rest : List ℕ) → c < 128 → IsKeptBy (10 ∷ c ∷ rest) (c ∷ rest)
unfolding skip_from
line_feed-over c rest ascii =
    kept (10 ∷ c ∷ rest) (c ∷ rest) refl (omega arith) (no-mark 10 (c ∷ rest) (omega arith)) (no-mark c rest ascii) (behind-ascii 10 (c ∷ rest) (omega arith))

abbrev behind : List ℕ → List ℕ
behind bytes = drop (prefix_len is_visible bytes) bytes

-- visible bytes go on with a comment
visible-over : (bytes : List ℕ) → skip_from true true bytes ≡ skip_from true true (behind bytes)
unfolding skip_from
visible-over [] = refl
visible-over (c ∷ cs) = elim (cases_Bool (is_visible c)) [
  | inl visible ↦
      let goes_on : skip_turn true true c (first cs) ≡ Some true = grind (arith, nat_tests) in
      let more : 1 + prefix_len is_visible cs ≡ suc (prefix_len is_visible cs) = omega arith in
      rw (visible, goes_on, more) (visible-over cs)
  | inr other ↦ rw other
]

visible-utf8 : (bytes : List ℕ) → IsUtf8 (behind bytes) → IsUtf8 bytes
visible-utf8 [] = λ utf8. utf8
visible-utf8 (c ∷ cs) = elim (cases_Bool (is_visible c)) [
  | inl visible ↦
      let more : 1 + prefix_len is_visible cs ≡ suc (prefix_len is_visible cs) = omega arith in
      λ utf8. behind-ascii c cs (grind (arith, nat_tests)) (visible-utf8 cs (rw (visible, more) at utf8))
  | inr other ↦ λ utf8. rw other at utf8
]

-- a comment is left out up to its line feed
pub comment-over : (comment rest : List ℕ) → behind comment ≡ 10 ∷ rest → IsKeptBy (35 ∷ comment) (10 ∷ rest)
unfolding skip_from
comment-over comment rest ends =
    let short : length (10 ∷ rest) ≤ length comment = subst (λ text. length text ≤ length comment) ends (omega (arith, length-drop (prefix_len is_visible comment) comment)) in
    kept (35 ∷ comment) (10 ∷ rest) (visible-over comment ∙ rw ends refl) (omega (arith, short))
    (no-mark 35 comment (omega arith)) (no-mark 10 rest (omega arith))
    (λ utf8. behind-ascii 35 comment (omega arith) (visible-utf8 comment (rw ends utf8)))

visible-weighs : (w : Weighed) (bytes : List ℕ) → w.place ≡ Comment → fold weighed_on w (behind bytes) ≡ fold weighed_on w bytes
visible-weighs w [] e = refl
visible-weighs w (c ∷ cs) e = elim (cases_Bool (is_visible c)) [
  | inl visible ↦
      let more : 1 + prefix_len is_visible cs ≡ suc (prefix_len is_visible cs) = omega arith in
      let other : c ≢ 10 = grind (arith, nat_tests) in
      rw (visible, more) (visible-weighs w cs e ∙ ap (λ v. fold weighed_on v cs) (sym (in_comment w c e other)))
  | inr other ↦ rw other refl
]

-- and weighs nothing
pub comment-weighs : (comment rest : List ℕ) → behind comment ≡ 10 ∷ rest → weight_of (10 ∷ rest) ≡ weight_of (35 ∷ comment)
comment-weighs comment rest ends =
    let w = weighed_on unweighed 35 in
    ap (λ v. v.weight) (ap (fold weighed_on w) (sym ends) ∙ visible-weighs w comment refl)
