-- What `image_words` says, in the bytes of the file: it answers each of its answers exactly if that answer's words hold.
use Rattle.std.proofs.Common.{◌≡◌, ◌≢◌, ◌∙◌, sym, ap, refl, subst, ℕ, ◌+◌, ◌<◌, List, [], ◌∷◌, ◌++◌, length, take, drop, false, arith, Option, Some, None, Ok, Err, inl, inr, append-nil, length-append}
use Rattle.std.specs.Prelude.{Result, All, is_none, filter_map, ◌↔◌}
use Rattle.std.specs.List.{AllZip, concat}
use Rattle.std.proofs.lemmas.Bool.{cases_lt}
use Rattle.std.proofs.lemmas.List.{take_all, length-take, length-take-le, take-append-drop, append_cancel_left}
use Rattle.std.proofs.lemmas.List.Elements.{All-nil, All-cons, All-weaker}
use Rattle.std.proofs.lemmas.List.Folds.{concat-append}
use Rattle.std.proofs.Math.Seq.{take-append_seam}
use Rattle.eg_input.specs.Images.{Line, lines_of, word_of, image_words, WritesSome, IsImageOf, HasBadLineAt, HasTooManyLines}
use Rattle.eg_input.specs.declared.fault.ImageFault.{ImageFault}
use Rattle.eg_input.specs.declared.fault.ImageFault.TheVariants as fault
use Rattle.eg_input.proofs.LineLemmas.{lines_of-nothing, concat-lines_of, HasFirst, first_of}
use Rattle.eg_input.proofs.RowsLemmas.{first_in, split-first, filter_map-written, written-filter_map, is_missing}
use Rattle.eg_input.proofs.WordLemmas.{words-all, words-bad, words-long}
use Rattle.eg_input.proofs.WritesLemmas.{written-word_of, word_of-written, lines_of-words}

-- a line that writes a word, by the code's rule
there : (line : Line) → WritesSome line → is_none (word_of line) ≡ false
there line h = rw (word_of-written line h.0 h.1) refl

-- a line that writes no word, by the code's rule
missing : (line : Line) → (WritesSome line → ⊥) → word_of line ≡ None
missing line h = at (word_of line) refl
  where
    at : (o : Option ℕ) → word_of line ≡ o → word_of line ≡ None
    at None is = is
    at (Some word) is = absurd (h (word, written-word_of line word is))

-- a line that the code's rule reads as a word writes some word
writes : (line : Line) → is_none (word_of line) ≡ false → WritesSome line
writes line h = at (word_of line) refl h
  where
    at : (o : Option ℕ) → word_of line ≡ o → is_none o ≡ false → WritesSome line
    at None is h = absurd cc
    at (Some word) is h = (word, written-word_of line word is)

all-there : (lines : List Line) → All WritesSome lines → All (λ line. is_none (word_of line) ≡ false) lines
all-there lines h = All-weaker _ _ there lines h

all-write : (lines : List Line) → All (λ line. is_none (word_of line) ≡ false) lines → All WritesSome lines
all-write lines h = All-weaker _ _ writes lines h

-- what holds of lines and words, place by place, what follows from it does too
zip-weaker : {P Q : Line → ℕ → Type 0} → ((line : Line) (word : ℕ) → P line word → Q line word) → (lines : List Line) (words : List ℕ) → AllZip P lines words → AllZip Q lines words
zip-weaker more [] [] h = tt
zip-weaker more [] (word ∷ words) h = absurd h
zip-weaker more (line ∷ lines) [] h = absurd h
zip-weaker more (line ∷ lines) (word ∷ words) h = (more line word h.0, zip-weaker more lines words h.1)

-- lines that write words are the lines of the file that they make
lines_of-good : (good : List Line) → All WritesSome good → lines_of (concat good) ≡ good
lines_of-good good h =
    ap lines_of (sym (append-nil (concat good))) ∙ lines_of-words good [] h ∙ ap (λ (lines : List Line). good ++ lines) lines_of-nothing ∙ append-nil good

-- what a file is that gets an answer
abbrev pub Gets : List ℕ → Result (List ℕ) ImageFault → Type 0
Gets file (Ok words) = IsImageOf file words
Gets file (Err (fault.Line number)) = HasBadLineAt file number
Gets file (Err fault.Long) = HasTooManyLines file
Gets file (Err fault.Memory) = ⊥

-- good lines, and the first line of what comes behind them
cut-behind : (file rest : List ℕ) (good : List Line) → file ≡ concat good ++ rest → All WritesSome good → (first : HasFirst rest) → lines_of file ≡ good ++ first.line ∷ first.others
cut-behind file rest good parts before first = ap lines_of parts ∙ lines_of-words good rest before ∙ ap (λ (lines : List Line). good ++ lines) first.are

-- such a file gets it
image-then : (file : List ℕ) (answer : Result (List ℕ) ImageFault) → Gets file answer → image_words file ≡ answer
image-then file (Ok words) h =
    let written = filter_map-written word_of h.lines words (zip-weaker word_of-written h.lines words h.written) in
    let cut : lines_of file ≡ h.lines = ap lines_of h.parts ∙ lines_of-good h.lines (all-write h.lines written.1) in
    rw cut (words-all 1024 h.lines h.most written.1 ∙ ap (λ (ws : List ℕ). Ok ws) written.0)
image-then file (Err (fault.Line number)) h =
    let first = first_of h.rest h.more in
    let room : length h.good < 1024 = (let a = h.at in let w = h.within in omega arith) in
    rw (cut-behind file h.rest h.good h.parts h.before first, h.at)
    (words-bad 1024 h.good first.line first.others room (all-there h.good h.before) (missing first.line (h.bad first.line (concat first.others) first.parts)))
image-then file (Err fault.Long) h =
    let first = first_of h.rest h.more in
    let P : ℕ → Type 0 = λ n. take n (h.good ++ first.line ∷ first.others) ≡ h.good in
    let front : P 1024 = subst P h.count (take-append_seam h.good (first.line ∷ first.others)) in
    let Q : List Line → Type 0 = All (λ line. is_none (word_of line) ≡ false) in
    let count = h.count in
    let more : 1024 < length (h.good ++ first.line ∷ first.others) = omega (arith, length-append h.good (first.line ∷ first.others)) in
    rw (cut-behind file h.rest h.good h.parts h.before first) (words-long 1024 (h.good ++ first.line ∷ first.others) more (subst Q (sym front) (all-there h.good h.before)))
image-then file (Err fault.Memory) h = absurd h

-- a file that gets some answer
abbrev ImageKind : List ℕ → Type 0
ImageKind file = (answer : Result (List ℕ) ImageFault) × Gets file answer

-- where more lines stand behind good ones, something comes after those
more-lines : (file : List ℕ) (good : List Line) (line : Line) (others : List Line) → All WritesSome good → lines_of file ≡ good ++ line ∷ others
    → concat (line ∷ others) ≢ []
more-lines file good line others before cut none =
    let whole : file ≡ concat good =
    sym (concat-lines_of file) ∙ ap concat cut ∙ concat-append good (line ∷ others) ∙ ap (λ (bs : List ℕ). concat good ++ bs) none ∙ append-nil (concat good) in
    let long = ap length (sym (ap lines_of whole ∙ lines_of-good good before) ∙ cut) in
    absurd (omega (arith, length-append good (line ∷ others)))

-- a file of which all lines that are looked at write a word
kind-clean : (file : List ℕ) (lines : List Line) → lines_of file ≡ lines → All WritesSome (take 1024 lines) → ImageKind file
kind-clean file lines cut clean = elim (cases_lt 1024 (length lines)) [
  | inl more ↦ behind (drop 1024 lines) (take-append-drop 1024 lines) more
  | inr few ↦ (let P : List Line → Type 0 = All WritesSome in
      let all = all-there lines (subst P (take_all 1024 lines few) clean) in (
        Ok (filter_map word_of lines),
        record {
          lines = lines;
          parts = sym (concat-lines_of file) ∙ ap concat cut;
          most = few;
          written = zip-weaker written-word_of lines (filter_map word_of lines) (written-filter_map word_of lines all);
        },
      ))
]
  where
    behind : (others : List Line) → take 1024 lines ++ others ≡ lines → 1024 < length lines → ImageKind file
    behind [] parts more = let long = ap length (sym (append-nil (take 1024 lines)) ∙ parts) in absurd (omega (arith, length-take 1024 lines))
    behind (line ∷ others) parts more =
        let seam : lines_of file ≡ take 1024 lines ++ line ∷ others = cut ∙ sym parts in (
          Err fault.Long,
          record {
            good = take 1024 lines;
            rest = concat (line ∷ others);
            parts = sym (concat-lines_of file) ∙ ap concat seam ∙ concat-append (take 1024 lines) (line ∷ others);
            before = clean;
            count = length-take-le 1024 lines (omega arith);
            more = more-lines file (take 1024 lines) line others clean seam;
          },
        )

-- a file with a line that writes none behind good ones
kind-bad : (file : List ℕ) (good : List Line) (bad : Line) (others : List Line) → lines_of file ≡ good ++ bad ∷ others → length good < 1024
    → All WritesSome good → word_of bad ≡ None → ImageKind file
kind-bad file good bad others cut room before here = (
  Err (fault.Line (length good + 1)),
  record {
    good = good;
    rest = concat (bad ∷ others);
    parts = whole;
    before = before;
    more = more-lines file good bad others before cut;
    bad = no_line;
    at = refl;
    within = omega arith;
  },
)
  where
    whole : file ≡ concat good ++ concat (bad ∷ others)
    whole = sym (concat-lines_of file) ∙ ap concat cut ∙ concat-append good (bad ∷ others)

    no_line : (line : Line) (after : List ℕ) → concat (bad ∷ others) ≡ line ++ after → WritesSome line → ⊥
    no_line line after parts some =
        let one : All WritesSome (line ∷ []) = All-cons WritesSome line [] some (All-nil WritesSome) in
        let begins : lines_of (line ++ after) ≡ line ∷ lines_of after =
        ap (λ (bs : List ℕ). lines_of (bs ++ after)) (sym (append-nil line)) ∙ lines_of-words (line ∷ []) after one in
        let again : lines_of file ≡ good ++ line ∷ lines_of after =
        ap lines_of (whole ∙ ap (λ (bs : List ℕ). concat good ++ bs) parts) ∙ lines_of-words good (line ++ after) before ∙ ap (λ (lines : List Line). good ++ lines) begins in
        let same : bad ∷ others ≡ line ∷ lines_of after = append_cancel_left good (bad ∷ others) (line ∷ lines_of after) (sym cut ∙ again) in
        let same_line : bad ≡ line = cc in
        let written = word_of-written line some.0 some.1 in
        absurd cc

-- each file gets some answer
kind : (file : List ℕ) → ImageKind file
kind file = elim (first_in (λ line. is_none (word_of line)) (take 1024 (lines_of file))) [
  | inl clean ↦ kind-clean file (lines_of file) refl (all-write (take 1024 (lines_of file)) clean)
  | inr f ↦ (let room : length f.good < 1024 = (let e = ap length f.parts in omega (arith, length-take 1024 (lines_of file), length-append f.good (f.bad ∷ f.rest))) in
      kind-bad file f.good f.bad (f.rest ++ drop 1024 (lines_of file)) (split-first 1024 (lines_of file) f) room (all-write f.good f.before) (is_missing (word_of f.bad) f.here))
]

-- an answer comes exactly of a file that gets it
pub image-law : (file : List ℕ) (answer : Result (List ℕ) ImageFault) → (image_words file ≡ answer) ↔ Gets file answer
image-law file answer = (λ is. subst P (sym (image-then file is_of.0 is_of.1) ∙ is) is_of.1, image-then file answer)
  where
    is_of : ImageKind file
    is_of = kind file

    P : Result (List ℕ) ImageFault → Type 0
    P = Gets file
