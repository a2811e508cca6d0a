-- How bytes are cut into lines, and what a step of the code through them takes.
use Rattle.std.proofs.Common.{◌≡◌, ◌≢◌, ◌∙◌, sym, ap, refl, ℕ, zero, suc, ◌+◌, ◌<◌, List, [], ◌∷◌, ◌++◌, length, Bool, true, false, arith, Bor}
use Rattle.std.specs.Prelude.{All, min}
use Rattle.std.specs.Char.{is_newline}
use Rattle.std.specs.Fn.{Called, ComputesKey}
use Rattle.std.specs.List.{IsFirstMatchOrLen, concat, onto_first}
use Rattle.std.proofs.lemmas.Fn.{always_returns_same}
use Rattle.std.proofs.lemmas.List.{nil_from_length}
use Rattle.std.proofs.lemmas.List.Elements.{All-head, All-tail}
use denote.Param.Members.{Mut}
use Rattle.eg_input.specs.Images.{Line, lines_of}

-- no bytes are no lines
pub lines_of-nothing : lines_of [] ≡ []
unfolding lines_of
lines_of-nothing = refl

-- a line feed ends a line
lines_of-feed : (b : ℕ) (bytes : List ℕ) → is_newline b ≡ true → lines_of (b ∷ bytes) ≡ (b ∷ []) ∷ lines_of bytes
unfolding lines_of
lines_of-feed b bytes is = rw is refl

-- another byte belongs to the line that comes
lines_of-byte : (b : ℕ) (bytes : List ℕ) → is_newline b ≡ false → lines_of (b ∷ bytes) ≡ onto_first b (lines_of bytes)
unfolding lines_of
lines_of-byte b bytes is = rw is refl

-- the lines, one after the other, are the bytes
pub concat-lines_of : (bytes : List ℕ) → concat (lines_of bytes) ≡ bytes
concat-lines_of [] = rw lines_of-nothing refl
concat-lines_of (b ∷ bytes) = at (is_newline b) refl (lines_of bytes) refl (concat-lines_of bytes)
  where
    at : (feed : Bool) → is_newline b ≡ feed → (lines : List Line) → lines_of bytes ≡ lines → concat (lines_of bytes) ≡ bytes → concat (lines_of (b ∷ bytes)) ≡ b ∷ bytes
    at true is lines are more = rw (lines_of-feed b bytes is) (ap (λ (bs : List ℕ). b ∷ bs) more)
    at false is [] are more = rw (lines_of-byte b bytes is, are) (ap (λ (bs : List ℕ). b ∷ bs) (rw are at more))
    at false is (line ∷ lines) are more = rw (lines_of-byte b bytes is, are) (ap (λ (bs : List ℕ). b ∷ bs) (rw are at more))

-- something that isn't nothing has a first line
pub record HasFirst (bytes : List ℕ) : Type 0 where
  pub line : Line
  pub others : List Line
  pub are : lines_of bytes ≡ line ∷ others
  pub parts : bytes ≡ line ++ concat others

pub first_of : (bytes : List ℕ) → bytes ≢ [] → HasFirst bytes
first_of bytes some = at (lines_of bytes) refl
  where
    at : (lines : List Line) → lines_of bytes ≡ lines → HasFirst bytes
    at [] are = absurd (some (sym (concat-lines_of bytes) ∙ ap concat are))
    at (line ∷ others) are = record { line = line; others = others; are = are; parts = sym (concat-lines_of bytes) ∙ ap concat are }

-- bytes without a line feed and then one are a line
pub lines_of-line : (front : List ℕ) (feed : ℕ) (after : List ℕ) → All (λ b. is_newline b ≡ false) front → is_newline feed ≡ true
    → lines_of ((front ++ feed ∷ []) ++ after) ≡ (front ++ feed ∷ []) ∷ lines_of after
lines_of-line [] feed after none is = lines_of-feed feed after is
lines_of-line (b ∷ front) feed after none is =
    let other = All-head (λ b. is_newline b ≡ false) b front none in
    let more = lines_of-line front feed after (All-tail (λ b. is_newline b ≡ false) b front none) is in
    lines_of-byte b ((front ++ feed ∷ []) ++ after) other ∙ ap (onto_first b) more

-- bytes up to the first line feed and with it, or all where there is none, are the first line
first_line : (i : ℕ) (bytes line after : List ℕ) → bytes ≡ line ++ after → length line ≡ min (i + 1) (length bytes) → IsFirstMatchOrLen is_newline bytes i
    → 0 < length bytes → lines_of bytes ≡ line ∷ lines_of after
first_line i [] line after parts long first some = absurd (omega arith)
first_line i (b ∷ bytes) [] after parts long first some = absurd (omega arith)
first_line zero (b ∷ bytes) (d ∷ line) after parts long first some =
    let feed : is_newline b ≡ true = first.1 (omega arith) b in
    let alone : line ≡ [] = nil_from_length line (omega arith) in
    let same : b ≡ d = cc in
    let rest : bytes ≡ line ++ after = cc in
    let rest_is : bytes ≡ after = rest ∙ ap (λ (l : List ℕ). l ++ after) alone in
    lines_of-feed b bytes feed ∙ rw (← same, alone, rest_is) refl
first_line (suc i) (b ∷ []) (d ∷ line) after parts long first some =
    let other : is_newline b ≡ false = first.0 0 b (omega arith) (omega arith) in
    let same : b ≡ d = cc in
    let rest : [] ≡ line ++ after = cc in
    let alone : line ≡ [] = nil_from_length line (omega arith) in
    let last : [] ≡ after = rest ∙ ap (λ (l : List ℕ). l ++ after) alone in
    lines_of-byte b [] other ∙ rw (← same, alone, ← last, lines_of-nothing) refl
first_line (suc i) (b ∷ e ∷ bytes) (d ∷ line) after parts long first some =
    let other : is_newline b ≡ false = first.0 0 b (omega arith) (omega arith) in
    let same : b ≡ d = cc in
    let rest : e ∷ bytes ≡ line ++ after = cc in
    let later : IsFirstMatchOrLen is_newline (e ∷ bytes) i = (λ k x low high. first.0 (suc k) x (omega arith) (omega arith), λ within x. first.1 (omega arith) x) in
    let more = first_line i (e ∷ bytes) line after rest (omega arith) later (omega arith) in
    lines_of-byte b (e ∷ bytes) other ∙ ap (onto_first b) more ∙ rw (← same) refl

-- a step of the code through the lines takes the first one
pub took_line : {F : Type 0} (g : Mut F (Bor ℕ × Unit {0}) Bool) (f q : F) (bytes line after : List ℕ)
    → (bytes ≡ line ++ after)
    × ((i : ℕ) × (length line ≡ min (i + 1) (length bytes)) × ((p : ℕ → Bool) → ComputesKey g p f → ComputesKey g p q × IsFirstMatchOrLen p bytes i))
    × (0 < length bytes)
    → ((a : Bor ℕ × Unit {0}) (r : Bool) (f' : F) → Called g f a r f' → (r ≡ is_newline a.0.now) × (f' ≡ f))
    → lines_of bytes ≡ line ∷ lines_of after
took_line g f q bytes line after step tests =
    let key : ComputesKey g is_newline f = always_returns_same g (λ a r. r ≡ is_newline a.0.now) f tests in
    first_line step.1.0 bytes line after step.0 step.1.1 (step.1.2 is_newline key).1 step.2
