-- The fold is one-to-one in its seed and in each single result.
use Rattle.std.proofs.Common.{◌≡◌, ℕ, zero, suc, ◌+◌, ◌*◌, ◌/◌, ◌%◌, ◌<◌, List, [], ◌∷◌, sym, ap, ◌∙◌, arith}
use Rattle.std.specs.Prelude.{All, bit_or, bit_xor}
use Rattle.std.specs.Int.{w16, rotate_left}
use Rattle.std.specs.Int.Bits.{xor_assoc, xor_self, xor_zero_l, xor_zero_r}
use Rattle.std.proofs.lemmas.Nat.{or_shifted, xor_of_16}
use Rattle.std.proofs.lemmas.List.Elements.{All-head, All-tail}
use Rattle.eg_answer.specs.Folds.{mixed, fold_of, FoldLaw}

-- a word of 16 bits
abbrev pub Word : ℕ → Type 0
Word n = n < 65536

-- a word moved by three places, as a sum of its two parts
moved-parts : (n : ℕ) → Word n → rotate_left w16 n 3 ≡ (n % 8192) * 8 + n / 8192
moved-parts n h =
    let low : n * 8 % 65536 ≡ (n % 8192) * 8 = omega arith in
    let small : n / 8192 < 8 = omega arith in
    ap (λ x. bit_or x (n / 8192)) low ∙ or_shifted (n % 8192) 3 (n / 8192) small

-- a word moved by three places is a word,
moved_below : (n : ℕ) → Word n → Word (rotate_left w16 n 3)
moved_below n h = let e = moved-parts n h in omega arith

-- and two words that move to the same one are the same
moved_same : (a b : ℕ) → Word a → Word b → rotate_left w16 a 3 ≡ rotate_left w16 b 3 → a ≡ b
moved_same a b h k e =
    same (a % 8192) (a / 8192) (b % 8192) (b / 8192) (omega arith) (omega arith) (sym (moved-parts a h) ∙ e ∙ moved-parts b k) (omega arith) (omega arith)
  where
    same : (x y z w : ℕ) → y < 8 → w < 8 → x * 8 + y ≡ z * 8 + w → a ≡ y * 8192 + x → b ≡ w * 8192 + z → a ≡ b
    same x y z w l m e f g = omega arith

-- exclusive or is undone by the same number, on either side
xor_back : (a r : ℕ) → bit_xor (bit_xor a r) r ≡ a
xor_back a r = xor_assoc a r r ∙ ap (bit_xor a) (xor_self r) ∙ xor_zero_r a

xor_front : (a r : ℕ) → bit_xor a (bit_xor a r) ≡ r
xor_front a r = sym (xor_assoc a a r) ∙ ap (λ x. bit_xor x r) (xor_self a) ∙ xor_zero_l r

-- one result more gives a word,
pub mixed_below : (bits r : ℕ) → Word bits → Word r → Word (mixed bits r)
unfolding mixed
mixed_below bits r h k = xor_of_16 (rotate_left w16 bits 3) r (moved_below bits h) k

-- and is one-to-one in the bits so far and in the result
pub mixed_bits : (a b r : ℕ) → Word a → Word b → mixed a r ≡ mixed b r → a ≡ b
unfolding mixed
mixed_bits a b r h k e = moved_same a b h k (sym (xor_back (rotate_left w16 a 3) r) ∙ ap (λ x. bit_xor x r) e ∙ xor_back (rotate_left w16 b 3) r)

pub mixed_result : (bits a b : ℕ) → mixed bits a ≡ mixed bits b → a ≡ b
unfolding mixed
mixed_result bits a b e = sym (xor_front (rotate_left w16 bits 3) a) ∙ ap (bit_xor (rotate_left w16 bits 3)) e ∙ xor_front (rotate_left w16 bits 3) b

-- the fold is a word,
pub fold_below : (seed : ℕ) (results : List ℕ) → Word seed → All Word results → Word (fold_of seed results)
unfolding fold_of
fold_below seed [] h words = h
fold_below seed (r ∷ rs) h words = fold_below (mixed seed r) rs (mixed_below seed r h (All-head Word r rs words)) (All-tail Word r rs words)

-- one-to-one in its seed,
pub fold_seed : (a b : ℕ) (results : List ℕ) → Word a → Word b → All Word results → fold_of a results ≡ fold_of b results → a ≡ b
unfolding fold_of
fold_seed a b [] h k words e = e
fold_seed a b (r ∷ rs) h k words e =
    let word = All-head Word r rs words in
    mixed_bits a b r h k (fold_seed (mixed a r) (mixed b r) rs (mixed_below a r h word) (mixed_below b r k word) (All-tail Word r rs words) e)

-- and in each single result
pub fold_law : FoldLaw
unfolding fold_of
fold_law seed [] index a b s words h k within e = absurd (omega arith)
fold_law seed (r ∷ rs) zero a b s words h k within e =
    mixed_result seed a b (fold_seed (mixed seed a) (mixed seed b) rs (mixed_below seed a s h) (mixed_below seed b s k) (All-tail Word r rs words) e)
fold_law seed (r ∷ rs) (suc index) a b s words h k within e =
    fold_law (mixed seed r) rs index a b (mixed_below seed r s (All-head Word r rs words)) (All-tail Word r rs words) h k (omega arith) e
