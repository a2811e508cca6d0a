-- What words are written as, digit by digit, is an image of these words.
use Rattle.std.proofs.Common.{◌≡◌, ap, refl, ℕ, suc, ◌%◌, ◌/◌, ◌<◌, ◌≤◌, List, [], ◌∷◌, ◌++◌, length, map, codes, arith}
use Rattle.std.specs.Int.{to_be_bytes, w16}
use Rattle.std.specs.List.{AllZip, concat}
use Rattle.std.proofs.lemmas.List.{length-map}
use Rattle.hex.specs.Hex.{encode_lower, encode_with}
use Rattle.hex.proofs.HexLemmas.{IsDigits-lower_digits}
use Rattle.eg_input.specs.Images.{Line, WritesWord, IsImageOf}
use Rattle.eg_asm.specs.Listings.{image_text}
use Rattle.eg_asm.proofs.ListingLaws.{AreWords}

-- the line of a word
abbrev line : ℕ → Line
line word = encode_lower (to_be_bytes w16 word) ++ codes "\n"

line-writes : (word : ℕ) → word < 65536 → WritesWord (line word) word
unfolding encode_with
line-writes word small =
    let high = word / 256 % 256 in
    let low = word % 256 in
    record {
      digits = encode_lower (to_be_bytes w16 word);
      values = high / 16 ∷ high % 16 ∷ low / 16 ∷ low % 16 ∷ [];
      parts = refl;
      four = refl;
      written = (IsDigits-lower_digits (high / 16) (omega arith), (IsDigits-lower_digits (high % 16) (omega arith), (IsDigits-lower_digits (low / 16) (omega arith), (IsDigits-lower_digits (low % 16) (omega arith), tt))));
      number = omega arith;
    }

text-lines : (words : List ℕ) → image_text words ≡ concat (map line words)
text-lines [] = refl
text-lines (word ∷ words) = ap (λ (l : List ℕ). line word ++ l) (text-lines words)

lines-write : (words : List ℕ) → AreWords words → AllZip WritesWord (map line words) words
lines-write [] small = tt
lines-write (word ∷ words) small = (line-writes word (small 0), lines-write words (λ i. small (suc i)))

pub image-law : (words : List ℕ) → AreWords words → length words ≤ 1024 → IsImageOf (image_text words) words
image-law words small few = record {
  lines = map line words;
  parts = text-lines words;
  most = omega (arith, length-map words line);
  written = lines-write words small;
}
