-- The words of a memory in pages, and what a store to a page makes of them.
use Rattle.std.proofs.Common.{◌≡◌, ◌∙◌, ◌⊎◌, inl, inr, sym, ap, ap₂, ℕ, zero, suc, ◌+◌, ◌-◌, ◌*◌, ◌^◌, ◌<◌, ◌≤◌, List, [], ◌∷◌, ◌++◌, take, drop, length, map, get_or, slice_index, slice_set, replicate, Result, Ok, Err, OnOk, OnErr, refl, arith}
use Rattle.std.specs.List.{All, AllZip, AllByRecursion, concat}
use Rattle.std.proofs.lemmas.List.{append-nil, map-set, get_or-map, length-append, length-drop, length-map, length-set, length-replicate, length-take-le, set-get_or, take_more, take_more_set}
use Rattle.std.proofs.Math.Seq.{take-add}
use Rattle.std.proofs.lemmas.List.Folds.{concat-append}
use Rattle.std.proofs.lemmas.Slice.{take-put_mid}
use borrow.Rule.Slice.PartMut.{put_mid}
use Rattle.std.proofs.lemmas.List.Elements.{All-set, All-replicate, recursion_from_All}
use Rattle.eg_guard.specs.Memory.{AreWords}
use Rattle.eg_guard.proofs.WordsLemmas.{AreWords-set, zeros_are_words}
use Rattle.eg_pages.specs.Pages.{IsPage, ArePages}
use Rattle.eg_pages.proofs.JoinedLemmas.{HasLength, index-joined, set-joined, joined-replicate}

-- each page has 64 words
sizes : (pages : List (List ℕ)) → ArePages pages → AllByRecursion (HasLength 64) pages
sizes pages are = recursion_from_All (HasLength 64) pages are.each

-- the address lies in this page, at this place of it
pub record LiesAt (address page index : ℕ) : Type 0 where
  pub within : address < 4096
  pub split : page * 64 + index ≡ address
  pub inside : index < 64

-- Pages as lists of words.
module _ {address page index : ℕ} (pages : List (List ℕ)) (are : ArePages pages) (at : LiesAt address page index) where
  there : page < length pages
  there = omega (arith, are.count)

  -- the word at the address stands at that place
  index-pages : slice_index (get_or pages page []) index ≡ slice_index (concat pages) address
  index-pages = sym (index-joined 64 pages page index (sizes pages are) there at.inside) ∙ ap (slice_index (concat pages)) at.split

  -- a store at that place is a store to the address
  set-pages : (word : ℕ) → concat (slice_set pages page (slice_set (get_or pages page []) index word)) ≡ slice_set (concat pages) address word
  set-pages word = sym (set-joined 64 pages page index word (sizes pages are) there at.inside) ∙ ap (λ k. slice_set (concat pages) k word) at.split

  -- after it they are pages still
  ArePages-set : (word : ℕ) → word < 2 ^ 16 → ArePages (slice_set pages page (slice_set (get_or pages page []) index word))
  ArePages-set word fits =
      let old = get_or pages page [] in
      let new = slice_set old index word in
      record {
        count = length-set pages page new ∙ are.count;
        each = All-set IsPage pages page new (length-set old index word ∙ are.each page [] there) are.each;
        words = rw (set-pages word) (AreWords-set (concat pages) address word are.words at.within fits);
      }

-- ---- pages of 0s ----

pub zero_words : concat (replicate 64 (replicate 64 0)) ≡ replicate 4096 0
zero_words = joined-replicate 64 64 0

pub zero_pages : ArePages (replicate 64 (replicate 64 0))
zero_pages = record {
  count = refl;
  each = All-replicate IsPage 64 (replicate 64 0) (length-replicate {A = ℕ} 64 0);
  words = rw zero_words zeros_are_words;
}

-- ---- pages that are held ----

-- A store to a page, where the pages are what some values hold.
module _ {X : Type 0} {address page index : ℕ} (held : X → List ℕ) (pages : List X) (other : X) (are : ArePages (map held pages)) (at : LiesAt address page index) where
  held-old : held (get_or pages page other) ≡ get_or (map held pages) page []
  held-old =
      let there : page < length pages = omega (arith, are.count, length-map pages held) in
      sym (get_or-map held pages page other [] there)

  pub index-held : slice_index (held (get_or pages page other)) index ≡ slice_index (concat (map held pages)) address
  index-held = ap (λ words. slice_index words index) held-old ∙ index-pages (map held pages) are at

  -- the pages, after the one at the address was replaced by one in which the word was put
  held-set : (next : X) (word : ℕ) → held next ≡ slice_set (held (get_or pages page other)) index word
      → map held (slice_set pages page next) ≡ slice_set (map held pages) page (slice_set (get_or (map held pages) page []) index word)
  held-set next word put = map-set held pages page next
      ∙ ap (slice_set (map held pages) page) (put ∙ ap (λ words. slice_set words index word) held-old)

  pub concat-held : (next : X) (word : ℕ) → held next ≡ slice_set (held (get_or pages page other)) index word
      → concat (map held (slice_set pages page next)) ≡ slice_set (concat (map held pages)) address word
  concat-held next word put = ap concat (held-set next word put) ∙ set-pages (map held pages) are at word

  ArePages-held : (next : X) (word : ℕ) → held next ≡ slice_set (held (get_or pages page other)) index word → word < 2 ^ 16
      → ArePages (map held (slice_set pages page next))
  ArePages-held next word put fits =
      rw (held-set next word put) (ArePages-set (map held pages) are at word fits)

  -- the pages, after the one at the address was replaced by one that has the same words
  pub held-same : (next : X) → held next ≡ held (get_or pages page other) → map held (slice_set pages page next) ≡ map held pages
  held-same next same = map-set held pages page next ∙ ap (slice_set (map held pages) page) (same ∙ held-old)
      ∙ set-get_or (map held pages) page []

  -- they still are pages, whether or not the word was put
  pub ArePages-either : {T E : Type 0} (next : X) (word : ℕ) (result : Result T E) → OnOk result (held next ≡ slice_set (held (get_or pages page other)) index word)
      → OnErr result (held next ≡ held (get_or pages page other)) → word < 2 ^ 16 → ArePages (map held (slice_set pages page next))
  ArePages-either next word (Ok done) put same fits = ArePages-held next word put fits
  ArePages-either next word (Err refused) put same fits = rw (held-same next same) are

-- ---- pages that are shared ----

-- values that each are one page, or hold what this page holds, hold copies of it
pub map-clones : {X : Type 0} (held : X → List ℕ) (page : X) (pages : List X) (count : ℕ) → AllByRecursion (λ y. (y ≡ page) ⊎ (held y ≡ held page)) pages
    → length pages ≡ count → map held pages ≡ replicate count (held page)
map-clones held page [] zero same long = refl
map-clones held page [] (suc count) same long = absurd (omega arith)
map-clones held page (x ∷ pages) zero same long = absurd (omega arith)
map-clones held page (x ∷ pages) (suc count) same long =
    ap₂ (λ words rest. words ∷ rest) (elim same.0 [ inl is ↦ ap held is | inr alike ↦ alike ])
    (map-clones held page pages count same.1 (omega arith))

-- copies that hold the same as the pages, place by place, hold the same list of pages
pub map-copies : {X : Type 0} (held : X → List ℕ) (pages copies : List X) → AllZip (λ x y. held y ≡ held x) pages copies
    → map held copies ≡ map held pages
map-copies held [] [] same = refl
map-copies held [] (y ∷ copies) same = absurd same
map-copies held (x ∷ pages) [] same = absurd same
map-copies held (x ∷ pages) (y ∷ copies) same = ap₂ (λ a rest. a ∷ rest) same.0 (map-copies held pages copies same.1)

-- ---- pages in one array ----

-- the joined words of the first pages, with those of the next
concat-more : (pages : List (List ℕ)) (number : ℕ) → number < length pages
    → concat (take number pages) ++ get_or pages number [] ≡ concat (take (number + 1) pages)
concat-more pages number within =
    let page = get_or pages number [] in
    sym (concat-append (take number pages) (page ∷ []) ∙ ap (λ words. concat (take number pages) ++ words) (append-nil page))
    ∙ ap concat (sym (take_more pages number [] within))

-- the words of a memory stay 4,096 where a part of them is replaced by as many others
length-put : (words part : List ℕ) (start count : ℕ) → length words ≡ 4096 → start + count ≤ 4096 → length part ≡ count
    → length (put_mid start count words part) ≡ 4096
length-put words part start count long within same =
    let front : length (take start words) ≡ start = length-take-le start words (omega (arith, long, within)) in
    let rest : length (drop count (drop start words)) ≡ length words - start - count
    = length-drop count (drop start words) ∙ ap (λ n. n - count) (length-drop start words) in
    let behind = length-append part (drop count (drop start words)) in
    let all = length-append (take start words) (part ++ drop count (drop start words)) in
    omega (arith, long, within, same, front, rest, behind, all)

-- Where the words of the first pages were copied into one array, and then those of the next, which is held so.
pub record Copied (words : List ℕ) (pages : List (List ℕ)) (number : ℕ) : Type 0 where
  pub count : length words ≡ 4096
  pub copied : take (number * 64) words ≡ concat (take number pages)

pub copied_next : {X : Type 0} (held : X → List ℕ) (pages : List X) (other : X) (number start size : ℕ) (words part : List ℕ) → ArePages (map held pages)
    → number < 64 → start ≡ number * 64 → size ≡ 64 → part ≡ held (get_or pages number other) → Copied words (map held pages) number
    → Copied (put_mid start size words part) (map held pages) (number + 1)
copied_next held pages other number start size words part are below starts sized same copied =
    let there : number < length (map held pages) = omega (arith, are.count, below) in
    let within : number < length pages = omega (arith, there, length-map pages held) in
    let is : part ≡ get_or (map held pages) number [] = same ∙ sym (get_or-map held pages number other [] within) in
    let long : length part ≡ size = ap length is ∙ are.each number [] there ∙ sym sized in
    record {
      count = length-put words part start size copied.count (omega (arith, below, starts, sized)) long;
      copied = take-put_mid start size words part ((number + 1) * 64) (omega (arith, starts, sized, long)) (omega (arith, starts, below, copied.count))
          ∙ ap₂ (λ n page. take n words ++ page) starts is ∙ ap (λ front. front ++ get_or (map held pages) number []) copied.copied
          ∙ concat-more (map held pages) number there;
    }

-- ---- pages of given words ----

-- Where the first of these pages have the first of the words.
pub record Filled (words : List ℕ) (pages : List (List ℕ)) (number : ℕ) : Type 0 where
  pub count : length pages ≡ 64
  pub each : All IsPage pages
  pub filled : concat (take number pages) ≡ take (number * 64) words

pub filled_next : {X : Type 0} (held : X → List ℕ) (pages : List X) (next : X) (number start size : ℕ) (words part : List ℕ) → AreWords words
    → number < 64 → start ≡ number * 64 → size ≡ 64 → part ≡ take size (drop start words) → held next ≡ part
    → Filled words (map held pages) number → Filled words (map held (slice_set pages number next)) (number + 1)
filled_next held pages next number start size words part are below starts sized is put so_far =
    let there : number < length (map held pages) = omega (arith, so_far.count, below) in
    let more : (number + 1) * 64 ≡ number * 64 + 64 = omega arith in
    let set = map-set held pages number next ∙ ap (slice_set (map held pages) number) (put ∙ is ∙ ap₂ (λ n k. take n (drop k words)) sized starts) in
    let one = take 64 (drop (number * 64) words) in
    let long : length one ≡ 64 = length-take-le 64 (drop (number * 64) words)
    (let rest = length-drop (number * 64) words in omega (arith, rest, are.count, below)) in
    rw set (record {
      count = length-set (map held pages) number one ∙ so_far.count;
      each = All-set IsPage (map held pages) number one long so_far.each;
      filled = ap concat (take_more_set (map held pages) number one there)
          ∙ concat-append (take number (map held pages)) (one ∷ []) ∙ ap₂ (λ a b. a ++ b) so_far.filled (append-nil one)
          ∙ sym (ap (λ n. take n words) more ∙ take-add (number * 64) 64 words);
    })
