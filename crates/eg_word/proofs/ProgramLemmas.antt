-- What is known of the code of a guarded memory, and of its program.
use Rattle.std.proofs.Common.{◌≡◌, ◌∙◌, refl, sym, ap, ap₂, subst, ℕ, zero, suc, ◌+◌, ◌<◌, ◌≤◌, IsTrue, arith, inl, inr}
use Rattle.std.proofs.Common.{◌-◌, List, [], ◌++◌, length, slice_index, slice_set, take, drop, replicate}
use Rattle.std.specs.Prelude.{slice_index_or, Some}
use Rattle.std.proofs.lemmas.List.{length-set, length-replicate, length-take, length-append, length-drop, take_all}
use Rattle.std.proofs.lemmas.List.{get_or-set_same, get_or-set_other, get_or-take, get_or_past, get_or_append_left, get_or-append_right, get_or-drop}
use Rattle.std.proofs.lemmas.Bool.{cases_eq, cases_lt}
use Rattle.eg_guard.specs.declared.regions.Who.TheVariants.{Level1}
use Rattle.eg_guard.specs.Regions.{allows, access}
use Rattle.eg_guard.specs.Memory.{SameOutside}
use Rattle.eg_guard.proofs.AccessLemmas.{code-is}
use Rattle.eg_word.specs.declared.instruction.Instruction.{Instruction}
use Rattle.eg_word.specs.Instructions.{instruction_of}
use Rattle.eg_word.specs.Memory.{load_from, is_level1_own}
use Rattle.eg_word.specs.Program.{IsProgramOf, IsOfFew}

-- level 1 may load its code
pub code_loads : (address : ℕ) → address < 1024 → IsTrue (access Level1 address).load
unfolding access allows
code_loads address within = rw (code-is address within) refl

-- so it loads the word that stands there
pub code_loaded : (words : List ℕ) (address : ℕ) → address < 1024 → load_from words address ≡ Some (slice_index words address)
unfolding load_from access allows
code_loaded words address within = rw (code-is address within) refl

-- ---- the program of an image ----

-- a list of one instruction shows it at each place
replicate-index : (count k : ℕ) (it past : Instruction) → k < count → slice_index_or (replicate count it) k past ≡ it
replicate-index zero k it past within = absurd (omega arith)
replicate-index (suc count) zero it past within = refl
replicate-index (suc count) (suc k) it past within = replicate-index count k it past (omega arith)

-- code of zeros is the program of no words
pub program-begins : (program : List Instruction) → program ≡ replicate 1024 (instruction_of 0) → IsProgramOf [] program
program-begins program is = record {
  count = ap length is ∙ length-replicate 1024 (instruction_of 0);
  each = λ address past within. ap (λ p. slice_index_or p address past) is ∙ replicate-index 1024 address (instruction_of 0) past within;
}

-- where the words of a program are put to 0, it is that of no words
module _ (used : ℕ) (program front : List Instruction) (it : Instruction) (of : IsOfFew used program)
    (made : front ≡ replicate (length (take used program)) it) (zeros : it ≡ instruction_of 0) where
  abbrev cleared : List Instruction
  cleared = front ++ drop used program

  is : front ≡ replicate used (instruction_of 0)
  is = let count : length (take used program) ≡ used = omega (arith, length-take used program, of.is.count, of.fits) in made ∙ ap₂ replicate count zeros

  as_many : length front ≡ used
  as_many = ap length is ∙ length-replicate used (instruction_of 0)

  cleared-each : (k : ℕ) (past : Instruction) → k < 1024 → slice_index_or cleared k past ≡ instruction_of 0
  cleared-each k past within =
      elim (cases_lt k used) [
        | inl before ↦ get_or_append_left front (drop used program) past k (omega (arith, as_many))
            ∙ ap (λ xs. slice_index_or xs k past) is ∙ replicate-index used k (instruction_of 0) past before
        | inr from ↦ let place : used + (k - used) ≡ k = omega arith in
            get_or-append_right front (drop used program) used k past as_many from
            ∙ get_or-drop used program (k - used) past ∙ ap (λ n. slice_index_or program n past) place
            ∙ of.is.each k past within ∙ ap instruction_of (get_or_past of.words k 0 (omega (arith, of.few)))
      ]

  pub program-cleared : IsProgramOf [] cleared
  program-cleared = record {
    count = omega (arith, length-append front (drop used program), as_many, length-drop used program, of.is.count, of.fits);
    each = cleared-each;
  }

-- the first `count` words of an image show 0 at each place from `count` on
beyond-take : (image : List ℕ) (count k : ℕ) → count ≤ k → slice_index (take count image) k ≡ 0
beyond-take image count k past = get_or_past (take count image) k 0 (omega (arith, length-take count image))

-- a word more is decoded into its place
module _ (image : List ℕ) (program : List Instruction) (i : ℕ) (is : IsProgramOf (take i image) program) (within : i < 1024) where
  abbrev more : List Instruction
  more = slice_set program i (instruction_of (slice_index image i))

  more-each : (k : ℕ) (past : Instruction) → k < 1024
      → slice_index_or more k past ≡ instruction_of (slice_index (take (i + 1) image) k)
  more-each k past place =
      elim (cases_eq k i) [
        | inl here ↦ let inside : i < length program = omega (arith, is.count) in
            ap (λ n. slice_index_or more n past) here ∙ get_or-set_same program i _ past inside
            ∙ ap instruction_of (sym (ap (slice_index (take (i + 1) image)) here ∙ get_or-take (i + 1) image i 0 (omega arith)))
        | inr other ↦ get_or-set_other program i k _ past other ∙ is.each k past place ∙ ap instruction_of (same other)
      ]
    where
      same : (k ≡ i → ⊥) → slice_index (take i image) k ≡ slice_index (take (i + 1) image) k
      same other = elim (cases_lt k i) [
        | inl before ↦ get_or-take i image k 0 before ∙ sym (get_or-take (i + 1) image k 0 (omega arith))
        | inr from ↦ beyond-take image i k from ∙ sym (beyond-take image (i + 1) k (let apart = other in grind arith))
      ]

  pub program-more : (made : List Instruction) → made ≡ more → IsProgramOf (take (i + 1) image) made
  program-more made e = subst (IsProgramOf (take (i + 1) image)) (sym e) (record {
    count = length-set program i _ ∙ is.count;
    each = more-each;
  })

-- the program of all words of an image
pub program-ends : (image : List ℕ) (program : List Instruction) → IsProgramOf (take (length image) image) program → IsProgramOf image program
program-ends image program is = subst (λ words. IsProgramOf words program) (take_all (length image) image (omega arith)) is

-- how a program is made
pub ruleset programs = (program-cleared, program-begins, program-more, program-ends)

-- ---- the program of other words ----

-- words that are the same throughout the code have the same program
pub program-stays : (old new : List ℕ) (program : List Instruction) → ((k : ℕ) → k < 1024 → slice_index new k ≡ slice_index old k)
    → IsProgramOf old program → IsProgramOf new program
program-stays old new program same is = record {
  count = is.count;
  each = λ k past within. is.each k past within ∙ ap instruction_of (sym (same k within));
}

-- words that are the same outside level 1's own regions have the same program
pub program-outside : (old new : List ℕ) (program : List Instruction) → SameOutside is_level1_own old new
    → IsProgramOf old program → IsProgramOf new program
unfolding is_level1_own
program-outside old new program same = program-stays old new program (λ k within. same k (ap is_level1_own (code-is k within)))
