-- What stays in the memory while somebody else stores: the regions of level 1, of level 2 and of the board lie
-- apart.
use Rattle.std.proofs.Common.{◌≡◌, ◌∙◌, refl, sym, ap, subst, inl, inr, ℕ, ◌+◌, ◌≤◌, ◌<◌, Bool, true, false, List, slice_index, arith}
use Rattle.eg_guard.specs.declared.regions.Region.{Region}
use Rattle.eg_guard.specs.declared.regions.Region.TheVariants.{Code, Data, InPorts, OutPorts, Results, Protected, Link, None as NoRegion}
use Rattle.eg_guard.specs.Regions.{region_of}
use Rattle.eg_guard.specs.Memory.{AreWords, SameOutside}
use Rattle.eg_guard.proofs.AccessLemmas.{code-is, in_ports-is, results-is, protected-is}
use Rattle.std.specs.Prelude.{Result, Ok, Err, OnOk}
use Rattle.eg_answer.specs.declared.rules.Rules.{Rules}
use Rattle.eg_word.specs.declared.instruction.Instruction.{Instruction}
use Rattle.eg_word.proofs.ProgramLemmas.{program-stays}
use Rattle.eg_word.specs.declared.registers.Registers.{Registers}
use Rattle.eg_word.specs.Memory.{is_level1_own}
use Rattle.eg_word.specs.World.{world_of}
use Rattle.eg_word.proofs.WorldLemmas.{world_of-elsewhere}
use Rattle.eg_level2.specs.Words.{address_of, word_at, named, words_of, AreMirrored, AreWithin, is_level2_own}
use Rattle.eg_level2.specs.Inputs.{Level2Parts, IsPrepared, readings_of, asked_of}
use Rattle.eg_level2.specs.declared.lookup.Prepared.{Prepared}
use Rattle.eg_level2.proofs.PlaceLemmas.{address_is}
use Rattle.eg_turns.specs.Board.{is_board_own}
use Rattle.eg_turns.specs.Midway.{Work, IsSet, IsReady}

-- ---- where things stand ----

-- regions of somebody else than level 2
pub record LeavesWords (is_own : Region → Bool) : Type 0 where
  pub results : is_own Results ≡ false
  pub protected : is_own Protected ≡ false

level1_leaves_words : LeavesWords is_level1_own
unfolding is_level1_own
level1_leaves_words = record { results = refl; protected = refl }

board_leaves_words : LeavesWords is_board_own
unfolding is_board_own
board_leaves_words = record { results = refl; protected = refl }

-- no word of level 2 lies in them
address_of-apart : (is_own : Region → Bool) → LeavesWords is_own → (number : ℕ) → number < 32 → is_own (region_of (address_of number)) ≡ false
address_of-apart is_own leaves number within = elim (address_is number) [
  | inl low ↦ let is = low.1 in let below = low.0 in ap is_own (results-is (address_of number) (omega arith) (omega arith)) ∙ leaves.results
  | inr high ↦ let is = high.1 in let from = high.0 in ap is_own (protected-is (address_of number) (omega arith) (omega arith)) ∙ leaves.protected
]

-- level 1's own regions aren't level 2's
own-apart : (region : Region) → is_level1_own region ≡ true → is_level2_own region ≡ false
unfolding is_level1_own is_level2_own
own-apart Code is = refl
own-apart Data is = refl
own-apart InPorts is = refl
own-apart OutPorts is = refl
own-apart Results is = absurd (let clash : false ≡ true = is in cc)
own-apart Protected is = absurd (let clash : false ≡ true = is in cc)
own-apart Link is = refl
own-apart NoRegion is = refl

-- nor are they the board's
board-apart : (region : Region) → is_level1_own region ≡ true → is_board_own region ≡ false
unfolding is_level1_own is_board_own
board-apart Code is = refl
board-apart Data is = refl
board-apart InPorts is = absurd (let clash : false ≡ true = is in cc)
board-apart OutPorts is = refl
board-apart Results is = refl
board-apart Protected is = refl
board-apart Link is = absurd (let clash : false ≡ true = is in cc)
board-apart NoRegion is = refl

-- ---- what the board wrote ----

-- regions that the board alone changes while a tick is made: code, input ports and link lie outside of them
pub record LeavesBoard (is_own : Region → Bool) : Type 0 where
  pub code : is_own Code ≡ false
  pub ports : is_own InPorts ≡ false
  pub link : is_own Link ≡ false

pub level1_leaves : LeavesBoard is_level1_own
unfolding is_level1_own
level1_leaves = record { code = refl; ports = refl; link = refl }

pub level2_leaves : LeavesBoard is_level2_own
unfolding is_level2_own
level2_leaves = record { code = refl; ports = refl; link = refl }

module _ (is_own : Region → Bool) (leaves : LeavesBoard is_own) (old new : List ℕ) (same : SameOutside is_own old new) where
  port-stays : (address : ℕ) → 2048 ≤ address → address < 2058 → slice_index new address ≡ slice_index old address
  port-stays address from to = same address (ap is_own (in_ports-is address from to) ∙ leaves.ports)

  pub code-stays : (k : ℕ) → k < 1024 → slice_index new k ≡ slice_index old k
  code-stays k within = same k (ap is_own (code-is k within) ∙ leaves.code)

  pub asked-stays : asked_of new ≡ asked_of old
  unfolding asked_of region_of
  asked-stays = same 2128 leaves.link

  readings-stay : readings_of new ≡ readings_of old
  unfolding readings_of
  readings-stay =
      let a = port-stays 2048 (omega arith) (omega arith) in
      let b = port-stays 2049 (omega arith) (omega arith) in
      let c = port-stays 2050 (omega arith) (omega arith) in
      let d = port-stays 2051 (omega arith) (omega arith) in
      let e = port-stays 2052 (omega arith) (omega arith) in
      let f = port-stays 2053 (omega arith) (omega arith) in
      let g = port-stays 2054 (omega arith) (omega arith) in
      let h = port-stays 2055 (omega arith) (omega arith) in
      let p = port-stays 2056 (omega arith) (omega arith) in
      let q = port-stays 2057 (omega arith) (omega arith) in
      rw (a, b, c, d, e, f, g, h, p, q) refl

  pub set-stays : (w : Work) → AreWords new → IsSet w old → IsSet w new
  set-stays w are set = record {
    are_words = are;
    code = λ k within. code-stays k within ∙ set.code k within;
    readings = readings-stay ∙ set.readings;
    asked = asked-stays ∙ set.asked;
  }

-- ---- level 2's words while somebody else stores ----

module _ (is_own : Region → Bool) (leaves : LeavesWords is_own) (old new : List ℕ) (same : SameOutside is_own old new) where
  word-stays : (number : ℕ) → number < 32 → word_at new number ≡ word_at old number
  unfolding word_at
  word-stays number within = same (address_of number) (address_of-apart is_own leaves number within)

  words-kept : words_of new ≡ words_of old
  unfolding named
  words-kept =
      let word : (number : ℕ) → number < 32 → word_at new number ≡ word_at old number = word-stays in
      λ i. record {
        pedal = word 0 (omega arith) i;
        permitted = word 1 (omega arith) i;
        actual = word 2 (omega arith) i;
        excess = word 3 (omega arith) i;
        pairs = word 4 (omega arith) i;
        pedal_counter = word 5 (omega arith) i;
        plate_counter = word 6 (omega arith) i;
        load_counter = word 7 (omega arith) i;
        speed_counter = word 8 (omega arith) i;
        torque_counter = word 9 (omega arith) i;
        limp = word 10 (omega arith) i;
        trip = word 11 (omega arith) i;
        token = word 12 (omega arith) i;
        flow = word 13 (omega arith) i;
        last = word 14 (omega arith) i;
        sign = word 15 (omega arith) i;
      }

  mirrors-kept : AreMirrored old → AreMirrored new
  mirrors-kept are = record {
    sums = λ number within. rw (word-stays number (omega arith), word-stays (number + 16) (omega arith)) (are.sums number within);
  }

-- level 1 stores
pub words-stay : (old new : List ℕ) → SameOutside is_level1_own old new → words_of new ≡ words_of old
words-stay = words-kept is_level1_own level1_leaves_words

pub mirrors-stay : (old new : List ℕ) → SameOutside is_level1_own old new → AreMirrored old → AreMirrored new
mirrors-stay = mirrors-kept is_level1_own level1_leaves_words

-- the board stores the readings and the number of the question
module _ (old new : List ℕ) (same : SameOutside is_board_own old new) where
  pub shown-words : words_of new ≡ words_of old
  shown-words = words-kept is_board_own board_leaves_words old new same

  pub shown-mirrors : AreMirrored old → AreMirrored new
  shown-mirrors = mirrors-kept is_board_own board_leaves_words old new same

  pub shown-code : (k : ℕ) → k < 1024 → slice_index new k ≡ slice_index old k
  unfolding is_board_own
  shown-code k within = same k (ap is_board_own (code-is k within))

  pub shown-world : (m : Registers) → AreWords old → AreWords new → world_of m new ≡ world_of m old
  shown-world m were are = world_of-elsewhere m old new were are (λ address own. same address (board-apart (region_of address) own))

-- ---- level 1's world while level 2 stores ----

pub world-stays : (m : Registers) (old new : List ℕ) → AreWords old → AreWords new → SameOutside is_level2_own old new → world_of m new ≡ world_of m old
world-stays m old new were are same = world_of-elsewhere m old new were are (λ address own. same address (own-apart (region_of address) own))

-- ---- what stands before each turn ----

-- the memory is ready where the program, level 2's words and the mirrors stay
made-ready : (rules : Rules) (program : List Instruction) (old new : List ℕ) → AreWords new → ((k : ℕ) → k < 1024 → slice_index new k ≡ slice_index old k)
    → AreMirrored new → AreWithin rules (words_of new) → IsReady rules program old → IsReady rules program new
made-ready rules program old new are code mirrored within is = record {
  are_words = are;
  mirrored = mirrored;
  within = within;
  decoded = program-stays old new program code is.decoded;
}

-- after a slice of level 1
pub ready-level1 : (rules : Rules) (program : List Instruction) (old new : List ℕ) → SameOutside is_level1_own old new → AreWords new
    → IsReady rules program old → IsReady rules program new
ready-level1 rules program old new same are is =
    made-ready rules program old new are (code-stays is_level1_own level1_leaves old new same) (mirrors-stay old new same is.mirrored)
    (subst (AreWithin rules) (sym (words-stay old new same)) is.within) is

-- after the board has shown readings and question
pub ready-board : (rules : Rules) (program : List Instruction) (old new : List ℕ) → SameOutside is_board_own old new → AreWords new
    → IsReady rules program old → IsReady rules program new
ready-board rules program old new same are is =
    made-ready rules program old new are (shown-code old new same) (shown-mirrors old new same is.mirrored)
    (subst (AreWithin rules) (sym (shown-words old new same)) is.within) is

-- after a module of level 2
pub ready-level2 : {T E : Type 0} (result : Result T E) (rules : Rules) (program : List Instruction) (old new : List ℕ) → SameOutside is_level2_own old new
    → AreWords new → OnOk result (AreMirrored new) → OnOk result (AreWithin rules (words_of new)) → IsReady rules program old
    → OnOk result (IsReady rules program new)
ready-level2 (Ok x) rules program old new same are mirrored within is =
    made-ready rules program old new are (code-stays is_level2_own level2_leaves old new same) mirrored within is
ready-level2 (Err e) rules program old new same are mirrored within is = tt

-- what is prepared stays so where the link stays
pub prepared-asked : (parts : Level2Parts) (prepared : Prepared) (old new : List ℕ) → asked_of new ≡ asked_of old → IsPrepared parts (asked_of old) prepared
    → IsPrepared parts (asked_of new) prepared
prepared-asked parts prepared old new same = subst (λ asked. IsPrepared parts asked prepared) (sym same)

-- after a module of level 2
pub prepared-level2 : {T E : Type 0} (result : Result T E) (parts : Level2Parts) (prepared : Prepared) (old new : List ℕ) → SameOutside is_level2_own old new
    → IsPrepared parts (asked_of old) prepared → OnOk result (IsPrepared parts (asked_of new) prepared)
prepared-level2 (Ok x) parts prepared old new same is = prepared-asked parts prepared old new (asked-stays is_level2_own level2_leaves old new same) is
prepared-level2 (Err e) parts prepared old new same is = tt
