-- What contracts see of a store and of an output, which lie outside the program: what they show at a moment,
-- and how a call changes that.
use Rattle.std.specs.Prelude.{◌≡◌, ℕ, ◌+◌, ◌-◌, ◌^◌, ◌≤◌, min, List, ◌++◌, length, take, Bool, Option, option_map, IfSome, IsSomeAnd, IsNone}
use Rattle.std.specs.Ordering.{nat_cmp}
use Rattle.std.specs.Cmp.Lexicographic.{slice_cmp}
use Rattle.std.specs.FinMap.{FinMap, get}

-- files by the bytes of their names
abbrev pub Files : Type 0
Files = FinMap (slice_cmp nat_cmp) (List ℕ)

-- the files, if contracts are told of them; how many faults of reading were met; and whether the store is
-- sure, so that reading fails only if there is no such file
pub record ShownStore : Type 0 where
  pub files : Option Files
  pub faults : ℕ
  pub sure : Bool

-- what was written, if contracts are told of it; how many faults of writing were met; and whether the output
-- is sure, so that writing takes no memory
pub record ShownSink : Type 0 where
  pub written : Option (List ℕ)
  pub faults : ℕ
  pub sure : Bool

-- a count of faults rose in a call: it is greater than before, or stands at the last value of a u64
abbrev pub Rose : ℕ → ℕ → Type 0
Rose before now = min (before + 1) (2 ^ 64 - 1) ≤ now

-- ---- files ----

-- the bytes are at most `most`; and if the files are told, they are the first `most` bytes of the file of
-- that name, or all of a shorter file
abbrev pub AreFirstBytes : Option Files → List ℕ → ℕ → List ℕ → Type 0
AreFirstBytes files name most bytes =
    (length bytes ≤ most) × IfSome files (λ m. IsSomeAnd (get m name) (λ file. bytes ≡ take most file))

-- a read keeps what the buffer held, and appends the first bytes of the file
abbrev pub Reads : Option Files → List ℕ → ℕ → List ℕ → List ℕ → Type 0
Reads files name most old new = (bytes : List ℕ) × (new ≡ old ++ bytes) × AreFirstBytes files name most bytes

abbrev pub BeginsWith : List ℕ → List ℕ → Type 0
BeginsWith old new = (more : List ℕ) × (new ≡ old ++ more)

-- the files are told, and the name is not among them
abbrev pub IsMissing : Option Files → List ℕ → Type 0
IsMissing files name = IsSomeAnd files (λ m. IsNone (get m name))

-- ---- bytes that are written ----

-- these bytes were appended to what was written
abbrev pub Appends : ShownSink → ShownSink → List ℕ → Type 0
Appends before now bytes = now.written ≡ option_map (λ old. old ++ bytes) before.written

-- a prefix of these bytes was appended
abbrev pub AppendsPrefix : ShownSink → ShownSink → List ℕ → Type 0
AppendsPrefix before now bytes =
    (prefix rest : List ℕ) × (bytes ≡ prefix ++ rest) × Appends before now prefix
