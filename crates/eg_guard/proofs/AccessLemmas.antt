-- What follows from the memory map.
use Rattle.std.proofs.Common.{◌≡◌, ◌⊎◌, ap, inl, inr, ℕ, ◌<◌, ◌≤◌, IsTrue, arith}
use Rattle.std.proofs.lemmas.Bool.{cases_lt}
use Rattle.std.proofs.lemmas.Bool.Decides.{nat_tests}
use Rattle.eg_guard.specs.declared.regions.Who.{Who}
use Rattle.eg_guard.specs.declared.regions.Who.TheVariants.{Level1, Level2, Board}
use Rattle.eg_guard.specs.declared.regions.Region.TheVariants.{Code, Data, InPorts, OutPorts, Results, Protected, None}
use Rattle.eg_guard.specs.Regions.{region_of, nothing, allows, access}

-- past the last word there is no region
pub region_of-beyond : (address : ℕ) → 4096 ≤ address → region_of address ≡ None
unfolding region_of
region_of-beyond address beyond = grind (arith, nat_tests)

-- nothing is allowed where there is no word
pub access-beyond : (who : Who) (address : ℕ) → 4096 ≤ address → access who address ≡ nothing
unfolding access allows
access-beyond Level1 address beyond = ap (λ r. allows r Level1) (region_of-beyond address beyond)
access-beyond Level2 address beyond = ap (λ r. allows r Level2) (region_of-beyond address beyond)
access-beyond Board address beyond = ap (λ r. allows r Board) (region_of-beyond address beyond)

-- where a load is allowed there is a word
pub load-within : (who : Who) (address : ℕ) → IsTrue (access who address).load → address < 4096
load-within who address may =
    elim (cases_lt address 4096) [
      | inl within ↦ within
      | inr beyond ↦ let is : _ ≡ _ = ap (λ a. a.load) (access-beyond who address beyond) in cc
    ]

-- where a store is allowed there is a word
pub store-within : (who : Who) (address : ℕ) → IsTrue (access who address).store → address < 4096
store-within who address may =
    elim (cases_lt address 4096) [
      | inl within ↦ within
      | inr beyond ↦ let is : _ ≡ _ = ap (λ a. a.store) (access-beyond who address beyond) in cc
    ]

-- where anything is allowed there is a word
pub ruleset within = (load-within, store-within)

-- ---- which addresses a region has ----

pub code-span : (address : ℕ) → region_of address ≡ Code → address < 1024
unfolding region_of
code-span address is = grind (arith, nat_tests)

pub data-span : (address : ℕ) → region_of address ≡ Data → (1024 ≤ address) × (address < 2048)
unfolding region_of
data-span address is = grind (arith, nat_tests)

pub in_ports-span : (address : ℕ) → region_of address ≡ InPorts → (2048 ≤ address) × (address < 2058)
unfolding region_of
in_ports-span address is = grind (arith, nat_tests)

pub out_ports-span : (address : ℕ) → region_of address ≡ OutPorts → (address ≡ 2064) ⊎ (address ≡ 2065)
unfolding region_of
out_ports-span address is = grind (arith, nat_tests)

pub results-span : (address : ℕ) → region_of address ≡ Results → (2080 ≤ address) × (address < 2085)
unfolding region_of
results-span address is = grind (arith, nat_tests)

-- ---- which region an address is in ----

pub code-is : (address : ℕ) → address < 1024 → region_of address ≡ Code
unfolding region_of
code-is address within = grind (arith, nat_tests)

pub in_ports-is : (address : ℕ) → 2048 ≤ address → address < 2058 → region_of address ≡ InPorts
unfolding region_of
in_ports-is address from to = grind (arith, nat_tests)

pub results-is : (address : ℕ) → 2080 ≤ address → address < 2085 → region_of address ≡ Results
unfolding region_of
results-is address from to = grind (arith, nat_tests)

pub protected-is : (address : ℕ) → 2096 ≤ address → address < 2123 → region_of address ≡ Protected
unfolding region_of
protected-is address from to = grind (arith, nat_tests)

pub data-is : (address : ℕ) → 1024 ≤ address → address < 2048 → region_of address ≡ Data
unfolding region_of
data-is address from to = grind (arith, nat_tests)

pub out_ports-is : (address : ℕ) → (address ≡ 2064) ⊎ (address ≡ 2065) → region_of address ≡ OutPorts
unfolding region_of
out_ports-is address is = grind (arith, nat_tests)
