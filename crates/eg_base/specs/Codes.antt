-- How the states of the stores in memory are written as numbers and lists. The prover needs that for each
-- type of which contracts see the values.
use Rattle.std.specs.Prelude.{ℕ, List, refl}
use Rattle.std.specs.Coded.{Coded, code_by, coded×, coded_ℕ, coded_list}
use Rattle.std.specs.FinMap.{code}
use Rattle.eg_base.specs.Outside.{Files}
use Rattle.eg_base.specs.Fakes.{StoreState, SureStoreState}

-- files are written as their sorted entries
abbrev pub files_code : Coded Files
files_code = code (coded_list coded_ℕ) (coded_list coded_ℕ)

abbrev pub store_code : Coded StoreState
store_code =
    code_by (Files × (List ℕ × (ℕ × ℕ)))
    (coded× files_code (coded× (coded_list coded_ℕ) (coded× coded_ℕ coded_ℕ)))
    (λ s. (s.files, (s.failing, (s.reads, s.faults))))
    (λ t. record { files = t.0; failing = t.1.0; reads = t.1.1.0; faults = t.1.1.1 })
    (λ _. refl)

abbrev pub sure_store_code : Coded SureStoreState
sure_store_code =
    code_by (Files × ℕ) (coded× files_code coded_ℕ) (λ s. (s.files, s.faults))
    (λ t. record { files = t.0; faults = t.1 })
    (λ _. refl)
