-- The memory map against its table (docs/CONCEPT.md, "Guarded memory"): the region at both ends of each row, and
-- what each of the three may do there.
use Rattle.std.proofs.Common.{◌≡◌, refl, ℕ, List, [], ◌∷◌, map}
use Rattle.eg_guard.specs.declared.regions.Region.TheVariants.{Code, Data, InPorts, OutPorts, Results, Protected, Link, None}
use Rattle.eg_guard.specs.declared.regions.Who.TheVariants.{Level1, Level2, Board}
use Rattle.eg_guard.specs.Regions.{region_of, nothing, load_only, both, allows, access}

-- the first address of each row, and the last
abbrev firsts : List ℕ
firsts = 0 ∷ 1024 ∷ 2048 ∷ 2058 ∷ 2064 ∷ 2066 ∷ 2080 ∷ 2085 ∷ 2096 ∷ 2123 ∷ 2128 ∷ 2129 ∷ []

abbrev lasts : List ℕ
lasts = 1023 ∷ 2047 ∷ 2057 ∷ 2063 ∷ 2065 ∷ 2079 ∷ 2084 ∷ 2095 ∷ 2122 ∷ 2127 ∷ 2128 ∷ 65535 ∷ []

regions-first : map region_of firsts ≡ Code ∷ Data ∷ InPorts ∷ None ∷ OutPorts ∷ None ∷ Results ∷ None ∷ Protected ∷ None ∷ Link ∷ None ∷ []
unfolding region_of
regions-first = refl

regions-last : map region_of lasts ≡ Code ∷ Data ∷ InPorts ∷ None ∷ OutPorts ∷ None ∷ Results ∷ None ∷ Protected ∷ None ∷ Link ∷ None ∷ []
unfolding region_of
regions-last = refl

of_level1 : map (access Level1) firsts
    ≡ load_only ∷ both ∷ load_only ∷ nothing ∷ both ∷ nothing ∷ load_only ∷ nothing ∷ nothing ∷ nothing ∷ nothing ∷ nothing ∷ []
unfolding region_of allows access
of_level1 = refl

of_level2 : map (access Level2) firsts
    ≡ nothing ∷ nothing ∷ load_only ∷ nothing ∷ nothing ∷ nothing ∷ both ∷ nothing ∷ both ∷ nothing ∷ load_only ∷ nothing ∷ []
unfolding region_of allows access
of_level2 = refl

of_board : map (access Board) firsts
    ≡ both ∷ both ∷ both ∷ nothing ∷ both ∷ nothing ∷ both ∷ nothing ∷ both ∷ nothing ∷ both ∷ nothing ∷ []
unfolding region_of allows access
of_board = refl
