-- The memory map (C23, F41).
use Rattle.std.specs.Prelude.{ℕ, ◌&&◌, Bool, true, false, nat_le, nat_lt, ◌==◌, if◌then◌else◌}
use Rattle.eg_guard.specs.declared.regions.Who.{Who}
use Rattle.eg_guard.specs.declared.regions.Who.TheVariants.{Level1, Level2, Board}
use Rattle.eg_guard.specs.declared.regions.Region.{Region}
use Rattle.eg_guard.specs.declared.regions.Region.TheVariants.{Code, Data, InPorts, OutPorts, Results, Protected, Link, None}
use Rattle.eg_guard.specs.declared.regions.Allowed.{Allowed}
use Rattle.eg_guard.specs.declared.regions.TheConstants.{DATA, IN_PORTS, LAST_IN_PORT, THROTTLE, IGNITION, RESULTS, LAST_RESULT, PROTECTED, LAST_PROTECTED, LINK}

abbrev pub is_below : ℕ → ℕ → Bool
is_below next address = nat_lt address next

-- both are included
abbrev pub is_between : ℕ → ℕ → ℕ → Bool
is_between first last address = nat_le first address && nat_le address last

-- C23, F41
unfoldable pub region_of : ℕ → Region
region_of address =
    if is_below DATA address then Code
    else if is_below IN_PORTS address then Data
    else if is_between IN_PORTS LAST_IN_PORT address then InPorts
    else if is_between THROTTLE IGNITION address then OutPorts
    else if is_between RESULTS LAST_RESULT address then Results
    else if is_between PROTECTED LAST_PROTECTED address then Protected
    else if address == LINK then Link
    else None

-- ---- what each row of the map allows ----

abbrev pub nothing : Allowed
nothing = record { load = false; store = false }

abbrev pub load_only : Allowed
load_only = record { load = true; store = false }

abbrev pub both : Allowed
both = record { load = true; store = true }

abbrev pub row : Allowed → Allowed → Allowed → Who → Allowed
row level1 level2 board Level1 = level1
row level1 level2 board Level2 = level2
row level1 level2 board Board = board

-- F41, for level 1, level 2 and the board
unfoldable pub allows : Region → Who → Allowed
allows Code = row load_only nothing both
allows Data = row both nothing both
allows InPorts = row load_only load_only both
allows OutPorts = row both nothing both
allows Results = row load_only both both
allows Protected = row nothing both both
allows Link = row nothing load_only both
allows None = row nothing nothing nothing

-- C23, F41
unfoldable pub access : Who → ℕ → Allowed
access who address = allows (region_of address) who
