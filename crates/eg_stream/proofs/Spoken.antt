-- What a partner answers, as an engine of the bench: it shows one answer after another, in the order of time. An answer
-- that breaks a law is replaced by rest, so that the engine keeps the laws whatever was answered.
use Rattle.std.proofs.Common.{◌≡◌, ◌∙◌, refl, ℕ, Bool, true, false, arith, List, [], ◌∷◌}
use Rattle.std.specs.Prelude.{◌==◌, ◌&&◌, ◌||◌, nat_le, if◌then◌else◌}
use Rattle.std.proofs.lemmas.Bool.{and_parts}
use Rattle.std.proofs.lemmas.Bool.Decides.{nat_tests}
use Rattle.eg_plant.specs.PlantParts.{PlantParts}
use Rattle.eg_plant.specs.Engine.{Shown, KeepsLaws}
use Rattle.eg_model.specs.Engines.{BenchEngine, KeepsBenchLaws, ShowsOneLoad}
use Rattle.eg_stream.specs.Coupled.{covers}
use Rattle.eg_stream.proofs.TakenLemmas.{covers-laws}

-- ---- one answer ----

-- what an engine at rest shows
abbrev pub nothing_shown : Shown
nothing_shown = record { position = 0; load_1 = 0; load_2 = 0; torque = 0 }

-- whether this keeps the laws of engines, with the stages on or off
unfoldable pub is_lawful : (kt : ℕ) → (on : Bool) → Shown → Bool
is_lawful kt on shown = (nat_le shown.position 1000 && covers kt shown) && (on || shown.torque == 0)

-- what is shown of an answer: itself, where it keeps them
unfoldable pub said : (kt : ℕ) → (on : Bool) → Shown → Shown
said kt on shown = if is_lawful kt on shown then shown else nothing_shown

nothing-keeps : (kt : ℕ) → KeepsLaws kt nothing_shown
nothing-keeps kt = record { position = omega arith; load_1 = omega arith; load_2 = omega arith }

lawful-keeps : (kt : ℕ) (on : Bool) (shown : Shown) → is_lawful kt on shown ≡ true → KeepsLaws kt shown
unfolding is_lawful
lawful-keeps kt on shown is =
    let parts = and_parts (nat_le shown.position 1000 && covers kt shown) (on || shown.torque == 0) is in
    let laws = and_parts (nat_le shown.position 1000) (covers kt shown) parts.0 in
    covers-laws kt shown (let small = laws.0 in grind (arith, nat_tests)) laws.1

said-keeps : (kt : ℕ) (on : Bool) (shown : Shown) → KeepsLaws kt (said kt on shown)
unfolding said
said-keeps kt on shown = at (is_lawful kt on shown) refl
  where
    at : (b : Bool) → is_lawful kt on shown ≡ b → KeepsLaws kt (if b then shown else nothing_shown)
    at true is = lawful-keeps kt on shown is
    at false is = nothing-keeps kt

-- with the stages off there is no torque
said-off : (kt : ℕ) (shown : Shown) → (said kt false shown).torque ≡ 0
unfolding said is_lawful
said-off kt shown = at (nat_le shown.position 1000 && covers kt shown) (shown.torque == 0) refl
  where
    at : (b none : Bool) → (shown.torque == 0) ≡ none → (if b && none then shown else nothing_shown).torque ≡ 0
    at true true is = grind (arith, nat_tests)
    at true false is = refl
    at false none is = refl

laws-lawful : (kt : ℕ) (on : Bool) (shown : Shown) → KeepsLaws kt shown → (on ≡ false → shown.torque ≡ 0) → is_lawful kt on shown ≡ true
unfolding is_lawful covers
laws-lawful kt true shown laws off = let p = laws.position in let a = laws.load_1 in let b = laws.load_2 in grind (arith, nat_tests)
laws-lawful kt false shown laws off =
    let p = laws.position in let a = laws.load_1 in let b = laws.load_2 in let t = off refl in grind (arith, nat_tests)

-- what keeps the laws is shown as it is
pub said-lawful : (kt : ℕ) (on : Bool) (shown : Shown) → KeepsLaws kt shown → (on ≡ false → shown.torque ≡ 0) → said kt on shown ≡ shown
unfolding said
said-lawful kt on shown laws off = rw (laws-lawful kt on shown laws off) refl

-- ---- the engine ----

-- what it shows now, and what is to come, in the order of time
pub record Spoken : Type 0 where
  pub now : Shown
  pub to_come : List Shown

unfoldable pub speak : (kt : ℕ) → (on : Bool) → List Shown → Spoken
speak kt on [] = record { now = nothing_shown; to_come = [] }
speak kt on (shown ∷ later) = record { now = said kt on shown; to_come = later }

-- the engine that shows this by way of `through`
unfoldable pub spoken : (through : Shown → Shown) → List Shown → BenchEngine Spoken
spoken through told = record {
  rest = λ plant. record { now = nothing_shown; to_come = told };
  step = λ plant e throttle ignition on held. speak plant.kt on e.to_come;
  shows = λ e. through e.now;
}

-- what such a way keeps
pub record IsWay (through : Shown → Shown) : Type 0 where
  pub laws : (kt : ℕ) (shown : Shown) → KeepsLaws kt shown → KeepsLaws kt (through shown)
  pub torque : (shown : Shown) → (through shown).torque ≡ shown.torque

-- two ways: as it was answered, and the first load twice
unfoldable pub as_told : Shown → Shown
as_told shown = shown

unfoldable pub one_load : Shown → Shown
one_load shown = record shown { load_2 = shown.load_1 }

pub as_told-way : IsWay as_told
unfolding as_told
as_told-way = record { laws = λ kt shown laws. laws; torque = λ shown. refl }

pub one_load-way : IsWay one_load
unfolding one_load
one_load-way = record {
  laws = λ kt shown laws. record { position = laws.position; load_1 = laws.load_1; load_2 = laws.load_1 };
  torque = λ shown. refl;
}

-- the second shows one load
pub spoken-one_load : (told : List Shown) → ShowsOneLoad (spoken one_load told)
unfolding spoken one_load
spoken-one_load told = record { loads = λ e. refl }

-- ---- it keeps the laws of the bench ----

-- what it shows keeps the laws of engines
abbrev pub SpokenKeeps : PlantParts → Spoken → Type 0
SpokenKeeps plant e = KeepsLaws plant.kt e.now

speak-keeps : (kt : ℕ) (on : Bool) (told : List Shown) → KeepsLaws kt (speak kt on told).now
unfolding speak
speak-keeps kt on [] = nothing-keeps kt
speak-keeps kt on (shown ∷ later) = said-keeps kt on shown

speak-off : (kt : ℕ) (told : List Shown) → (speak kt false told).now.torque ≡ 0
unfolding speak
speak-off kt [] = refl
speak-off kt (shown ∷ later) = said-off kt shown

pub spoken-keeps : (through : Shown → Shown) → IsWay through → (told : List Shown) → KeepsBenchLaws (spoken through told) SpokenKeeps
unfolding spoken
spoken-keeps through way told = record {
  at_first = λ plant are. nothing-keeps plant.kt;
  goes_on = λ plant e kept throttle ignition on held within. speak-keeps plant.kt on e.to_come;
  laws = λ plant e kept. way.laws plant.kt e.now kept;
  off = λ plant e kept throttle ignition held. way.torque (speak plant.kt false e.to_come).now ∙ speak-off plant.kt e.to_come;
}
