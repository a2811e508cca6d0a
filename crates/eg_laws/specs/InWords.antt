-- Claim 15: what the `peak`, `stretch` and `reaction` of `table` mean, each as the least number that bounds
-- something in each row or span. Rows stand newest first.
use Rattle.std.specs.Prelude.{◌≡◌, ◌↔◌, ℕ, ◌+◌, ◌≤◌, true, false, List, [], ◌∷◌, ◌++◌, All, map, Option, Some, None}
use Rattle.std.specs.List.{Contains}
use Rattle.eg_num.specs.Windows.{WeightParts, is_confirmed}
use Rattle.eg_record.specs.declared.row.Row.{Row}
use Rattle.eg_record.specs.Rows.{AreRows}
use Rattle.eg_record.specs.Spans.{spans_of}
use Rattle.eg_record.specs.Excess.{true_excess, stretch_of, peak_of}
use Rattle.eg_record.specs.Reactions.{reactions_of}
use Rattle.eg_laws.specs.Stretches.{LastsAtMost}

-- the least number of which P holds; P also holds of each greater number
abbrev pub IsLeast : (ℕ → Type 0) → ℕ → Type 0
IsLeast P least = (n : ℕ) → P n ↔ (least ≤ n)

-- ---- `peak` ----

-- no row has a torque more than n above its permitted torque plus the threshold
abbrev pub RisesAtMost : (threshold n : ℕ) → List Row → Type 0
RisesAtMost threshold n rows = All (λ row. row.torque ≤ row.limit + threshold + n) rows

abbrev pub IsPeak : (threshold : ℕ) → List Row → ℕ → Type 0
IsPeak threshold rows = IsLeast (λ n. RisesAtMost threshold n rows)

-- ---- `stretch` ----

-- the least number of rows that no stretch of true excess in a span passes
abbrev pub IsLongestStretch : (threshold : ℕ) → List Row → ℕ → Type 0
IsLongestStretch threshold rows = IsLeast (λ n. All (LastsAtMost threshold n) (spans_of rows))

-- ---- `reaction` ----

abbrev pub EndsOff : List Row → Type 0
EndsOff [] = ⊥
EndsOff (row ∷ before) = row.on ≡ false

-- C80
pub record ShowsReaction (weights : WeightParts) (threshold : ℕ) (span : List Row) : Type 0 where
  pub confirmed : is_confirmed weights (map (true_excess threshold) span) ≡ true
  pub ends : EndsOff span

-- once the true excess is confirmed in the span, the stages are off from n ticks later on
abbrev pub IsOffWithin : WeightParts → (threshold n : ℕ) → List Row → Type 0
IsOffWithin weights threshold n span =
    (later : List Row) (row : Row) (before : List Row) → span ≡ later ++ row ∷ before →
    is_confirmed weights (map (true_excess threshold) (row ∷ before)) ≡ true →
    All (λ other. row.tick + n ≤ other.tick → other.on ≡ false) span

-- so it is in each span that ends with the stages off
abbrev pub SpansReactWithin : WeightParts → (threshold : ℕ) → List (List Row) → (n : ℕ) → Type 0
SpansReactWithin weights threshold spans n =
    All (λ span. EndsOff span → IsOffWithin weights threshold n span) spans

-- C80: the least such number; or `None`, if no span shows a reaction
abbrev pub IsLongestReaction : WeightParts → (threshold : ℕ) → List (List Row) → Option ℕ → Type 0
IsLongestReaction weights threshold spans None = All (λ span. ¬ ShowsReaction weights threshold span) spans
IsLongestReaction weights threshold spans (Some longest) =
    ((span : List Row) × Contains spans span × ShowsReaction weights threshold span)
    × IsLeast (SpansReactWithin weights threshold spans) longest

-- ---- the laws ----

abbrev pub PeakIsGreatest : Type 0
PeakIsGreatest = (threshold : ℕ) (rows : List Row) → IsPeak threshold rows (peak_of threshold rows)

abbrev pub StretchIsLongest : Type 0
StretchIsLongest =
    (threshold : ℕ) (rows : List Row) → IsLongestStretch threshold rows (stretch_of threshold rows)

abbrev pub ReactionIsLongest : Type 0
ReactionIsLongest =
    (weights : WeightParts) (threshold : ℕ) (rows : List Row) → AreRows rows →
    IsLongestReaction weights threshold (spans_of rows) (reactions_of weights threshold rows).longest
