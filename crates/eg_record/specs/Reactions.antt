-- The reactions of the spans of a run (C80), and whether each span goes on long enough to show one (C81).
-- All ticks are those of the run.
use Rattle.std.specs.Prelude.{ℕ, ◌+◌, ◌-◌, Bool, true, max, min, nat_le, List, [], ◌∷◌, map, Option, Some, None, option_map, if◌then◌else◌}
use Rattle.std.specs.Option.{option_or}
use Rattle.eg_num.specs.Windows.{WeightParts, is_confirmed}
use Rattle.eg_record.specs.declared.row.Row.{Row}
use Rattle.eg_record.specs.declared.reactions.Reactions.{Reactions}
use Rattle.eg_record.specs.Spans.{spans_of}
use Rattle.eg_record.specs.Stages.{last_on}
use Rattle.eg_record.specs.Excess.{true_excess}
use Rattle.eg_record.specs.Facts.{reaction_by}

-- ---- in one span, by its rows ----

-- the first tick by which the true excess is confirmed in it, or none
unfoldable pub confirmed_in : WeightParts → (threshold : ℕ) → List Row → Option ℕ
confirmed_in weights threshold [] = None
confirmed_in weights threshold (row ∷ before) =
    option_or (confirmed_in weights threshold before)
    (if is_confirmed weights (map (true_excess threshold) (row ∷ before)) then Some row.tick else None)

-- the tick after its last one
unfoldable pub end_of : List Row → ℕ
end_of [] = 0
end_of (row ∷ before) = row.tick + 1

-- the ticks from the one that confirms until the stages are off for good; none if no excess is confirmed or
-- the stages are on at the span's last tick
unfoldable pub reaction_in_span : WeightParts → (threshold : ℕ) → List Row → Option ℕ
reaction_in_span weights threshold span =
    reaction_by (last_on span) (confirmed_in weights threshold span) (end_of span)

-- the number of its ticks behind the one that confirms, or none
unfoldable pub followed_in : WeightParts → (threshold : ℕ) → List Row → Option ℕ
followed_in weights threshold span =
    option_map (λ c. end_of span - (c + 1)) (confirmed_in weights threshold span)

-- ---- in several spans ----

-- the greater of two numbers, and the less, where each may be missing
unfoldable pub greater : Option ℕ → Option ℕ → Option ℕ
greater None other = other
greater (Some n) None = Some n
greater (Some n) (Some other) = Some (max n other)

unfoldable pub less : Option ℕ → Option ℕ → Option ℕ
less None other = other
less (Some n) None = Some n
less (Some n) (Some other) = Some (min n other)

-- what is told where nothing is confirmed
unfoldable pub no_reactions : Reactions
no_reactions = record { longest = None; followed = None }

-- what is told of these spans and of the others together
unfoldable pub combined : Reactions → Reactions → Reactions
combined these others = record {
  longest = greater these.longest others.longest;
  followed = less these.followed others.followed;
}

-- of one span, and of several: the longest reaction, and the least number of ticks behind a confirmation
unfoldable pub reactions_in : WeightParts → (threshold : ℕ) → List Row → Reactions
reactions_in weights threshold span = record {
  longest = reaction_in_span weights threshold span;
  followed = followed_in weights threshold span;
}

unfoldable pub reactions_of_spans : WeightParts → (threshold : ℕ) → List (List Row) → Reactions
reactions_of_spans weights threshold [] = no_reactions
reactions_of_spans weights threshold (span ∷ earlier) =
    combined (reactions_in weights threshold span) (reactions_of_spans weights threshold earlier)

-- what is told of the spans of a run
unfoldable pub reactions_of : WeightParts → (threshold : ℕ) → List Row → Reactions
reactions_of weights threshold rows = reactions_of_spans weights threshold (spans_of rows)

-- that least number is the bound or more, or no excess is confirmed
unfoldable pub settled_by : (bound : ℕ) → Option ℕ → Bool
settled_by bound None = true
settled_by bound (Some ticks) = nat_le bound ticks

-- C81, with any number for R
unfoldable pub is_settled : (bound : ℕ) → Reactions → Bool
is_settled bound reactions = settled_by bound reactions.followed
