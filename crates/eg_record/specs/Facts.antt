-- The facts of a run: what is told of its rows once they are gone (C59, C80).
use Rattle.std.specs.Prelude.{ℕ, ◌+◌, ◌-◌, nat_lt, List, length, Option, Some, None, option_map, if◌then◌else◌}
use Rattle.eg_num.specs.Windows.{WeightParts}
use Rattle.eg_word.specs.declared.registers.Trap.{Trap}
use Rattle.eg_record.specs.declared.row.Row.{Row}
use Rattle.eg_record.specs.declared.facts.Facts.{Facts}
use Rattle.eg_record.specs.declared.summary.Summary.{Summary}
use Rattle.eg_record.specs.Detection.{first_detection, first_cut}
use Rattle.eg_record.specs.Excess.{first_confirmed, stretch_of, peak_of}
use Rattle.eg_record.specs.Stages.{first_off, last_on}

-- the facts of these rows, where the true excess uses these weights and this threshold
unfoldable pub facts_of : WeightParts → (threshold : ℕ) → List Row → Facts
facts_of weights threshold rows = record {
  first = first_detection rows;
  cut = first_cut rows;
  off = first_off rows;
  last_on = last_on rows;
  confirmed = first_confirmed weights threshold rows;
  stretch = stretch_of threshold rows;
  peak = peak_of threshold rows;
  ticks = length rows;
}

-- the tick after the last one at which the stages are on, and 0 where they are never on
unfoldable pub off_from : (last_on : Option ℕ) → ℕ
off_from None = 0
off_from (Some last) = last + 1

-- The ticks from the one that confirms a true excess until the stages are off for good: 0 if they are off
-- for good before, none if no excess is confirmed or the stages are on at the last tick before the end.
abbrev pub reaction_by : (last_on confirmed : Option ℕ) → (end : ℕ) → Option ℕ
reaction_by last_on confirmed end =
    if nat_lt (off_from last_on) end then option_map (λ c. off_from last_on - c) confirmed else None

-- the reaction of a run with these facts, from the first tick by which a true excess is confirmed
unfoldable pub reaction_in : Facts → Option ℕ
reaction_in facts = reaction_by facts.last_on facts.confirmed facts.ticks

-- the summary that tells these facts, with this name, trap and worst-case reaction
unfoldable pub summary_with : (name : List ℕ) → Facts → (trap : Option (Trap × ℕ)) → (bound : ℕ) → Summary
summary_with name facts trap bound = record {
  name = name;
  first = facts.first;
  off = facts.off;
  trap = trap;
  confirmed = facts.confirmed;
  bound = bound;
}
