-- What one row more makes of the facts of a run, of what is kept of its spans, and of the greatest weights.
use Rattle.std.specs.Prelude.{ℕ, ◌+◌, ◌-◌, max, Bool, Some, None, option_map, if◌then◌else◌}
use Rattle.std.specs.Option.{option_or}
use Rattle.eg_record.specs.declared.row.Row.{Row}
use Rattle.eg_record.specs.declared.facts.Facts.{Facts}
use Rattle.eg_record.specs.declared.reactions.Reactions.{Reactions}
use Rattle.eg_record.specs.declared.margins.Counters.{Counters}
use Rattle.eg_record.specs.declared.span_tally.SpanTally.{SpanTally}
use Rattle.eg_record.specs.Detection.{detected_at, cutting_at}
use Rattle.eg_record.specs.Excess.{true_excess, above}
use Rattle.eg_record.specs.Stages.{off_at}
use Rattle.eg_record.specs.Facts.{reaction_by}
use Rattle.eg_record.specs.Reactions.{combined}

-- how many rows in a row have a true excess up to this one, where so many had one up to the row before it
unfoldable pub lasts_with : (threshold : ℕ) → Row → (lasts : ℕ) → ℕ
lasts_with threshold row lasts =
    if true_excess threshold row then (if row.fresh then 0 else lasts) + 1 else 0

-- what facts become by one row more, at which the true excess is confirmed or isn't, and up to which so many
-- rows in a row have one
unfoldable pub facts_with : (threshold : ℕ) → Row → (confirmed : Bool) → (lasts : ℕ) → Facts → Facts
facts_with threshold row confirmed lasts facts = record {
  first = option_or facts.first (detected_at row);
  cut = option_or facts.cut (detected_at (cutting_at row));
  off = option_or facts.off (off_at row);
  last_on = if row.on then Some row.tick else facts.last_on;
  confirmed = option_or facts.confirmed (if confirmed then Some row.tick else None);
  stretch = max facts.stretch lasts;
  peak = max facts.peak (above threshold row);
  ticks = facts.ticks + 1;
}

-- what is told of the span that is going on, where it ends before this tick
unfoldable pub span_reactions : (end : ℕ) → SpanTally → Reactions
span_reactions end spans = record {
  longest = reaction_by spans.last_on spans.confirmed end;
  followed = option_map (λ c. end - (c + 1)) spans.confirmed;
}

-- the span that is going on ends before this tick, and another begins
unfoldable pub ended_at : (end : ℕ) → SpanTally → SpanTally
ended_at end spans = record {
  last_on = None;
  confirmed = None;
  ended = combined (span_reactions end spans) spans.ended;
}

-- one row more of the span that is going on, at which the true excess is confirmed or isn't
unfoldable pub gone_on : Row → (confirmed : Bool) → SpanTally → SpanTally
gone_on row confirmed spans = record spans {
  last_on = if row.on then Some row.tick else spans.last_on;
  confirmed = option_or spans.confirmed (if confirmed then Some row.tick else None);
}

-- what is kept of the spans becomes this by one row more
unfoldable pub spans_with : Row → (confirmed : Bool) → SpanTally → SpanTally
spans_with row confirmed spans =
    gone_on row confirmed (if row.fresh then ended_at row.tick spans else spans)

-- the greater of both, debouncer by debouncer
unfoldable pub greater_counters : Counters → Counters → Counters
greater_counters one other = record {
  pedal = max one.pedal other.pedal;
  plate = max one.plate other.plate;
  load = max one.load other.load;
  speed = max one.speed other.speed;
  torque = max one.torque other.torque;
  answers = max one.answers other.answers;
}
