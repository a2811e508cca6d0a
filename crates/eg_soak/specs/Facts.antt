-- What `soak` counts of a run (C93, F39).
use Rattle.std.specs.Prelude.{Bool, is_some, option_map, unwrap_or}
use Rattle.eg_record.specs.declared.facts.Facts.{Facts}
use Rattle.eg_record.specs.declared.watch.Watch.{Watch}
use Rattle.eg_record.specs.Detection.{is_watch}
use Rattle.eg_record.specs.Facts.{reaction_in}
use Rattle.eg_model.specs.Rows.{record_trap}
use Rattle.eg_tick.specs.Facts.{record_facts}
use Rattle.eg_model.specs.Engines.{bench_of}
use Rattle.eg_model.specs.EngineRuns.{EngineRun}
use Rattle.eg_soak.specs.declared.facts.DrawnFacts.{DrawnFacts}

-- F39; a run without a reaction counts as a run with reaction 0
unfoldable pub facts_in : Facts → (is_trapped : Bool) → DrawnFacts
facts_in facts is_trapped = record {
  first = option_map (λ detection. detection.0) facts.first;
  is_trapped = is_trapped;
  goes_off = is_some facts.off;
  reaction = unwrap_or (reaction_in facts) 0;
}

-- C93
unfoldable pub drawn_facts : EngineRun → DrawnFacts
drawn_facts r =
    let b = bench_of r.engine in facts_in (record_facts b r.run) (is_some (record_trap b r.run))

unfoldable pub is_first : Watch → DrawnFacts → Bool
is_first watch facts = is_watch watch facts.first
