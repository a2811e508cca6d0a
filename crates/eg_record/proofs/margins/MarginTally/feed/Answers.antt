use Rattle.eg_record.proofs.MarginLemmas.{stands_more}
use Rattle.eg_record.proofs.margins.MarginTally.feed.Goals as goal

pub returns : goal.returns
returns c weighed stands =
    stands_more c.args.self.now (record { row = c.args.row.now; counters = c.args.counters.now }) _ _ _ _ _ (record {
      tripped_is = c.tripped_before-tripped.ensures;
      drives_is = c.drives_at-drives.ensures;
      greatest_is = c.greatest_with-margins.ensures;
      surplus_is = c.surplus_with-margins.ensures;
    }) c.is_trip.ensures weighed stands
