-- Lines of rows and of summaries, a whole summary, the two excesses, and spans, computed from the definitions.
use Rattle.std.proofs.Common.{◌≡◌, ◌∷◌, ◌++◌, [], ◌*◌, ℕ, List, true, false, None, Some, refl, codes}
use Rattle.std.specs.Prelude.{Option, ◌==◌, count_by}
use Rattle.std.specs.Fmt.{digits}
use Rattle.eg_num.specs.Drive.{driven}
use Rattle.eg_num.specs.declared.watches.Watches.{Watches}
use Rattle.eg_num.specs.Windows.{WeightParts, weight, windows, is_reached, is_confirmed, greatest_of}
use Rattle.eg_torque.specs.Excess.{is_excess}
use Rattle.eg_answer.specs.declared.marks.AnswerMark.TheVariants.{Absent, Good, Bad}
use Rattle.eg_answer.specs.declared.marks.Verdict.TheVariants.{Right, Wrong}
use Rattle.eg_word.specs.declared.registers.Trap.{Trap}
use Rattle.eg_word.specs.declared.registers.Trap.TheVariants as kind
use Rattle.eg_record.specs.declared.facts.Facts.{Facts}
use Rattle.eg_record.specs.declared.row.Row.{Row}
use Rattle.eg_record.specs.declared.summary.Summary.{Summary}
use Rattle.eg_record.specs.declared.watch.Watch.{Watch}
use Rattle.eg_record.specs.declared.watch.Watch.TheVariants.{Mirror, Pedal, Load, Torque, Start}
use Rattle.eg_record.specs.Rows.{first_given}
use Rattle.eg_record.specs.Spans.{this_span, in_last, spans_of, IsDriveSpan, IsTestSpan}
use Rattle.eg_record.proofs.SpanLemmas.{drive_span-begins, drive_span-goes_on, test_span-begins, test_span-goes_on}
use Rattle.eg_record.specs.Excess.{true_excess, full_excess, is_excess_confirmed, first_confirmed, lasting, longest_in, stretch_of, above, peak_of}
use Rattle.eg_record.specs.Detection.{is_found, is_watch, rank, first_watch, detected_at, first_detection, cutting, cutting_at, first_cut}
use Rattle.eg_record.specs.Stages.{is_off, off_at, first_off, last_on}
use Rattle.eg_record.specs.Facts.{facts_of, off_from, reaction_in}
use Rattle.eg_record.specs.Summaries.{summary_of}
use Rattle.eg_record.specs.Texts.{bit, watch_name, names, found_text, answer_text, verdict_text, numbers_text, row_numbers, events_text, row_columns, row_line, record_header, at_text, first_text, trap_name, trap_text, summary_line, report_end}

-- every definition that these need
unfoldable recording : ℕ
unfolding weight windows is_reached is_confirmed is_excess first_given true_excess full_excess this_span
    is_excess_confirmed first_confirmed in_last spans_of lasting longest_in stretch_of above peak_of greatest_of
    is_found is_watch rank first_watch detected_at first_detection cutting cutting_at first_cut is_off off_at
    first_off last_on facts_of off_from reaction_in summary_of bit watch_name names found_text answer_text
    verdict_text numbers_text row_numbers events_text row_columns row_line
    record_header at_text first_text trap_name trap_text summary_line report_end digits
recording = 0

abbrev nothing : Watches
nothing = record { mirror = false; pedal = false; plate = false; load = false; speed = false; torque = false; answers = false; start = false }

-- ---- lines of rows ----

-- a row at speed 800 and pedal 0, paths closed, nothing found
abbrev plain : (tick raise plate charge limit actual throttle : ℕ) → Row
plain tick raise plate charge limit actual throttle = record {
  tick = tick;
  drive = driven 0 800 raise;
  plate = plate;
  charge = charge;
  torque = 0;
  limit = limit;
  path1 = true;
  path2 = true;
  on = true;
  signals = 0 ∷ 200 ∷ actual ∷ 0 ∷ 0 ∷ [];
  throttle = throttle;
  ignition = 0;
  found = nothing;
  answer = Absent;
  verdict = None;
  testing = false;
  fresh = false;
}

probe_0 : row_line (plain 0 0 0 40 200 100 100) ≡ codes "0,0,800,0,0,40,0,200,1,1,1,0,200,100,0,0,100,0,-,-,-\n"
unfolding recording
probe_0 = refl

probe_1 : row_line (plain 1 0 50 40 200 100 0) ≡ codes "1,0,800,0,50,40,0,200,1,1,1,0,200,100,0,0,0,0,-,-,-\n"
unfolding recording
probe_1 = refl

probe_2 : row_line (plain 2 0 0 80 200 200 100) ≡ codes "2,0,800,0,0,80,0,200,1,1,1,0,200,200,0,0,100,0,-,-,-\n"
unfolding recording
probe_2 = refl

probe_3 : row_line (plain 3 0 50 40 200 100 65436) ≡ codes "3,0,800,0,50,40,0,200,1,1,1,0,200,100,0,0,65436,0,-,-,-\n"
unfolding recording
probe_3 = refl

-- a raise that is disturbed on the bus: the limit has it, level 2 doesn't
raised : row_line (plain 0 600 0 40 600 100 0) ≡ codes "0,0,800,600,0,40,0,600,1,1,1,0,200,100,0,0,0,0,-,-,-\n"
unfolding recording
raised = refl

-- two watches at one tick, a path that is open, an answer that is bad and a verdict that is wrong
abbrev busy : Row
busy = record (plain 19 0 0 40 200 100 0) {
  path2 = false;
  on = false;
  found = record nothing { pedal = true; answers = true };
  answer = Bad;
  verdict = Some Wrong;
}

busy_line : row_line busy ≡ codes "19,0,800,0,0,40,0,200,1,0,0,0,200,100,0,0,0,0,pedal+answers,bad,wrong\n"
unfolding recording
busy_line = refl

good_line : row_line (record (plain 15 0 0 40 200 100 0) { answer = Good; verdict = Some Right }) ≡ codes "15,0,800,0,0,40,0,200,1,1,1,0,200,100,0,0,0,0,-,good,right\n"
unfolding recording
good_line = refl

-- of the two watches the pedal's is told
busy_first : first_detection (busy ∷ []) ≡ Some (Pedal, 19)
unfolding recording
busy_first = refl

-- a start-up test that failed is told last
start_line : row_line (record (plain 6 0 0 40 200 100 0) { found = record nothing { pedal = true; start = true } })
    ≡ codes "6,0,800,0,0,40,0,200,1,1,1,0,200,100,0,0,0,0,pedal+start,-,-\n"
unfolding recording
start_line = refl

start_first : first_detection (record (plain 6 0 0 40 200 100 0) { found = record nothing { start = true } } ∷ []) ≡ Some (Start, 6)
unfolding recording
start_first = refl

-- the header has a name for each column
header_columns : count_by (λ b. b == 44) record_header ≡ count_by (λ b. b == 44) (row_line busy)
unfolding recording
header_columns = refl

-- ---- a whole summary ----

abbrev torque_weights : WeightParts
torque_weights = record { up = 1; down = 1; limit = 5 }

-- a tick of a run whose charge rises by 40 a tick, where 200 is permitted
abbrev rising : (tick : ℕ) → Row
rising tick = record (plain tick 0 0 (40 * tick) 200 (100 * tick) 1000) { torque = 100 * tick; ignition = 1000 }

-- the same once the stages are off
abbrev fallen : (tick : ℕ) → Row
fallen tick = record (plain tick 0 0 0 200 0 1000) { path1 = false; on = false; ignition = 1000 }

-- the torque watch is found at tick 9, and the stages are off from tick 10 on
abbrev run : List Row
run =
    fallen 11 ∷ fallen 10 ∷ record (rising 9) { found = record nothing { torque = true } } ∷ rising 8 ∷ rising 7 ∷ rising 6
    ∷ rising 5 ∷ rising 4 ∷ rising 3 ∷ rising 2 ∷ rising 1 ∷ rising 0 ∷ []

abbrev told : Option (Watch × ℕ) → Option ℕ → Option (Trap × ℕ) → Option ℕ → Summary
told first off trap confirmed = record { name = codes "a"; first = first; off = off; trap = trap; confirmed = confirmed; bound = 34 }

run_summary : summary_of (codes "a") run None 200 torque_weights 34 ≡ told (Some (Torque, 9)) (Some 10) None (Some 9)
unfolding recording
run_summary = refl

-- a tie is no excess, of either kind
tie : true_excess 200 (rising 4) ≡ false
unfolding recording
tie = refl

full_tie : full_excess 2500 200 (rising 4) ≡ false
unfolding recording
full_tie = refl

-- without ignition there is no torque, and the charge alone is more than is permitted
full_alone : (true_excess 200 (record (rising 5) { torque = 0 }) ≡ false) × (full_excess 2500 200 (record (rising 5) { torque = 0 }) ≡ true)
unfolding recording
full_alone = (refl, refl)

-- ---- several spans ----

-- while a test is running the stages are off, and that isn't told; what is told is the first tick after it
abbrev tested : (tick : ℕ) → Row
tested tick = record (fallen tick) { testing = true }

test_hides : first_off (tested 1 ∷ tested 0 ∷ []) ≡ None
unfolding recording
test_hides = refl

test_hides_no_later : first_off (fallen 4 ∷ rising 3 ∷ fallen 2 ∷ tested 1 ∷ tested 0 ∷ []) ≡ Some 2
unfolding recording
test_hides_no_later = refl

-- a start-up test of two ticks, and the first two ticks of the drive after it: two spans
abbrev test : List Row
test = tested 1 ∷ record (tested 0) { fresh = true } ∷ []

abbrev drive : List Row
drive = rising 3 ∷ record (rising 2) { fresh = true } ∷ []

last_span : (this_span (drive ++ test) ≡ drive) × (this_span test ≡ test)
unfolding recording
last_span = (refl, refl)

tests : IsTestSpan test
tests = test_span-goes_on (tested 1) _ refl (test_span-begins (record (tested 0) { fresh = true }) refl refl)

drives : IsDriveSpan drive
drives = drive_span-goes_on (rising 3) _ refl (drive_span-begins (record (rising 2) { fresh = true }) refl refl)

-- Four ticks of an excess at the end of one span, and four at the beginning of the next, don't confirm it: it
-- takes a fifth. In one span the fifth tick of it would.
abbrev exceeding : (tick : ℕ) → Row
exceeding tick = record (plain tick 0 0 200 200 500 1000) { torque = 500; ignition = 1000 }

abbrev four : List Row
four = exceeding 3 ∷ exceeding 2 ∷ exceeding 1 ∷ record (exceeding 0) { fresh = true } ∷ []

abbrev four_and_four : List Row
four_and_four = exceeding 7 ∷ exceeding 6 ∷ exceeding 5 ∷ record (exceeding 4) { fresh = true } ∷ four

anew : (first_confirmed torque_weights 200 four_and_four ≡ None) × (first_confirmed torque_weights 200 (exceeding 8 ∷ four_and_four) ≡ Some 8)
unfolding recording
anew = (refl, refl)

not_anew : first_confirmed torque_weights 200 (exceeding 5 ∷ exceeding 4 ∷ four) ≡ Some 4
unfolding recording
not_anew = refl

-- ---- facts ----

-- The stages are off at tick 2, on again from tick 3 to tick 8, and off. From tick 3 on there is an excess, which is confirmed at tick 7. Each fact is another tick.
abbrev on_again : List Row
on_again =
    fallen 10 ∷ fallen 9 ∷ record (exceeding 8) { found = record nothing { torque = true } } ∷ exceeding 7 ∷ exceeding 6 ∷ exceeding 5 ∷ exceeding 4 ∷ exceeding 3
    ∷ fallen 2 ∷ record (rising 1) { found = record nothing { pedal = true } } ∷ rising 0 ∷ []

facts_on_again : facts_of torque_weights 200 on_again ≡ record {
  first = Some (Pedal, 1);
  cut = Some (Torque, 8);
  off = Some 2;
  last_on = Some 8;
  confirmed = Some 7;
  stretch = 6;
  peak = 100;
  ticks = 11;
}
unfolding recording
facts_on_again = refl

-- Across a start-up test: its ticks aren't told as off, the stages are on before it and after it, and the excess is counted anew.
abbrev across : List Row
across =
    exceeding 9 ∷ exceeding 8 ∷ exceeding 7 ∷ record (exceeding 6) { fresh = true } ∷ tested 5 ∷ record (tested 4) { fresh = true } ∷ four

abbrev undetected : (last_on confirmed : Option ℕ) (stretch ticks : ℕ) → Facts
undetected last_on confirmed stretch ticks = record {
  first = None;
  cut = None;
  off = None;
  last_on = last_on;
  confirmed = confirmed;
  stretch = stretch;
  peak = 100;
  ticks = ticks;
}

facts_across : (facts_of torque_weights 200 (tested 5 ∷ record (tested 4) { fresh = true } ∷ four) ≡ undetected (Some 3) None 4 6)
    × (facts_of torque_weights 200 across ≡ undetected (Some 9) None 4 10)
    × (facts_of torque_weights 200 (exceeding 10 ∷ across) ≡ undetected (Some 10) (Some 10) 5 11)
unfolding recording
facts_across = (refl, refl, refl)

facts_of_none : facts_of torque_weights 200 [] ≡ record { first = None; cut = None; off = None; last_on = None; confirmed = None; stretch = 0; peak = 0; ticks = 0 }
unfolding recording
facts_of_none = refl

-- an excess of four ticks and one of two, with a tie between them
abbrev two_stretches : List Row
two_stretches =
    exceeding 6 ∷ record (exceeding 5) { torque = 601; limit = 400 } ∷ record (exceeding 4) { torque = 400 } ∷ four

longer_stretch : (stretch_of 200 two_stretches ≡ 4) × (lasting 200 two_stretches ≡ 2) × (peak_of 200 two_stretches ≡ 100)
unfolding recording
longer_stretch = (refl, refl, refl)

-- across two spans: four ticks and four; within one six
stretches_by_span : (stretch_of 200 four_and_four ≡ 4) × (longest_in 200 four_and_four ≡ 8) × (stretch_of 200 (exceeding 5 ∷ exceeding 4 ∷ four) ≡ 6)
unfolding recording
stretches_by_span = (refl, refl, refl)

-- the peak is what lies above permitted torque and threshold, at whichever tick; a tie is none
peaks : (peak_of 200 (exceeding 2 ∷ record (exceeding 1) { torque = 701 } ∷ exceeding 0 ∷ []) ≡ 301)
    × (peak_of 200 (record (exceeding 0) { torque = 400 } ∷ []) ≡ 0) × (peak_of 200 (record (exceeding 0) { torque = 401 } ∷ []) ≡ 1)
unfolding recording
peaks = (refl, refl, refl)

-- neither the pedal nor a start-up test cuts; each of the others does
abbrev finds : (tick : ℕ) → Watches → Row
finds tick found = record (rising tick) { found = found }

no_cuts : (first_cut (finds 1 (record nothing { start = true }) ∷ finds 0 (record nothing { pedal = true }) ∷ []) ≡ None)
    × (first_cut (finds 1 (record nothing { pedal = true; load = true; answers = true }) ∷ finds 0 (record nothing { pedal = true }) ∷ []) ≡ Some (Load, 1))
unfolding recording
no_cuts = (refl, refl)

one_watch : (is_watch Pedal (Some Pedal) ≡ true) × (is_watch Pedal (Some Mirror) ≡ false) × (is_watch Pedal None ≡ false)
unfolding recording
one_watch = (refl, refl, refl)

-- ---- reactions ----

-- the facts of a run of 2,000 ticks that has a reaction only if these two ticks give it one
abbrev long_run : (confirmed last_on : Option ℕ) → Facts
long_run confirmed last_on = record { first = None; cut = None; off = None; last_on = last_on; confirmed = confirmed; stretch = 0; peak = 0; ticks = 2000 }

-- on up to tick 14: they are off for good 5 ticks after the excess is confirmed
some_ticks : reaction_in (long_run (Some 10) (Some 14)) ≡ Some 5
unfolding recording
some_ticks = refl

-- on up to the tick itself, and up to the one before
one_tick : (reaction_in (long_run (Some 10) (Some 10)) ≡ Some 1) × (reaction_in (long_run (Some 10) (Some 9)) ≡ Some 0)
unfolding recording
one_tick = (refl, refl)

-- off for good long before, and never on
off_before : (reaction_in (long_run (Some 10) (Some 3)) ≡ Some 0) × (reaction_in (long_run (Some 10) None) ≡ Some 0)
unfolding recording
off_before = (refl, refl)

-- on up to the last tick but one, and up to the last
at_the_end : (reaction_in (long_run (Some 10) (Some 1998)) ≡ Some 1989) × (reaction_in (long_run (Some 10) (Some 1999)) ≡ None)
unfolding recording
at_the_end = (refl, refl)

-- no excess is confirmed
unconfirmed : reaction_in (long_run None (Some 14)) ≡ None
unfolding recording
unconfirmed = refl

-- ---- lines of summaries ----

run_line : summary_line (told (Some (Torque, 9)) (Some 10) None (Some 9)) ≡ codes "a: first torque at 9; off at 10; trap none; excess at 9; bound 34\n"
unfolding recording
run_line = refl

late_line : summary_line (told (Some (Torque, 9)) (Some 40) None (Some 9)) ≡ codes "a: first torque at 9; off at 40; trap none; excess at 9; bound 34\n"
unfolding recording
late_line = refl

mirror_line : summary_line (told (Some (Mirror, 7)) (Some 8) None None) ≡ codes "a: first mirror at 7; off at 8; trap none; excess none; bound 34\n"
unfolding recording
mirror_line = refl

trap_line : summary_line (told None None (Some (kind.Store, 0)) None) ≡ codes "a: first none; off never; trap store at 0; excess none; bound 34\n"
unfolding recording
trap_line = refl

start_summary : summary_line (told (Some (Start, 6)) (Some 7) None None) ≡ codes "a: first start at 6; off at 7; trap none; excess none; bound 34\n"
unfolding recording
start_summary = refl

end_line : report_end (told (Some (Torque, 9)) (Some 10) None (Some 9) ∷ told None None (Some (kind.Fetch, 1)) None ∷ []) ≡ codes "runs 2; detected 1; off 1\n"
unfolding recording
end_line = refl
