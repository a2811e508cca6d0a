-- The texts of the reference calibration.
use Rattle.std.proofs.Common.{◌≡◌, ◌++◌, codes, Some, None, refl}
use Rattle.std.specs.Fmt.{digits}
use Rattle.eg_values.specs.Reference.{reference_questions}
use Rattle.eg_desk.specs.declared.coverage.CoverageTicks.{CoverageTicks}
use Rattle.eg_desk.specs.declared.coverage.CoverageCase.TheVariants.{Lapse}
use Rattle.eg_desk.specs.declared.limit.Limits.{Limits}
use Rattle.eg_desk.specs.Coverage.{lapse_off, lapse_numbers, numbers_of, case_words, case_stakes, case_watch, found_text, coverage_line, off_text, hidden_text, coverage_text}
use Rattle.eg_desk.specs.Texts.{number_or_none, limits_text, answer_lines, answers_text}

abbrev some_limits : Limits
some_limits = record {
  reaction = 34;
  lapse = None;
  verdicts = 3;
  excess = 5;
  test = 30;
  spacing = Some 71;
  stretch = 38;
  peak = 2300;
  ramp = Some 0;
  missed = Some 38;
}

limits_known : limits_text some_limits
    ≡ codes "reaction 34\nlapse none\nverdicts 3\nexcess 5\ntest 30\nspacing 71\nstretch 38\npeak 2300\nramp 0\nmissed 38\n"
unfolding digits number_or_none
limits_known = refl

answers_known : answers_text reference_questions ≡ codes "answer 0: 8842\nanswer 1: 55753\nanswer 2: 44807\nanswer 3: 19505\n"
unfolding digits answer_lines
answers_known = refl

abbrev some_ticks : CoverageTicks
some_ticks = record { pair = 5; reaction = 34; test = 40; verdicts = 3; missed = Some 38 }

coverage_known : coverage_text some_ticks
    ≡ codes "class,case,effect,finds,within,off,hidden\n"
    ++ codes "script,pedal apart by more than its tolerance,wrong pedal is seen,pedal,5,confirmed + 1,0\n"
    ++ codes "script,plate apart by more than its tolerance,wrong plate is seen,plate,5,5,0\n"
    ++ codes "script,load apart by more than its tolerance,wrong load is seen,load,5,5,0\n"
    ++ codes "script,speed apart by more than its tolerance,wrong speed is seen,speed,5,5,0\n"
    ++ codes "script,any pair apart within its tolerance,level 2 errs to the safe side,-,-,confirmed + 1,1\n"
    ++ codes "script,a contact of the brake,level 2 errs to the safe side,-,-,confirmed + 1,1\n"
    ++ codes "offset,pedal apart by more than its tolerance,wrong pedal is seen,pedal,5,confirmed + 1,0\n"
    ++ codes "offset,plate apart by more than its tolerance,wrong plate is seen,plate,5,5,0\n"
    ++ codes "offset,load apart by more than its tolerance,wrong load is seen,load,5,5,0\n"
    ++ codes "offset,speed apart by more than its tolerance,wrong speed is seen,speed,5,5,0\n"
    ++ codes "offset,any pair apart within its tolerance,level 2 errs to the safe side,-,-,confirmed + 1,1\n"
    ++ codes "offset,a contact of the brake,level 2 errs to the safe side,-,-,confirmed + 1,1\n"
    ++ codes "bus,any mask,raise taken as 0,-,-,confirmed + 1,1\n"
    ++ codes "plate,any angle,torque not as ordered,-,-,confirmed + 1,1\n"
    ++ codes "skip,any module,no answer is right,answers,34,34,0\n"
    ++ codes "disturb,any module,no answer is right,answers,34,34,0\n"
    ++ codes "flip,any word,a wrong word of level 2,mirror,1,1,0\n"
    ++ codes "halt,both levels,outputs stay as they are,answers,34,34,0\n"
    ++ codes "timing,answers outside the window,no answer is right,answers,34,34,0\n"
    ++ codes "timing,answers inside the window,one verdict may be wrong,-,-,confirmed + 1,1\n"
    ++ codes "wild,opens path 2 at times,cut without need,-,-,ordered + 1,1\n"
    ++ codes "wild,never opens path 2,no cut by path 2,-,-,confirmed + 1,1\n"
    ++ codes "path1-closed,without a reset,no cut by path 1,-,-,confirmed + 34,1\n"
    ++ codes "path1-closed,with a reset,no cut by path 1,start,41,0,0\n"
    ++ codes "path2-closed,without a reset,no cut by path 2,-,-,confirmed + 1,1\n"
    ++ codes "path2-closed,with a reset,no cut by path 2,start,41,0,0\n"
    ++ codes "path-open,either path,cut without need,-,-,0,1\n"
    ++ codes "lapse,level 2 left out at times,late cut,-,-,excess < 39,1\n"
unfolding digits lapse_off lapse_numbers numbers_of case_words case_stakes case_watch found_text off_text hidden_text coverage_text
coverage_known = refl

-- where one wrong verdict confirms a lapse is found, and where nothing bounds how long an excess lasts there is no number
lapse_found : coverage_line (record { pair = 5; reaction = 14; test = 10; verdicts = 1; missed = Some 18 }) Lapse
    ≡ codes "lapse,level 2 left out at times,late cut,answers,14,14,0\n"
unfolding digits lapse_numbers numbers_of case_words case_stakes case_watch found_text off_text hidden_text
lapse_found = refl

lapse_unbounded : coverage_line (record { pair = 5; reaction = 34; test = 40; verdicts = 3; missed = None }) Lapse
    ≡ codes "lapse,level 2 left out at times,late cut,-,-,-,1\n"
unfolding digits lapse_off lapse_numbers numbers_of case_words case_stakes case_watch found_text off_text hidden_text
lapse_unbounded = refl
