-- Rows of `table` and of `margins`, computed from the definitions.
use Rattle.std.proofs.Common.{◌≡◌, refl, ℕ, pos, negsuc, Bool, true, false, [], ◌∷◌, Some, None, codes}
use Rattle.std.specs.Prelude.{ℤ, Option}
use Rattle.std.specs.Fmt.{digits}
use Rattle.eg_fault.specs.declared.class.Class.{Class}
use Rattle.eg_fault.specs.declared.class.Class.TheVariants as classes
use Rattle.eg_fault.specs.Faults.{has_effect, is_left_out}
use Rattle.eg_fault.specs.Names.{name_of, class_text, held, number_item, number_items, truth_item, truth_items, items_text, keys_text}
use Rattle.eg_record.specs.declared.run_facts.RunFacts.{RunFacts}
use Rattle.eg_record.specs.declared.watch.Watch.TheVariants.{Pedal, Torque}
use Rattle.eg_record.specs.Reactions.{is_settled, settled_by}
use Rattle.eg_record.specs.Texts.{trap_name, watch_name}
use Rattle.eg_word.specs.declared.registers.Trap.TheVariants as traps
use Rattle.eg_table.specs.Acting.{acts_at, acts_within, has_acted}
use Rattle.eg_record.specs.declared.margins.Margins.{Margins}
use Rattle.eg_record.specs.Margins.{no_margins}
use Rattle.eg_table.specs.Margins.{margins_line, surplus_column, weight_columns}
use Rattle.eg_table.specs.Texts.{class_columns, fault_columns, keys_column, number_column, number_columns}
use Rattle.eg_table.specs.Texts.{table_line, trap_columns, watch_columns}

-- every definition that these need
unfoldable rows : ℕ
unfolding has_effect acts_at acts_within has_acted is_left_out class_columns fault_columns keys_column held
    items_text number_item number_items truth_item truth_items number_column number_columns table_line watch_columns trap_columns
    margins_line surplus_column weight_columns name_of class_text is_settled settled_by trap_name watch_name digits
rows = 0

-- ---- what has acted ----

-- a fault of this class from tick 10 on, in a run of `ticks` ticks
abbrev acted : Class → ℕ → Option Bool
acted class ticks = has_acted (Some (record { onset = 10; class = class })) ticks

-- a class that acts at each tick, in a run whose last tick is the one before the onset, and in one tick more
halt : (acted classes.Halt 10 ≡ Some false) × (acted classes.Halt 11 ≡ Some true)
unfolding rows
halt = (refl, refl)

-- a flip comes at the onset
flip : (acted (classes.Flip 3 1) 10 ≡ Some false) × (acted (classes.Flip 3 1) 11 ≡ Some true) × (acted (classes.Flip 3 1) 60 ≡ Some true)
unfolding rows
flip = (refl, refl, refl)

-- a lapse whose first number is 5 comes at tick 15, though its onset has come before
lapse : (acted (classes.Lapse (5 ∷ 9 ∷ []) 0) 15 ≡ Some false) × (acted (classes.Lapse (5 ∷ 9 ∷ []) 0) 16 ≡ Some true)
unfolding rows
lapse = (refl, refl)

-- so it does where it comes again every 6 ticks; a number that isn't below `every` never comes
lapse_again : (acted (classes.Lapse (5 ∷ 9 ∷ []) 6) 15 ≡ Some false) × (acted (classes.Lapse (5 ∷ 9 ∷ []) 6) 16 ≡ Some true) × (acted (classes.Lapse (5 ∷ 9 ∷ []) 5) 60 ≡ Some false)
unfolding rows
lapse_again = (refl, refl, refl)

no_fault : has_acted None 60 ≡ None
unfolding rows
no_fault = refl

-- ---- rows ----

-- what is told of a run of 60 ticks in which each thing comes
abbrev everything : RunFacts
everything = record {
  facts = record {
    first = Some (Pedal, 8);
    cut = Some (Torque, 9);
    off = Some 12;
    last_on = Some 40;
    confirmed = Some 37;
    stretch = 6;
    peak = 301;
    ticks = 60;
  };
  reactions = record { longest = Some 4; followed = Some 22 };
  trap = Some (traps.Illegal, 7);
  margins = no_margins;
}

-- and of one in which nothing does
abbrev nothing : RunFacts
nothing = record {
  facts = record {
    first = None;
    cut = None;
    off = None;
    last_on = None;
    confirmed = None;
    stretch = 0;
    peak = 0;
    ticks = 60;
  };
  reactions = record { longest = None; followed = None };
  trap = None;
  margins = no_margins;
}

-- a worst-case reaction of 22 ticks is shown by the 22 that follow, and one of 23 isn't
full : table_line (codes "held-open-1") (Some (record { onset = 5; class = classes.Path1Closed })) 22 everything
    ≡ codes "held-open-1,path1-closed,5,,1,pedal,8,torque,9,12,40,37,6,301,4,1,22,illegal,7\n"
unfolding rows
full = refl

unsettled : table_line (codes "held-open-1") (Some (record { onset = 5; class = classes.Path1Closed })) 23 everything
    ≡ codes "held-open-1,path1-closed,5,,1,pedal,8,torque,9,12,40,37,6,301,4,0,23,illegal,7\n"
unfolding rows
unsettled = refl

empty : table_line (codes "idle") None 22 nothing ≡ codes "idle,none,,,,,,,,,,,0,0,,,22,,\n"
unfolding rows
empty = refl

-- an onset past the end
never : table_line (codes "late") (Some (record { onset = 60; class = classes.Lapse (0 ∷ []) 0 })) 22 nothing
    ≡ codes "late,lapse,60,after 0 every 0,0,,,,,,,,0,0,,,22,,\n"
unfolding rows
never = refl

-- the own keys of each class that has any
keys : (keys_text (classes.Script 4 (0 ∷ 1000 ∷ [])) ≡ codes "track 4 values 0 1000")
    × (keys_text (classes.Offset 4 (negsuc 4)) ≡ codes "track 4 add -5")
    × (keys_text (classes.Wild (65535 ∷ []) (false ∷ true ∷ [])) ≡ codes "questions 65535 opens false true")
    × (keys_text (classes.Lapse (0 ∷ 3 ∷ []) 10) ≡ codes "after 0 3 every 10")
    × (keys_text (classes.Flip 3 1) ≡ codes "word 3 mask 1") × (keys_text classes.Halt ≡ [])
unfolding rows
keys = (refl, refl, refl, refl, refl, refl)

-- ---- rows of `margins` ----

-- the weights are those of pedal, plate, load, speed, torque and answers
abbrev near : Option ℤ → Margins
near surplus = record {
  greatest = record { pedal = 10; plate = 2; load = 4; speed = 6; torque = 5; answers = 9 };
  surplus = surplus;
}

margins_lines : (margins_line (codes "a") (Some (record { onset = 5; class = classes.Flip 3 1 })) (near (Some (pos 225))) ≡ codes "a,flip,5,10,2,4,6,5,9,225\n")
    × (margins_line (codes "a") None (near (Some (negsuc 99))) ≡ codes "a,none,,10,2,4,6,5,9,-100\n")
    × (margins_line (codes "a") None (near None) ≡ codes "a,none,,10,2,4,6,5,9,\n")
unfolding rows
margins_lines = (refl, refl, refl)
