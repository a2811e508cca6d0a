-- Some lines of a recording, and some answers of a partner, from their bytes.
use Rattle.std.proofs.Common.{◌≡◌, refl, ℕ, true, false, List, [], ◌∷◌, ◌++◌, Some, None}
use Rattle.std.specs.Prelude.{codes}
use Rattle.eg_num.specs.Drive.{DriveRow}
use Rattle.eg_input.specs.Fields.{decimal_value, number_of, truth_of, first_field, first_said}
use Rattle.eg_sensor.specs.declared.readings.Readings.{Readings}
use Rattle.eg_input.specs.declared.columns.Columns.TheVariants as columns
use Rattle.eg_input.specs.Answering.{answer_of}
use Rattle.eg_input.specs.declared.answered.PartnerAnswer.{PartnerAnswer}
use Rattle.eg_input.specs.Recording.{before_return, header, columns_of, numbers_of, readings_from, recorded_of}

-- every definition of reading a line
unfoldable reading : ℕ
unfolding decimal_value number_of first_field first_said before_return header columns_of numbers_of readings_from recorded_of
reading = 0

-- what the first ten columns of the lines below say
abbrev read : Readings
read = record {
  pedal = 150 ∷ 850 ∷ [];
  plate = 20 ∷ 981 ∷ [];
  load = 330 ∷ 331 ∷ [];
  speed = 2400 ∷ 2401 ∷ [];
  raise = 7;
  raise_check = 65528;
}

abbrev ten : List ℕ
ten = codes "150,850,20,981,330,331,2400,02401,7,65528"

-- without columns of the brake it isn't pressed
plain : recorded_of columns.WithoutBrake ten ≡ Some (record { readings = read; contacts = 0 ∷ 1 ∷ [] })
unfolding reading
plain = refl

-- with them its contacts read what stands there
braked : recorded_of columns.WithBrake (ten ++ codes ",1,00003") ≡ Some (record { readings = read; contacts = 1 ∷ 3 ∷ [] })
unfolding reading
braked = refl

-- one carriage return at the end is no part of the line, two are
returned : recorded_of columns.WithoutBrake (ten ++ 13 ∷ []) ≡ Some (record { readings = read; contacts = 0 ∷ 1 ∷ [] })
unfolding reading
returned = refl

returned_twice : recorded_of columns.WithoutBrake (ten ++ 13 ∷ 13 ∷ []) ≡ None
unfolding reading
returned_twice = refl

-- there are as many fields as columns
too_many : recorded_of columns.WithoutBrake (ten ++ codes ",0,1") ≡ None
unfolding reading
too_many = refl

too_few : recorded_of columns.WithBrake ten ≡ None
unfolding reading
too_few = refl

-- each field is one to five digits
no_digit : recorded_of columns.WithoutBrake (codes "150,850,20,981,,331,2400,2401,7,65528") ≡ None
unfolding reading
no_digit = refl

six_digits : recorded_of columns.WithoutBrake (codes "150,850,20,981,000330,331,2400,2401,7,65528") ≡ None
unfolding reading
six_digits = refl

signed : recorded_of columns.WithoutBrake (codes "150,850,20,981,+330,331,2400,2401,7,65528") ≡ None
unfolding reading
signed = refl

-- and writes at most 65535
greatest : recorded_of columns.WithoutBrake (codes "1,2,3,4,5,6,7,8,9,65535")
    ≡ Some (record {
      readings = record { pedal = 1 ∷ 2 ∷ []; plate = 3 ∷ 4 ∷ []; load = 5 ∷ 6 ∷ []; speed = 7 ∷ 8 ∷ []; raise = 9; raise_check = 65535 };
      contacts = 0 ∷ 1 ∷ [];
    })
unfolding reading
greatest = refl

too_great : recorded_of columns.WithoutBrake (codes "1,2,3,4,5,6,7,8,9,65536") ≡ None
unfolding reading
too_great = refl

-- the headers
first : columns_of (codes "pedal1,pedal2,plate1,plate2,load1,load2,speed1,speed2,raise,check") ≡ Some columns.WithoutBrake
unfolding reading
first = refl

first_braked : columns_of (codes "pedal1,pedal2,plate1,plate2,load1,load2,speed1,speed2,raise,check,brake1,brake2" ++ 13 ∷ []) ≡ Some columns.WithBrake
unfolding reading
first_braked = refl

other : columns_of (codes "pedal1,pedal2,plate1,plate2,load1,load2,speed1,speed2,raise,check,brake1") ≡ None
unfolding reading
other = refl

-- ---- answers ----

-- every definition of reading an answer
unfoldable answering : ℕ
unfolding decimal_value number_of truth_of first_field first_said before_return answer_of
answering = 0

abbrev answer : DriveRow → (position load_1 load_2 torque : ℕ) → PartnerAnswer
answer drive position load_1 load_2 torque = record {
  drive = drive;
  told = record { position = position; load_1 = load_1; load_2 = load_2; torque = torque };
}

read_answer : answer_of (codes "300,01500,7,1,0,50,40,41,100")
    ≡ Some (answer (record { pedal = 300; speed = 1500; raise = 7; reset = true; brake = false }) 50 40 41 100)
unfolding answering
read_answer = refl

braked_answer : answer_of (codes "0,800,0,0,1,1000,65535,65535,65535" ++ 13 ∷ [])
    ≡ Some (answer (record { pedal = 0; speed = 800; raise = 0; reset = false; brake = true }) 1000 65535 65535 65535)
unfolding answering
braked_answer = refl

long_reset : answer_of (codes "0,800,0,00,0,0,40,40,0") ≡ None
unfolding answering
long_reset = refl

high_position : answer_of (codes "0,800,0,0,0,1001,40,40,0") ≡ None
unfolding answering
high_position = refl

few_fields : answer_of (codes "0,800,0,0,0,0,40,40") ≡ None
unfolding answering
few_fields = refl

many_fields : answer_of (codes "0,800,0,0,0,0,40,40,0,0") ≡ None
unfolding answering
many_fields = refl
