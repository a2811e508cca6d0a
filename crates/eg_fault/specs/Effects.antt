-- What is out of order outside level 1 at one tick is one record: what tracks read, what runs, is disturbed
-- or flipped, when answers are sent, and which paths conduct. Its fields are as the parts of the unit meet
-- them. Definitions of what happens at a tick take this record, and know of no fault and of no onset.
use Rattle.std.specs.Prelude.{ℕ, ◌%◌, ◌==◌, Bool, true, false, not, List, [], ◌∷◌, slice_index, Option, Some, None}
use Rattle.eg_sensor.specs.declared.readings.Readings.{Readings}
use Rattle.eg_sensor.specs.declared.tracks.TheConstants.{PEDAL_1, PEDAL_2, PLATE_1, PLATE_2, LOAD_1, LOAD_2, SPEED_1, SPEED_2, BRAKE_1, BRAKE_2}
use Rattle.eg_answer.specs.Times.{TimeParts}
use Rattle.eg_answer.specs.Periods.{asked, is_send_tick, place_of}

-- what is out of order at a tick
pub record Effects : Type 0 where
  -- what track i reads where a sound one reads x
  pub track : ℕ → ℕ → ℕ
  -- what is read as the raise where x is sent
  pub raise : ℕ → ℕ
  -- where the throttle plate is held
  pub held_plate : Option ℕ
  -- whether level 1 runs
  pub level1 : Bool
  -- whether module i of level 2 runs
  pub ran : ℕ → Bool
  -- what module i mixes into its signal and into its result of the test row
  pub disturbance : ℕ → ℕ
  -- the word of level 2 that is flipped, and the bits of it
  pub flip : Option (ℕ × ℕ)
  -- the tick of a period at which answers are sent, where it isn't the usual one
  pub send : Option ℕ
  -- the number of the question that a wild monitoring module asks; such a module gives no verdicts
  pub wild : Option ℕ
  -- whether a wild monitoring module orders path 2 open
  pub opens : Bool
  -- whether path 1 or 2 conducts, by whether its latch is open
  pub conducts : ℕ → Bool → Bool

-- nothing is out of order
unfoldable pub no_effects : Effects
no_effects = record {
  track = λ i x. x;
  raise = λ x. x;
  held_plate = None;
  level1 = true;
  ran = λ i. true;
  disturbance = λ i. 0;
  flip = None;
  send = None;
  wild = None;
  opens = false;
  conducts = λ path is_open. not is_open;
}

-- the readings, where sound tracks read these
unfoldable pub readings_under : Effects → Readings → Readings
readings_under x truth = record {
  pedal = x.track PEDAL_1 (slice_index truth.pedal 0) ∷ x.track PEDAL_2 (slice_index truth.pedal 1) ∷ [];
  plate = x.track PLATE_1 (slice_index truth.plate 0) ∷ x.track PLATE_2 (slice_index truth.plate 1) ∷ [];
  load = x.track LOAD_1 (slice_index truth.load 0) ∷ x.track LOAD_2 (slice_index truth.load 1) ∷ [];
  speed = x.track SPEED_1 (slice_index truth.speed 0) ∷ x.track SPEED_2 (slice_index truth.speed 1) ∷ [];
  raise = x.raise truth.raise;
  raise_check = truth.raise_check;
}

-- the contacts of the brake, where sound ones read these
unfoldable pub contacts_under : Effects → List ℕ → List ℕ
contacts_under x truth =
    x.track BRAKE_1 (slice_index truth 0) ∷ x.track BRAKE_2 (slice_index truth 1) ∷ []

-- whether a tick is one at which answers are sent: at the usual tick of each period, or at the moved one
unfoldable pub sends_in : Option ℕ → TimeParts → ℕ → Bool
sends_in None times tick = is_send_tick times tick
sends_in (Some moved) times tick = place_of times tick == moved

-- whether answers are sent at a tick, by what is out of order at it
unfoldable pub sends_at : Effects → TimeParts → ℕ → Bool
sends_at x times tick = sends_in x.send times tick

-- the number of the question that is asked at a tick, of `count` questions: that of its period, or what a
-- wild monitoring module asks
unfoldable pub asked_in : Option ℕ → TimeParts → ℕ → ℕ → ℕ
asked_in None times count tick = asked times count tick
asked_in (Some question) times count tick = question % count

-- the number of the question that is asked at a tick, by what is out of order at it
unfoldable pub asked_at : Effects → TimeParts → ℕ → ℕ → ℕ
asked_at x times count tick = asked_in x.wild times count tick
