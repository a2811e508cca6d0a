-- The moment of a tick follows from the setting, what its span is for, what is out of order, what comes in,
-- and the moments of its span before it. So follow, tick by tick, the moments of a span.
use Rattle.std.specs.Prelude.{ℕ, ◌==◌, Bool, not, ◌&&◌, ◌||◌, is_some, List, [], ◌∷◌, length, if◌then◌else◌}
use Rattle.eg_num.specs.Drive.{DriveRow}
use Rattle.eg_sensor.specs.Readings.{sound_readings}
use Rattle.eg_sensor.specs.Brake.{sound_contacts, is_pressed, gated}
use Rattle.eg_sensor.specs.declared.readings.Readings.{Readings}
use Rattle.eg_torque.specs.Permit.{drive_permits}
use Rattle.eg_torque.specs.Ramp.{ramped}
use Rattle.eg_answer.specs.declared.marks.AnswerMark.TheVariants.{Absent}
use Rattle.eg_fault.specs.Effects.{Effects, readings_under, contacts_under}
use Rattle.eg_values.specs.Calibration.{CalibrationParts}
use Rattle.eg_model.specs.History.{Setting, Entry, Tick, SpanKind, Drive, drives, Moment}
use Rattle.eg_model.specs.Signals.{signals_at}
use Rattle.eg_model.specs.Detection.{pedal_bit, plate_bit, load_bit, speed_bit, torque_bit, feeds_at, finds}
use Rattle.eg_model.specs.Answers.{is_whole, mark_at, verdict_at, confirms_at}
use Rattle.eg_model.specs.Paths.{is_testing, reads_back, orders_open, path1_at, path2_at, both_conduct}
use Rattle.eg_model.specs.Level1.{world_at}

-- the drive row that counts, under this calibration: where the brake counts and the driver brakes, pedal and
-- raise are 0
unfoldable pub effective_drive : CalibrationParts → DriveRow → DriveRow
effective_drive cal drive = if cal.brake && drive.brake then record drive { pedal = 0; raise = 0 } else drive

-- the torque that the driver demands by a drive row, in tenths of Nm: by the row itself, not by what is
-- sensed of it
unfoldable pub demand_at : CalibrationParts → DriveRow → ℕ
demand_at cal drive = drive_permits cal.rules.permit (effective_drive cal drive)

-- the permitted torque after the last of these ticks, in tenths of Nm, and 0 before the first tick of a span
unfoldable pub last_limit : List Moment → ℕ
last_limit [] = 0
last_limit (m ∷ past) = m.limit

-- the permitted torque of a drive row after these ticks: the driver's demand, or down the ramp from the tick
-- before
unfoldable pub limit_at : CalibrationParts → DriveRow → List Moment → ℕ
limit_at cal drive past = ramped cal.rules.fall (last_limit past) (demand_at cal drive)

-- whether the brake counts and the unit takes it as pressed, by what its two contacts read
unfoldable pub is_braking : CalibrationParts → Effects → DriveRow → Bool
is_braking cal x drive = cal.brake && is_pressed (contacts_under x (sound_contacts drive.brake))

-- what the tracks of pedal, plate, load and speed and the raise read
unfoldable pub sensed_at : Effects → Entry → Readings
sensed_at x e =
    readings_under x (sound_readings e.drive.pedal e.shown.position (e.shown.load_1 ∷ e.shown.load_2 ∷ [])
    e.drive.speed e.drive.raise)

-- the readings that both levels are given, under this calibration: those of pedal and raise are gated where
-- the brake is taken as pressed
unfoldable pub readings_at : CalibrationParts → Effects → Entry → Readings
readings_at cal x e = if is_braking cal x e.drive then gated (sensed_at x e) else sensed_at x e

-- whether one of the five watches that trip finds something
abbrev pub some_trips : (mirror plate load speed torque : Bool) → Bool
some_trips mirror plate load speed torque = mirror || plate || load || speed || torque

-- The moment of one tick in a span of this kind; `past` are the moments of the span before it. Where the
-- engine isn't driven the stages are off, the debouncers aren't fed, no answer is sent, and wrong answers
-- that are confirmed aren't found. A start-up test is passed where neither path conducts at the tick at which
-- they are read back; else it fails, and the watch `start` is found.
unfoldable pub moment_in : SpanKind → Setting → Effects → Entry → List Moment → Moment
moment_in kind s x e past =
    let rules = s.cal.rules in
    let times = s.cal.times in
    let reads = readings_at s.cal x e in
    let signals = signals_at rules x reads past in
    let feeds = drives kind && feeds_at x past in
    let mirror = is_some x.flip in
    let plate = finds rules.pair plate_bit feeds signals past in
    let load = finds rules.pair load_bit feeds signals past in
    let speed = finds rules.pair speed_bit feeds signals past in
    let torque = finds rules.torque torque_bit feeds signals past in
    let trip = some_trips mirror plate load speed torque in
    let mark = if drives kind then mark_at times x trip past else Absent in
    let verdict = verdict_at times x mark past in
    let confirms = confirms_at times verdict past in
    let path1 = path1_at x past in
    let path2 = path2_at x past in
    let read_back = reads_back kind times (length past) in
    record {
      kind = kind;
      fresh = length past == 0;
      tick = length past;
      entry = e;
      reads = reads;
      limit = limit_at s.cal e.drive past;
      testing = is_testing kind times (length past);
      passes = read_back && not (path1 || path2);
      path1 = path1;
      path2 = path2;
      on = drives kind && both_conduct x past;
      signals = signals;
      feeds = feeds;
      found = record {
        mirror = mirror;
        pedal = finds rules.pair pedal_bit feeds signals past;
        plate = plate;
        load = load;
        speed = speed;
        torque = torque;
        answers = drives kind && confirms;
        start = read_back && (path1 || path2);
      };
      trip = trip;
      orders = orders_open kind times x trip past;
      whole = is_whole x;
      mark = mark;
      verdict = verdict;
      confirms = confirms;
      opens = x.opens;
      world = world_at s.image x e.slices reads signals past;
    }

-- the moments of a history that stands by itself, as a span of this kind
unfoldable pub moments_in : SpanKind → Setting → List Tick → List Moment
moments_in kind s [] = []
moments_in kind s (x ∷ before) =
    let past = moments_in kind s before in moment_in kind s x.effects x.entry past ∷ past

-- the moment of one tick at which the engine is driven
unfoldable pub moment : Setting → Effects → Entry → List Moment → Moment
moment = moment_in Drive

-- the moments of a history that stands by itself, in which the engine is driven
unfoldable pub moments_of : Setting → List Tick → List Moment
unfolding moments_in moment
moments_of = moments_in Drive
