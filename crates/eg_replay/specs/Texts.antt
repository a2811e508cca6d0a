-- `signals` writes a header and a line for each tick, `replay` nine lines of what the ticks come to. A text
-- is the list of its bytes, and each line ends with LF.
use Rattle.std.specs.Prelude.{ℕ, ℤ, List, [], ◌∷◌, ◌++◌, length, codes, decimal, Option, Some, None, slice_index}
use Rattle.std.specs.Fmt.{signed_decimal}
use Rattle.eg_num.specs.Windows.{WeightParts}
use Rattle.eg_record.specs.Texts.{at_text, found_text, numbers_text}
use Rattle.eg_replay.specs.declared.tick_signals.TickSignals.{TickSignals}
use Rattle.eg_replay.specs.declared.findings.Findings.{Findings}

-- ---- `signals` ----

-- the line above the ticks: the names of the columns
unfoldable pub signals_header : List ℕ
signals_header = codes "tick,used,permitted,actual,excess,pairs,pedal,plate,load,speed,torque,found\n"

-- the columns of a tick that are numbers: its own; its five signals; the five weights after it
unfoldable pub signal_numbers : (tick : ℕ) → TickSignals → List ℕ
signal_numbers tick t =
    tick ∷ slice_index t.signals 0 ∷ slice_index t.signals 1 ∷ slice_index t.signals 2
    ∷ slice_index t.signals 3 ∷ slice_index t.signals 4
    ∷ t.counters.pedal ∷ t.counters.plate ∷ t.counters.load ∷ t.counters.speed ∷ t.counters.torque ∷ []

-- the line of the tick of this number: these columns and what is found, with commas between them
unfoldable pub signals_line : (tick : ℕ) → TickSignals → List ℕ
signals_line tick t = numbers_text (signal_numbers tick t) ++ found_text t.found ++ codes "\n"

-- the lines of these ticks, which stand newest first
unfoldable pub signals_lines : List TickSignals → List ℕ
signals_lines [] = []
signals_lines (t ∷ before) = signals_lines before ++ signals_line (length before) t

-- all that `signals` writes of them
unfoldable pub signals_text : List TickSignals → List ℕ
signals_text ticks = signals_header ++ signals_lines ticks

-- ---- `replay` ----

-- the line of a watch: when it is found, and the greatest that its debouncer weighed, of its limit
unfoldable pub watch_line : (name : List ℕ) → Option ℕ → (greatest limit : ℕ) → List ℕ
watch_line name found greatest limit =
    name ++ codes " " ++ at_text (codes "none") found
    ++ codes "; greatest " ++ decimal greatest ++ codes " of " ++ decimal limit ++ codes "\n"

-- the greatest surplus of torque, or `none`
unfoldable pub surplus_text : Option ℤ → List ℕ
surplus_text None = codes "none"
surplus_text (Some n) = signed_decimal n

-- the lines of the pairs, by the limit of their debouncers
unfoldable pub pair_lines : (limit : ℕ) → Findings → List ℕ
pair_lines limit f =
    watch_line (codes "pedal") f.pedal f.greatest.pedal limit
    ++ watch_line (codes "plate") f.plate f.greatest.plate limit
    ++ watch_line (codes "load") f.load f.greatest.load limit
    ++ watch_line (codes "speed") f.speed f.greatest.speed limit

-- the last three lines: the first trip, the longest stretch, the greatest surplus
unfoldable pub last_lines : Findings → List ℕ
last_lines f =
    codes "trip " ++ at_text (codes "never") f.trip ++ codes "\nstretch " ++ decimal f.stretch
    ++ codes "\nsurplus " ++ surplus_text f.surplus ++ codes "\n"

-- all that `replay` writes, by the weights of the pairs and of the torque
unfoldable pub replay_text : (pair torque : WeightParts) → Findings → List ℕ
replay_text pair torque f =
    codes "ticks " ++ decimal f.ticks ++ codes "\n" ++ pair_lines pair.limit f
    ++ watch_line (codes "torque") f.torque f.greatest.torque torque.limit ++ last_lines f
