-- A debounced watch is found at the tick whose bit first brings its debouncer to the limit. Debouncers are
-- fed at ticks at which the engine is driven, debounce runs, no trip came earlier in the span, and no word
-- is flipped. The debounced watches are those of the four pairs and of the torque.
use Rattle.std.specs.Prelude.{Bool, not, ◌&&◌, is_some, List, ◌∷◌, map, filter}
use Rattle.eg_num.specs.Windows.{WeightParts, is_first}
use Rattle.eg_answer.specs.Feeds.{pedal_feed, plate_feed, load_feed, speed_feed, torque_feed}
use Rattle.eg_answer.specs.declared.modules.TheConstants.{DEBOUNCE}
use Rattle.eg_fault.specs.Effects.{Effects}
use Rattle.eg_model.specs.History.{Signals, Moment}
use Rattle.eg_model.specs.Signals.{tripped}

-- ---- what each debouncer is fed with, by the signals of a tick ----

unfoldable pub pedal_bit : Signals → Bool
pedal_bit s = pedal_feed s.pairs

unfoldable pub plate_bit : Signals → Bool
plate_bit s = plate_feed s.pairs

unfoldable pub load_bit : Signals → Bool
load_bit s = load_feed s.pairs

unfoldable pub speed_bit : Signals → Bool
speed_bit s = speed_feed s.pairs

unfoldable pub torque_bit : Signals → Bool
torque_bit s = torque_feed s.excess

-- The debouncers are fed at a tick where debounce runs, no trip came earlier in the span, and no word is
-- flipped. (`moment_in` asks this only where the engine is driven.)
unfoldable pub feeds_at : Effects → List Moment → Bool
feeds_at x past = x.ran DEBOUNCE && not (tripped past) && not (is_some x.flip)

-- the bits of the ticks at which the debouncers were fed, newest first
unfoldable pub fed_bits : (Signals → Bool) → List Moment → List Bool
fed_bits bit past = map (λ m. bit m.signals) (filter (λ m. m.feeds) past)

-- A watch is found at a tick at which the debouncers are fed, and whose bit brings the list of the watch's
-- bits to its limit for the first time.
unfoldable pub finds : WeightParts → (Signals → Bool) → Bool → Signals → List Moment → Bool
finds w bit feeds now past = feeds && is_first w (bit now ∷ fed_bits bit past)
