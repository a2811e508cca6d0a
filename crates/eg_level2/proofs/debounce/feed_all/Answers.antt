use Rattle.std.proofs.Common.{refl}
use Rattle.eg_level2.specs.Words.{named}
use Rattle.eg_level2.specs.Modules.{pedal_bit, plate_bit, load_bit, speed_bit, torque_bit}
use Rattle.eg_level2.specs.Inner.Stores.{feeds_of}
use Rattle.eg_level2.proofs.debounce.feed_all.Goals as goal

pub returns : goal.returns
unfolding named feeds_of pedal_bit plate_bit load_bit speed_bit torque_bit
returns g c = rw (
  c.feed.ensures,
  c.feed-2.ensures,
  c.feed-3.ensures,
  c.feed-4.ensures,
  c.feed-5.ensures,
  c.has_bit.ensures,
  c.has_bit-2.ensures,
  c.has_bit-3.ensures,
  c.has_bit-4.ensures,
  c.has_bit-5.ensures,
  c.word.ensures,
  c.word-2.ensures,
  c.word-3.ensures,
  c.word-4.ensures,
  c.word-5.ensures,
  c.word-pairs.ensures,
  c.word-excess.ensures,
) refl
