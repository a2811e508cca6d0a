use Rattle.std.proofs.Common.{refl}
use Rattle.eg_level2.specs.Words.{named}
use Rattle.eg_level2.specs.Inner.Stores.{signal_of}
use Rattle.eg_level2.proofs.signals.signal.Goals as goal

pub returns-in-1 : goal.returns-in-1
unfolding signal_of named
returns-in-1 g c = rw (c.used.ensures, c.is_set.ensures, c.word.ensures, c.readings.ensures, c.in-1.is) refl

pub returns-in-2 : goal.returns-in-2
unfolding signal_of named
returns-in-2 g c =
    rw (
      c.permit.ensures,
      c.is_set-tripped.ensures,
      c.word-in-2.ensures,
      c.word-before.ensures,
      c.word-pedal.ensures,
      c.readings-in-2.ensures,
      c.in-2.is,
    ) refl

pub returns-in-4 : goal.returns-in-4
unfolding signal_of named
returns-in-4 g c = rw (c.excess_number.ensures, c.word-in-4.ensures, c.word-in-4-2.ensures, c.in-4.is) refl
