-- What level 2 does in each phase: while the engine is driven, at ticks at which the answer is sent and at
-- others; and in a test span, at the tick at which path 1 is ordered open and at all others, also at those
-- after a test that failed.
use Rattle.std.specs.Prelude.{Bool, true, false}
use Rattle.eg_level2.specs.declared.phase.Phase.{Phase}
use Rattle.eg_level2.specs.declared.phase.Phase.TheVariants.{Quiet, Send, Test, TestOrder}

-- the debouncers are fed while the engine is driven
unfoldable pub feeds : Phase → Bool
feeds Quiet = true
feeds Send = true
feeds Test = false
feeds TestOrder = false

-- the answer is sent in one phase alone
unfoldable pub sends : Phase → Bool
sends Quiet = false
sends Send = true
sends Test = false
sends TestOrder = false

-- path 1 is ordered open whatever was found
unfoldable pub orders : Phase → Bool
orders Quiet = false
orders Send = false
orders Test = false
orders TestOrder = true
