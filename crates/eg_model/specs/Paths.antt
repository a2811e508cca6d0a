-- Unless a fault acts on it, path 1 conducts until react has ordered it open, path 2 until wrong answers are
-- confirmed or a wild monitoring module has ordered it. No latch is kept here: whether one is open follows
-- from the earlier ticks of the span. The start-up test reads both paths back at its last tick.
use Rattle.std.specs.Prelude.{ℕ, ◌+◌, ◌==◌, nat_le, Bool, false, ◌&&◌, ◌||◌, List, length}
use Rattle.std.specs.List.{list_any}
use Rattle.eg_answer.specs.Times.{TimeParts, test_ticks_of}
use Rattle.eg_answer.specs.declared.modules.TheConstants.{REACT}
use Rattle.eg_fault.specs.Effects.{Effects}
use Rattle.eg_fault.specs.declared.paths.TheConstants.{PATH_1, PATH_2}
use Rattle.eg_model.specs.History.{SpanKind, Drive, Test, Moment}
use Rattle.eg_model.specs.Signals.{tripped}

-- ---- the start-up test, by the number of a tick in its span ----

-- A test is running up to the tick at which the paths are read back, that tick included. By then the answers
-- that didn't come have opened path 2.
unfoldable pub is_testing : SpanKind → TimeParts → ℕ → Bool
is_testing Drive times local = false
is_testing Test times local = nat_le local (test_ticks_of times)

-- react is told to order path 1 open at the tick before the paths are read back
unfoldable pub is_told_to_open : SpanKind → TimeParts → ℕ → Bool
is_told_to_open Drive times local = false
is_told_to_open Test times local = local + 1 == test_ticks_of times

-- the paths are read back at the last tick of the test
unfoldable pub reads_back : SpanKind → TimeParts → ℕ → Bool
reads_back Drive times local = false
reads_back Test times local = local == test_ticks_of times

-- ---- orders and latches ----

-- react orders path 1 open at a tick where it runs, and a trip has come by then or it is told to
unfoldable pub orders_open : SpanKind → TimeParts → Effects → Bool → List Moment → Bool
orders_open kind times x trip past =
    x.ran REACT && (is_told_to_open kind times (length past) || (trip || tripped past))

-- the latch of path 1 was opened at one of these ticks: react ordered it
unfoldable pub latch1 : List Moment → Bool
latch1 past = list_any (λ m. m.orders) past

-- the latch of path 2 was opened at one of these ticks: wrong answers were confirmed, or a wild monitoring
-- module ordered it
unfoldable pub latch2 : List Moment → Bool
latch2 past = list_any (λ m. m.confirms || m.opens) past

-- whether each path conducts at a tick
unfoldable pub path1_at : Effects → List Moment → Bool
path1_at x past = x.conducts PATH_1 (latch1 past)

unfoldable pub path2_at : Effects → List Moment → Bool
path2_at x past = x.conducts PATH_2 (latch2 past)

-- whether both paths conduct: the power stages are on exactly then, while the engine is driven
unfoldable pub both_conduct : Effects → List Moment → Bool
both_conduct x past = path1_at x past && path2_at x past
