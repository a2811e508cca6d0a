-- What a refused put to an output in memory appends.
use Rattle.std.proofs.Common.{◌≡◌, ◌∙◌, refl, sym, ap, ℕ, List, [], length, take, drop, ◌/◌, append-nil, false, Some, Result, Ok, Err, OnErr, IsErrOf}
use Rattle.std.proofs.lemmas.List.{take-append-drop}
use Rattle.eg_base.specs.declared.sink.PutRefusal.{PutRefusal}
use Rattle.eg_base.specs.declared.sink.PutRefusal.TheVariants.{Failed, Memory}
use Rattle.eg_base.specs.Counts.{next_count}
use Rattle.eg_base.specs.Fakes.{SinkState, after_failed_put}
use Rattle.eg_base.specs.Outside.{ShownSink, AppendsPrefix}

-- what the output in memory shows
abbrev pub shown : SinkState → ShownSink
shown sink = record { written = Some sink.bytes; faults = sink.faults; sure = false }

-- what a refused put appends is a front of the bytes: half of them at Failed, none at Memory
pub front-of_refused : (result : Result (Unit {0}) PutRefusal) (old new : SinkState) (bytes : List ℕ)
    → (IsErrOf result Failed → new ≡ after_failed_put old bytes)
    → (IsErrOf result Memory → new ≡ record old { puts = next_count old.puts })
    → OnErr result (AppendsPrefix (shown old) (shown new) bytes)
front-of_refused (Ok x) old new bytes half nothing = tt
front-of_refused (Err Failed) old new bytes half nothing =
    let count : ℕ = length bytes / 2 in
    (take count bytes, drop count bytes, sym (take-append-drop count bytes), ap (λ sink. Some sink.bytes) (half refl))
front-of_refused (Err Memory) old new bytes half nothing =
    ([], bytes, refl, ap (λ sink. Some sink.bytes) (nothing refl) ∙ ap Some (sym (append-nil old.bytes)))
