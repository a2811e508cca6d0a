-- A call is described by what its store, its output and its count of ticks show before it and after it.
use Rattle.std.specs.Prelude.{◌≡◌}
use Rattle.eg_base.specs.Outside.{ShownStore}

pub record Change (X : Type 0) : Type 0 where
  pub before : X
  pub after : X

abbrev pub change : {X : Type 0} → X → X → Change X
change before after = record { before = before; after = after }

abbrev pub change_of : {A X : Type 0} → (A → X) → A → A → Change X
change_of shows before after = change (shows before) (shows after)

abbrev pub Stays : {X : Type 0} → Change X → Type 0
Stays it = it.after ≡ it.before

-- no fault of reading was met
abbrev pub MeetsNoFault : Change ShownStore → Type 0
MeetsNoFault store = store.after.faults ≡ store.before.faults
