-- The last tick at which the stages are on, in words and as it is computed.
use Rattle.std.proofs.Common.{◌≡◌, ◌<◌, ◌∷◌, [], inl, inr, List, ℕ, Bool, true, false, Some, None, length, refl, sym, ap, subst, arith}
use Rattle.std.specs.Prelude.{Option, IsFalse, if◌then◌else◌}
use Rattle.std.specs.List.{All}
use Rattle.std.proofs.lemmas.Bool.{cases_Bool, cases_order, both_ways}
use Rattle.std.proofs.lemmas.List.Elements.{All-nil, All-cons, All-weaker, All-contains}
use Rattle.eg_record.specs.declared.row.Row.{Row}
use Rattle.eg_record.specs.Rows.{AreRows}
use Rattle.eg_record.specs.Stages.{last_on, IsLastOn, IsOnLast, LastOnLaw}
use Rattle.eg_record.proofs.GivenLemmas.{AreRows-ticks, Contains-tail, Contains-head}

pub last_on-on : (row : Row) (before : List Row) → row.on ≡ true → last_on (row ∷ before) ≡ Some row.tick
unfolding last_on
last_on-on row before on = ap (λ (b : Bool). if b then Some row.tick else last_on before) on

pub last_on-off : (row : Row) (before : List Row) → row.on ≡ false → last_on (row ∷ before) ≡ last_on before
unfolding last_on
last_on-off row before off = ap (λ (b : Bool). if b then Some row.tick else last_on before) off

-- ---- what is computed is what the words say ----

-- at the last row the stages are on
on_now : (row : Row) (before : List Row) → AreRows (row ∷ before) → row.on ≡ true → IsOnLast (row ∷ before) row.tick
on_now row before whole on = record {
  row = row;
  stands = Contains-head row before;
  at_tick = refl;
  on = on;
  off_later = All-cons (λ other. row.tick < other.tick → IsFalse other.on) row before (λ late. absurd (omega arith))
      (All-weaker (λ other. other.tick < length before) (λ other. row.tick < other.tick → IsFalse other.on)
      (λ other low late. absurd (let here = whole.0 in omega arith)) before (AreRows-ticks before whole.1));
}

-- at the last row they are off
off_now : (row : Row) (before : List Row) (last : Option ℕ) → row.on ≡ false → IsLastOn before last → IsLastOn (row ∷ before) last
off_now row before None off all = All-cons (λ r. IsFalse r.on) row before off all
off_now row before (Some tick) off last = record {
  row = last.row;
  stands = Contains-tail row before last.row last.stands;
  at_tick = last.at_tick;
  on = last.on;
  off_later = All-cons (λ other. tick < other.tick → IsFalse other.on) row before (λ late. off) last.off_later;
}

is_last_on : (rows : List Row) → AreRows rows → IsLastOn rows (last_on rows)
is_last_on [] whole = unfold last_on in All-nil (λ row. IsFalse row.on)
is_last_on (row ∷ before) whole = elim (cases_Bool row.on) [
  | inl on ↦ subst (IsLastOn (row ∷ before)) (sym (last_on-on row before on)) (on_now row before whole on)
  | inr off ↦ subst (IsLastOn (row ∷ before)) (sym (last_on-off row before off)) (off_now row before (last_on before) off (is_last_on before whole.1))
]

-- ---- and nothing else is ----

-- the stages are on at the tick of the one, and off at each tick behind the other
none_behind : (rows : List Row) (a b : ℕ) → IsOnLast rows a → IsOnLast rows b → ¬ (a < b)
none_behind rows a b first second less =
    let off = All-contains (λ other. a < other.tick → IsFalse other.on) rows second.row first.off_later second.stands (let here = second.at_tick in omega arith) in
    both_ways second.row.on off second.on

none_on : (rows : List Row) (tick : ℕ) → All (λ row. IsFalse row.on) rows → ¬ (IsOnLast rows tick)
none_on rows tick off last = both_ways last.row.on (All-contains (λ row. IsFalse row.on) rows last.row off last.stands) last.on

one_last : (rows : List Row) (a b : Option ℕ) → IsLastOn rows a → IsLastOn rows b → a ≡ b
one_last rows None None first second = refl
one_last rows None (Some b) first second = absurd (none_on rows b first second)
one_last rows (Some a) None first second = absurd (none_on rows a second first)
one_last rows (Some a) (Some b) first second = elim (cases_order a b) [
  | inl same ↦ ap Some same
  | inr (inl less) ↦ absurd (none_behind rows a b first second less)
  | inr (inr more) ↦ absurd (none_behind rows b a second first more)
]

pub last_on_law : LastOnLaw
last_on_law rows whole last = (
  λ is. one_last rows last (last_on rows) is (is_last_on rows whole),
  λ same. subst (IsLastOn rows) (sym same) (is_last_on rows whole),
)
