-- The key of a group is a run of it, with a number that is made of all that the runs of the group share. A
-- map finds the first run of a group by it.
use Rattle.std.specs.Prelude.{◌≡◌, ℕ, Bool, true, ◌==◌, ◌&&◌, fold}
use Rattle.std.specs.Hash as fed
use Rattle.std.specs.Hash.{first_alike, on_Alike, same_Alike}
use Rattle.std.specs.Cmp.{IsEquivalence, and_equiv, on_equiv, nat_eq_equiv, unsigned_Decides}
use Rattle.std.specs.Cmp.Lexicographic.{lists_equiv}
use Rattle.eg_num.specs.Drive.{is_same_row-equality}
use Rattle.eg_plant.specs.EngineKinds.{number_of}
use Rattle.eg_plan.specs.DriveNumbers.{mixed, row_number}
use Rattle.eg_plan.specs.declared.run_input.RunInput.{RunInput}
use Rattle.eg_campaign.specs.declared.key.GroupKey.{GroupKey}
use Rattle.eg_campaign.specs.Groups.{is_alike}

-- ---- the number ----

-- The number of a run: its engine, the words of its image, the rows of its slice plan and of its drive, made
-- one. So runs of one group have one number.
unfoldable pub group_number : RunInput → ℕ
group_number x =
    let image = fold mixed (number_of x.plan.engine) x.image in
    let plan = fold (fold mixed) image x.plan.slices in
    fold (λ all row. mixed all (row_number row)) plan x.drive

-- ---- keys ----

-- two keys are equal: their numbers are, and their runs are of one group
abbrev pub is_same_key : GroupKey → GroupKey → Bool
is_same_key a b = a.number == b.number && is_alike a.input.now b.input.now

-- ---- that this is an equality, and that equal keys are hashed alike ----

pub is_alike-equality : IsEquivalence is_alike
unfolding is_alike
is_alike-equality =
    and_equiv (and_equiv (and_equiv (on_equiv (λ (x : RunInput). number_of x.plan.engine) nat_eq_equiv)
    (on_equiv (λ (x : RunInput). x.image) (lists_equiv nat_eq_equiv)))
    (on_equiv (λ (x : RunInput). x.plan.slices) (lists_equiv (lists_equiv nat_eq_equiv))))
    (on_equiv (λ (x : RunInput). x.drive) (lists_equiv is_same_row-equality))

pub is_same_key-equality : IsEquivalence is_same_key
is_same_key-equality = and_equiv (on_equiv (λ (k : GroupKey). k.number) nat_eq_equiv)
    (on_equiv (λ (k : GroupKey). k.input.now) is_alike-equality)

pub is_same_key-hashed : (a b : GroupKey) → is_same_key a b ≡ true → fed.u64 a.number ≡ fed.u64 b.number
is_same_key-hashed a b same = (first_alike (λ a b. is_alike a.input.now b.input.now)
    (on_Alike (λ (k : GroupKey). k.number) (same_Alike fed.u64 unsigned_Decides))).fed a b same
