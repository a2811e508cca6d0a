-- The files of all runs, one run after another.
use Rattle.std.proofs.Common.{◌≡◌, ◌∙◌, refl, sym, ap, ap₂, subst, ℕ, suc, ◌+◌, ◌-◌, ◌≤◌, List, [], ◌∷◌, ◌++◌, length, Option, Some, None, Ok, Err, append_assoc, append-nil, length-append, arith}
use Rattle.std.specs.Prelude.{Result, slice_get, option_map}
use Rattle.eg_base.specs.Outside.{ShownStore}
use Rattle.eg_num.specs.Drive.{DriveRow}
use Rattle.eg_plan.specs.declared.run.RunPlan.{RunPlan}
use Rattle.eg_plan.specs.declared.run_input.RunInput.{RunInput}
use Rattle.eg_outcome.specs.declared.outcome.Outcome.{Outcome}
use Rattle.eg_outcome.specs.declared.outcome.Outcome.TheVariants as outcome
use Rattle.eg_outcome.specs.declared.outcome.Refusal.{Refusal}
use Rattle.eg_outcome.specs.declared.outcome.Role.{Role}
use Rattle.eg_outcome.specs.declared.outcome.Role.TheVariants as role
use Rattle.eg_outcome.specs.Changes.{Change, change, MeetsNoFault}
use Rattle.eg_outcome.specs.Inputs.{InputComes, ImageComes, TicksCome, InputsCome, too_many}
use Rattle.eg_outcome.specs.Runs.{name_for, name_by, IsOf}

-- what came of the rest, behind what was made
unfoldable pub behind : List RunInput → Result (List RunInput) Outcome → Result (List RunInput) Outcome
behind made (Ok inputs) = Ok (made ++ inputs)
behind made (Err end) = Err end

-- before the first run nothing is made
pub behind-nil : (come : Result (List RunInput) Outcome) → behind [] come ≡ come
unfolding behind
behind-nil (Ok inputs) = refl
behind-nil (Err end) = refl

behind-push : (made : List RunInput) (input : RunInput) (come : Result (List RunInput) Outcome)
    → behind made (behind (input ∷ []) come) ≡ behind (made ++ input ∷ []) come
unfolding behind
behind-push made input (Ok inputs) = ap (λ all. Ok all) (sym (append_assoc made (input ∷ []) inputs))
behind-push made input (Err end) = refl

module _ (store : Change ShownStore) where
  -- the first run, and then the rest
  one_more : (n sum : ℕ) (plan : RunPlan) (plans : List RunPlan) (input : RunInput) (come : Result (List RunInput) Outcome)
      → InputComes (too_many sum n) store n plan (Ok input) → InputsCome store (n + 1) (sum + length input.drive) plans come
      → InputsCome store n sum (plan ∷ plans) (behind (input ∷ []) come)
  unfolding behind
  one_more n sum plan plans input (Ok inputs) first rest = (Ok input, first, (Ok inputs, rest, refl))
  one_more n sum plan plans input (Err end) first rest = (Ok input, first, (Err end, rest, refl))

  -- Whatever comes of the runs from number n on, comes of all of them behind what was made of those before.
  pub Goes : ℕ → ℕ → List RunPlan → List RunInput → Type 0
  Goes n sum before made =
      (rest : List RunPlan) (come : Result (List RunInput) Outcome) → InputsCome store n sum rest come
      → InputsCome store 1 0 (before ++ rest) (behind made come)

  pub goes-first : Goes 1 0 [] []
  unfolding Goes
  goes-first rest come comes = subst (InputsCome store 1 0 rest) (sym (behind-nil come)) comes

  pub goes-on : (n sum : ℕ) (before : List RunPlan) (made : List RunInput) (plan : RunPlan) (input : RunInput)
      → InputComes (too_many sum n) store n plan (Ok input) → Goes n sum before made
      → Goes (n + 1) (sum + length input.drive) (before ++ plan ∷ []) (made ++ input ∷ [])
  unfolding Goes
  goes-on n sum before made plan input first goes rest come comes =
      subst (λ plans. InputsCome store 1 0 plans (behind (made ++ input ∷ []) come)) (sym (append_assoc before (plan ∷ []) rest))
      (subst (InputsCome store 1 0 (before ++ plan ∷ rest)) (behind-push made input come)
      (goes (plan ∷ rest) (behind (input ∷ []) come) (one_more n sum plan rest input come first comes)))

  -- the call ends at a run
  pub goes-end : (n sum : ℕ) (before : List RunPlan) (made : List RunInput) (plan : RunPlan) (rest plans : List RunPlan) (end : Outcome)
      → plans ≡ before ++ plan ∷ rest → InputComes (too_many sum n) store n plan (Err end) → Goes n sum before made
      → InputsCome store 1 0 plans (Err end)
  unfolding Goes behind
  goes-end n sum before made plan rest plans end parts first goes =
      subst (λ all. InputsCome store 1 0 all (Err end)) (sym parts) (goes (plan ∷ rest) (Err end) (Err end, first, refl))

  -- memory may run out at any run, where no fault of reading was met
  pub goes-memory : (n sum : ℕ) (before : List RunPlan) (made : List RunInput) (plan : RunPlan) (rest plans : List RunPlan)
      → plans ≡ before ++ plan ∷ rest → MeetsNoFault store → Goes n sum before made → InputsCome store 1 0 plans (Err outcome.Memory)
  goes-memory n sum before made plan rest plans parts same goes =
      goes-end n sum before made plan rest plans outcome.Memory parts (Err outcome.Memory, same, refl) goes

  -- all runs were read
  pub goes-all : (n sum : ℕ) (plans : List RunPlan) (made : List RunInput) → Goes n sum plans made → InputsCome store 1 0 plans (Ok made)
  unfolding Goes behind
  goes-all n sum plans made goes =
      subst (λ all. InputsCome store 1 0 all (Ok made)) (append-nil plans)
      (subst (λ inputs. InputsCome store 1 0 (plans ++ []) (Ok inputs)) (append-nil made) (goes [] (Ok []) refl))

-- ---- the name of a file ----

get-behind : (before : List RunPlan) (plan : RunPlan) (rest : List RunPlan) → slice_get (before ++ plan ∷ rest) (length before) ≡ Some plan
get-behind [] plan rest = refl
get-behind (x ∷ before) plan rest = get-behind before plan rest

-- the run at hand gives the name that the campaign gives
pub named : (before : List RunPlan) (plan : RunPlan) (rest plans : List RunPlan) (n : ℕ) (file : Option Role) → plans ≡ before ++ plan ∷ rest
    → n ≡ length before + 1 → IsOf n file → name_by plan file ≡ name_for plans file
named before plan rest plans n file parts is of = go file of
  where
    here : (run : ℕ) → run ≡ n → slice_get plans (run - 1) ≡ Some plan
    here run same =
        let place : run - 1 ≡ length before = omega (arith, same, is) in
        ap₂ slice_get parts place ∙ get-behind before plan rest

    go : (file : Option Role) → IsOf n file → name_by plan file ≡ name_for plans file
    go (Some (role.Trace run)) of = sym (ap (λ found. option_map (λ (p : RunPlan). p.trace) found) (here run of))
    go (Some (role.Image run)) of = sym (ap (λ found. option_map (λ (p : RunPlan). p.image) found) (here run of))
    go _ of = refl

-- ---- the runs one after another ----

-- one run more of those that are left
pub one-behind : (plans before left rest : List RunPlan) (plan : RunPlan) → plans ≡ before ++ left → left ≡ plan ∷ rest → plans ≡ before ++ plan ∷ rest
one-behind plans before left rest plan parts first = parts ∙ ap (λ runs. before ++ runs) first

pub some-sum : (sum x : ℕ) → Some sum ≡ Some x → sum ≤ 1000000 → x ≤ 1000000
some-sum sum x is within = subst (λ n. n ≤ 1000000) (let same : sum ≡ x = cc in same) within

pub one-longer : (before : List RunPlan) (plan : RunPlan) → length before + 1 + 1 ≡ length (before ++ plan ∷ []) + 1
one-longer before plan = let long = length-append before (plan ∷ []) in omega arith

pub nothing-left : (items : List RunPlan) (count : ℕ) → count ≡ length items → count ≡ 0 → items ≡ []
nothing-left [] count is none = refl
nothing-left (plan ∷ items) count is none = absurd (let some : suc (length items) ≡ 0 = sym is ∙ none in cc)

-- ---- a run that was read ----

ok-err : {X : Type 0} (x : X) (end : Outcome) → ¬ (Ok x ≡ Err end)
ok-err x end same = cc

image-later : (store mid later : ShownStore) (n : ℕ) (plan : RunPlan) (drive : List DriveRow) (input : RunInput)
    → ImageComes (change store mid) n plan drive (Ok input) → ImageComes (change store later) n plan drive (Ok input)
image-later store mid later n plan drive input (Ok words, comes, made) = (Ok words, comes, made)
image-later store mid later n plan drive input (Err end, comes, made) = absurd (ok-err input end made)

ticks-later : (refusal : Option Refusal) (store mid later : ShownStore) (n : ℕ) (plan : RunPlan) (drive : List DriveRow) (input : RunInput)
    → TicksCome refusal (change store mid) n plan drive (Ok input) → TicksCome refusal (change store later) n plan drive (Ok input)
ticks-later (Some r) store mid later n plan drive input (made, same) = absurd (ok-err input (outcome.Refused r) made)
ticks-later None store mid later n plan drive input comes = image-later store mid later n plan drive input comes

-- what was read doesn't depend on what the store shows after it
pub any-later : (refuses : ℕ → Option Refusal) (store mid later : ShownStore) (n : ℕ) (plan : RunPlan) (input : RunInput)
    → InputComes refuses (change store mid) n plan (Ok input) → InputComes refuses (change store later) n plan (Ok input)
any-later refuses store mid later n plan input (Ok drive, comes, made) =
    (Ok drive, comes, ticks-later (refuses (length drive)) store mid later n plan drive input made)
any-later refuses store mid later n plan input (Err end, comes, made) = absurd (ok-err input end made)
