-- What each kind of engine brings to the laws of records. A new kind has here its record, `KindLaws`, and its line in
-- `laws_of`, and in specs/ its line in `load_up_to` (NeverCuts).
use Rattle.std.proofs.Common.{◌≡◌, ◌∙◌, refl, ap, subst, ℕ, zero, suc, ◌+◌, ◌*◌, ◌/◌, ◌≤◌, Bool, true, false, List, [], ◌∷◌, All, arith, inl, inr, Option, None, max, min}
use Rattle.std.specs.List.{fold}
use Rattle.std.proofs.Math.Nat.{div-mul-le_self, mul-le-mul}
use Rattle.std.proofs.lemmas.Nat.{le-div}
use Rattle.std.proofs.lemmas.Bool.{cases_lt}
use Rattle.std.proofs.lemmas.Bool.Decides.{nat_tests}
use Rattle.std.proofs.lemmas.List.Elements.{All-nil, All-cons}
use Rattle.eg_num.specs.Arithmetic.{moved_toward}
use Rattle.eg_num.specs.Interpolation.{curve_at}
use Rattle.eg_plant.specs.PlantParts.{PlantParts}
use Rattle.eg_plant.specs.Gasoline.{Gasoline, at_rest, next_plate, next_charge, torque_of, gasoline_step}
use Rattle.eg_plant.specs.Keeping as gasoline_state
use Rattle.eg_plant.specs.declared.engine_kind.EngineKind.{EngineKind}
use Rattle.eg_plant.specs.declared.engine_kind.EngineKind.TheVariants as kind
use Rattle.eg_plant.proofs.PlantLemmas.{curve_at-most, moved_toward-most}
use Rattle.eg_diesel.specs.Diesel.{Diesel, next_boost, quantity_of, diesel_step}
use Rattle.eg_diesel.specs.Diesel as of_diesel
use Rattle.eg_diesel.specs.Keeping as diesel_state
use Rattle.eg_diesel.proofs.DieselLaws.{kept_at_first, kept_after, kept-laws, diesel_step-off, shown_of-one_load}
use Rattle.eg_diesel.proofs.DieselLemmas.{quantity_of-metered, quantity_of-burnt}
use Rattle.eg_values.specs.Excess.{greatest_torque}
use Rattle.eg_model.specs.Engines.{BenchEngine, gasoline, diesel, bench_of, KeepsBenchLaws, ShowsOneLoad}
use Rattle.eg_model.proofs.GasolineLaws.{gasoline_keeps, gasoline_shows_one_load}
use Rattle.eg_laws.specs.Latent.{DieselIsCalm}
use Rattle.eg_laws.specs.NeverCuts.{charge_up_to, load_up_to}

-- What a kind brings, where `most` is the greatest load that it can come to while its throttle stays at an angle or below.
pub record KindLaws {E : Type 0} (b : BenchEngine E) (most : PlantParts → ℕ → ℕ) : Type 1 where
  -- a statement about a state that stays true from step to step, by which it keeps the laws of the bench, and shows no load
  -- above 1000
  pub Keeps : PlantParts → E → Type 0
  pub keeps : KeepsBenchLaws b Keeps
  pub low : (plant : PlantParts) (e : E) → Keeps plant e → (b.shows e).load_1 ≤ 1000
  -- it shows one load twice
  pub once : ShowsOneLoad b
  -- at rest it stays as it is while nothing is commanded to it, and shows its plate closed
  pub rests : (plant : PlantParts) (on : Bool) → b.step plant (b.rest plant) 0 0 on None ≡ b.rest plant
  pub closed : (plant : PlantParts) → (b.shows (b.rest plant)).position ≡ 0
  -- another such statement, whatever the plate is held at, by which it shows no more torque than that of the greatest charge
  pub Within : PlantParts → E → Type 0
  pub within_first : (plant : PlantParts) → Within plant (b.rest plant)
  pub within_next : (plant : PlantParts) (e : E) → Within plant e → (throttle ignition : ℕ) (on : Bool) (held : Option ℕ) →
      Within plant (b.step plant e throttle ignition on held)
  pub torque : (plant : PlantParts) (e : E) → Within plant e → (b.shows e).torque ≤ greatest_torque plant
  -- and one that stays true while the throttle stays at x or below, by which it shows no greater load than `most`
  pub Below : PlantParts → ℕ → E → Type 0
  pub below_first : (plant : PlantParts) (x : ℕ) → Below plant x (b.rest plant)
  pub below_next : (plant : PlantParts) (x : ℕ) (e : E) → Below plant x e → (throttle ignition : ℕ) (on : Bool) → throttle ≤ x →
      Below plant x (b.step plant e throttle ignition on None)
  pub load : (plant : PlantParts) (x : ℕ) (e : E) → Below plant x e → (b.shows e).load_1 ≤ most plant x

-- ---- what both kinds use ----

no_way : (now step : ℕ) → moved_toward now now step ≡ now
no_way now step = grind (arith, nat_tests)

no_torque : (kt charge : ℕ) (on : Bool) → torque_of kt charge 0 on ≡ 0
unfolding torque_of
no_torque kt charge true = grind arith
no_torque kt charge false = refl

-- no number is more than the greatest
pub greatest_covers : (ns : List ℕ) (n : ℕ) → (n ≤ fold max n ns) × All (λ m. m ≤ fold max n ns) ns
greatest_covers [] n = (omega arith, All-nil (λ m. m ≤ n))
greatest_covers (m ∷ ns) n =
    let rest = greatest_covers ns (max n m) in
    let here = rest.0 in
    (omega (arith, here), All-cons (λ k. k ≤ fold max (max n m) ns) m ns (omega (arith, here)) rest.1)

-- the greatest charge of a plant
abbrev greatest_charge : PlantParts → ℕ
greatest_charge plant = fold max 0 plant.charge.values

charge-most : (plant : PlantParts) (x : ℕ) → curve_at plant.charge x ≤ greatest_charge plant
charge-most plant x = curve_at-most (greatest_charge plant) plant.charge x (greatest_covers plant.charge.values 0).1

-- the torque of a charge that isn't above the greatest
torque_of-most : (plant : PlantParts) (charge ignition : ℕ) (on : Bool) → charge ≤ greatest_charge plant →
    torque_of plant.kt charge ignition on ≤ greatest_torque plant
unfolding torque_of greatest_torque
torque_of-most plant charge ignition false few = omega arith
torque_of-most plant charge ignition true few =
    let same : plant.kt ≤ plant.kt = omega arith in
    within (charge * plant.kt) (greatest_charge plant * plant.kt) (min ignition 1000) (mul-le-mul few same) (omega arith)
  where
    within : (full most efficiency : ℕ) → full ≤ most → efficiency ≤ 1000 → full * efficiency / 1000000 ≤ most / 1000
    within full most efficiency less low =
        let scaled : full * efficiency ≤ most * 1000 = mul-le-mul less low in
        let back = div-mul-le_self (full * efficiency) 1000000 in
        le-div (full * efficiency / 1000000) most 1000 (omega arith) (omega (arith, scaled, back))

-- no charge of an angle up to x is more
up_to_covers : (plant : PlantParts) (x y : ℕ) → y ≤ x → curve_at plant.charge y ≤ charge_up_to plant x
unfolding charge_up_to
up_to_covers plant zero y l = subst (λ n. curve_at plant.charge n ≤ curve_at plant.charge 0) none (omega arith)
  where
    none : 0 ≡ y
    none = omega (arith, l)
up_to_covers plant (suc x) y l = elim (cases_lt x y) [
  | inl last ↦ subst (λ n. curve_at plant.charge n ≤ max (charge_up_to plant x) (curve_at plant.charge (suc x))) (at last)
      (omega arith)
  | inr before ↦ (let less = up_to_covers plant x y before in omega (arith, less))
]
  where
    at : suc x ≤ y → suc x ≡ y
    at last = omega (arith, last, l)

next_plate-below : (plant : PlantParts) (x plate throttle : ℕ) (on : Bool) → plate ≤ x → throttle ≤ x →
    next_plate plant plate throttle on None ≤ x
unfolding next_plate
next_plate-below plant x plate throttle on low few = moved_toward-most x plate _ plant.slew low (grind (arith, few))

still_plate : (plant : PlantParts) (on : Bool) → next_plate plant 0 0 on None ≡ 0
still_plate plant on = let low = next_plate-below plant 0 0 0 on (omega arith) (omega arith) in omega (arith, low)

-- ---- the gasoline engine ----

record GasolineWithin (plant : PlantParts) (g : Gasoline) : Type 0 where
  charge : g.charge ≤ greatest_charge plant
  torque : g.torque ≤ greatest_torque plant

record GasolineBelow (plant : PlantParts) (x : ℕ) (g : Gasoline) : Type 0 where
  plate : g.plate ≤ x
  charge : g.charge ≤ charge_up_to plant x

gasoline_laws : KindLaws gasoline (load_up_to kind.Gasoline)
unfolding gasoline at_rest gasoline_step next_charge load_up_to
gasoline_laws = record {
  Keeps = gasoline_state.IsKept;
  keeps = gasoline_keeps;
  low = λ plant g kept. kept.charge;
  once = gasoline_shows_one_load;
  rests = λ plant on. λ i. record {
    plate = still_plate plant on i;
    charge = no_way (curve_at plant.charge 0) plant.fill i;
    torque = (ap (λ charge. torque_of plant.kt charge 0 on) (no_way (curve_at plant.charge 0) plant.fill)
        ∙ no_torque plant.kt (curve_at plant.charge 0) on) i;
  };
  closed = λ plant. refl;
  Within = GasolineWithin;
  within_first = λ plant. record { charge = charge-most plant 0; torque = omega arith };
  within_next = λ plant g within throttle ignition on held.
      let charge = moved_toward-most (greatest_charge plant) g.charge _ plant.fill within.charge (charge-most plant g.plate) in
      record { charge = charge; torque = torque_of-most plant _ ignition on charge };
  torque = λ plant g within. within.torque;
  Below = GasolineBelow;
  below_first = λ plant x. record { plate = omega arith; charge = up_to_covers plant x 0 (omega arith) };
  below_next = λ plant x g below throttle ignition on few. record {
    plate = next_plate-below plant x g.plate throttle on below.plate few;
    charge = moved_toward-most (charge_up_to plant x) g.charge _ plant.fill below.charge
        (up_to_covers plant x g.plate below.plate);
  };
  load = λ plant x g below. below.charge;
}

-- ---- the diesel engine ----

record DieselBelow (plant : PlantParts) (x : ℕ) (d : Diesel) : Type 0 where
  rack : d.rack ≤ x
  boost : d.boost ≤ x
  quantity : d.quantity ≤ min x (charge_up_to plant x)

-- what is injected isn't more than the rack meters, nor than the greatest charge of the boosts up to x
quantity-below : (plant : PlantParts) (x rack boost : ℕ) (on : Bool) → rack ≤ x → boost ≤ x →
    quantity_of plant rack boost on ≤ min x (charge_up_to plant x)
quantity-below plant x rack boost on low few =
    let metered = quantity_of-metered plant rack boost on in
    let burnt = quantity_of-burnt plant rack boost on in
    let smoke = up_to_covers plant x boost few in
    omega (arith, metered, burnt, smoke, low)

quantity-most : (plant : PlantParts) (rack boost : ℕ) (on : Bool) → quantity_of plant rack boost on ≤ greatest_charge plant
quantity-most plant rack boost on =
    let burnt = quantity_of-burnt plant rack boost on in let most = charge-most plant boost in omega (arith, burnt, most)

diesel_laws : KindLaws diesel (load_up_to kind.Diesel)
unfolding diesel of_diesel.at_rest diesel_step next_boost load_up_to
diesel_laws = record {
  Keeps = diesel_state.IsKept;
  keeps = record {
    at_first = kept_at_first;
    goes_on = kept_after;
    laws = kept-laws;
    off = λ plant d kept command ignition held. diesel_step-off plant d command ignition held;
  };
  low = λ plant d kept. let metered = kept.metered in let rack = kept.rack in omega (arith, metered, rack);
  once = record { loads = shown_of-one_load };
  rests = λ plant on. λ i. record {
    rack = still_plate plant on i;
    boost = no_way 0 plant.fill i;
    quantity = none_injected plant (moved_toward 0 0 plant.fill) on i;
    torque = no_torque plant.kt (quantity_of plant (next_plate plant 0 0 on None) (moved_toward 0 0 plant.fill) on) on i;
  };
  closed = λ plant. refl;
  Within = λ plant d. d.torque ≤ greatest_torque plant;
  within_first = λ plant. omega arith;
  within_next = λ plant d within command ignition on held. torque_of-most plant _ ignition on (quantity-most plant _ _ on);
  torque = λ plant d within. within;
  Below = DieselBelow;
  below_first = λ plant x. record { rack = omega arith; boost = omega arith; quantity = omega arith };
  below_next = λ plant x d below throttle ignition on few.
      let rack = next_plate-below plant x d.rack throttle on below.rack few in
      let boost = moved_toward-most x d.boost d.rack plant.fill below.boost below.rack in
      record { rack = rack; boost = boost; quantity = quantity-below plant x _ _ on rack boost };
  load = λ plant x d below. below.quantity;
}
  where
    none_injected : (plant : PlantParts) (boost : ℕ) (on : Bool) → quantity_of plant (next_plate plant 0 0 on None) boost on ≡ 0
    none_injected plant boost on =
        let metered = quantity_of-metered plant (next_plate plant 0 0 on None) boost on in
        let closed = still_plate plant on in
        omega (arith, metered, closed)

pub diesel_is_calm : DieselIsCalm
unfolding diesel of_diesel.at_rest
diesel_is_calm cal = record { speed = 0; within = omega arith; calm = small (0 * cal.rules.kt) _ (omega arith) }
  where
    small : (n permitted : ℕ) → n ≡ 0 → min 65535 ((n + 999) / 1000) ≤ permitted
    small n permitted none = omega arith

-- ---- each kind ----

pub laws_of : (engine : EngineKind) → KindLaws (bench_of engine) (load_up_to engine)
laws_of kind.Gasoline = gasoline_laws
laws_of kind.Diesel = diesel_laws

pub keeps_of : (engine : EngineKind) → KeepsBenchLaws (bench_of engine) (laws_of engine).Keeps
keeps_of engine = (laws_of engine).keeps

pub shows_one_load_of : (engine : EngineKind) → ShowsOneLoad (bench_of engine)
shows_one_load_of engine = (laws_of engine).once
