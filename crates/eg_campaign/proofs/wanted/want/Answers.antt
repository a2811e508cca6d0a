use Rattle.std.proofs.Common.{rules, refl, sym, ap, subst, ◌/◌, ◌<◌, length, arith}
use Rattle.std.specs.Option.{option_copied}
use Rattle.eg_fault.specs.Faults.{IsNoneOrValid, IsValid}
use Rattle.eg_campaign.specs.Inner.Checkpoints.{IsWantedFor}
use Rattle.eg_campaign.proofs.CheckpointLemmas.{wants_here}
use Rattle.eg_campaign.proofs.wanted.want.Goals as goal

pub bounds-wanted-fault : goal.bounds-wanted-fault
unfolding IsNoneOrValid
bounds-wanted-fault c =
    let valid : IsValid c.in-Some.fault.now = subst IsNoneOrValid (ap option_copied c.in-Some.is) c.requires in
    omega (arith, valid.0)

pub returns-in-Some-clause-wanted : goal.returns-in-Some-clause-wanted
unfolding IsNoneOrValid
returns-in-Some-clause-wanted c =
    let valid : IsValid c.in-Some.fault.now = subst IsNoneOrValid (ap option_copied c.in-Some.is) c.requires in
    let small : c.in-Some.fault.now.onset / 100 < 200 = omega (arith, valid.0) in
    subst (IsWantedFor _) (sym (ap option_copied c.in-Some.is))
    (wants_here c.args.wanted.now _ c.in-Some.fault.now (let below : c.in-Some.fault.now.onset / 100 < length c.args.wanted.now = search rules in below) refl)
