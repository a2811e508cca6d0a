use Rattle.std.proofs.Common.{sym, subst, get_or, take, All, Some}
use Rattle.std.proofs.lemmas.List.{take_all}
use Rattle.eg_fault.specs.declared.class.Fault.{Fault}
use Rattle.eg_fault.specs.Faults.{IsNoneOrValid, IsValid}
use Rattle.eg_campaign.specs.Inner.Checkpoints.{IsWantedFor}
use Rattle.eg_campaign.proofs.PlayLemmas.{all-more}
use Rattle.eg_campaign.proofs.wanted.wanted_under.Goals as goal

pub want-requires : goal.want-requires
unfolding IsNoneOrValid
want-requires c = subst IsValid (sym c.fault-item.is) (c.requires c.loop-fault.fault-index c.fault-item.result c.loop-fault-test.true)

pub loop-fault-preserved : goal.loop-fault-preserved
loop-fault-preserved c = record {
  wanted = all-more (λ (fault : Fault). IsWantedFor c.want.new.wanted (Some fault)) c.args.faults.now c.loop-fault.fault-index c.fault-item.result
      c.loop-fault-test.true c.fault-item.is
      (λ k d below. c.want.ensures.kept (Some (get_or (take c.loop-fault.fault-index c.args.faults.now) k d)) (c.loop-fault.invariant.wanted k d below)) c.want.ensures.wanted;
}

pub returns : goal.returns
returns c = subst (All (λ (fault : Fault). IsWantedFor c.loop-fault.wanted (Some fault))) (take_all _ _ c.loop-fault-test.false) c.loop-fault.invariant.wanted
