use Rattle.eg_level2.proofs.FlowSteps.{whole_tick, empty_tick, mark_stays, two_flows}
use Rattle.eg_level2.proofs.flow.flows_tell_gaps.Goals as goal

pub returns-clause-whole : goal.returns-clause-whole
returns-clause-whole c = whole_tick

pub returns-clause-empty : goal.returns-clause-empty
returns-clause-empty c = empty_tick

pub returns-clause-stays : goal.returns-clause-stays
returns-clause-stays c = mark_stays

pub returns-clause-two : goal.returns-clause-two
returns-clause-two c = two_flows
