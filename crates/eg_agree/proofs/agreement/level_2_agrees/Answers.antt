use Rattle.eg_agree.proofs.WholeRuns.{words_stand, flow_stands, each_answer_holds, words_rest, last_checks_stand, last_check_is_kept}
use Rattle.eg_agree.proofs.agreement.level_2_agrees.Goals as goal

pub returns-clause-words : goal.returns-clause-words
returns-clause-words c = words_stand

pub returns-clause-answers : goal.returns-clause-answers
returns-clause-answers c = each_answer_holds

pub returns-clause-flow : goal.returns-clause-flow
returns-clause-flow c = flow_stands

pub returns-clause-rests : goal.returns-clause-rests
returns-clause-rests c = words_rest

pub returns-clause-last : goal.returns-clause-last
returns-clause-last c = last_checks_stand

pub returns-clause-last_tick : goal.returns-clause-last_tick
returns-clause-last_tick c = last_check_is_kept
