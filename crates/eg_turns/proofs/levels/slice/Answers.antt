use Rattle.std.proofs.Common.{sym, subst, List}
use Rattle.eg_word.specs.declared.instruction.Instruction.{Instruction}
use Rattle.eg_word.specs.Memory.{is_level1_own}
use Rattle.eg_turns.specs.Midway.{IsReady}
use Rattle.eg_turns.proofs.FrameLemmas.{level1_leaves, asked-stays, ready-level1}
use Rattle.eg_turns.proofs.LevelLemmas.{slice_result}
use Rattle.eg_turns.proofs.levels.slice.Goals as goal

pub returns-clause-midway : goal.returns-clause-midway
returns-clause-midway g c w j runs within row is =
    slice_result c.slice.result w j c.args.budget _ _ _ _ runs within row
    c.slice.ensures.slice.keeps.are_words c.slice.ensures.slice.outside c.slice.ensures.slice.world is

pub returns-clause-ready : goal.returns-clause-ready
returns-clause-ready g c rules is =
    subst (λ (program : List Instruction). IsReady rules program (g.M.Guarded.shows c.slice.new.memory).words) (sym c.slice.ensures.program)
    (ready-level1 _ _ _ _ c.slice.ensures.slice.outside (c.slice.ensures.slice.keeps.are_words is.are_words) is)

pub returns-clause-asked : goal.returns-clause-asked
returns-clause-asked g c = asked-stays is_level1_own level1_leaves _ _ c.slice.ensures.slice.outside
