use Rattle.eg_level2.specs.Words.{is_level2_own}
use Rattle.eg_turns.proofs.FrameLemmas.{level2_leaves, asked-stays, prepared-asked}
use Rattle.eg_replay.proofs.RunLemmas.{module-runs, module-finds}
use Rattle.eg_replay.proofs.modules.run_module.Goals as goal

pub returns-clause-run : goal.returns-clause-run
returns-clause-run c reads asked before run =
    module-runs c.args.level2.now reads asked c.args.tick c.args.number before c.args.memory.now c.module_with_lookup.new.memory run
    c.requires.are_words (c.in-Ok.ensures.are_words c.requires.are_words) (c.in-Ok.ensures.words c.requires.mirrored) c.in-Ok.ensures.outside

pub returns-clause-found : goal.returns-clause-found
returns-clause-found c reads asked before run =
    module-finds c.args.level2.now reads asked c.args.tick c.args.number before c.args.memory.now c.module_with_lookup.new.memory run
    c.in-Ok.step.found (c.in-Ok.ensures.found c.requires.mirrored)

pub returns-clause-prepared : goal.returns-clause-prepared
returns-clause-prepared c = prepared-asked _ c.args.prepared.now _ _ (asked-stays is_level2_own level2_leaves _ _ c.in-Ok.ensures.outside) c.requires.prepared
