use Rattle.std.proofs.Common.{◌∙◌}
use Rattle.eg_level2.specs.Words.{words_of}
use Rattle.eg_replay.proofs.RunLemmas.{begins, ends, finds-all}
use Rattle.eg_replay.proofs.modules.run_modules.Goals as goal

pub returns-clause-words : goal.returns-clause-words
returns-clause-words c reads asked reading asks =
    let w = words_of c.args.memory.now in
    let one = c.run_module.ensures.run reads asked w (begins c.args.level2.now reads asked c.args.tick c.args.memory.now reading asks) in
    let two = c.run_module-2.ensures.run reads asked w one in
    let three = c.run_module-3.ensures.run reads asked w two in
    let four = c.run_module-4.ensures.run reads asked w three in
    let five = c.run_module-5.ensures.run reads asked w four in
    let six = c.run_module-6.ensures.run reads asked w five in
    let seven = c.run_module-found.ensures.run reads asked w six in
    ends _ w c.run_module-7.new.memory (c.run_module-7.ensures.run reads asked w seven)

pub returns-clause-found : goal.returns-clause-found
returns-clause-found c reads asked reading asks =
    let w = words_of c.args.memory.now in
    let one = c.run_module.ensures.run reads asked w (begins c.args.level2.now reads asked c.args.tick c.args.memory.now reading asks) in
    let two = c.run_module-2.ensures.run reads asked w one in
    let three = c.run_module-3.ensures.run reads asked w two in
    let four = c.run_module-4.ensures.run reads asked w three in
    let five = c.run_module-5.ensures.run reads asked w four in
    let six = c.run_module-6.ensures.run reads asked w five in
    c.run_module-found.ensures.found reads asked w six ∙ finds-all c.args.level2.now reads asked c.args.tick w
