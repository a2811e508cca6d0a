use Rattle.std.proofs.Common.{rules, ◌≡◌, ◌∙◌, sym, subst, true}
use Rattle.std.specs.Prelude.{is_some, IfSome}
use Rattle.std.specs.Option.{option_copied}
use Rattle.eg_level2.specs.Words.{AreMirrored, is_level2_own}
use Rattle.eg_fault.specs.Classes.{IsFlip}
use Rattle.eg_fault.specs.Faults.{effects}
use Rattle.eg_fault.proofs.ClassLemmas.{flips_are_in_words}
use Rattle.eg_turns.proofs.FrameLemmas.{level2_leaves, asked-stays, ready-level2, prepared-asked, prepared-level2}
use Rattle.eg_turns.proofs.FlipLemmas.{flipped_module, flipped_step}
use Rattle.eg_turns.proofs.levels.first_module.Goals as goal

pub flip-requires-2-clause-word : goal.flip-requires-2-clause-word
flip-requires-2-clause-word g c = (subst (λ flip. IfSome flip IsFlip) (sym c.flip.ensures ∙ c.in-Some.is) (flips_are_in_words _ c.requires.fault _)).0

pub flip-requires-2-clause-some : goal.flip-requires-2-clause-some
flip-requires-2-clause-some g c = (subst (λ flip. IfSome flip IsFlip) (sym c.flip.ensures ∙ c.in-Some.is) (flips_are_in_words _ c.requires.fault _)).1

pub module_with_lookup-requires-clause-prepared : goal.module_with_lookup-requires-clause-prepared
module_with_lookup-requires-clause-prepared g c =
    prepared-asked _ c.args.task.now.prepared _ _ (asked-stays is_level2_own level2_leaves _ _ c.in_ok-flip.ensures.outside) c.requires.prepared

pub returns-clause-midway : goal.returns-clause-midway
returns-clause-midway g c w i m meets is =
    let flips : is_some (effects (option_copied c.args.fault) c.args.task.now.tick).flip ≡ true = search rules in
    let gone : ¬ AreMirrored (g.M.Guarded.shows c.flip-2.new.memory).words = search rules in
    flipped_module _ _ c.args.task.now w i m _ meets is flips c.module_with_lookup.result _ _
    (c.module_with_lookup.ensures.are_words (c.flip-2.ensures.keeps.are_words is.set.are_words))
    c.in_ok-flip.ensures.outside c.module_with_lookup.ensures.outside c.module_with_lookup.ensures.mirrored (c.module_with_lookup.ensures.given_up gone)

pub returns-clause-step : goal.returns-clause-step
returns-clause-step g c w i m meets is =
    let flips : is_some (effects (option_copied c.args.fault) c.args.task.now.tick).flip ≡ true = search rules in
    let gone : ¬ AreMirrored (g.M.Guarded.shows c.flip-2.new.memory).words = search rules in
    flipped_step _ _ c.args.task.now w i m _ meets is flips c.module_with_lookup.result _ _
    c.module_with_lookup.ensures.answer c.module_with_lookup.ensures.order (c.module_with_lookup.ensures.mirror_alone gone)

pub returns-clause-ready : goal.returns-clause-ready
returns-clause-ready g c program is =
    let gone : ¬ AreMirrored (g.M.Guarded.shows c.flip-2.new.memory).words = search rules in
    ready-level2 c.module_with_lookup.result _ program _ _
    (λ address outside. c.module_with_lookup.ensures.outside address outside ∙ c.in_ok-flip.ensures.outside address outside)
    (c.module_with_lookup.ensures.are_words (c.flip-2.ensures.keeps.are_words is.are_words))
    c.module_with_lookup.ensures.mirrored (c.module_with_lookup.ensures.within (λ are. absurd (gone are))) is

pub returns-clause-prepared : goal.returns-clause-prepared
returns-clause-prepared g c =
    prepared-level2 c.module_with_lookup.result _ c.args.task.now.prepared _ _
    (λ address outside. c.module_with_lookup.ensures.outside address outside ∙ c.in_ok-flip.ensures.outside address outside) c.requires.prepared
