use Rattle.std.proofs.Common.{rules, refl}
use Rattle.std.proofs.lemmas.List.{nil_from_length}
use Rattle.eg_lines.proofs.ReaderLemmas.{reads-last, reads-end}
use Rattle.eg_lines.proofs.read_lines.give_last.Goals as goal

pub returns-then-is_empty-clause-taken : goal.returns-then-is_empty-clause-taken
returns-then-is_empty-clause-taken c = reads-end c.args.most c.args.begun.now.items c.args.begun.now.items c.args.into.now.items (nil_from_length _ (search rules)) refl

pub returns-clause-taken : goal.returns-clause-taken
returns-clause-taken c =
    reads-last c.args.most c.args.begun.now.items c.give.new.begun.items c.args.into.now.items c.give.new.into.items (search rules) c.requires.one_line
    c.in_ok-give.ensures.given c.in_ok-give.ensures.none_begun
