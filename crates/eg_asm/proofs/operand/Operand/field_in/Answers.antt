use Rattle.std.proofs.Common.{mod-lt, sym, refl, ◌<◌, ◌*◌, ◌%◌, arith}
use Rattle.std.proofs.lemmas.Bool.Decides.{nat_tests}
use Rattle.eg_asm.specs.Inner.Usable.{is_usable}
use Rattle.eg_asm.specs.Words.{field_of, distance_to}
use Rattle.eg_asm.specs.Listings.{value_in}
use Rattle.eg_asm.proofs.ListingLemmas.{complement-signed}
use Rattle.eg_asm.proofs.operand.Operand.field_in.Goals as goal

pub nonzero_div-result : goal.nonzero_div-result
unfolding is_usable
nonzero_div-result c = let usable = rw c.in-Register.is at c.requires in grind (arith, nat_tests)

pub nonzero_rem-result-in-Target : goal.nonzero_rem-result-in-Target
unfolding is_usable
nonzero_rem-result-in-Target c = let usable = rw c.in-Target.is at c.requires in grind (arith, nat_tests)

pub returns-in-Register-clause-value : goal.returns-in-Register-clause-value
unfolding field_of value_in
returns-in-Register-clause-value c = rw (c.in-Register.is, c.from-word.ensures, c.from.ensures, c.from-in-Register.ensures) refl

pub returns-in-Number-clause-value : goal.returns-in-Number-clause-value
unfolding field_of value_in
returns-in-Number-clause-value c = rw (c.in-Number.is, c.from-word.ensures, c.from-in-Number.ensures) refl

pub returns-in-Target-clause-value : goal.returns-in-Target-clause-value
unfolding field_of value_in distance_to is_usable
returns-in-Target-clause-value c =
    let reach = c.in-Target.reach in
    let usable = rw c.in-Target.is at c.requires in
    let some : 0 < 2 * reach = grind (arith, nat_tests) in
    let small : c.args.word % (2 * reach) < 2 * reach = mod-lt c.args.word some in
    rw (c.in-Target.is, c.from-word.ensures, c.from-in-Target.ensures) (sym (complement-signed reach (c.args.word % (2 * reach)) small))
