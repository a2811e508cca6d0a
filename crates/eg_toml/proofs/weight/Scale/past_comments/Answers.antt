use Rattle.std.proofs.Common.{◌≡◌, ◌∙◌, ap, sym, arith}
use Rattle.std.proofs.lemmas.Bool.Decides.{nat_tests}
use Rattle.std.proofs.lemmas.Grind.{common_steps}
use Rattle.eg_toml.specs.declared.places.Place.TheVariants.{Comment}
use Rattle.eg_toml.proofs.WeightLemmas.{slice, slice-within, comment_over, comment_below}
use Rattle.eg_toml.proofs.weight.Scale.past_comments.Goals as goal

pub loop-rest-init : goal.loop-rest-init
loop-rest-init c =
    let end = c.line_length.result in let bytes = c.args.bytes.now in
    record {
      same = comment_over c.args.self.now end bytes (ap (λ v. v.place) (sym c.self.view_is) ∙ c.in-Comment.is) c.line_length.ensures.before;
      short = slice-within end bytes;
    }

pub loop-rest-preserved : goal.loop-rest-preserved
loop-rest-preserved c =
    let w = c.args.self.now in let rest = c.loop-rest.rest.now in let end = c.line_length-in-10.result in
    let here : w.place ≡ Comment = ap (λ v. v.place) (sym c.self.view_is) ∙ c.in-Comment.is in
    let below = comment_below w rest here c.in-10.len_at_least (grind (arith, common_steps, nat_tests)) (grind (arith, common_steps, nat_tests)) in
    record {
      same = comment_over w end _ here c.line_length-in-10.ensures.before ∙ below ∙ c.loop-rest.invariant.same;
      short = omega (arith, slice-within end (slice 2 rest), slice-within 2 rest, c.loop-rest.invariant.short);
    }
