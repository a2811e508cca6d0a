use Rattle.std.proofs.Common.{[], ◌≡◌, ◌∙◌, sym, ap, subst, length, get_or}
use Rattle.eg_level2.specs.Inputs.{Level2Parts, results_by, row_of}
use Rattle.eg_level2.specs.declared.results.RowResults.{RowResults}
use Rattle.eg_level2.proofs.ResultLemmas.{asked-kept}
use Rattle.eg_level2.proofs.level2.Level2.prepared.Goals as goal

pub returns-clause-prepared : goal.returns-clause-prepared
returns-clause-prepared c =
    let none : RowResults = record { seed = 0; results = [] } in
    record {
      lookup = c.requires;
      row = subst (λ (p : Level2Parts). get_or c.deref.result.now c.row_index.result none ≡ results_by p.rules (row_of p.questions c.args.asked)) c.self.view_is
          (ap (λ k. get_or c.deref.result.now k none) c.row_index.ensures.index
          ∙ asked-kept c.self.inside.rules c.self.inside.questions c.deref.result.now c.args.asked c.len.result none (c.deref.ensures.0 ∙ c.self.invariant.1)
          c.self.invariant.0 (c.len.ensures.value ∙ ap length (sym c.deref.ensures.0)));
    }
