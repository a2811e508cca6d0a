use Rattle.std.proofs.Common.{◌∙◌, [], List, ℕ, arith, Bor, sym, subst, take, map}
use Rattle.std.specs.List.{concat}
use Rattle.std.specs.Bool.{IsTrue}
use Rattle.std.proofs.lemmas.Result.{IfOk-from_err}
use Rattle.eg_base.proofs.AppendLemmas.{Appends-append, AppendsPrefix-append, concat-cut, concat-take_more, fault_of_refusal, Rose-earlier}
use Rattle.eg_base.proofs.ResultLemmas.{at_err}
use Rattle.eg_outcome.proofs.note.put_pieces.Goals as goal

-- what was put before the piece at hand
abbrev so_far : List (Bor (List ℕ)) → ℕ → List ℕ
so_far pieces i = concat (map (λ (p : Bor (List ℕ)). p.now) (take i pieces))

abbrev nothing : Bor (List ℕ)
nothing = record { ref_ptr = (0, 0); now = [] }

pub returns-in_err-put : goal.returns-in_err-put
returns-in_err-put g c =
    let shows = g.N.Sink.shows in
    let pieces = c.args.pieces.now in
    let i = c.loop-piece.piece-index in
    let put = c.in_err-put.ensures in
    let done = c.loop-piece.invariant in
    let counted = done.count in
    let count = put.count in
    record {
      whole = IfOk-from_err c.from_residual.result _ c.from_residual.ensures.0;
      front = at_err c.from_residual.result (rw (concat-cut (λ (p : Bor (List ℕ)). p.now) pieces i nothing c.loop-piece-test.true)
          (AppendsPrefix-append (shows c.args.notes.now) (shows c.loop-piece.notes) (shows c.put.new.self) (so_far pieces i) _ _ done.put (rw c.as_bytes.ensures.value at put.prefix)));
      count = omega (arith, counted, count);
      stays_sure = put.stays_sure ∙ done.sure;
      fault = at_err c.from_residual.result (λ sure.
          let still : IsTrue (shows c.loop-piece.notes).sure = subst IsTrue (sym done.sure) sure in
          Rose-earlier _ _ _ done.count (fault_of_refusal _ c.in_err-put.field-0.0 put.cause (put.sure still)));
    }

pub loop-piece-preserved : goal.loop-piece-preserved
loop-piece-preserved g c =
    let shows = g.N.Sink.shows in
    let pieces = c.args.pieces.now in
    let i = c.loop-piece.piece-index in
    record {
      put = rw (concat-take_more (λ (p : Bor (List ℕ)). p.now) pieces i nothing c.loop-piece-test.true)
          (Appends-append (shows c.args.notes.now) (shows c.loop-piece.notes) (shows c.put.new.self) (so_far pieces i) _ c.loop-piece.invariant.put (rw c.as_bytes.ensures.value at c.in_ok-put.ensures.ok));
      count = (let e = c.in_ok-put.ensures.count in let f = c.loop-piece.invariant.count in omega (arith, e, f));
      sure = c.in_ok-put.ensures.stays_sure ∙ c.loop-piece.invariant.sure;
    }
