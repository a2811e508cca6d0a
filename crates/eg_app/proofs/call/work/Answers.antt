use Rattle.std.proofs.Common.{◌≡◌, ◌∙◌, ap, sym, refl, subst, Option, None, Some, List, ℕ, Ok, Err}
use Rattle.eg_base.specs.Outside.{ShownStore}
use Rattle.eg_outcome.specs.Changes.{change, change_of}
use Rattle.eg_outcome.specs.declared.outcome.Outcome.{Outcome}
use Rattle.eg_desk.specs.Words.{said}
use Rattle.eg_desk.specs.Names.{Names}
use Rattle.eg_app.specs.Performed.{takes_lines}
use Rattle.eg_app.proofs.MissingLemmas.{missing_since}
use Rattle.eg_app.proofs.WorkLemmas.{IsWork, performed, work_memory, work_names, work_reads, same_lines, nothing_done}
use Rattle.eg_app.proofs.call.work.Goals as goal

pub returns-in-Ok : goal.returns-in-Ok
returns-in-Ok g c =
    let command = said c.args.command in
    let before = g.S.Store.shows c.args.store.now in
    let store = change_of g.S.Store.shows c.args.store.now c.gather.new.store in
    let lines = change_of g.L.Lines.shows c.args.lines.now c.perform.new.lines in
    let out = change_of g.K.Sink.shows c.args.out.now c.perform.new.out in
    let ticks = change c.args.steps.now c.perform.new.steps in
    let one = c.in-Ok.job in
    let o = c.perform.result in
    let gathered = c.in-Ok.ensures in
    let told = c.perform.ensures.performs in
    let is_work = performed lines out ticks one o told in
    let done = nothing_done store lines out ticks one o (c.perform.new.out ≡ c.args.out.now) told c.perform.ensures.nothing_put command gathered.gathers in
    rw (c.of.ensures.outcome, c.of.ensures.file) (record {
      ends = (Ok one, gathered.gathers, (ap (λ (s : ShownStore). s.faults) (gathered.keeps.shown refl), told));
      names = work_names command before (takes_lines one) o is_work;
      missing = missing_since before (λ e. ⊥) (λ e. o ≡ e) (λ e never. absurd never)
          (λ r file is. work_reads (takes_lines one) r file (subst (IsWork (takes_lines one)) is is_work)) (Some command) gathered.missing;
      no_memory = work_memory (takes_lines one) o is_work;
      nothing_read = gathered.unread;
      files = gathered.keeps.files;
      no_line = λ none. c.perform.ensures.no_line (same_lines store command one gathered.gathers ∙ none);
      nothing_put = λ nothing. (done nothing).0;
      nothing_played = λ nothing. (done nothing).1;
    })

pub returns-in-Err : goal.returns-in-Err
returns-in-Err g c =
    let gathered = c.in-Err.ensures in
    record {
      ends = (Err c.in-Err.end.outcome, gathered.gathers, (refl, (refl, refl, refl)));
      names = gathered.names;
      missing = gathered.missing;
      no_memory = gathered.no_memory;
      nothing_read = gathered.unread;
      files = gathered.keeps.files;
      no_line = λ none. refl;
      nothing_put = λ nothing. refl;
      nothing_played = λ nothing. refl;
    }
