use Rattle.std.proofs.Common.{Some, ap, sym}
use Rattle.eg_outcome.proofs.ShownLemmas.{noted, noted_whole, puts}
use Rattle.eg_outcome.proofs.note.put_note.Goals as goal

pub returns-in_default-put_note_line : goal.returns-in_default-put_note_line
returns-in_default-put_note_line g c =
    let put = c.put_note_line-in_default-put_note_line in
    record {
      note = rw (sym c.as_bytes-file.ensures.value) (noted _ _ _ put.result put.ensures);
      done = λ done. absurd (c.in_default.not-Done done);
    }

pub returns-clause-note : goal.returns-clause-note
returns-clause-note g c =
    let shows = g.N.Sink.shows in
    let put = c.put.ensures in
    rw (sym c.as_bytes-file.ensures.value)
    (noted_whole (shows c.args.notes.now) (shows c.put.new.self) _ _ c.bytes.result.now _ tt c.put.result
    (ap (λ s. s.written) c.new-line.ensures.shown) (ap (λ bs. Some bs) (sym c.bytes.ensures)) c.in-Ok.ensures
    (puts _ _ _ c.put.result put.ok put.prefix put.count put.stays_sure put.cause put.sure))
