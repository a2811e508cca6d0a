use Rattle.eg_outcome.proofs.note.put_note_line.Goals as goal

pub returns-in-ReadFault : goal.returns-in-ReadFault
returns-in-ReadFault g c = rw c.in-ReadFault.is (c.put_around.ensures)
