use Rattle.eg_input.proofs.reader.read_records.Goals as goal

pub returns : goal.returns
returns g c = c.read_file.ensures _ c.in_ok-reader.ensures.reader
