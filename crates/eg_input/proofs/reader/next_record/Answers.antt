use Rattle.csv.specs.Records.{fields_of}
use Rattle.eg_input.proofs.UnreadLemmas.{unread-answer}
use Rattle.eg_input.proofs.reader.next_record.Goals as goal

pub returns-clause-reads : goal.returns-clause-reads
returns-clause-reads c =
    unread-answer c.args.reader.now c.read_byte_record.new.self (fields_of c.read_byte_record.new.row) c.read_byte_record.result c.map_err.result _
    c.map_err.ensures.cases c.read_byte_record.ensures.reads c.read_byte_record.ensures.ready c.read_byte_record.ensures.flexible
