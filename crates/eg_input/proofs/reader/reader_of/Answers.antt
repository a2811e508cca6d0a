use Rattle.std.proofs.Common.{◌∙◌, ap, inl, inr, Some}
use Rattle.csv.specs.Machine.{ends_at_end}
use Rattle.csv.specs.Reading.{ChangesHeaders, builder_config, builder_is_flexible, builder_names_headers, builder_trim, reader_state, source_of, strip_bom}
use Rattle.eg_input.specs.Records.{records_of}
use Rattle.eg_input.specs.Inner.Unread.{records_after}
use Rattle.eg_input.proofs.reader.reader_of.Goals as goal

pub returns-in-Ok-clause-reader : goal.returns-in-Ok-clause-reader
unfolding records_of
returns-in-Ok-clause-reader c =
    let same : ChangesHeaders c.from_reader-reader.result c.set_byte_headers.new.self = c.in-Ok.ensures.same in
    let made = c.from_reader-reader.ensures in
    let state = ap reader_state same ∙ made.state in
    let text = strip_bom c.args.bytes.now in
    record {
      config = ap (λ r. r.config) same ∙ made.config ∙ ap builder_config c.flexible.ensures ∙ c.new.ensures.config;
      trim = ap (λ r. r.trim) same ∙ made.trim ∙ ap builder_trim c.flexible.ensures ∙ c.new.ensures.trim;
      flexible = ap (λ r. r.flexible) same ∙ made.flexible ∙ ap builder_is_flexible c.flexible.ensures;
      ready = inr (inl (ap (λ r. r.has_headers) same ∙ made.has_headers ∙ ap builder_names_headers c.flexible.ensures ∙ c.new.ensures.has_headers, c.in-Ok.ensures.set));
      between = ap ends_at_end state;
      text = text;
      source = ap (source_of (λ s. Some s.now)) same ∙ made.source;
      are_left = ap (λ s. records_after s text) state;
    }
