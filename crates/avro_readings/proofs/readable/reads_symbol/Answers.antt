use Rattle.std.proofs.Common.{false, is_some, option_copied, slice_get, sym, ap, ◌∙◌}
use Rattle.std.specs.Option.{option_map_or}
use Rattle.avro_data.proofs.Listing.{is_some-copied}
use Rattle.avro_readings.specs.Steps.{symbol_at}
use Rattle.avro_readings.proofs.ReadableLaws.{symbol_reads}
use Rattle.avro_readings.proofs.readable.reads_symbol.Goals as goal

pub returns-in-Some : goal.returns-in-Some
returns-in-Some c =
    let r = c.args.r.now.nodes in
    let w = c.args.w.now.nodes in
    let s = c.args.symbol.now in
    c.is_some.ensures
    ∙ sym (is_some-copied c.symbol_at.result)
    ∙ ap is_some (c.symbol_at.ensures
    ∙ ap (λ m. symbol_at m (option_copied c.node_at-in-Some.result) s) c.node_at.ensures
    ∙ ap (λ n. symbol_at (slice_get r c.in-Some.reader.index) n s) c.node_at-in-Some.ensures)
    ∙ sym (
    symbol_reads r w c.args.pair s
    ∙ ap (λ o. option_map_or (λ t. is_some (symbol_at (slice_get r t.index) (slice_get w c.args.pair.writer.index) s)) o false)
    (sym c.row_type.ensures ∙ c.in-Some.is))
