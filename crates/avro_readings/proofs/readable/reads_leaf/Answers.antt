use Rattle.std.proofs.Common.{false, option_copied, slice_get, sym, ap, ◌∙◌}
use Rattle.std.specs.Option.{option_map_or}
use Rattle.avro_readings.specs.Steps.{both_leaves}
use Rattle.avro_readings.proofs.ReadableLaws.{leaf_reads}
use Rattle.avro_readings.proofs.readable.reads_leaf.Goals as goal

pub returns-in-Some : goal.returns-in-Some
returns-in-Some c =
    let r = c.args.r.now.nodes in
    let w = c.args.w.now.nodes in
    c.both_leaves.ensures
    ∙ ap (λ m. both_leaves m (option_copied c.node_at-in-Some.result)) c.node_at.ensures
    ∙ ap (both_leaves (slice_get r c.in-Some.reader.index)) c.node_at-in-Some.ensures
    ∙ sym (
    leaf_reads r w c.args.pair
    ∙ ap (λ o. option_map_or (λ t. both_leaves (slice_get r t.index) (slice_get w c.args.pair.writer.index)) o false)
    (sym c.row_type.ensures ∙ c.in-Some.is))
