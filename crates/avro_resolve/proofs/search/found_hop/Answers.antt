use Rattle.std.proofs.Common.{◌∙◌, Some, ap, sym, option_map, option_copied}
use Rattle.avro_resolve.specs.Table.{to_fields}
use Rattle.avro_resolve.proofs.Rows.{owed_in}
use Rattle.avro_resolve.specs.declared.trail.Hop.TheVariants as hop
use Rattle.avro_resolve.proofs.Hops.{hop_below, hop_of_field}
use Rattle.avro_resolve.proofs.search.found_hop.Goals as goal

pub unreachable-requires : goal.unreachable-requires
unreachable-requires c =
    hop_below (owed_in (to_fields c.args.reader.now c.args.writer.now)) c.args.number c.requires.numbered
    (hop_of_field c.args.writer.now c.args.reader.now c.args.number c.requires.numbered
    ∙ ap (option_map (λ f. hop.Field f.name)) (sym c.paired_among.ensures ∙ ap option_copied c.in-None.is))

pub returns : goal.returns
returns c =
    let found =
    hop_of_field c.args.writer.now c.args.reader.now c.args.number c.requires.numbered
    ∙ ap (option_map (λ f. hop.Field f.name)) (sym c.paired_among.ensures ∙ ap option_copied c.in-Some.is) in
    found ∙ ap (λ s. Some (hop.Field s)) (sym c.in_ok-clone-in-Some.ensures.cases)
