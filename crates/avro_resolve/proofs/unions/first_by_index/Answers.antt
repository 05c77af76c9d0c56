use Rattle.std.proofs.Common.{Some, ap, find, option_map, sym, ◌∙◌}
use Rattle.std.specs.Option.{option_copied}
use Rattle.avro_resolve.specs.Labels.{read_heading}
use Rattle.avro_resolve.specs.Match.{matches}
use Rattle.avro_resolve.specs.Unions.{earlier}
use Rattle.avro_resolve.proofs.Indexed.{first_labelled, first_unlabelled}
use Rattle.avro_resolve.proofs.unions.first_by_index.Goals as goal

pub returns-in-Some : goal.returns-in-Some
returns-in-Some c =
    let l = c.last_label.result in
    let f = c.full_label.result in
    c.earlier.ensures
    ∙ ap (λ o. earlier o c.with_label-full.result) c.with_label-last.ensures
    ∙ ap (earlier _) c.with_label-full.ensures
    ∙ first_labelled c.args.r.now.nodes c.args.w.now.nodes c.args.i.index c.args.j c.node.result.now c.args.index.now
    c.requires.index c.node.ensures.at c.node_count-sound.ensures.sound (read_heading c.in-Some.head) l f
    (sym c.head_of.ensures ∙ ap (option_map read_heading) c.in-Some.is)
    c.last_label.ensures.shape c.last_label.ensures.name (ap option_copied c.last_label.ensures.namespace)
    c.full_label.ensures.shape c.full_label.ensures.name c.full_label.ensures.namespace

pub returns-in-None : goal.returns-in-None
returns-in-None c =
    c.first_among.ensures
    ∙ ap (find (λ b. matches c.args.r.now.nodes c.args.w.now.nodes b.1 c.args.j)) c.as_slice.ensures.value
    ∙ first_unlabelled c.args.r.now.nodes c.args.w.now.nodes c.args.i.index c.args.j
    c.node.result.now c.args.index.now c.requires.index c.node.ensures.at
    (sym c.head_of.ensures ∙ ap (option_map read_heading) c.in-None.is)
    (λ cs e. c.requires.plain cs (c.node.ensures.at ∙ ap Some e))
