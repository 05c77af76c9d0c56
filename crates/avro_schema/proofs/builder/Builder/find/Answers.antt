use Rattle.std.proofs.Common.{◌∙◌, sym, ap, []}
use Rattle.std.specs.Option.{option_or}
use Rattle.avro_schema.specs.DefinedNames.{node_named, node_of}
use Rattle.avro_schema.proofs.TextLemmas.{split_parts, split_last, unsplit}
use Rattle.avro_schema.proofs.Lookups.{use_dotted, use_plain}
use Rattle.avro_schema.proofs.builder.Builder.find.Goals as goal

pub find_in-requires : goal.find_in-requires
find_in-requires c =
    let s = c.in-Some.ensures.cases in
    (split_parts c.args.name.now _ _ s.0 s.1 s.2 s.3 s.4 s.5 s.6 s.7).1

pub returns-in-Some : goal.returns-in-Some
returns-in-Some c = λ ds met.
    let s = c.in-Some.ensures.cases in
    c.find_in.ensures ds met
    ∙ ap (node_named ds) (sym (split_parts c.args.name.now _ _ s.0 s.1 s.2 s.3 s.4 s.5 s.6 s.7).0)
    ∙ use_dotted c.args.self.now ds c.args.namespace.now.text c.args.name.now met
    (split_last c.args.name.now _ _ s.0 s.1 s.2 s.3 s.4 s.5 s.6 s.7).2

pub returns-in-Some-node_in : goal.returns-in-Some-node_in
returns-in-Some-node_in c = λ ds met.
    ap (λ o. option_or o (node_of c.args.self.now.names [] c.args.name.now)) c.in-Some-node_in.ensures
    ∙ use_plain c.args.self.now ds c.args.namespace.now.text c.args.namespace.now.number c.args.name.now met c.requires
    (unsplit c.args.name.now c.in-None.ensures.cases).1

pub returns-in-None-node_in : goal.returns-in-None-node_in
returns-in-None-node_in c = λ ds met.
    c.node_of.ensures
    ∙ ap (λ o. option_or o (node_of c.args.self.now.names [] c.args.name.now)) c.in-None-node_in.ensures
    ∙ use_plain c.args.self.now ds c.args.namespace.now.text c.args.namespace.now.number c.args.name.now met c.requires
    (unsplit c.args.name.now c.in-None.ensures.cases).1
