use Rattle.std.proofs.Common.{◌∙◌, length, get_or, ap, refl, subst}
use Rattle.std.proofs.lemmas.Option.{slice_get_read}
use Rattle.avro_schema.specs.Sound.{IsSound}
use Rattle.avro_schema.proofs.schema.Schema.node.Goals as goal

pub returns-clause-at : goal.returns-clause-at
returns-clause-at c =
    let ns = c.args.self.now.nodes in
    slice_get_read ns (length ns) c.args.id.index c.index.result.now refl c.requires
    (c.index.ensures ∙ ap (λ m. get_or m.nodes c.args.id.index c.index.result.now) c.self.view_is)

pub returns-clause-within : goal.returns-clause-within
returns-clause-within c =
    let sound : IsSound c.args.self.now.nodes =
    subst (λ m. IsSound m.nodes) c.self.view_is (c.schemas_are_sound.ensures _ _ c.self.invariant.0) in
    sound.closed c.args.id.index c.index.result.now (returns-clause-at c)

pub returns-clause-sound : goal.returns-clause-sound
returns-clause-sound c = subst (λ m. IsSound m.nodes) c.self.view_is (c.schemas_are_sound.ensures _ _ c.self.invariant.0)
