use Rattle.std.proofs.Common.{◌∙◌, ap, Some, length, refl, cond, bytes_eq, string_bytes}
use Rattle.std.specs.BTreeMap.{get_by_text}
use Rattle.std.proofs.lemmas.Map.Text.{btree_map_updates_text}
use Rattle.std.proofs.lemmas.Option.{slice_get_read}
use Rattle.avro_schema.proofs.NameLemmas.{put_at}
use Rattle.avro_schema.proofs.defined_names.DefinedNames.define.Goals as goal

pub returns-in_ok-insert-clause-put : goal.returns-in_ok-insert-clause-put
returns-in_ok-insert-clause-put c =
    λ lt. put_at c.args.self.now.nodes.items c.args.number c.in-Some.names.now c.insert.new.self c.args.last.now c.args.node
    (slice_get_read c.args.self.now.nodes.items
    (length c.args.self.now.nodes.items) c.args.number c.in-Some.names.now refl lt c.in-Some.ensures.item.1)
    (λ s.
    btree_map_updates_text (string_bytes c.in_ok-key.key) c.in-Some.names.now c.insert.new.self
    (Some c.args.node) c.in_ok-insert.ensures.updates s
    ∙ ap (λ t. cond (bytes_eq t s) (Some c.args.node) (get_by_text c.in-Some.names.now s)) c.in_ok-key.ensures.ok)
