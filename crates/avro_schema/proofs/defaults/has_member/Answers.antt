use Rattle.std.proofs.Common.{is_some, sym, ap, ◌∙◌}
use Rattle.serde_json.specs.View.{view}
use Rattle.serde_json.proofs.Views.{view-lookup}
use Rattle.avro_schema.proofs.DefaultLemmas.{is_some-option_map}
use Rattle.avro_schema.proofs.defaults.has_member.Goals as goal

pub returns : goal.returns
returns c = c.contains_key.ensures ∙ sym (is_some-option_map view _) ∙ ap is_some (view-lookup c.args.name.now c.args.members.now.entries)
