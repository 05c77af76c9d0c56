use Rattle.std.proofs.Common.{ap, ◌∙◌}
use Rattle.serde_json.specs.Data.{put}
use Rattle.json_tree.specs.View.{view, members_view}
use Rattle.json_tree.proofs.Views.{members_view-insert_entry}
use Rattle.json_tree.proofs.members.to_map.Goals as goal

pub returns : goal.returns
returns c =
    ap members_view c.in_ok-insert.ensures.entries
    ∙ members_view-insert_entry c.in_ok-map.map.entries c.args.name c.args.value
    ∙ ap (put c.args.name.now (view c.args.value)) c.in_ok-map.ensures
