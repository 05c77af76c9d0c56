use Rattle.std.proofs.Common.{◌≡◌, ◌++◌, drop, option_map}
use Rattle.json_tree.specs.View.{items_view}
use Rattle.avro_schema.specs.Form.{strings}
use Rattle.avro_schema.proofs.members.strings_in.Given as goal

abbrev pub invariant-loop-item : goal.invariant-loop-item
invariant-loop-item l =
    option_map (λ ss. l.texts.items ++ ss) (strings (items_view (drop l.item-index l.item-items))) ≡ strings (items_view l.item-items)
