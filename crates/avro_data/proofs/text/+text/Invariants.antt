-- What is still to be written makes the text whole.
use Rattle.std.proofs.Common.{◌≡◌, ◌++◌, true, drop}
use Rattle.avro_data.specs.Text.{values_text, members_text}
use Rattle.avro_data.specs.View.{values_view, members_view}
use Rattle.avro_data.proofs.text.+text.Given as goal

abbrev pub invariant-push_items-loop-item : goal.invariant-push_items-loop-item
invariant-push_items-loop-item l =
    l.out ++ values_text l.is_first (values_view (drop l.item-index l.item-items))
    ≡ l.initial.out ++ values_text true (values_view l.item-items)

abbrev pub invariant-push_values-loop-key : goal.invariant-push_values-loop-key
invariant-push_values-loop-key l =
    l.out ++ members_text l.is_first (members_view l.key-iterator)
    ≡ l.initial.out ++ members_text true (members_view l.members.entries)

abbrev pub invariant-push_fields-loop-member : goal.invariant-push_fields-loop-member
invariant-push_fields-loop-member l =
    l.out ++ members_text l.is_first (members_view (drop l.member-index l.member-items))
    ≡ l.initial.out ++ members_text true (members_view l.member-items)
