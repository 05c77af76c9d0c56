use Rattle.std.proofs.Common.{◌≤◌, ◌*◌, ◌+◌, List, drop}
use Rattle.serde_json.specs.Data.{depth, items_depth}
use Rattle.json_tree.specs.View.{view, items_view}
use Rattle.avro_schema.specs.declared.kinds.BranchKind.{BranchKind}
use Rattle.avro_schema.specs.Form.{forms, fields_of_items}
use Rattle.avro_schema.specs.Places.{Definition}
use Rattle.avro_schema.specs.Branches.{HoldsKinds}
use Rattle.avro_schema.specs.Building.{HasMet, Keeps, opened}
use Rattle.avro_schema.proofs.Along.{FieldsAlong, TestsAlong}
use Rattle.avro_schema.proofs.Answering.{BranchesFit}
use Rattle.avro_schema.proofs.builder.Builder.+types.Given as goal

abbrev pub invariant-read_branches-loop-item : goal.invariant-read_branches-loop-item
invariant-read_branches-loop-item l =
    (ms : List BranchKind) × HoldsKinds l.kinds ms × (opened l.fn.self ≤ opened l.self) × Keeps l.fn.self l.self
    × ((ds : List Definition) → HasMet l.fn.self ds
    → BranchesFit l.fn.self l.namespace.text (forms (items_view l.item-items)) l.self
    (forms (items_view (drop l.item-index l.item-items))) l.branches.items ms ds)

abbrev pub invariant-read_fields-loop-item : goal.invariant-read_fields-loop-item
invariant-read_fields-loop-item l =
    (opened l.fn.self ≤ opened l.self) × Keeps l.fn.self l.self
    × ((ds : List Definition) → HasMet l.fn.self ds
    → FieldsAlong l.fn.self l.namespace.text (fields_of_items (items_view l.item-items)) l.self
    (fields_of_items (items_view (drop l.item-index l.item-items))) l.fields.items ds
    × TestsAlong (fields_of_items (items_view l.item-items)) (fields_of_items (items_view (drop l.item-index l.item-items))))

abbrev pub decreases-read_type : goal.decreases-read_type
decreases-read_type l = 8 * depth (view l.value.now) + 5

abbrev pub decreases-read_object : goal.decreases-read_object
decreases-read_object l = 8 * depth (view l.value.now) + 4

abbrev pub decreases-read_record : goal.decreases-read_record
decreases-read_record l = 8 * depth (view l.value.now) + 3

abbrev pub decreases-read_array : goal.decreases-read_array
decreases-read_array l = 8 * depth (view l.value.now) + 3

abbrev pub decreases-read_map : goal.decreases-read_map
decreases-read_map l = 8 * depth (view l.value.now) + 3

abbrev pub decreases-read_field : goal.decreases-read_field
decreases-read_field l = 8 * depth (view l.value.now) + 3

abbrev pub decreases-read_member : goal.decreases-read_member
decreases-read_member l = 8 * depth (view l.value.now) + 2

abbrev pub decreases-read_union : goal.decreases-read_union
decreases-read_union l = 8 * items_depth (items_view l.items.now.items) + 7

abbrev pub decreases-read_branches : goal.decreases-read_branches
decreases-read_branches l = 8 * items_depth (items_view l.items.now.items) + 6

abbrev pub decreases-read_fields : goal.decreases-read_fields
decreases-read_fields l = 8 * items_depth (items_view l.items.now.items) + 6
