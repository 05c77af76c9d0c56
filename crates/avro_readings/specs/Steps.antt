-- Private: the steps in which a value is read.
use Rattle.std.specs.Prelude.{ℕ, List, [], ◌∷◌, Bool, true, false, if◌then◌else◌, Option, Some, None, option_and_then, slice_get}
use Rattle.avro_resolve.specs.avro_schema.declared.node.NodeId.{NodeId}
use Rattle.avro_resolve.specs.avro_schema.declared.node.Field.{Field}
use Rattle.avro_resolve.specs.avro_schema.declared.node.Node.{Node}
use Rattle.avro_resolve.specs.avro_schema.declared.node.Node.TheVariants as kind
use Rattle.avro_resolve.specs.avro_schema.Names.{has_text}
use Rattle.avro_resolve.specs.declared.obligations.Pair.{Pair}
use Rattle.avro_resolve.specs.Pairing.{partner}
use Rattle.avro_data.specs.Value.{Value, leaf, symbol, list_of, map_of, branch, fields_of, by_default, Values, value, Members, member}
use Rattle.avro_readings.specs.Reads.{pair, Parts, of_leaf, of_symbol, of_items, of_values, of_fields}
use Rattle.avro_readings.specs.Reads.{field_read, fields_read, row_read, through, items_read}
use Rattle.avro_readings.specs.Reads.{values_read, named_read}

-- whether both have leaves
abbrev pub both_leaves : Option Node → Option Node → Bool
both_leaves (Some (kind.Primitive p)) (Some (kind.Primitive q)) = true
both_leaves (Some (kind.Fixed m al s)) (Some (kind.Fixed n bl t)) = true
both_leaves _ _ = false

abbrev pub are_enums : Node → Node → Bool
are_enums (kind.Enum m al ss d) (kind.Enum n bl ts e) = true
are_enums _ _ = false

abbrev pub symbol_at : Option Node → Option Node → List ℕ → Option (List ℕ)
symbol_at (Some (kind.Enum m al ss d)) (Some (kind.Enum n bl ts e)) s = if has_text ss s then Some s else d
symbol_at _ _ s = None

abbrev pub items_at : Option Node → Option Node → Option Pair
items_at (Some (kind.Array i)) (Some (kind.Array j)) = Some (pair i j)
items_at _ _ = None

abbrev pub values_at : Option Node → Option Node → Option Pair
values_at (Some (kind.Map i)) (Some (kind.Map j)) = Some (pair i j)
values_at _ _ = None

-- the reader's fields and the writer's
abbrev pub fields_at : Option Node → Option Node → Option (List Field × List Field)
fields_at (Some (kind.Record m al fs)) (Some (kind.Record n bl gs)) = Some (fs, gs)
fields_at _ _ = None

module _ (r w : List Node) where
  abbrev pub parts_of : Value → Option Parts
  parts_of leaf = Some of_leaf
  parts_of (symbol s) = Some (of_symbol s)
  parts_of (list_of vs) = Some (of_items (λ q. items_read r w q vs))
  parts_of (map_of ms) = Some (of_values (λ q. values_read r w q ms))
  parts_of (branch k v) = None
  parts_of (fields_of ms) = Some (of_fields (λ name q. named_read r w name q ms))
  parts_of by_default = None

  -- the reading at a pair of types that are no unions
  abbrev pub row_reading : Value → Pair → Option Value
  row_reading v q = option_and_then (row_read (slice_get r q.reader.index) (slice_get w q.writer.index)) (parts_of v)

  -- by the reader's union of these branches
  abbrev pub through_union : List NodeId → Pair → Value → Option Value
  through_union bs p v = through r w (Some (kind.Union bs)) p (row_reading v)

  -- through the reader's type, where it is a union
  abbrev pub through_reader : Pair → Value → Option Value
  through_reader p v = through r w (slice_get r p.reader.index) p (row_reading v)

  -- the reader's fields, of the writer's fields that these are
  abbrev pub one_field_read : Members → List Field → Field → Option Value
  one_field_read ms gs f = field_read (λ name q. named_read r w name q ms) f (partner gs f)

  abbrev pub all_fields_read : Members → List Field → List Field → Option Members
  all_fields_read ms gs fs = fields_read (λ name q. named_read r w name q ms) gs fs

-- values in front of others
abbrev pub values_before : List Value → Values → Values
values_before [] vs = vs
values_before (x ∷ xs) vs = value x (values_before xs vs)

abbrev pub members_before : List (List ℕ × Value) → Members → Members
members_before [] ms = ms
members_before (x ∷ xs) ms = member x.0 x.1 (members_before xs ms)
