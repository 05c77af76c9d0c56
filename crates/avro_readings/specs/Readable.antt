-- Private: whether many types of the reader's read one value, without making its readings.
use Rattle.std.specs.Prelude.{ℕ, zero, suc, ◌+◌, List, [], ◌∷◌, Bool, true, false, ◌&&◌, if◌then◌else◌, Option, Some}
use Rattle.std.specs.Prelude.{None, is_some, option_map, option_and_then, find, position, slice_get, bytes_eq}
use Rattle.std.specs.List.{enumerate_from, list_all}
use Rattle.std.specs.Option.{option_map_or}
use Rattle.avro_resolve.specs.avro_schema.declared.node.NodeId.{NodeId}
use Rattle.avro_resolve.specs.avro_schema.declared.node.Field.{Field}
use Rattle.avro_resolve.specs.avro_schema.declared.node.Node.{Node}
use Rattle.avro_resolve.specs.avro_schema.declared.node.Node.TheVariants as kind
use Rattle.avro_resolve.specs.declared.obligations.Pair.{Pair}
use Rattle.avro_resolve.specs.Match.{matches}
use Rattle.avro_resolve.specs.Pairing.{partner}
use Rattle.avro_resolve.specs.Table.{clash_of}
use Rattle.avro_data.specs.Value.{Value, Members, no_members, member}
use Rattle.avro_readings.specs.Reads.{pair, bars, reads}
use Rattle.avro_readings.specs.Steps.{fields_at}

abbrev pub pair_of : ℕ → NodeId → Pair
pair_of i j = pair (record { index = i }) j

-- what two arrays are of, or two maps are to, on the reader's side
abbrev pub inner_at : Option Node → Option Node → Option NodeId
inner_at (Some (kind.Array i)) (Some (kind.Array j)) = Some i
inner_at (Some (kind.Map i)) (Some (kind.Map j)) = Some i
inner_at _ _ = None

-- the place of the writer's field that a reader's field reads
abbrev pub place_read : List Field → Field → Option ℕ
place_read gs f = option_and_then (λ g. position (λ h. bytes_eq h.name g.name) gs) (partner gs f)

-- whether each type passes the test of the place whose field it reads
abbrev pub field_passes : (ℕ → ℕ → Bool) → List Field → Field → Bool
field_passes test gs f = option_map_or (λ k. test k f.node.index) (place_read gs f) true

-- whether the types that are listed for each place pass its test
abbrev pub lists_pass : (ℕ → ℕ → Bool) → ℕ → List (List ℕ) → Bool
lists_pass test k [] = true
lists_pass test k (is ∷ rest) = list_all (test k) is && lists_pass test (k + 1) rest

-- the value of the member at a place
abbrev pub value_at : Members → ℕ → Option Value
value_at no_members k = None
value_at (member n v ms) zero = Some v
value_at (member n v ms) (suc k) = value_at ms k

module _ (r w : List Node) where
  -- whether each of the reader's types reads a value
  abbrev pub all_read : List ℕ → NodeId → Value → Bool
  all_read is j v = list_all (λ i. is_some (reads r w (pair_of i j) v)) is

  -- the reader's type, behind its union
  abbrev pub behind : Option Node → Pair → Option NodeId
  behind (Some (kind.Union bs)) p = option_and_then
      (λ b. if bars (clash_of r w (pair b.1 p.writer)) then None else Some b.1)
      (find (λ b. matches r w b.1 p.writer) (enumerate_from 0 bs))
  behind _ p = Some p.reader

  -- the same, at a pair at which values can be read
  abbrev pub row_type : Pair → Option NodeId
  row_type p = if bars (clash_of r w p) then None else behind (slice_get r p.reader.index) p

  -- the type that reads what is inside a list or a map
  abbrev pub inner_type : Pair → Option NodeId
  inner_type p = option_and_then (λ t. inner_at (slice_get r t.index) (slice_get w p.writer.index)) (row_type p)

  abbrev pub inner_types : NodeId → List ℕ → Option (List ℕ)
  inner_types j [] = Some []
  inner_types j (i ∷ is) = option_and_then (λ t. option_map (λ ts. t.index ∷ ts) (inner_types j is)) (inner_type (pair_of i j))

  -- the reader's fields at a pair, where it reads a record as a record
  abbrev pub fields_type : Pair → Option (List Field)
  fields_type p = option_and_then
      (λ t. option_map (λ found. found.0) (fields_at (slice_get r t.index) (slice_get w p.writer.index))) (row_type p)

  -- whether all fields of one of the reader's types pass the tests of the places that they read
  abbrev pub type_passes : (ℕ → ℕ → Bool) → List Field → Pair → Bool
  type_passes test gs p = option_map_or (λ fs. list_all (field_passes test gs) fs) (fields_type p) false

  -- whether a type of the reader's reads the field that was written at a place
  abbrev pub place_reads : List Field → Members → ℕ → ℕ → Bool
  place_reads gs ms k i = is_some
      (option_and_then (λ g. option_and_then (λ v. reads r w (pair_of i g.node) v) (value_at ms k)) (slice_get gs k))
