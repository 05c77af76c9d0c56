-- What a pair of types comes to, by the first row of the table that fits (Avro 1.11, "Schema Resolution").
--
-- | Reader, writer     | Clash                                                     | Obligations in order          |
-- | writer's union     |                                                           | the reader with each branch   |
-- | reader's union     | no branch matches                                         | the first that matches        |
-- | two arrays or maps |                                                           | their items, their values     |
-- | two records        | their names; the first field that lacks a value           | the paired fields             |
-- | two enums          | their names; the first symbol unknown, without a default  |                               |
-- | two fixed types    | their names; their sizes                                  |                               |
-- | two primitives     | where they don't match                                    |                               |
-- | all others         | always                                                    |                               |
--
-- A pair either clashes, `Err`, or has obligations, perhaps none, `Ok`.
use Rattle.std.specs.Prelude.{ℕ, List, [], ◌∷◌, map, Bool, true, false, not, ◌==◌, if◌then◌else◌, Option}
use Rattle.std.specs.Prelude.{Some, is_some, option_map, Result, Ok, Err, find, filter_map, slice_get}
use Rattle.std.specs.List.{enumerate_from}
use Rattle.std.specs.Option.{option_map_or}
use Rattle.std.specs.Result.{result_err, result_unwrap_or}
use Rattle.avro_schema.specs.declared.node.NodeId.{NodeId}
use Rattle.avro_schema.specs.declared.node.Field.{Field}
use Rattle.avro_schema.specs.declared.node.Node.{Node}
use Rattle.avro_schema.specs.declared.node.Node.TheVariants as kind
use Rattle.avro_schema.specs.Names.{has_text}
use Rattle.avro_resolve.specs.declared.trail.Hop.{Hop}
use Rattle.avro_resolve.specs.declared.trail.Hop.TheVariants as hop
use Rattle.avro_resolve.specs.declared.trail.ClashKind.{ClashKind}
use Rattle.avro_resolve.specs.declared.trail.ClashKind.TheVariants as clash
use Rattle.avro_resolve.specs.declared.obligations.Pair.{Pair}
use Rattle.avro_resolve.specs.declared.obligations.Obligation.{Obligation}
use Rattle.avro_resolve.specs.Match.{names_match, primitives_match, matches}
use Rattle.avro_resolve.specs.Pairing.{partner, lacks_value}

-- by this hop, to these two types
abbrev pub obligation : Hop → NodeId → NodeId → Obligation
obligation h i j = record { hop = h; pair = record { reader = i; writer = j } }

-- ---- unions

-- the branch of the reader's union that was found, if one was
abbrev pub to_reader_branch : NodeId → Option (ℕ × NodeId) → Result (List Obligation) ClashKind
to_reader_branch j found = option_map_or (λ b. Ok (obligation (hop.Reader b.0) b.1 j ∷ [])) found (Err clash.MissingUnionBranch)

-- ---- records

abbrev pub to_fields : List Field → List Field → Result (List Obligation) ClashKind
to_fields reader writer =
    option_map_or (λ f. Err (clash.ReaderFieldMissingDefaultValue f.name)) (find (lacks_value writer) reader)
    (Ok (filter_map (λ f. option_map (λ g. obligation (hop.Field f.name) f.node g.node) (partner writer f)) reader))

-- ---- enums

-- by the reader's symbols, whether it has a default, and the writer's symbols
abbrev pub with_symbols : List (List ℕ) → Bool → List (List ℕ) → Result (List Obligation) ClashKind
with_symbols reader true writer = Ok []
with_symbols reader false writer = option_map_or (λ s. Err (clash.MissingEnumSymbols s))
    (find (λ s. not (has_text reader s)) writer) (Ok [])

-- ---- the table

-- two types that are no unions
abbrev pub plain_row : Node → Node → Result (List Obligation) ClashKind
plain_row (kind.Array i) (kind.Array j) = Ok (obligation hop.Items i j ∷ [])
plain_row (kind.Map i) (kind.Map j) = Ok (obligation hop.Values i j ∷ [])
plain_row (kind.Record m al fs) (kind.Record n bl gs) = if names_match m al n then to_fields fs gs else Err clash.NameMismatch
plain_row (kind.Enum m al ss d) (kind.Enum n bl ts e) = if names_match m al n then with_symbols ss (is_some d) ts
    else Err clash.NameMismatch
plain_row (kind.Fixed m al s) (kind.Fixed n bl t) =
    if names_match m al n then (if s == t then Ok [] else Err clash.FixedSizeMismatch) else Err clash.NameMismatch
plain_row (kind.Primitive p) (kind.Primitive q) = if primitives_match p q then Ok [] else Err clash.TypeMismatch
plain_row m n = Err clash.TypeMismatch

module _ (r w : List Node) where
  abbrev pub row : Pair → Option Node → Option Node → Result (List Obligation) ClashKind
  row p (Some m) (Some (kind.Union bs)) = Ok (map (λ b. obligation (hop.Writer b.0) p.reader b.1) (enumerate_from 0 bs))
  row p (Some (kind.Union bs)) (Some n) = to_reader_branch p.writer (find (λ b. matches r w b.1 p.writer) (enumerate_from 0 bs))
  row p (Some m) (Some n) = plain_row m n
  row p _ _ = Err clash.TypeMismatch

  -- what a pair comes to
  abbrev pub outcome : Pair → Result (List Obligation) ClashKind
  outcome p = row p (slice_get r p.reader.index) (slice_get w p.writer.index)

  abbrev pub clash_of : Pair → Option ClashKind
  clash_of p = result_err (outcome p)

  -- the obligations of a pair, none if it clashes; the number of one is its place in this list
  abbrev pub obligations : Pair → List Obligation
  obligations p = result_unwrap_or (outcome p) []
