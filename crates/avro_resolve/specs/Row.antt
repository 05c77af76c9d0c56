-- What the rows of the table stand for.
use Rattle.std.specs.Prelude.{List, [], ◌∷◌, map, Result, Ok, Err}
use Rattle.std.specs.List.{enumerate_from}
use Rattle.avro_schema.specs.Sound.{HaveDistinctNames}
use Rattle.avro_resolve.specs.declared.trail.Hop.{Hop}
use Rattle.avro_resolve.specs.declared.trail.Hop.TheVariants as hop
use Rattle.avro_resolve.specs.declared.trail.ClashKind.{ClashKind}
use Rattle.avro_resolve.specs.declared.trail.ClashKind.TheVariants as clash
use Rattle.avro_resolve.specs.declared.obligations.Obligation.{Obligation}
use Rattle.avro_resolve.specs.declared.table.Cause.{Cause}
use Rattle.avro_resolve.specs.declared.table.Cause.TheVariants as cause
use Rattle.avro_resolve.specs.declared.table.Part.{Part}
use Rattle.avro_resolve.specs.declared.table.Part.TheVariants as part
use Rattle.avro_resolve.specs.declared.table.Row.{Row}
use Rattle.avro_resolve.specs.declared.table.Row.TheVariants.{Clash, WriterBranches, One, Fields, Nothing}
use Rattle.avro_resolve.specs.Table.{obligation, to_fields}

abbrev pub clash_of_cause : Cause → ClashKind
clash_of_cause cause.MissingUnionBranch = clash.MissingUnionBranch
clash_of_cause cause.NameMismatch = clash.NameMismatch
clash_of_cause (cause.LackingField f) = clash.ReaderFieldMissingDefaultValue f.now
clash_of_cause (cause.UnknownSymbol s) = clash.MissingEnumSymbols s.now
clash_of_cause cause.FixedSizeMismatch = clash.FixedSizeMismatch
clash_of_cause cause.TypeMismatch = clash.TypeMismatch

abbrev pub hop_into : Part → Hop
hop_into part.Items = hop.Items
hop_into part.Values = hop.Values
hop_into (part.Branch k) = hop.Reader k

abbrev pub outcome_of : Row → Result (List Obligation) ClashKind
outcome_of (Clash c) = Err (clash_of_cause c)
outcome_of (WriterBranches i bs) = Ok (map (λ b. obligation (hop.Writer b.0) i b.1) (enumerate_from 0 bs.now))
outcome_of (One a p) = Ok (record { hop = hop_into a; pair = p } ∷ [])
outcome_of (Fields fs gs) = to_fields fs.now gs.now
outcome_of Nothing = Ok []

-- no two of the writer's fields have one name
abbrev pub HasDistinct : Row → Type 0
HasDistinct (Fields fs gs) = HaveDistinctNames gs.now
HasDistinct _ = Unit {0}
