-- The texts of trails and clashes.
use Rattle.std.specs.Prelude.{ℕ, List, [], ◌∷◌, ◌++◌, flat_map, codes, decimal}
use Rattle.avro_resolve.specs.declared.trail.Hop.{Hop}
use Rattle.avro_resolve.specs.declared.trail.Hop.TheVariants as hop
use Rattle.avro_resolve.specs.declared.trail.ClashKind.{ClashKind}
use Rattle.avro_resolve.specs.declared.trail.ClashKind.TheVariants as clash

abbrev pub hop_text : Hop → List ℕ
hop_text (hop.Field s) = codes "field:" ++ s
hop_text hop.Items = codes "items"
hop_text hop.Values = codes "values"
hop_text (hop.Writer k) = codes "writer:" ++ decimal k
hop_text (hop.Reader k) = codes "reader:" ++ decimal k

-- a `/` and the hop for each hop, and `/` where there is none
abbrev pub trail_text : List Hop → List ℕ
trail_text [] = codes "/"
trail_text (h ∷ hs) = flat_map (λ k. codes "/" ++ hop_text k) (h ∷ hs)

abbrev pub clash_text : ClashKind → List ℕ
clash_text clash.MissingUnionBranch = codes "MISSING_UNION_BRANCH"
clash_text clash.NameMismatch = codes "NAME_MISMATCH"
clash_text (clash.ReaderFieldMissingDefaultValue s) = codes "READER_FIELD_MISSING_DEFAULT_VALUE " ++ s
clash_text (clash.MissingEnumSymbols s) = codes "MISSING_ENUM_SYMBOLS " ++ s
clash_text clash.FixedSizeMismatch = codes "FIXED_SIZE_MISMATCH"
clash_text clash.TypeMismatch = codes "TYPE_MISMATCH"
