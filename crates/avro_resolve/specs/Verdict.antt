-- What the verdict on two schemas is.
use Rattle.std.specs.Prelude.{◌≡◌, List}
use Rattle.avro_schema.specs.declared.node.Node.{Node}
use Rattle.avro_resolve.specs.declared.resolving.Verdict.{Verdict}
use Rattle.avro_resolve.specs.declared.resolving.Verdict.TheVariants.{Compatible, Clash}
use Rattle.avro_resolve.specs.Trails.{AreCompatible, IsShown}

abbrev pub IsVerdict : List Node → List Node → Verdict → Type 0
IsVerdict r w Compatible = AreCompatible r w
IsVerdict r w (Clash t) = IsShown r w t

-- No two schemas have two verdicts.
abbrev pub HaveOneVerdict : List Node → List Node → Type 0
HaveOneVerdict r w = (u v : Verdict) → IsVerdict r w u → IsVerdict r w v → u ≡ v
