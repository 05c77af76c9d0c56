-- A schema that is kept may cross threads as the schema may, and owns nothing beside it.
use denote.Exit.{Exit, unchanged, leaves, hidden, under}
use denote.Param.Send.{IsSend, Quiet, AllSend, owning_send, struct_send, sendable}
use denote.Struct.Struct.{exits_of}
use denote.Struct.Owning.{shape, fields, to}
use Rattle.avro_resolve.specs.avro_schema.contracts.schema.Schema as schema
use Rattle.serde_json.proofs.value.Value.TheLaws.TheKnot
use Rattle.std.proofs.Crossing
use Rattle.std.proofs.MapsCrossing
use Rattle.reg_judge.specs.contracts.kept_schema.KeptSchema.{the_row, the_type}

schema_send : IsSend schema.the_row
schema_send = search (MapsCrossing.crosses, Crossing.crosses, TheKnot.crosses, sendable) depth 60 fits 20000

quiet : {D X : Type 0} (to : D → X) (e : Exit X) → Quiet e → Quiet (hidden (under to e))
quiet to unchanged q = λ x w. tt
quiet to (leaves L l S s r₀) q = λ d. q (to d)

pub send : IsSend the_row
send =
    let O = the_type in let all : AllSend (fields O) = (schema_send, tt) in
    owning_send O all (λ d. tt) (λ k. quiet (to O) (exits_of k (fields O)) ((struct_send (shape O) all).leaving k))
