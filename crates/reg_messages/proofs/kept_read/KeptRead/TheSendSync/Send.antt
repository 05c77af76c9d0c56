-- What was read of a head, and is kept, may cross threads as its parts may, and owns nothing beside them.
use denote.Exit.{Exit, unchanged, leaves, hidden, under}
use denote.Param.Send.{IsSend, Quiet, AllSend, owning_send, struct_send, sendable}
use denote.Struct.Struct.{exits_of}
use denote.Struct.Owning.{shape, fields, to}
use Rattle.std.specs.contracts.result.Result as result
use Rattle.std.proofs.Crossing
use Rattle.reg_refusals.specs.contracts.refusal.Refusal as refusal
use Rattle.reg_messages.specs.contracts.head_read.HeadRead as head
use Rattle.reg_messages.specs.contracts.kept_read.KeptRead.{the_row, the_type}

read_send : IsSend (result.the_field head.the_row refusal.the_row).row
read_send = search (Crossing.crosses, sendable) depth 60 fits 20000

quiet : {D X : Type 0} (to : D → X) (e : Exit X) → Quiet e → Quiet (hidden (under to e))
quiet to unchanged q = λ x w. tt
quiet to (leaves L l S s r₀) q = λ d. q (to d)

pub send : IsSend the_row
send =
    let O = the_type in let all : AllSend (fields O) = (read_send, tt) in
    owning_send O all (λ d. tt) (λ k. quiet (to O) (exits_of k (fields O)) ((struct_send (shape O) all).leaving k))
