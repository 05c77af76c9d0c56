-- What a conversation comes to.
use Rattle.std.specs.Prelude.{ℕ, List, [], ◌∷◌, ◌++◌, Bool, true, false, ◌&&◌, length, Option, Some, None, option_and_then, option_map, if◌then◌else◌}
use Rattle.reg_records.specs.Device.{counted_by}
use Rattle.reg_records.specs.declared.record.Record.{Record}
use Rattle.reg_adapter.specs.declared.told.AdapterAnswer.{AdapterAnswer as Said}
use Rattle.reg_adapter.specs.declared.told.AdapterMessage.{AdapterMessage}
use Rattle.reg_adapter.specs.declared.told.AdapterMessage.TheVariants.{Batch, Answer, Ready}
use Rattle.reg_adapter_chain.specs.Batches.{batch_at, begins_at}
use Rattle.reg_adapter_chain.specs.Requests.{crossing, is_kept}
use Rattle.reg_adapter_chain.specs.declared.request.AppendRequest.{AppendRequest}

-- a process asks for records, or for a check without them; or it is told a message
pub data Event : Type 0 where
  Asks : List Record → Event
  Tells : AdapterMessage → Event

-- the batches of the chain in their order, the offset behind them, and the request that has no answer yet
pub record Course : Type 0 where
  pub batches : List (List Record)
  pub next : ℕ
  pub request : Option AppendRequest

-- one batch more
abbrev pub with_batch : Course → List Record → Course
with_batch c batch = record c { batches = c.batches ++ batch ∷ []; next = counted_by (length batch) c.next }

-- one request at a time, which begins at the next offset
abbrev pub asked : Course → List Record → Option AppendRequest → Option Course
asked c batch None = if begins_at c.next batch then Some (record c { request = Some (record { batch = batch; crossed = false }) }) else None
asked c batch (Some r) = None

-- nothing is open any more, and a batch that is kept stands in the chain
abbrev pub with_answer : Course → List Record → Bool → Course
with_answer c batch true = record (with_batch c batch) { request = None }
with_answer c batch false = record c { request = None }

-- an answer is to the request that is open, and records that a batch crossed aren't kept
abbrev pub answered : Course → Said → Option AppendRequest → Option Course
answered c said None = None
answered c said (Some r) =
    if is_kept said r.batch && r.crossed then None else Some (with_answer c r.batch (is_kept said r.batch))

-- what it comes to by one event more; none, where the two don't keep to what they promise
abbrev pub course_by : Course → Event → Option Course
course_by c (Asks batch) = asked c batch c.request
course_by c (Tells (Batch reads)) = Some (record (with_batch c (batch_at c.next reads)) { request = crossing c.request })
course_by c (Tells (Answer said)) = answered c said c.request
course_by c (Tells Ready) = Some c

abbrev pub course_from : Course → List Event → Option Course
course_from c [] = Some c
course_from c (event ∷ more) = option_and_then (λ next. course_from next more) (course_by c event)

-- a whole conversation behind a base whose next offset is this
abbrev pub course_of : ℕ → List Event → Option Course
course_of first events = course_from (record { batches = []; next = first; request = None }) events

-- the chain that it comes to: what others wrote, and what was asked for and kept, each once and in order
abbrev pub chain_of : ℕ → List Event → Option (List (List Record))
chain_of first events = option_map (λ (c : Course). c.batches) (course_of first events)
