-- What is held of a topic of which all is kept says the whole topic.
use Rattle.std.proofs.Common.{◌≡◌, ap}
use Rattle.reg_set.specs.Records.{Records}
use Rattle.reg_topic.specs.declared.topic.Topic.{Topic}
use Rattle.reg_shared.specs.Held.{base_of, held_of}

pub base_whole : (t : Topic) → t.kept.records ≡ t.log → base_of (held_of t) ≡ t
base_whole t whole =
    ap (λ (log : Records). let u : Topic = record { log = log; kept = t.kept; next = t.next; compacted = t.compacted } in u) whole
