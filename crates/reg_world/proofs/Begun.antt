-- A topic that what is due is published in.
use Rattle.std.proofs.Common.{◌≡◌, ℕ, Bool, true, false, List, ap, refl, sym, ◌∙◌}
use Rattle.std.proofs.lemmas.Bool.{false≢true}
use Rattle.std.specs.FinSet.{from_list, union}
use Rattle.reg_alike.specs.reg_records.declared.record.Record.{Record}
use Rattle.reg_alike.specs.reg_set.LastRecords.{last_records}
use Rattle.reg_alike.specs.reg_set.Records.{Records}
use Rattle.reg_alike.specs.reg_leader.Adoption.{adopting}
use Rattle.reg_topic.specs.Topic.{after_batch, follows, plain_topic, registry_of, topic_from}
use Rattle.reg_topic.specs.declared.topic.Topic.{Topic}

-- what doesn't go on changes nothing
pub batch_stays : (b : Bool) (t : Topic) (batch : List Record) → b ≡ false → t ≡ after_batch b t batch
batch_stays false t batch e = refl
batch_stays true t batch e = absurd (false≢true (sym e))

-- the registry over the log that goes on
pub batch_registry : (b : Bool) (t u : Topic) (batch : List Record) (registry : Records) → b ≡ true
    → u ≡ after_batch b t batch → registry ≡ last_records (union t.log (from_list batch)) → registry ≡ registry_of u
batch_registry true t u batch registry e after is = is ∙ ap registry_of (sym after)
batch_registry false t u batch registry e after is = absurd (false≢true e)

-- the topic that a base begins is that of its records alone with what is due
pub begun_is : (base : List Record) (next floor : ℕ) (plain begun : Topic) (due : List Record)
    → plain ≡ plain_topic base next floor → due ≡ adopting (last_records plain.log) plain.next
    → begun ≡ after_batch (follows plain.next due) plain due → begun ≡ topic_from base next floor
unfolding topic_from
begun_is base next floor plain begun due is owes after =
    after
    ∙ ap (λ (ds : List Record). after_batch (follows plain.next ds) plain ds) owes
    ∙ ap (λ (t : Topic). after_batch (follows t.next (adopting (last_records t.log) t.next)) t (adopting (last_records t.log) t.next)) is
