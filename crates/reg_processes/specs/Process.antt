-- What a process has taken of a chain, which is a list of batches that others write too. A process that began the chain has the chain's
-- first batch for its base's records.
use Rattle.std.specs.Prelude.{List, [], ◌∷◌, ◌++◌}
use Rattle.std.specs.FinSet.{from_list}
use Rattle.std.specs.List.{flat_map}
use mathlib.Core.List.{IsPrefix}
use Rattle.reg_alike.specs.reg_records.declared.record.Record.{Record}
use Rattle.reg_alike.specs.reg_set.Records.{Records}
use Rattle.reg_alike.specs.reg_floored.Compaction.{IsCompactionOf}
use Rattle.reg_alike.specs.reg_floored.Floored.{Floored}
use Rattle.reg_topic.specs.Topic.{IsAdopted, IsLawful, after_items, registry_of}
use Rattle.reg_topic.specs.declared.published.Item.{Item}
use Rattle.reg_topic.specs.declared.published.Item.TheVariants as published
use Rattle.reg_topic.specs.declared.topic.Topic.{Topic}

-- the batches among the items, in their order
abbrev pub batches_in : List Item → List (List Record)
batches_in [] = []
batches_in (published.Commit commit ∷ is) = commit.batch ∷ batches_in is
batches_in (published.Compaction c ∷ is) = batches_in is

-- all records of the batches, as a set of which nothing was forgotten
abbrev pub whole_of : List (List Record) → Floored
whole_of batches = record { records = from_list (flat_map (λ batch. batch) batches); floor = 0 }

-- a process: the chain's first batches, for which its base stands, the base, and what it published since
pub record Process : Type 0 where
  pub early : List (List Record)
  pub base : Topic
  pub items : List Item

-- what it took of the chain: what its base stands for, and the batches that it published
abbrev pub taken_by : Process → List (List Record)
taken_by p = p.early ++ batches_in p.items

-- what is published, and its registry
abbrev pub topic_of : Process → Topic
topic_of p = after_items p.base p.items

abbrev pub registry : Process → Records
registry p = registry_of (topic_of p)

-- the process takes part in the chain: its base is a compaction of the batches that it stands for, each item may follow on those before it,
-- and what it took is a beginning of the chain. Whoever else writes, and what, isn't said.
pub record TakesPart (chain : List (List Record)) (p : Process) : Type 0 where
  pub adopted : IsAdopted p.base
  pub stands : IsCompactionOf p.base.kept (whole_of p.early)
  pub lawful : IsLawful p.base p.items
  pub begins : IsPrefix (taken_by p) chain

-- the process when it had published those items alone
abbrev pub when : Process → List Item → Process
when p front = record p { items = front }

-- the base that a topic's kept set begins
abbrev pub kept_base : Topic → Topic
kept_base t = record { log = t.kept.records; kept = t.kept; next = t.next; compacted = t.kept.floor }
