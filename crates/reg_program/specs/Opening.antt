-- Private: what is there once the log was read.
use Rattle.std.specs.Prelude.{◌≡◌, ℕ, List, [], false, Option, Some, IfSome, Ok, count_by}
use Rattle.reg_fold.specs.Closed.{is_closed}
use Rattle.reg_records.specs.Log.{LogText, log_of, is_foreign}
use Rattle.reg_topic.specs.Topic.{IsAdopted, registry_of}
use Rattle.reg_topic.specs.declared.topic.Topic.{Topic}
use Rattle.reg_program.specs.Desk.{IsDeskAt}
use Rattle.reg_program.specs.Published.{topic_of}
use Rattle.reg_program.specs.declared.desk.FoldDesk.{FoldDesk}

-- the topic is adopted, where it takes commands
abbrev pub IsAdoptedIfOpen : Topic → Type 0
IsAdoptedIfOpen base = is_closed (registry_of base) ≡ false → IsAdopted base

-- the desk is over a topic, which is that of the log at the front of the input; that log's foreign lines, and what is left of the input
abbrev pub IsOpened : Option (List ℕ) → Option (List ℕ) → ℕ → FoldDesk → Type 0
IsOpened input left foreign desk = (base : Topic) × IsDeskAt base [] desk × IsAdoptedIfOpen base
    × IfSome input (λ text. (log : LogText) × (log_of text ≡ Ok log) × (base ≡ topic_of log)
    × (foreign ≡ count_by is_foreign log.reads) × (left ≡ Some log.rest))
