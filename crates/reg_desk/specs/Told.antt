-- Private: what the pen tells.
use Rattle.std.specs.Prelude.{◌⊎◌, List, [], Option, Some, None}
use Rattle.std.specs.Borrow.{Bor}
use Rattle.reg_records.specs.declared.record.Record.{Record}
use Rattle.reg_leader.specs.declared.command.Command.{Command}
use Rattle.reg_leader.specs.declared.reply.Reply.{Reply}
use Rattle.reg_topic.specs.declared.published.Item.{Item}
use Rattle.reg_topic.specs.declared.topic.Topic.{Topic}
use Rattle.reg_pen.specs.Pen.{IsNoMemory}
use Rattle.reg_pen.specs.declared.keep.Kept.{Kept}
use Rattle.reg_desk.specs.Desk.{IsNext}

abbrev pub front_at : Option (Bor (List Item)) → List Item
front_at None = []
front_at (Some since) = since.now

-- where memory was refused the front that is told may be an earlier one
abbrev pub IsTold : {K : Type 0} (keeps : K → List Record → Kept → K → Type 0) → Topic → List Item → Command → Reply → List Item → Type 0
IsTold keeps base before c reply told = IsNoMemory reply ⊎ IsNext keeps base before c reply told
