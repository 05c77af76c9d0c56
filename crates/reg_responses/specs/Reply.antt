-- What is answered to the reply of a command.
use Rattle.std.specs.Prelude.{ℕ, List, Ok, Err, codes}
use Rattle.serde_json.specs.Data.{string, object, member, no_members}
use Rattle.serde_json.specs.Written.{compact_text}
use Rattle.reg_leader.specs.declared.reply.Reply.{Reply}
use Rattle.reg_leader.specs.declared.reply.Reply.TheVariants as replies
use Rattle.reg_leader.specs.reg_level_names.Level.{level_text}
use Rattle.reg_lookup.specs.Bodies.{answer_with, level_body, list_body, mode_body, number_data}
use Rattle.reg_lookup.specs.declared.answered.Answer.{Answer}
use Rattle.reg_leader.specs.reg_modes.Mode.{mode_text}
use Rattle.reg_leader.specs.reg_refusals.declared.reason.StoreFault.TheVariants as faults
use Rattle.reg_leader.specs.reg_refusals.declared.refusal.Refusal.TheVariants as refusals

abbrev pub id_body : ℕ → List ℕ
id_body id = compact_text (object (member (codes "id") (number_data id) no_members))

-- an object of one member, which is a text
abbrev pub member_body : List ℕ → List ℕ → List ℕ
member_body name text = compact_text (object (member name (string text) no_members))

-- the answer to a reply; a level that was set is reported under another name than one that was removed
unfoldable pub reply_answer : Reply → Answer
reply_answer (replies.Id id) = answer_with (Ok (id_body id))
reply_answer (replies.Version version) = answer_with (Ok (compact_text (number_data version)))
reply_answer (replies.Versions versions) = answer_with (Ok (list_body number_data versions))
reply_answer (replies.Level level) = answer_with (Ok (member_body (codes "compatibility") (level_text level)))
reply_answer (replies.LevelRemoved level) = answer_with (Ok (level_body (level_text level)))
reply_answer (replies.Mode mode) = answer_with (Ok (mode_body (mode_text mode)))
reply_answer (replies.ModeRemoved mode) = answer_with (Ok (mode_body (mode_text mode)))
reply_answer replies.Nothing = answer_with (Ok (compact_text (object no_members)))
reply_answer (replies.Refused refusal) = answer_with (Err refusal)
reply_answer (replies.Unsettled offset) = answer_with (Err (refusals.Store faults.Unsettled))
