use Rattle.std.proofs.Common.{◌≡◌, ◌∙◌, ◌++◌, ℕ, List, Option, Some, codes, rules, append_assoc}
use Rattle.std.proofs.lemmas.Result.{IfOk-weaker}
use Rattle.std.specs.Fmt.{digits}
use Rattle.json.specs.Print.{escape_byte}
use Rattle.std.specs.Option.{option_map_or}
use Rattle.serde_json.specs.Data.{null, string}
use Rattle.serde_json.specs.Written.{compact_text}
use Rattle.reg_records.specs.declared.key.Key.TheVariants.{Config, Mode, DeleteSubject}
use Rattle.reg_records.specs.Written.{written_key}
use Rattle.reg_records.proofs.key.Key.written.Goals as goal

abbrev text_of : List ℕ → Option (List ℕ) → List ℕ
text_of kind scope =
    codes "{\"keytype\":\"" ++ kind ++ codes "\",\"subject\":" ++ compact_text (option_map_or string scope null) ++ codes ",\"magic\":0}"

config_text : (scope : Option (List ℕ)) → text_of (codes "CONFIG") scope ≡ written_key (Config scope)
unfolding written_key escape_byte digits
config_text scope = simp append_assoc

mode_text : (scope : Option (List ℕ)) → text_of (codes "MODE") scope ≡ written_key (Mode scope)
unfolding written_key escape_byte digits
mode_text scope = simp append_assoc

delete_text : (subject : List ℕ) → text_of (codes "DELETE_SUBJECT") (Some subject) ≡ written_key (DeleteSubject subject)
unfolding written_key escape_byte digits
delete_text subject = simp append_assoc

pub returns-in-Config : goal.returns-in-Config
returns-in-Config c = search (rules, config_text)

pub returns-in-Mode : goal.returns-in-Mode
returns-in-Mode c = search (rules, mode_text)

pub returns-in-DeleteSubject : goal.returns-in-DeleteSubject
returns-in-DeleteSubject c =
    rw c.in-DeleteSubject.is (
    IfOk-weaker c.scope_key_text-in-DeleteSubject.result _ _ (λ text is. is ∙ delete_text _) c.scope_key_text-in-DeleteSubject.ensures)

pub returns-in-Noop : goal.returns-in-Noop
unfolding written_key escape_byte digits
returns-in-Noop c = search rules

pub returns-in-IdMark : goal.returns-in-IdMark
unfolding written_key escape_byte digits
returns-in-IdMark c = search rules
