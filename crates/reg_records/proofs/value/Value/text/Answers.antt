use Rattle.std.proofs.Common.{◌≡◌, ◌∙◌, ◌++◌, ℕ, List, Some, codes, ap, rules, append_assoc, string_bytes}
use Rattle.json.specs.Print.{escape_byte, quoted}
use Rattle.reg_records.specs.declared.value.Value.TheVariants.{Config, Mode}
use Rattle.reg_records.specs.WrittenValue.{written_value}
use Rattle.reg_records.proofs.value.Value.text.Goals.{in-Schema+in_ok-text-in-Schema, in-Config+in_ok-text-in-Config}
use Rattle.reg_records.proofs.value.Value.text.Goals.{in-Mode+in_ok-text-in-Mode}
use Rattle.reg_records.proofs.value.Value.text.Goals.{in-DeleteSubject+in_ok-text-in-DeleteSubject, in-IdMark+in_ok-text-in-IdMark}
use Rattle.reg_records.proofs.value.Value.text.Goals as goal

config_text : (level : List ℕ)
    → Some (codes "{\"" ++ codes "compatibilityLevel" ++ codes "\":" ++ quoted level ++ codes "}") ≡ written_value (Config level)
unfolding written_value escape_byte
config_text level = simp append_assoc

mode_text : (mode : List ℕ) → Some (codes "{\"" ++ codes "mode" ++ codes "\":" ++ quoted mode ++ codes "}") ≡ written_value (Mode mode)
unfolding written_value escape_byte
mode_text mode = simp append_assoc

pub returns : goal.returns
returns c = elim c.match-self.branch [
  | in-Schema+in_ok-text-in-Schema w ↦ rw w.in-Schema.is (ap (λ t. Some (string_bytes t)) w.text-is ∙ w.in_ok-text-in-Schema.ensures)
  | in-Config+in_ok-text-in-Config w ↦ rw w.in-Config.is (ap (λ t. Some (string_bytes t)) w.text-is ∙ ap Some w.in_ok-text-in-Config.ensures ∙ config_text _)
  | in-Mode+in_ok-text-in-Mode w ↦ rw w.in-Mode.is (ap (λ t. Some (string_bytes t)) w.text-is ∙ ap Some w.in_ok-text-in-Mode.ensures ∙ mode_text _)
  | in-DeleteSubject+in_ok-text-in-DeleteSubject w ↦ rw w.in-DeleteSubject.is (ap (λ t. Some (string_bytes t)) w.text-is ∙ w.in_ok-text-in-DeleteSubject.ensures)
  | in-IdMark+in_ok-text-in-IdMark w ↦ rw w.in-IdMark.is (ap (λ t. Some (string_bytes t)) w.text-is ∙ w.in_ok-text-in-IdMark.ensures)
]

pub returns-in-Noop : goal.returns-in-Noop
unfolding written_value
returns-in-Noop c = search rules
