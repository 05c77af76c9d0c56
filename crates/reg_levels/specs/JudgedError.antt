-- Why nothing was judged.
use Rattle.std.specs.Prelude.{◌≡◌, ⊤, ℕ, List, true, false, Some, codes}
use Rattle.avro_resolve.specs.avro_schema.Schema.{is_schema}
use Rattle.reg_levels.specs.Texts.{VersionText}
use Rattle.reg_levels.specs.Judgement.{first_unread}
use Rattle.reg_levels.specs.declared.judged_error.JudgedError.{JudgedError}
use Rattle.reg_levels.specs.declared.judged_error.JudgedError.TheVariants.{NewText, OldText, OutOfMemory}

-- the cause of a refusal; memory may be refused at any time
abbrev pub IsJudgedRefusal : List ℕ → List VersionText → JudgedError → Type 0
IsJudgedRefusal new_text olds NewText = is_schema new_text ≡ false
IsJudgedRefusal new_text olds (OldText version) = (is_schema new_text ≡ true) × (first_unread olds ≡ Some version)
IsJudgedRefusal new_text olds OutOfMemory = ⊤

-- the text of a refusal
abbrev pub judged_error_text : JudgedError → List ℕ
judged_error_text NewText = codes "NewText"
judged_error_text (OldText version) = codes "OldText"
judged_error_text OutOfMemory = codes "out of memory"
