-- Private: what a value's text brings along.
use Rattle.std.specs.Prelude.{◌≡◌, ⊤, ℕ, List, Some}
use Rattle.reg_records.specs.declared.value_text.Brought.{Brought}
use Rattle.reg_records.specs.declared.value_text.Brought.TheVariants.{Nothing, Schema, Value}
use Rattle.reg_records.specs.WrittenValue.{written_value}

-- a value that is brought is the one that the text was written for
abbrev pub IsWrittenFor : List ℕ → Brought → Type 0
IsWrittenFor text Nothing = ⊤
IsWrittenFor text (Schema schema) = ⊤
IsWrittenFor text (Value value) = written_value value ≡ Some text
