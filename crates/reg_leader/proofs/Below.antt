-- The laws of the crates below that lemmas here are given.
use Rattle.std.proofs.Common.{◌≡◌, ℕ, ◌≤◌, List, Some}
use Rattle.reg_rules.specs.avro_schema.Schema.{Meaning, schema_of}
use Rattle.reg_rules.specs.reg_values.Value.{value_of}
use Rattle.reg_rules.specs.reg_records.Written.{HasLine, IsInLimits}
use Rattle.reg_rules.specs.reg_records.WrittenValue.{written_value}
use Rattle.reg_rules.specs.reg_values.OfKey.{IsValueOf}
use Rattle.reg_rules.specs.reg_records.declared.key.Key.{Key}
use Rattle.reg_rules.specs.reg_records.declared.limits.TheConstants.{OFFSET_LIMIT}
use Rattle.reg_rules.specs.reg_records.declared.value.Value.{Value}

-- a written value has a line, and is read again
abbrev pub ValuesHaveLines : Type 0
ValuesHaveLines =
    (offset : ℕ) (k : Key) (v : Value) → offset ≤ OFFSET_LIMIT → IsInLimits k → IsValueOf k v
    → HasLine (record { offset = offset; key = k; value = written_value v })

abbrev pub ValuesReadBack : Type 0
ValuesReadBack =
    (offset : ℕ) (k : Key) (v : Value) → IsValueOf k v → value_of (record { offset = offset; key = k; value = written_value v }) ≡ Some v

-- a normal text means its schema
abbrev pub NormalTextsReadBack : Type 0
NormalTextsReadBack = (text : List ℕ) (m : Meaning) → schema_of text ≡ Some m → schema_of m.normal_text ≡ Some m
