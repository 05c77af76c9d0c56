-- Private: what is handed over of a value.
use Rattle.reg_records.specs.declared.value.Value.{Value}
use Rattle.reg_values.specs.Value.{normal_in}
use Rattle.reg_values.specs.declared.decoding.Decoded.{Decoded}

-- a value with the normal text of its schema
abbrev pub with_normal : Value → Decoded
with_normal v = record { value = v; normal = normal_in v }
