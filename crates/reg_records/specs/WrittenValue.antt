-- What is written for a value, compact JSON with its members in this order.
use Rattle.std.specs.Prelude.{ℕ, List, Option, Some, None, option_map, codes}
use Rattle.serde_json.specs.Data.{unsigned, Data, boolean, number, string, object, no_members, member}
use Rattle.serde_json.specs.Written.{compact_text}
use Rattle.reg_records.specs.declared.value.Value.{Value}
use Rattle.reg_records.specs.declared.value.Value.TheVariants as values

-- the object that is written for a value; none for no operation
abbrev pub value_data : Value → Option Data
value_data (values.Schema subject version id schema deleted) = Some (object (member (codes "subject") (string subject)
    (member (codes "version") (number (unsigned version)) (member (codes "id") (number (unsigned id))
    (member (codes "schema") (string schema) (member (codes "deleted") (boolean deleted) no_members))))))
value_data (values.Config level) = Some (object (member (codes "compatibilityLevel") (string level) no_members))
value_data (values.Mode mode) = Some (object (member (codes "mode") (string mode) no_members))
value_data (values.DeleteSubject subject version) =
    Some (object (member (codes "subject") (string subject) (member (codes "version") (number (unsigned version)) no_members)))
value_data values.Noop = None
value_data (values.IdMark id) = Some (object (member (codes "id") (number (unsigned id)) no_members))

-- its text
unfoldable pub written_value : Value → Option (List ℕ)
written_value v = option_map compact_text (value_data v)
