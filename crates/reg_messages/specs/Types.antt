-- The types of bodies.
use Rattle.std.specs.Prelude.{ℕ, List, [], ◌∷◌, Bool, ◌==◌, codes}
use Rattle.std.specs.List.{before_first, list_all, list_any}
use Rattle.std.specs.Str.{str_eq_ignore_ascii_case}
use Rattle.httparse.specs.Grammar.{trim_ows}
use Rattle.reg_messages.specs.Fields.{values_of}
use Rattle.reg_messages.specs.declared.field.HeaderField.{HeaderField}

abbrev pub is_semicolon : ℕ → Bool
is_semicolon b = b == 59

abbrev pub accepted_types : List (List ℕ)
accepted_types =
    codes "application/vnd.schemaregistry.v1+json" ∷ codes "application/vnd.schemaregistry+json"
    ∷ codes "application/json" ∷ codes "application/octet-stream" ∷ []

-- the type, without its parameters, is one of these
abbrev pub is_accepted : List ℕ → Bool
is_accepted value = list_any (str_eq_ignore_ascii_case (trim_ows (before_first is_semicolon value))) accepted_types

-- each Content-Type field has such a type
abbrev pub has_accepted_types : List HeaderField → Bool
has_accepted_types fields = list_all is_accepted (values_of (codes "content-type") fields)
