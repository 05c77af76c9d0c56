-- A message as its head and the bytes after it give it.
use Rattle.std.specs.Prelude.{ℕ, List, Bool, ◌||◌, ◌==◌, nat_le, length, map, take, drop, Option, Some, None, if◌then◌else◌}
use Rattle.httparse.specs.Grammar as grammar
use Rattle.reg_messages.specs.Fields.{asks_to_close, body_length}
use Rattle.reg_messages.specs.declared.field.HeaderField.{HeaderField}
use Rattle.reg_messages.specs.declared.request.Request.{Request}

-- a field as its name, and its value without the white space round it
abbrev pub field_of : grammar.Field → HeaderField
field_of f = record { name = f.name; value = grammar.field_value f }

abbrev pub fields_of : grammar.RequestHead → List HeaderField
fields_of head = map field_of head.fields

-- so many bytes, if there are as many
abbrev pub body_in : ℕ → List ℕ → Option (List ℕ)
body_in n bytes = if nat_le n (length bytes) then Some (take n bytes) else None

-- the body that these bytes after a head begin with; none where they end in it
abbrev pub body_after : grammar.RequestHead → List ℕ → Option (List ℕ)
body_after head after = body_in (body_length (fields_of head)) after

-- the request of a head and a body
abbrev pub request_with : grammar.RequestHead → Option (List ℕ) → Request
request_with head body = record { method = head.method; target = head.target; fields = fields_of head; body = body }

-- the request whose head is followed by these bytes
abbrev pub request_of : grammar.RequestHead → List ℕ → Request
request_of head after = request_with head (body_after head after)

-- what stands after the body
abbrev pub after_body : grammar.RequestHead → List ℕ → List ℕ
after_body head after = drop (body_length (fields_of head)) after

-- the client wants the connection closed: HTTP/1.0, or a field that says so
abbrev pub wants_close : grammar.RequestHead → Bool
wants_close head = head.minor == 0 || asks_to_close (fields_of head)
