-- Private: the parts of a head at their places in its bytes.
use Rattle.std.specs.Prelude.{ℕ, List, map, IsUtf8}
use Rattle.http_header.specs.Token.{IsToken}
use Rattle.httparse.specs.Grammar.{RequestHead}
use Rattle.httparse.specs.Spans.{IsRequestAt, IsRequestWithin, span_bytes}
use Rattle.httparse.specs.declared.spans.HeaderSpan.{HeaderSpan}
use Rattle.reg_messages.specs.declared.field.HeaderField.{HeaderField}
use Rattle.reg_messages.specs.declared.parsing.Head.{Head}

-- the field whose name and value stand at these places
abbrev pub field_at : List ℕ → HeaderSpan → HeaderField
field_at bytes span = record { name = span_bytes bytes span.name; value = span_bytes bytes span.value }

abbrev pub fields_at : List ℕ → List HeaderSpan → List HeaderField
fields_at bytes spans = map (field_at bytes) spans

-- the places of the parts of a head, in its bytes
abbrev pub IsHeadAt : List ℕ → Head → RequestHead → Type 0
IsHeadAt bytes found h = IsRequestAt bytes found.fields.now found.spans h

-- the places are in the bytes
abbrev pub IsHeadWithin : List ℕ → Head → Type 0
IsHeadWithin bytes found = IsRequestWithin bytes found.fields.now found.spans

-- at the method's place stands a token, at the target's a text
abbrev pub HasTexts : List ℕ → Head → Type 0
HasTexts bytes found = IsToken (span_bytes bytes found.spans.method) × IsUtf8 (span_bytes bytes found.spans.path)
