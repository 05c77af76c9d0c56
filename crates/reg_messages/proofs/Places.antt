-- The places of the parts of a head.
use Rattle.std.proofs.Common.{◌≡◌, ◌∷◌, [], List, ℕ, false, refl, ap, subst, sym, ◌∙◌, map}
use Rattle.std.specs.Prelude.{IsOk, IsUtf8, None, Ok, Option, Some, unwrap_or, ◌==◌}
use Rattle.http_header.specs.Token as token
use Rattle.httparse.specs.Grammar as grammar
use Rattle.httparse.specs.Spans.{IsRequestAt, header_bytes, name_and_value, span_bytes}
use Rattle.httparse.specs.declared.spans.HeaderSpan.{HeaderSpan}
use Rattle.httparse.specs.declared.spans.RequestSpans.{RequestSpans}
use Rattle.reg_messages.specs.Fields.{asks_to_close, body_length, told_length}
use Rattle.reg_messages.specs.declared.field.HeaderField.{HeaderField}
use Rattle.reg_messages.specs.Messages.{field_of, fields_of, request_with, wants_close}
use Rattle.reg_messages.specs.Places.{field_at}
use Rattle.reg_messages.specs.declared.request.Request.{Request}

field_from : List ℕ × List ℕ → HeaderField
field_from p = record { name = p.0; value = p.1 }

-- the fields at the places of a head's fields
pub fields-at : (bytes : List ℕ) (spans : List HeaderSpan) (fields : List grammar.Field)
    → map (header_bytes bytes) spans ≡ map name_and_value fields
    → map (field_at bytes) spans ≡ map field_of fields
unfolding field_from
fields-at bytes [] [] same = refl
fields-at bytes [] (f ∷ fields) same = absurd (cc)
fields-at bytes (s ∷ spans) [] same = absurd (cc)
fields-at bytes (s ∷ spans) (f ∷ fields) same =
    let first : header_bytes bytes s ≡ name_and_value f = cc in
    let rest : map (header_bytes bytes) spans ≡ map name_and_value fields = cc in
    ap (λ x. x ∷ map (field_at bytes) spans) (ap field_from first) ∙ ap (λ xs. field_of f ∷ xs) (fields-at bytes spans fields rest)

-- a client that speaks HTTP/1.1 wants what its fields say
pub wants-field : (h : grammar.RequestHead) → (h.minor == 0) ≡ false → asks_to_close (fields_of h) ≡ wants_close h
wants-field h later = rw later refl

-- the two crates have one meaning of a token
pub is-token : (bytes : List ℕ) → grammar.IsToken bytes → token.IsToken bytes
unfolding grammar.is_token_byte token.is_token_byte
is-token bytes is = is

-- the method of a head is a token, and its target a text
pub has-texts : (bytes : List ℕ) (fields : List HeaderSpan) (spans : RequestSpans) (h : grammar.RequestHead) → IsRequestAt bytes fields spans h
    → token.IsToken (span_bytes bytes spans.method) × IsUtf8 (span_bytes bytes spans.path)
has-texts bytes fields spans h at =
    (subst token.IsToken (sym at.method) (is-token h.method at.reads.0.method), subst IsUtf8 (sym at.path) at.reads.0.target_text)

-- a length that isn't refused is the body's
pub told-body : (fields : List HeaderField) (told : Option ℕ) → told_length fields ≡ Ok told → unwrap_or told 0 ≡ body_length fields
told-body fields None is = rw is refl
told-body fields (Some n) is = rw is refl

pub told-ok : (fields : List HeaderField) (told : Option ℕ) → told_length fields ≡ Ok told → IsOk (told_length fields)
told-ok fields told is = rw is refl

-- a request of the parts of a head
pub same-request : (h : grammar.RequestHead) (body : Option (List ℕ)) (method target : List ℕ) (fields : List HeaderField)
    → method ≡ h.method → target ≡ h.target → fields ≡ fields_of h
    → ◌≡◌ {A = Request} record { method = method; target = target; fields = fields; body = body } (request_with h body)
same-request h body method target fields p q r = rw (p, q, r) refl
