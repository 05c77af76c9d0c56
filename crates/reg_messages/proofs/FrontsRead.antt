-- What was read of the message at the front of a text.
use Rattle.std.proofs.Common.{◌≡◌, ◌<◌, ◌≤◌, ◌++◌, [], List, ℕ, Bool, true, false, Some, None, if◌then◌else◌}
use Rattle.std.proofs.Common.{refl, sym, ap, subst, ◌∙◌, inl, inr, arith, length, length-append, take, drop}
use Rattle.std.specs.Prelude.{IsUtf8, Option, Result, Ok, Err, unwrap_or, nat_le, nat_lt, ◌&&◌}
use Rattle.std.specs.List.{list_all}
use Rattle.std.specs.Option.{option_map_or}
use Rattle.std.proofs.lemmas.List.{length-take-le, take-append-drop, take-append-le}
use Rattle.httparse.specs.Grammar.{RequestHead}
use Rattle.httparse.specs.Spans.{span_bytes}
use Rattle.httparse.proofs.GrammarLemmas.{request_unique}
use Rattle.http_header.proofs.TokenLemmas.{IsUtf8-from_token}
use Rattle.reg_refusals.specs.declared.refusal.Refusal.{Refusal}
use Rattle.reg_refusals.specs.declared.refusal.Refusal.TheVariants as refusals
use Rattle.reg_messages.specs.Extent.{LacksHead}
use Rattle.reg_messages.specs.Fields.{body_length, told_length}
use Rattle.reg_messages.specs.FrontRead.{IsFrontOf, IsReadAs, IsReadOf, Says, read_length}
use Rattle.reg_messages.specs.Head.{Front, front_of, cut_head, has_few_lines, head, no_head, over, is_skipped, skipped_len, within_limit, IsHead}
use Rattle.reg_messages.specs.Messages.{after_body, body_after, body_in, fields_of}
use Rattle.reg_messages.specs.Parts.{Parts}
use Rattle.reg_messages.specs.Reading.{GetsLent, IsRefusedAt}
use Rattle.reg_messages.specs.Types.{has_accepted_types}
use Rattle.reg_messages.specs.declared.front.FrontRead.{FrontRead}
use Rattle.reg_messages.specs.declared.head_read.HeadRead.{HeadRead}
use Rattle.reg_messages.specs.declared.limits.TheConstants.{HEAD_LIMIT}
use Rattle.reg_messages.specs.declared.reading.Got.TheVariants as gots
use Rattle.reg_messages.proofs.Places.{is-token, told-body, told-ok}

-- the head that some bytes are is one alone
same-length : (bytes : List ℕ) (h k : RequestHead) → IsHead bytes h → IsHead bytes k → body_length (fields_of h) ≡ body_length (fields_of k)
same-length bytes h k is other = ap (λ x. body_length (fields_of x)) (request_unique bytes h k [] [] is.0 other.0).0

refused-none : (h : RequestHead) (refusal : Refusal) → told_length (fields_of h) ≡ Err refusal → 0 ≡ body_length (fields_of h)
refused-none h refusal told = rw told refl

-- what was read of a head tells the length of the body
pub read-told : (bytes : List ℕ) (r : Result HeadRead Refusal) → IsReadOf bytes r
    → (h : RequestHead) → IsHead bytes h → read_length r ≡ body_length (fields_of h)
read-told bytes (Ok read) (k, is, says) h is_head = told-body (fields_of k) read.told says.told ∙ same-length bytes k h is is_head
read-told bytes (Err refusal) read h is_head = elim read [
  | inl none ↦ absurd (none.0 h is_head)
  | inr p ↦ refused-none p.0 refusal p.2 ∙ same-length bytes p.0 h p.1 is_head
]

pub read-some : (bytes : List ℕ) (r : Result HeadRead Refusal) → IsReadOf bytes r
    → 0 < read_length r → (h : RequestHead) × IsHead bytes h × (read_length r ≡ body_length (fields_of h))
read-some bytes (Ok read) (k, is, says) some = (k, is, told-body (fields_of k) read.told says.told)
read-some bytes (Err refusal) read some = absurd (omega (arith, some))

-- two texts that begin with the same bytes have that front
same-front : (text other : List ℕ) (front : FrontRead) → take front.end text ≡ take front.end other → front.end ≤ length other
    → IsFrontOf text front → IsFrontOf other front
same-front text other front same room (fits, within, read) = (fits, room, subst (λ t. IsReadAs t front.start front.read.read) same read)

-- whatever comes after a text
pub front-more : (text more : List ℕ) (front : FrontRead) → IsFrontOf text front → IsFrontOf (text ++ more) front
front-more text more front is =
    same-front text (text ++ more) front (sym (take-append-le front.end text more is.1)) (omega (arith, is.1, length-append text more)) is

-- and where nothing does
pub front-alone : (text : List ℕ) (n : ℕ) (front : FrontRead) → front.len ≡ n → n ≤ length text → IsFrontOf text front
    → IsFrontOf (take n text) front
front-alone text n front len room is =
    let size : length (take n text) ≡ n = length-take-le n text room in
    let within : front.end ≤ length (take n text) = omega (arith, size, len, is.0) in
    let same : take front.end (take n text) ≡ take front.end text =
    sym (take-append-le front.end (take n text) (drop n text) within) ∙ ap (take front.end) (take-append-drop n text) in
    same-front text (take n text) front (sym same) within is

-- a head is there
not-over : (few : Bool) (bytes after : List ℕ) (refusal : Refusal) → (if few then head bytes after else no_head refusal) ≡ over → ⊥
not-over true bytes after refusal is = absurd (cc)
not-over false bytes after refusal is = absurd (cc)

found-not-over : (cut : Option (List ℕ × List ℕ)) (more : List ℕ) (refusal : Refusal)
    → option_map_or (λ (bytes, after). if has_few_lines bytes then head bytes (after ++ more) else no_head refusals.HeadTooLarge) cut
    (no_head refusal) ≡ over → ⊥
found-not-over None more refusal is = absurd (cc)
found-not-over (Some (bytes, after)) more refusal is = not-over (has_few_lines bytes) bytes (after ++ more) refusals.HeadTooLarge is

else-over : (b : Bool) (f : Front) → b ≡ false → (if b then over else f) ≡ over → f ≡ over
else-over true f other is = absurd (cc)
else-over false f other is = is

-- bytes that aren't skipped, or are too many, are a request
pub never-over : (text : List ℕ) → (list_all is_skipped text && nat_le (length text) HEAD_LIMIT) ≡ false → front_of text ≡ over → ⊥
unfolding front_of
never-over text other is =
    found-not-over (cut_head (drop (skipped_len (within_limit text)) (within_limit text))) (drop HEAD_LIMIT text)
    (if nat_lt (length text) HEAD_LIMIT then refusals.BadRequest else refusals.HeadTooLarge)
    (else-over (list_all is_skipped text && nat_le (length text) HEAD_LIMIT) _ other is)

-- bytes that are skipped, and no more than a head may have
pub is-over : (text : List ℕ) → (list_all is_skipped text && nat_le (length text) HEAD_LIMIT) ≡ true → front_of text ≡ over
unfolding front_of
is-over text blank = rw blank refl

-- a head that is cut
pub lacks-cut : (f : Front) → LacksHead f → (f ≡ over → ⊥) → f ≡ no_head refusals.BadRequest
lacks-cut over lacks some = absurd (some refl)
lacks-cut (no_head refusal) lacks some = ap no_head lacks
lacks-cut (head bytes after) lacks some = absurd lacks

-- what was read of a head
pub read-ok : (taken : List ℕ) (start : ℕ) (r : Result HeadRead Refusal) (read : HeadRead) → r ≡ Ok read → IsReadAs taken start r
    → IsReadAs taken start (Ok read)
read-ok taken start r read is = subst (IsReadAs taken start) is

-- that head stands at the front, and the rest after it
pub front-head : (text : List ℕ) (start end : ℕ) (read : HeadRead) → IsReadAs (take end text) start (Ok read)
    → front_of text ≡ head (drop start (take end text)) (drop end text)
front-head text start end read (fits, taken, is) = ap front_of (sym (take-append-drop end text)) ∙ taken (drop end text)

-- what was refused of a text
pub front-refused : (text : List ℕ) (start end : ℕ) (r : Result HeadRead Refusal) (refusal : Refusal) → r ≡ Err refusal
    → IsReadAs (take end text) start r → IsRefusedAt text refusal
front-refused text start end r refusal is read =
    subst (λ t. IsRefusedAt t refusal) (take-append-drop end text) (subst (IsReadAs (take end text) start) is read (drop end text))

same-parts : (method target other_method other_target : List ℕ) (accepted other_accepted : Bool) (body other_body : Option (List ℕ))
    → method ≡ other_method → target ≡ other_target → accepted ≡ other_accepted → body ≡ other_body
    → ◌≡◌ {A = Parts} record { method = method; target = target; is_accepted = accepted; body = body }
    (record { method = other_method; target = other_target; is_accepted = other_accepted; body = other_body })
same-parts method target other_method other_target accepted other_accepted body other_body p q r s = rw (p, q, r, s) refl

-- the message of a head, of which that was read, and of the bytes after it
pub gets-head : (text bytes after : List ℕ) (read : HeadRead) (h : RequestHead) (parts : Parts) (method target : List ℕ) (len : ℕ)
    (body : Option (List ℕ)) → front_of text ≡ head bytes after → IsHead bytes h → Says bytes read h
    → method ≡ span_bytes bytes read.method → target ≡ span_bytes bytes read.target
    → len ≡ unwrap_or read.told 0 → body ≡ body_in len after
    → parts ≡ record { method = method; target = target; is_accepted = read.is_accepted; body = body }
    → (left : Option (List ℕ)) × GetsLent (λ parts. parts) text left (gots.Message parts read.told read.wants_close)
gets-head text bytes after read h parts method target len body front is says at_method at_target size whole same =
    let told = told-body (fields_of h) read.told says.told in (
      Some (after_body h after),
      (
        bytes,
        h,
        after,
        (front, is, told-ok (fields_of h) read.told says.told, refl),
        same ∙ same-parts method target h.method h.target read.is_accepted (has_accepted_types (fields_of h)) body (body_after h after)
            (at_method ∙ says.method) (at_target ∙ says.target) says.is_accepted (whole ∙ ap (λ n. body_in n after) (size ∙ told)),
        says.told,
        says.wants_close,
      ),
    )

-- the method and the target of a head are texts
pub text-method : (bytes : List ℕ) (read : HeadRead) (h : RequestHead) → IsHead bytes h → Says bytes read h
    → IsUtf8 (span_bytes bytes read.method)
text-method bytes read h is says = subst IsUtf8 (sym says.method) (IsUtf8-from_token h.method (is-token h.method is.0.0.method))

pub text-target : (bytes : List ℕ) (read : HeadRead) (h : RequestHead) → IsHead bytes h → Says bytes read h
    → IsUtf8 (span_bytes bytes read.target)
text-target bytes read h is says = subst IsUtf8 (sym says.target) is.0.0.target_text
