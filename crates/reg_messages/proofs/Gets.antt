-- What is read of a message whose head was taken.
use Rattle.std.proofs.Common.{◌≡◌, ◌<◌, ◌++◌, List, [], ℕ, Bool, true, false, Some, None, IfSome, refl}
use Rattle.std.proofs.Common.{sym, ap, subst, ◌∙◌, arith, length, length-append, take, drop, inr}
use Rattle.std.specs.Prelude.{Err, IfOk, Ok, OnErr, Option, Result, nat_le}
use Rattle.std.specs.Io.KnownBytes.{Consumes}
use Rattle.std.proofs.KnownBytes.{Consumes-trans}
use Rattle.std.proofs.lemmas.List.{drop_all}
use Rattle.std.proofs.Math.Seq.{drop-append_seam, take-append_seam}
use Rattle.httparse.specs.Grammar.{RequestHead}
use Rattle.reg_messages.specs.Fields.{body_length, told_length}
use Rattle.reg_messages.specs.BodyReading.{LosesBody, TakesAll, TakesBody}
use Rattle.reg_messages.specs.Head.{front_of, IsHead}
use Rattle.reg_messages.specs.HeadReading.{IsTakenAs}
use Rattle.reg_messages.specs.Reading.{GetsFrom, IsShort, TakesShort}
use Rattle.reg_messages.specs.ReadingSteps.{GetsAfter, GetsWith}
use Rattle.reg_messages.specs.Messages.{after_body, body_after, body_in, fields_of, request_with, wants_close}
use Rattle.reg_messages.specs.declared.body_reading.Body.TheVariants as bodies
use Rattle.reg_messages.specs.declared.reading.Got.{Got}
use Rattle.reg_messages.specs.declared.reading.Got.TheVariants as gots
use Rattle.reg_messages.specs.declared.request.Request.{Request}
use Rattle.reg_messages.proofs.Fronts.{short-known}
use Rattle.reg_messages.proofs.Places.{told-ok}

-- a message after its head
pub gets-after : (start mid new : Option (List ℕ)) (taken bytes : List ℕ) (h : RequestHead) (got : Got Request) → Consumes start mid taken
    → IsTakenAs taken bytes → IsHead bytes h → GetsAfter h mid new got → IfSome start (λ text. GetsFrom text new got)
gets-after None mid new taken bytes h got took known is gets = tt
gets-after (Some x) None new taken bytes h got took known is gets = absurd took
gets-after (Some x) (Some y) new taken bytes h gots.Over took known is gets = absurd gets
gets-after (Some x) (Some y) new taken bytes h (gots.Refused refusal) took known is told =
    inr (bytes, y, ap front_of took ∙ known y, inr (h, is, told))
gets-after (Some x) (Some y) new taken bytes h (gots.Message request told wants) took known is (length, wanted, (left, same)) =
    (bytes, h, y, (ap front_of took ∙ known y, is, told-ok (fields_of h) told length, left), same, length, wanted)
gets-after (Some x) (Some y) new taken bytes h (gots.NoMemory wants) took known is (ok, wanted, left) =
    (bytes, h, y, (ap front_of took ∙ known y, is, ok, left), wanted)

-- a body that is cut is short of a message
pub short-body : (start mid new : Option (List ℕ)) (taken bytes : List ℕ) (h : RequestHead) → Consumes start mid taken
    → IsTakenAs taken bytes → IsHead bytes h → LosesBody mid new (body_length (fields_of h)) → IfSome start (λ text. TakesShort text new)
short-body start mid new taken bytes h took known is (body, few, more) =
    short-known start new (taken ++ body) (Consumes-trans start mid new taken body took more)
    (subst IsShort (sym (known body)) (h, is, few))

-- what is left after as many bytes as were stated
left-whole : (len : ℕ) (bytes x y : List ℕ) → length bytes ≡ len → x ≡ bytes ++ y → Some y ≡ Some (drop len x)
left-whole len bytes x y many is =
    sym (ap Some (ap (λ n. drop n x) (sym many) ∙ ap (λ t. drop (length bytes) t) is ∙ drop-append_seam bytes y))

-- nothing is left where there are fewer
left-short : (len : ℕ) (bytes x y : List ℕ) → length bytes < len → x ≡ bytes ++ y → y ≡ [] → Some y ≡ Some (drop len x)
left-short len bytes x y few is ended =
    ap Some (ended ∙ sym (drop_all len x (omega (arith, few, ap length is ∙ length-append bytes y, ap length ended))))

left-of : (old new : Option (List ℕ)) (len : ℕ) (whole : Bool)
    → TakesAll old new len whole → IfSome old (λ after. new ≡ Some (drop len after))
left-of None new len whole took = tt
left-of (Some x) None len true (bytes, many, took) = absurd took
left-of (Some x) (Some y) len true (bytes, many, took) = left-whole len bytes x y many took
left-of (Some x) None len false (bytes, few, took, ended) = absurd took
left-of (Some x) (Some y) len false (bytes, few, took, ended) = left-short len bytes x y few took ended

-- the body is what was taken
body-whole : (len : ℕ) (bytes x y : List ℕ) → length bytes ≡ len → x ≡ bytes ++ y → Some bytes ≡ body_in len x
body-whole len bytes x y many is =
    let within : nat_le len (length x) ≡ true = grind (arith, many, ap length is ∙ length-append bytes y) in
    let front : take len x ≡ bytes = ap (λ n. take n x) (sym many) ∙ ap (λ t. take (length bytes) t) is ∙ take-append_seam bytes y in
    rw (within, front) refl

-- and none where there are fewer bytes
body-short : (len : ℕ) (bytes x y : List ℕ) → length bytes < len → x ≡ bytes ++ y → y ≡ [] → None ≡ body_in len x
body-short len bytes x y few is ended =
    let beyond : nat_le len (length x) ≡ false = grind (arith, few, ap length is ∙ length-append bytes y, ap length ended) in
    rw beyond refl

-- a message with the body that was taken, or none where memory was refused
gets-with : (h : RequestHead) (old new : Option (List ℕ)) (told : Option ℕ) (body : Option (List ℕ)) (wants : Bool) (got : Got Request)
    → told_length (fields_of h) ≡ Ok told
    → wants ≡ wants_close h → IfSome old (λ after. new ≡ Some (after_body h after)) → IfSome old (λ after. body ≡ body_after h after)
    → GetsWith h told body wants got → GetsAfter h old new got
gets-with h old new told body wants gots.Over length wanted left is gets = absurd gets
gets-with h old new told body wants (gots.Refused refusal) length wanted left is gets = absurd gets
gets-with h None new told body wants (gots.Message request told' wants') length wanted left is (same, as_told, as_wanted) =
    (length ∙ ap Ok (sym as_told), as_wanted ∙ wanted, tt)
gets-with h (Some x) new told body wants (gots.Message request told' wants') length wanted left is (same, as_told, as_wanted) =
    (length ∙ ap Ok (sym as_told), as_wanted ∙ wanted, (left, same ∙ ap (request_with h) is))
gets-with h None new told body wants (gots.NoMemory wants') length wanted left is as_wanted =
    (told-ok (fields_of h) told length, as_wanted ∙ wanted, tt)
gets-with h (Some x) new told body wants (gots.NoMemory wants') length wanted left is as_wanted =
    (told-ok (fields_of h) told length, as_wanted ∙ wanted, left)

pub gets-whole : (h : RequestHead) (old new : Option (List ℕ)) (told : Option ℕ) (bytes : List ℕ) (wants : Bool) (got : Got Request)
    → told_length (fields_of h) ≡ Ok told
    → wants ≡ wants_close h → TakesBody old new (body_length (fields_of h)) (bodies.Whole bytes)
    → GetsWith h told (Some bytes) wants got → GetsAfter h old new got
gets-whole h None new told bytes wants got length wanted took gets =
    gets-with h None new told (Some bytes) wants got length wanted tt tt gets
gets-whole h (Some x) None told bytes wants got length wanted (many, took) gets = absurd took
gets-whole h (Some x) (Some y) told bytes wants got length wanted (many, took) gets =
    gets-with h (Some x) (Some y) told (Some bytes) wants got length wanted (left-whole (body_length (fields_of h)) bytes x y many took)
    (body-whole (body_length (fields_of h)) bytes x y many took) gets

pub gets-short : (h : RequestHead) (old new : Option (List ℕ)) (told : Option ℕ) (wants : Bool) (got : Got Request)
    → told_length (fields_of h) ≡ Ok told
    → wants ≡ wants_close h → TakesBody old new (body_length (fields_of h)) bodies.Short
    → GetsWith h told None wants got → GetsAfter h old new got
gets-short h None new told wants got length wanted took gets = gets-with h None new told None wants got length wanted tt tt gets
gets-short h (Some x) None told wants got length wanted (bytes, few, took, ended) gets = absurd took
gets-short h (Some x) (Some y) told wants got length wanted (bytes, few, took, ended) gets =
    gets-with h (Some x) (Some y) told None wants got length wanted (left-short (body_length (fields_of h)) bytes x y few took ended)
    (body-short (body_length (fields_of h)) bytes x y few took ended) gets

pub gets-dropped : (h : RequestHead) (old new : Option (List ℕ)) (told : Option ℕ) (wants : Bool) → told_length (fields_of h) ≡ Ok told
    → wants ≡ wants_close h → TakesBody old new (body_length (fields_of h)) bodies.Dropped → GetsAfter h old new (gots.NoMemory wants)
gets-dropped h old new told wants length wanted (whole, took) =
    (told-ok (fields_of h) told length, wanted, left-of old new (body_length (fields_of h)) whole took)

-- what follows from the outcome of a call
pub IfOk-map : {A E : Type 0} {P Q : A → Type 0} (r : Result A E) → ((x : A) → P x → Q x) → IfOk r P → IfOk r Q
IfOk-map (Ok x) f p = f x p
IfOk-map (Err e) f p = tt

pub OnErr-map : {A E P Q : Type 0} (r : Result A E) → (P → Q) → OnErr r P → OnErr r Q
OnErr-map (Ok x) f p = tt
OnErr-map (Err e) f p = f p
