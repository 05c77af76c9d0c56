-- What stands at the front of a text, by what a reader gave of it.
use Rattle.std.proofs.Common.{◌≡◌, ◌<◌, ◌≤◌, ◌+◌, ◌++◌, ◌∷◌, [], List, ℕ, Bool, true, false, Some, None, IfSome}
use Rattle.std.proofs.Common.{if◌then◌else◌, refl, sym, ap, subst, ◌∙◌, arith, length, length-append, take}
use Rattle.std.specs.Prelude.{MatchOption, Option}
use Rattle.std.specs.Io.KnownBytes.{Consumes, IsAtEnd}
use Rattle.std.proofs.KnownBytes.{Consumes-trans, Consumes-whole}
use Rattle.std.proofs.lemmas.List.{append_assoc, length-take}
use Rattle.reg_refusals.specs.declared.refusal.Refusal.TheVariants as refusals
use Rattle.reg_messages.specs.Head.{Front, front_of, has_few_lines, head, is_skipped, no_head, over}
use Rattle.reg_messages.specs.HeadReading.{HasNoEnd, LosesBlank, LosesHead, TakesBlank, TakesFront, TakesHead, taken_head}
use Rattle.reg_messages.specs.Reading.{IsShort, TakesShort}
use Rattle.reg_messages.specs.declared.head.Blank.{Blank}
use Rattle.reg_messages.specs.declared.head.HeadEnd.TheVariants as ends
use Rattle.reg_messages.specs.declared.head.Taken.TheVariants as takens
use Rattle.reg_messages.specs.declared.limits.TheConstants.{HEAD_LIMIT}
use Rattle.reg_messages.proofs.Heads.{front_of-blank, front_of-cut, front_of-full, front_of-over, front_of-whole}

-- what stands at the front however the text goes on
pub front-known : (old new : Option (List ℕ)) (taken : List ℕ) (front : Front) → Consumes old new taken
    → ((more : List ℕ) → front_of (taken ++ more) ≡ front) → IfSome old (λ text. front_of text ≡ front)
front-known None new taken front took known = tt
front-known (Some x) None taken front took known = absurd took
front-known (Some x) (Some y) taken front took known = ap front_of took ∙ known y

-- what was taken is short of a message
pub short-known : (old new : Option (List ℕ)) (taken : List ℕ) → Consumes old new taken → IsShort (front_of taken)
    → IfSome old (λ text. TakesShort text new)
short-known None new taken took short = tt
short-known (Some x) new taken took short = (taken, took, short)

-- a byte that isn't skipped stands after those that are
first_taken : (start mid : Option (List ℕ)) (blank : Blank) (bytes : List ℕ) (x : ℕ) → blank.next ≡ Some x
    → MatchOption blank.next (Consumes start mid bytes × (blank.count ≤ HEAD_LIMIT → IsAtEnd mid))
    (λ b. (is_skipped b ≡ false) × Consumes start mid (bytes ++ b ∷ []))
    → (is_skipped x ≡ false) × Consumes start mid (bytes ++ x ∷ [])
first_taken start mid blank bytes x is found =
    subst (λ o. MatchOption o (Consumes start mid bytes × (blank.count ≤ HEAD_LIMIT → IsAtEnd mid))
    (λ b. (is_skipped b ≡ false) × Consumes start mid (bytes ++ b ∷ []))) is found

-- none stands after them
none_taken : (start mid : Option (List ℕ)) (blank : Blank) (bytes : List ℕ) → blank.next ≡ None
    → MatchOption blank.next (Consumes start mid bytes × (blank.count ≤ HEAD_LIMIT → IsAtEnd mid))
    (λ b. (is_skipped b ≡ false) × Consumes start mid (bytes ++ b ∷ []))
    → Consumes start mid bytes × (blank.count ≤ HEAD_LIMIT → IsAtEnd mid)
none_taken start mid blank bytes is found =
    subst (λ o. MatchOption o (Consumes start mid bytes × (blank.count ≤ HEAD_LIMIT → IsAtEnd mid))
    (λ b. (is_skipped b ≡ false) × Consumes start mid (bytes ++ b ∷ []))) is found

pub blank-over : (start mid : Option (List ℕ)) (blank : Blank) → blank.next ≡ None → blank.count ≤ HEAD_LIMIT
    → TakesBlank start mid blank → IfSome start (λ text. front_of text ≡ over)
blank-over start mid blank is few (bytes, many, all, found) =
    let (took, ended) = none_taken start mid blank bytes is found in
    Consumes-whole start mid bytes (λ text. front_of text ≡ over) took (ended few) (front_of-over bytes (omega (arith, many, few)) all)

pub blank-too_long : (start mid : Option (List ℕ)) (blank : Blank) → blank.next ≡ None → HEAD_LIMIT < blank.count
    → TakesBlank start mid blank → IfSome start (λ text. front_of text ≡ no_head refusals.HeadTooLarge)
blank-too_long start mid blank is long (bytes, many, all, found) =
    let (took, ended) = none_taken start mid blank bytes is found in
    front-known start mid bytes (no_head refusals.HeadTooLarge) took (λ more. front_of-blank (bytes ++ more) bytes more refl all
    (omega (arith, many, long)) (omega (arith, many, long, length-append bytes more)))

pub blank-full : (start mid : Option (List ℕ)) (blank : Blank) (x : ℕ) → blank.next ≡ Some x → HEAD_LIMIT ≤ blank.count
    → TakesBlank start mid blank → IfSome start (λ text. front_of text ≡ no_head refusals.HeadTooLarge)
blank-full start mid blank x is full (bytes, many, all, found) =
    let (kept, took) = first_taken start mid blank bytes x is found in
    front-known start mid (bytes ++ x ∷ []) (no_head refusals.HeadTooLarge) took (λ more.
    front_of-blank ((bytes ++ x ∷ []) ++ more) bytes (x ∷ more) (append_assoc bytes (x ∷ []) more) all
    (omega (arith, many, full)) (omega (arith, many, full, length-append (bytes ++ x ∷ []) more, length-append bytes (x ∷ []))))

pub blank-short : (start mid : Option (List ℕ)) → LosesBlank start mid → IfSome start (λ text. TakesShort text mid)
blank-short start mid (bytes, few, all, took) =
    short-known start mid bytes took (subst IsShort (sym (front_of-over bytes few all)) tt)

-- the bytes of a head are in the buffer, and are few lines or not
head-taken : (few : Bool) (start new : Option (List ℕ)) (after taken whole : List ℕ) → length whole ≤ length after
    → take (length whole) after ≡ whole → Consumes start new taken
    → ((more : List ℕ) → front_of (taken ++ more) ≡ (if few then head whole more else no_head refusals.HeadTooLarge))
    → TakesFront start new after (if few then takens.Head (length whole) else takens.NoHead refusals.HeadTooLarge)
head-taken true start new after taken whole fits same took known =
    (fits, taken, took, λ more. known more ∙ ap (λ w. head w more) (sym same))
head-taken false start new after taken whole fits same took known = front-known start new taken (no_head refusals.HeadTooLarge) took known

pub head-found : (start mid new : Option (List ℕ)) (blank : Blank) (before after : List ℕ) (limit len x : ℕ) → blank.next ≡ Some x
    → blank.count + limit ≡ HEAD_LIMIT → take 1 before ≡ x ∷ [] → limit ≤ length after → TakesBlank start mid blank
    → TakesHead mid new before after limit (ends.Found len) → TakesFront start new after (taken_head (take len after))
head-found start mid new blank before after limit len x is room first wide
    (bytes, many, all, found) (taken, last, took, grown, within, none, ended) =
    let whole = take len after in
    let fits : len ≤ length after = omega (arith, wide, within) in
    let (kept, begun) = first_taken start mid blank bytes x is found in
    let size : length whole ≡ len = omega (arith, length-take len after, fits) in
    let whole_is : whole ≡ x ∷ (taken ++ last ∷ []) = grown ∙ ap (λ f. f ++ (taken ++ last ∷ [])) first in
    head-taken (has_few_lines whole) start new after ((bytes ++ x ∷ []) ++ (taken ++ last ∷ [])) whole (omega (arith, size, fits))
    (ap (λ n. take n after) size) (Consumes-trans start mid new (bytes ++ x ∷ []) (taken ++ last ∷ []) begun took)
    (λ more.
    front_of-whole bytes taken whole x last more kept all
    (omega (arith, many, room, size, within)) whole_is (subst (λ f. HasNoEnd f taken) first none) ended)

-- as many bytes as were taken
taken-size : (bytes taken : List ℕ) (x : ℕ) → length ((bytes ++ x ∷ []) ++ taken) ≡ length bytes + (length taken + 1)
taken-size bytes taken x = omega (arith, length-append (bytes ++ x ∷ []) taken, length-append bytes (x ∷ []))

pub head-cut : (start mid new : Option (List ℕ)) (blank : Blank) (before after : List ℕ) (limit x : ℕ) → blank.next ≡ Some x
    → blank.count + limit ≡ HEAD_LIMIT → take 1 before ≡ x ∷ [] → TakesBlank start mid blank
    → TakesHead mid new before after limit ends.Ended → IfSome start (λ text. front_of text ≡ no_head refusals.BadRequest)
head-cut start mid new blank before after limit x is room first (bytes, many, all, found) (taken, took, none, ended, few) =
    let (kept, begun) = first_taken start mid blank bytes x is found in
    Consumes-whole start new ((bytes ++ x ∷ []) ++ taken) (λ text. front_of text ≡ no_head refusals.BadRequest)
    (Consumes-trans start mid new (bytes ++ x ∷ []) taken begun took) ended
    (front_of-cut ((bytes ++ x ∷ []) ++ taken) bytes taken x kept all
    (subst (λ f. HasNoEnd f taken) first none) (append_assoc bytes (x ∷ []) taken)
    (omega (arith, taken-size bytes taken x, many, room, few)))

pub head-full : (start mid new : Option (List ℕ)) (blank : Blank) (before after : List ℕ) (limit x : ℕ) → blank.next ≡ Some x
    → blank.count + limit ≡ HEAD_LIMIT → take 1 before ≡ x ∷ [] → TakesBlank start mid blank
    → TakesHead mid new before after limit ends.Full → IfSome start (λ text. front_of text ≡ no_head refusals.HeadTooLarge)
head-full start mid new blank before after limit x is room first (bytes, many, all, found) (taken, took, none, full) =
    let (kept, begun) = first_taken start mid blank bytes x is found in
    front-known start new ((bytes ++ x ∷ []) ++ taken) (no_head refusals.HeadTooLarge)
    (Consumes-trans start mid new (bytes ++ x ∷ []) taken begun took)
    (λ more. front_of-full (((bytes ++ x ∷ []) ++ taken) ++ more) bytes taken more x kept all (subst (λ f. HasNoEnd f taken) first none)
    (append_assoc (bytes ++ x ∷ []) taken more ∙ append_assoc bytes (x ∷ []) (taken ++ more)) (omega (arith, many, room, full)))

pub head-short : (start mid new : Option (List ℕ)) (blank : Blank) (before : List ℕ) (limit x : ℕ) → blank.next ≡ Some x
    → blank.count + limit ≡ HEAD_LIMIT → take 1 before ≡ x ∷ [] → TakesBlank start mid blank
    → LosesHead mid new before limit → IfSome start (λ text. TakesShort text new)
head-short start mid new blank before limit x is room first (bytes, many, all, found) (taken, took, none, few) =
    let (kept, begun) = first_taken start mid blank bytes x is found in
    let cut = front_of-cut ((bytes ++ x ∷ []) ++ taken) bytes taken x kept all
    (subst (λ f. HasNoEnd f taken) first none) (append_assoc bytes (x ∷ []) taken)
    (omega (arith, taken-size bytes taken x, many, room, few)) in
    short-known start new ((bytes ++ x ∷ []) ++ taken)
    (Consumes-trans start mid new (bytes ++ x ∷ []) taken begun took) (subst IsShort (sym cut) refl)
