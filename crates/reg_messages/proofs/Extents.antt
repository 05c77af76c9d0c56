-- What stands at the front of a text, where the first empty line and the end of the body are found, and where they aren't.
use Rattle.std.proofs.Common.{◌≡◌, ◌<◌, ◌≤◌, ◌+◌, ◌-◌, ◌++◌, ◌∷◌, [], List, ℕ, Bool, true, false, suc, if◌then◌else◌, ◌⊎◌, Some, None}
use Rattle.std.proofs.Common.{refl, sym, ap, subst, ◌∙◌, inl, inr, arith, length, length-append, take, drop, get_or, append-nil, zero}
use Rattle.std.specs.Prelude.{Result, Ok, Err, Option, IfSome, not, nat_lt, codes}
use Rattle.std.specs.Str.Parse.{digits_value}
use Rattle.std.proofs.lemmas.List.{append_assoc, take-append-drop, length-take-le}
use Rattle.std.proofs.Math.Seq.{drop-append_seam, take-suc, take-append-add}
use Rattle.std.specs.List.{list_all}
use Rattle.httparse.specs.Grammar.{RequestHead}
use Rattle.reg_refusals.specs.declared.refusal.Refusal.{Refusal}
use Rattle.reg_refusals.specs.declared.refusal.Refusal.TheVariants as refusals
use Rattle.reg_messages.specs.Fields.{body_length, is_length, length_of, told_length, values_of}
use Rattle.reg_messages.specs.FrontRead.{IsFrontOf, IsReadOf}
use Rattle.reg_messages.specs.declared.field.HeaderField.{HeaderField}
use Rattle.reg_messages.specs.declared.front.FrontRead.{FrontRead}
use Rattle.reg_messages.specs.declared.head_read.HeadRead.{HeadRead}
use Rattle.reg_messages.specs.Head.{Front, ends_in_empty_line, cut_head, front_of, has_few_lines, head, no_head, over, is_skipped, IsHead}
use Rattle.reg_messages.specs.HeadReading.{HasNoEnd}
use Rattle.reg_messages.specs.Messages.{fields_of}
use Rattle.reg_messages.specs.Reading.{IsShort}
use Rattle.reg_messages.specs.declared.limits.TheConstants.{BODY_LIMIT, HEAD_LIMIT}
use Rattle.reg_messages.proofs.Heads.{cut_after-found, front_of-blank, front_of-cut, front_of-found, front_of-full, front_of-over}
use Rattle.reg_messages.specs.Extent.{BeginsKept, EndsAt, EndsFirst, IsWhole, LacksHead, TakesInAll}

-- a head that ends in the first empty line stands at the front, whatever comes after it
front-found : (blank rest more : List ℕ) (n m : ℕ) → n ≡ suc m → list_all is_skipped blank ≡ true → BeginsKept rest
    → HasNoEnd [] (take m rest) → ends_in_empty_line (take n rest) ≡ true → n ≤ length rest → length blank + n ≤ HEAD_LIMIT
    → front_of (blank ++ (take n rest ++ more))
    ≡ (if has_few_lines (take n rest) then head (take n rest) more else no_head refusals.HeadTooLarge)
front-found blank [] more n m is all kept none ends few fits = absurd (omega (arith, is, few))
front-found blank (x ∷ xs) more n m is all kept none ends few fits =
    let whole = take n (x ∷ xs) in
    let last = get_or (x ∷ xs) m 0 in
    let starts : whole ≡ x ∷ take m xs = ap (λ k. take k (x ∷ xs)) is in
    let split : whole ≡ take m (x ∷ xs) ++ last ∷ [] = ap (λ k. take k (x ∷ xs)) is ∙ take-suc (x ∷ xs) m 0 (omega (arith, is, few)) in
    let size : length whole ≡ n = length-take-le n (x ∷ xs) few in
    let cut = λ (after : List ℕ). ap (λ w. cut_head (w ++ after)) split ∙ ap cut_head (append_assoc (take m (x ∷ xs)) (last ∷ []) after)
    ∙ cut_after-found [] (take m (x ∷ xs)) whole after last none split ends in
    front_of-found (blank ++ (whole ++ more)) blank whole more x (take m xs) starts kept all (omega (arith, size, fits)) refl cut

-- the text and its first bytes, in parts
parts : (text : List ℕ) (l b : ℕ) → text ≡ take b (take l text) ++ (drop b (take l text) ++ drop l text)
parts text l b =
    sym (take-append-drop l text) ∙ ap (λ w. w ++ drop l text) (sym (take-append-drop b (take l text)))
    ∙ append_assoc (take b (take l text)) (drop b (take l text)) (drop l text)

module _ (text blank rest tail : List ℕ) (n : ℕ) (is : text ≡ blank ++ (rest ++ tail)) (all : list_all is_skipped blank ≡ true)
    (kept : BeginsKept rest) (ends : EndsFirst rest n) (few : n ≤ length rest) (fits : length blank + n ≤ HEAD_LIMIT) where
  -- the text from the head on
  onwards : text ≡ blank ++ (take n rest ++ (drop n rest ++ tail))
  onwards = is ∙ ap (λ w. blank ++ w) (ap (λ w. w ++ tail) (sym (take-append-drop n rest)) ∙ append_assoc (take n rest) (drop n rest) tail)

  found : (more : List ℕ)
      → front_of (blank ++ (take n rest ++ more))
      ≡ (if has_few_lines (take n rest) then head (take n rest) more else no_head refusals.HeadTooLarge)
  found more = front-found blank rest more n (n - 1) (omega (arith, ends.0)) all kept ends.1 ends.2 few fits

  -- the head and so many bytes after it
  front-is : (k : ℕ) → take (length blank + n + k) text ≡ blank ++ (take n rest ++ take k (drop n rest ++ tail))
  front-is k =
      let size : length (take n rest) ≡ n = length-take-le n rest few in
      ap (λ t. take (length blank + n + k) t) onwards
      ∙ ap (λ m. take m (blank ++ (take n rest ++ (drop n rest ++ tail)))) (omega (arith, size))
      ∙ take-append-add blank (take n rest ++ (drop n rest ++ tail)) (length (take n rest) + k)
      ∙ ap (λ w. blank ++ w) (take-append-add (take n rest) (drop n rest ++ tail) k)

  -- the bytes up to the end of the head
  taken-is : take (length blank + n) text ≡ blank ++ take n rest
  taken-is = subst (λ k. take k text ≡ blank ++ take n rest) (omega arith) (front-is 0 ∙ ap (λ w. blank ++ w) (append-nil (take n rest)))

  -- and what stands at their front, whatever comes after them
  taken-front : (more : List ℕ)
      → front_of (take (length blank + n) text ++ more)
      ≡ (if has_few_lines (take n rest) then head (take n rest) more else no_head refusals.HeadTooLarge)
  taken-front more = ap (λ t. front_of (t ++ more)) taken-is ∙ ap front_of (append_assoc blank (take n rest) more) ∙ found more

  -- how many bytes stand after the head
  pub size-after : length (drop n rest ++ tail) + (length blank + n) ≡ length text
  size-after =
      let size : length (take n rest) ≡ n = length-take-le n rest few in
      let whole : length text ≡ length blank + (length (take n rest) + length (drop n rest ++ tail)) =
      ap length onwards
      ∙ length-append blank (take n rest ++ (drop n rest ++ tail))
      ∙ ap (λ k. length blank + k) (length-append (take n rest) (drop n rest ++ tail)) in
      omega (arith, whole, size)

  -- what was read of a head that has few lines
  pub reads-head : (len : ℕ) (r : Result HeadRead Refusal) → has_few_lines (take n rest) ≡ true → length blank + n ≤ len
      → IsReadOf (take n rest) r → IsFrontOf text (record { start = length blank; end = length blank + n; len = len; read = record { read = r } })
  reads-head len (Ok read) lines more is =
      let size : length (take n rest) ≡ n = length-take-le n rest few in
      let bytes_are : drop (length blank) (take (length blank + n) text) ≡ take n rest =
      ap (λ t. drop (length blank) t) taken-is ∙ drop-append_seam blank (take n rest) in (
        more,
        omega (arith, size-after),
        (
          omega (arith, ap length taken-is, length-append blank (take n rest), size),
          λ after.
              taken-front after ∙ ap (λ f. if f then head (take n rest) after else no_head refusals.HeadTooLarge) lines
              ∙ ap (λ b. head b after) (sym bytes_are),
          subst (λ b. IsReadOf b (Ok read)) (sym bytes_are) is,
        ),
      )
  reads-head len (Err refusal) lines more is = (
    more,
    omega (arith, size-after),
    λ after.
        inr (
          take n rest,
          after,
          taken-front after ∙ ap (λ f. if f then head (take n rest) after else no_head refusals.HeadTooLarge) lines,
          is,
        ),
  )

  -- too many lines are refused
  pub reads-lines : has_few_lines (take n rest) ≡ false
      → IsFrontOf text (record {
        start = 0;
        end = length blank + n;
        len = length blank + n;
        read = record { read = Err refusals.HeadTooLarge };
      })
  reads-lines many = (
    omega arith,
    omega (arith, size-after),
    λ after.
        inl (taken-front after ∙ ap (λ f. if f then head (take n rest) after else no_head refusals.HeadTooLarge) many),
  )

  -- too many lines are no head
  whole-lines : has_few_lines (take n rest) ≡ false → IsWhole (take (length blank + n + 0) text)
  whole-lines many = inl (
    refusals.HeadTooLarge,
    λ more.
        ap (λ t. front_of (t ++ more)) (front-is 0 ∙ ap (λ w. blank ++ w) (append-nil (take n rest)))
        ∙ ap front_of (append_assoc blank (take n rest) more) ∙ found more
        ∙ ap (λ f. if f then head (take n rest) more else no_head refusals.HeadTooLarge) many,
  )

  pub ends-lines : has_few_lines (take n rest) ≡ false → EndsAt text (length blank + n)
  ends-lines many = (
    λ _. subst (λ k. IsWhole (take k text)) (omega arith) (whole-lines many),
    λ less. absurd (omega (arith, less, size-after)),
  )

  -- a head and as many bytes as its body has
  whole-body : (k : ℕ) → has_few_lines (take n rest) ≡ true → ((h : RequestHead) → IsHead (take n rest) h → k ≡ body_length (fields_of h))
      → length blank + n + k ≤ length text → IsWhole (take (length blank + n + k) text)
  whole-body k lines told room =
      let after = take k (drop n rest ++ tail) in
      let enough : k ≤ length (drop n rest ++ tail) = omega (arith, size-after, room) in
      inr (
        take n rest,
        after,
        λ more.
            ap (λ t. front_of (t ++ more)) (front-is k)
            ∙ ap front_of (append_assoc blank (take n rest ++ after) more ∙ ap (λ w. blank ++ w) (append_assoc (take n rest) after more))
            ∙ found (after ++ more)
            ∙ ap (λ f. if f then head (take n rest) (after ++ more) else no_head refusals.HeadTooLarge) lines,
        λ h is_head. length-take-le k (drop n rest ++ tail) enough ∙ told h is_head,
      )

  -- a head and fewer bytes than its body has
  short-body : (k : ℕ) → has_few_lines (take n rest) ≡ true → (h : RequestHead) → IsHead (take n rest) h → k ≡ body_length (fields_of h)
      → length text < length blank + n + k → IsShort (front_of text)
  short-body k lines h is_head told less =
      subst IsShort (sym (ap front_of onwards ∙ found (drop n rest ++ tail)
      ∙ ap (λ f. if f then head (take n rest) (drop n rest ++ tail) else no_head refusals.HeadTooLarge) lines))
      (h, is_head, omega (arith, size-after, less, told))

  pub ends-body : (k : ℕ) → has_few_lines (take n rest) ≡ true
      → ((h : RequestHead) → IsHead (take n rest) h → k ≡ body_length (fields_of h))
      → (0 < k → (h : RequestHead) × IsHead (take n rest) h × (k ≡ body_length (fields_of h))) → EndsAt text (length blank + n + k)
  ends-body k lines told some = (
    λ room. whole-body k lines told room,
    λ less. let (h, is_head, is_told) = some (omega (arith, less, size-after)) in short-body k lines h is_head is_told less,
  )

-- no empty line among fewer bytes than a head may have
lacks-none : (blank rest : List ℕ) → list_all is_skipped blank ≡ true → BeginsKept rest → HasNoEnd [] rest
    → length (blank ++ rest) < HEAD_LIMIT → LacksHead (front_of (blank ++ rest))
lacks-none blank [] all kept none few =
    let same = append-nil blank in
    subst (λ t. LacksHead (front_of t)) (sym same) (subst LacksHead (sym (front_of-over blank (omega (arith, ap length same, few)) all)) tt)
lacks-none blank (x ∷ xs) all kept none few =
    subst LacksHead (sym (front_of-cut (blank ++ x ∷ xs) blank xs x kept all none.1 refl few)) refl

-- the same of a text that ends with them, or of skipped bytes alone, as many as a head may have
pub lacks-ended : (text blank rest tail : List ℕ) → text ≡ blank ++ (rest ++ tail)
    → list_all is_skipped blank ≡ true → BeginsKept rest → HasNoEnd [] rest
    → length text ≡ length blank + length rest → length text ≤ HEAD_LIMIT
    → (0 < length rest → length text < HEAD_LIMIT) → LacksHead (front_of text)
lacks-ended text blank [] [] is all kept none size few fewer =
    let same : text ≡ blank = is ∙ append-nil blank in
    subst (λ t. LacksHead (front_of t)) (sym same) (subst LacksHead (sym (front_of-over blank (omega (arith, ap length same, few)) all)) tt)
lacks-ended text blank (x ∷ xs) [] is all kept none size few fewer =
    let same : text ≡ blank ++ x ∷ xs = is ∙ ap (λ r. blank ++ r) (append-nil (x ∷ xs)) in
    subst (λ t. LacksHead (front_of t)) (sym same)
    (lacks-none blank (x ∷ xs) all kept none (omega (arith, ap length same, fewer (omega arith))))
lacks-ended text blank rest (t ∷ tail) is all kept none size few fewer =
    absurd (omega (arith, ap length is, length-append blank (rest ++ t ∷ tail), length-append rest (t ∷ tail), size))

-- no empty line among as many bytes as a head may have, and not only skipped bytes, or more than so many
never-none : (text blank rest tail : List ℕ) → text ≡ blank ++ (rest ++ tail) → list_all is_skipped blank ≡ true → BeginsKept rest
    → HasNoEnd [] rest → length blank + length rest ≡ HEAD_LIMIT → (length rest ≡ 0 → HEAD_LIMIT < length text)
    → (more : List ℕ) → front_of (text ++ more) ≡ no_head refusals.HeadTooLarge
never-none text blank [] tail is all kept none full long more =
    front_of-blank (text ++ more) blank (tail ++ more) (ap (λ t. t ++ more) is ∙ append_assoc blank tail more) all
    (omega (arith, full)) (omega (arith, long refl, length-append text more))
never-none text blank (x ∷ xs) tail is all kept none full long more =
    front_of-full (text ++ more) blank xs (tail ++ more) x kept all none.1
    (ap (λ t. t ++ more) is ∙ append_assoc blank (x ∷ (xs ++ tail)) more ∙ ap (λ w. blank ++ (x ∷ w)) (append_assoc xs tail more))
    (omega (arith, full))

-- the first bytes of a text, those of two parts and more
take-more : (blank rest tail : List ℕ) (k : ℕ)
    → take (length blank + (length rest + k)) (blank ++ (rest ++ tail)) ≡ blank ++ (rest ++ take k tail)
take-more blank rest tail k =
    take-append-add blank (rest ++ tail) (length rest + k) ∙ ap (λ w. blank ++ w) (take-append-add rest tail k)

-- none or some
pub least : (m : ℕ) → (m ≡ 0) ⊎ (0 < m)
least zero = inl refl
least (suc m) = inr (omega arith)

module _ (text blank rest tail : List ℕ) (n : ℕ) (is : text ≡ blank ++ (rest ++ tail)) (all : list_all is_skipped blank ≡ true)
    (kept : BeginsKept rest) (none : HasNoEnd [] rest) (full : length blank + length rest ≡ HEAD_LIMIT)
    (only : length rest ≡ 0 → n ≡ HEAD_LIMIT + 1) (begun : 0 < length rest → n ≡ HEAD_LIMIT) (room : n ≤ length text) where
  -- so many bytes are refused, whatever comes after them
  refused-none : (more : List ℕ) → front_of (take n text ++ more) ≡ no_head refusals.HeadTooLarge
  refused-none more =
      let k = n - HEAD_LIMIT in
      let parts : n ≡ length blank + (length rest + k) = elim (least (length rest)) [
        | inl nothing ↦ omega (arith, only nothing, full)
        | inr some ↦ omega (arith, begun some, full)
      ] in
      let front : take n text ≡ blank ++ (rest ++ take k tail) =
      ap (λ m. take m text) parts ∙ ap (λ t. take (length blank + (length rest + k)) t) is ∙ take-more blank rest tail k in
      let size : length (take n text) ≡ n = length-take-le n text room in
      never-none (take n text) blank rest (take k tail) front all kept none full (λ nothing. omega (arith, only nothing, size)) more

  pub ends-none : EndsAt text n
  ends-none = (λ _. inl (refusals.HeadTooLarge, refused-none), λ less. absurd (omega (arith, less, room)))

  pub reads-none : IsFrontOf text (record { start = 0; end = n; len = n; read = record { read = Err refusals.HeadTooLarge } })
  reads-none = (omega arith, room, λ more. inl (refused-none more))

-- what a text says of the message at its front, where nothing came after it yet
pub takes-now : (part : List ℕ) (n : ℕ) → TakesInAll part n → EndsAt part n
takes-now part n takes = subst (λ t. EndsAt t n) (append-nil part) (takes [])

-- a head that isn't there is short
pub lacks-short : (f : Front) → LacksHead f → IsShort f
lacks-short over lacks = tt
lacks-short (no_head refusal) lacks = lacks
lacks-short (head bytes after) lacks = absurd lacks

-- a body has no more bytes than the limit
one-limit : (a b : Bool) (d n : ℕ) → (b ≡ false → d ≤ BODY_LIMIT)
    → ◌≡◌ {A = Result (Option ℕ) Refusal}
    (if not a then Err refusals.BadRequest else (if b then Err refusals.PayloadTooLarge else Ok (Some d))) (Ok (Some n))
    → n ≤ BODY_LIMIT
one-limit false b d n within is = absurd (cc)
one-limit true true d n within is = absurd (cc)
one-limit true false d n within is = let same : d ≡ n = cc in omega (arith, same, within refl)

length_of-limit : (values : List (List ℕ)) (n : ℕ) → length_of values ≡ Ok (Some n) → n ≤ BODY_LIMIT
length_of-limit [] n is = absurd (cc)
length_of-limit (value ∷ []) n is =
    one-limit (is_length value) (nat_lt BODY_LIMIT (digits_value 10 value)) (digits_value 10 value) n (λ e. grind (arith, e)) is
length_of-limit (value ∷ other ∷ more) n is = absurd (cc)

told-limit : (t : Bool) (values : List (List ℕ)) (n : ℕ)
    → ◌≡◌ {A = Result (Option ℕ) Refusal} (if t then Err refusals.LengthRequired else length_of values) (Ok (Some n)) → n ≤ BODY_LIMIT
told-limit true values n is = absurd (cc)
told-limit false values n is = length_of-limit values n is

body_length-of : (fields : List HeaderField) (r : Result (Option ℕ) Refusal) → told_length fields ≡ r → body_length fields ≤ BODY_LIMIT
body_length-of fields (Ok (Some n)) is =
    rw is (told-limit (nat_lt 0 (length (values_of (codes "transfer-encoding") fields))) (values_of (codes "content-length") fields) n is)
body_length-of fields (Ok None) is = rw is (omega arith)
body_length-of fields (Err refusal) is = rw is (omega arith)

pub body_length-limit : (fields : List HeaderField) → body_length fields ≤ BODY_LIMIT
body_length-limit fields = body_length-of fields (told_length fields) refl

-- the text in the parts that were made of it
pub in-window : (text window blank rest : List ℕ) (l b : ℕ) → window ≡ take l text → blank ≡ take b window → rest ≡ drop b window
    → text ≡ blank ++ (rest ++ drop l text)
in-window text window blank rest l b is front back = rw (front, back, is) (parts text l b)

-- the same, whatever comes after it
pub in-parts : (text window blank rest : List ℕ) (l b : ℕ) → window ≡ take l text → blank ≡ take b window → rest ≡ drop b window
    → (more : List ℕ) → text ++ more ≡ blank ++ (rest ++ (drop l text ++ more))
in-parts text window blank rest l b is front back more =
    ap (λ t. t ++ more) (in-window text window blank rest l b is front back) ∙ append_assoc blank (rest ++ drop l text) more ∙ ap (λ t. blank ++ t) (append_assoc rest (drop l text) more)

-- how many bytes a message takes, if that is known
pub takes-all : (known : Option FrontRead) (part : List ℕ)
    → ((more : List ℕ) → IfSome known (λ front. EndsAt (part ++ more) front.len)) → IfSome known (λ front. TakesInAll part front.len)
takes-all None part ends = tt
takes-all (Some front) part ends = ends
