-- Where the head at the front of some bytes ends.
use Rattle.std.proofs.Common.{append-nil, length-append, ◌≡◌, ◌++◌, ◌∷◌, [], List, ℕ, true, false, Some, None, refl, sym, ◌∙◌, subst}
use Rattle.std.proofs.Common.{Bool, ◌&&◌, ◌+◌, ◌-◌, ◌≤◌, suc, cond, ap, arith, length, take, drop, take_all, ◌<◌, if◌then◌else◌}
use Rattle.std.proofs.lemmas.List.{append_assoc}
use Rattle.std.proofs.lemmas.List.{drop-append-le, drop_all, take-append-drop, take-append-le}
use Rattle.std.proofs.lemmas.List.Folds.{list_all-append}
use Rattle.std.proofs.Math.Seq.{take-append-add, drop-append-add, drop-append_seam}
use Rattle.std.specs.Cmp.Lexicographic.{pointwise}
use Rattle.std.specs.List.{list_all}
use Rattle.std.specs.Prelude.{nat_eq, nat_le, nat_lt, ◌||◌}
use Rattle.reg_refusals.specs.declared.refusal.Refusal.TheVariants as refusals
use Rattle.reg_messages.specs.declared.limits.TheConstants.{HEAD_LIMIT}
use Rattle.reg_messages.specs.HeadReading.{HasNoEnd}
use Rattle.reg_messages.specs.Head.{ends_in_empty_line, cut_after, cut_head, front_of}
use Rattle.reg_messages.specs.Head.{has_few_lines, head, no_head, over, is_skipped}
use Rattle.reg_messages.specs.Head.{skipped_len, within_limit}

pub and-false : (b : Bool) → (b && false) ≡ false
and-false true = refl
and-false false = refl

-- one byte more
pub HasNoEnd-more : (before bytes whole : List ℕ) (b : ℕ) → HasNoEnd before bytes → whole ≡ before ++ (bytes ++ b ∷ [])
    → ends_in_empty_line whole ≡ false → HasNoEnd before (bytes ++ b ∷ [])
HasNoEnd-more before [] whole b none is last = (subst (λ w. ends_in_empty_line w ≡ false) is last, tt)
HasNoEnd-more before (x ∷ bytes) whole b (unended, none) is last =
    (unended, HasNoEnd-more (before ++ x ∷ []) bytes whole b none (is ∙ sym (append_assoc before (x ∷ []) (bytes ++ b ∷ []))) last)

-- a byte that is no LF ends no line
kept-two : (ys : List ℕ) (b : ℕ) → nat_eq 10 b ≡ false → pointwise nat_eq (10 ∷ 10 ∷ []) (ys ++ b ∷ []) ≡ false
kept-two [] b kept = rw kept refl
kept-two (x ∷ []) b kept = rw kept (and-false (nat_eq 10 x))
kept-two (x ∷ y ∷ []) b kept = rw (and-false (nat_eq 10 y)) (and-false (nat_eq 10 x))
kept-two (x ∷ y ∷ z ∷ ys) b kept = rw (and-false (nat_eq 10 y)) (and-false (nat_eq 10 x))

kept-three : (ys : List ℕ) (b : ℕ) → nat_eq 10 b ≡ false → pointwise nat_eq (10 ∷ 13 ∷ 10 ∷ []) (ys ++ b ∷ []) ≡ false
kept-three [] b kept = rw kept refl
kept-three (x ∷ []) b kept = rw (and-false (nat_eq 13 b)) (and-false (nat_eq 10 x))
kept-three (x ∷ y ∷ ys) b kept = rw (and-tail ys b kept, and-false (nat_eq 13 y)) (and-false (nat_eq 10 x))
  where
    and-tail : (ys : List ℕ) (b : ℕ) → nat_eq 10 b ≡ false → pointwise nat_eq (10 ∷ []) (ys ++ b ∷ []) ≡ false
    and-tail [] b kept = rw kept refl
    and-tail (x ∷ []) b kept = and-false (nat_eq 10 x)
    and-tail (x ∷ y ∷ ys) b kept = and-false (nat_eq 10 x)

pub unended-by : (front : List ℕ) (b : ℕ) → nat_eq 10 b ≡ false → ends_in_empty_line (front ++ b ∷ []) ≡ false
unended-by front b kept =
    let text = front ++ b ∷ [] in
    let size : length text ≡ length front + 1 = length-append front (b ∷ []) in
    let two = drop-append-le (length text - 2) front (b ∷ []) (omega (arith, size)) in
    let three = drop-append-le (length text - 3) front (b ∷ []) (omega (arith, size)) in
    rw (two, three, kept-two (drop (length text - 2) front) b kept, kept-three (drop (length text - 3) front) b kept) refl

-- no head is found
pub cut_after-none : (before bytes : List ℕ) → HasNoEnd before bytes → cut_after before bytes ≡ None
cut_after-none before [] none = refl
cut_after-none before (b ∷ bytes) (unended, none) = rw unended (cut_after-none (before ++ b ∷ []) bytes none)

-- the head ends at the first byte that ends an empty line
pub cut_after-found : (before bytes whole rest : List ℕ) (b : ℕ) → HasNoEnd before bytes → whole ≡ before ++ (bytes ++ b ∷ [])
    → ends_in_empty_line whole ≡ true → cut_after before (bytes ++ b ∷ rest) ≡ Some (whole, rest)
cut_after-found before [] whole rest b none is ends =
    rw (sym is, ends) refl
cut_after-found before (x ∷ bytes) whole rest b (unended, none) is ends =
    rw unended (cut_after-found (before ++ x ∷ []) bytes whole rest b none (is ∙ sym (append_assoc before (x ∷ []) (bytes ++ b ∷ []))) ends)

-- one that isn't skipped stands after those that are
pub not_all : (blank rest : List ℕ) (x : ℕ) → is_skipped x ≡ false → list_all is_skipped (blank ++ x ∷ rest) ≡ false
not_all blank rest x kept = list_all-append is_skipped blank (x ∷ rest) ∙ rw kept (and-false (list_all is_skipped blank))

pub one_skipped : (s r : Bool) (n m : ℕ) → (s && r) ≡ true → (r ≡ true → n ≡ m) → cond s (1 + n) 0 ≡ suc m
one_skipped true r n m all same = let e = same all in omega (arith, e)
one_skipped false r n m all same = absurd (cc)

-- as many are skipped as stand before
skipped_len-blank : (blank rest : List ℕ) (x : ℕ) → list_all is_skipped blank ≡ true
    → is_skipped x ≡ false → skipped_len (blank ++ x ∷ rest) ≡ length blank
skipped_len-blank [] rest x all kept = rw kept refl
skipped_len-blank (b ∷ blank) rest x all kept = one_skipped _ _ _ _ all (λ e. skipped_len-blank blank rest x e kept)

-- what is taken and dropped of three parts, of which the first two are within
take-parts : (blank whole rest : List ℕ) (n m : ℕ) → n ≡ length blank + (length whole + m)
    → take n (blank ++ (whole ++ rest)) ≡ blank ++ (whole ++ take m rest)
take-parts blank whole rest n m e =
    ap (λ k. take k (blank ++ (whole ++ rest))) e
    ∙ take-append-add blank (whole ++ rest) (length whole + m)
    ∙ ap (λ more. blank ++ more) (take-append-add whole rest m)

drop-parts : (blank whole rest : List ℕ) (n m : ℕ) → n ≡ length blank + (length whole + m) → drop n (blank ++ (whole ++ rest)) ≡ drop m rest
drop-parts blank whole rest n m e =
    ap (λ k. drop k (blank ++ (whole ++ rest))) e
    ∙ drop-append-add blank (whole ++ rest) (length whole + m)
    ∙ drop-append-add whole rest m

-- a head that was read within the limit is what stands at the front
pub front_of-found : (text blank whole rest : List ℕ) (x : ℕ) (xs : List ℕ)
    → whole ≡ x ∷ xs → is_skipped x ≡ false → list_all is_skipped blank ≡ true
    → length blank + length whole ≤ HEAD_LIMIT → text ≡ blank ++ (whole ++ rest)
    → ((more : List ℕ) → cut_head (whole ++ more) ≡ Some (whole, more))
    → front_of text ≡ (if has_few_lines whole then head whole rest else no_head refusals.HeadTooLarge)
unfolding front_of
front_of-found text blank whole rest x xs starts kept all fits is cut =
    let m = HEAD_LIMIT - (length blank + length whole) in
    let parts : HEAD_LIMIT ≡ length blank + (length whole + m) = omega (arith, fits) in
    let not_over : list_all is_skipped text ≡ false =
    ap (λ t. list_all is_skipped t) (is ∙ ap (λ w. blank ++ (w ++ rest)) starts) ∙ not_all blank (xs ++ rest) x kept in
    let window : within_limit text ≡ blank ++ (whole ++ take m rest) =
    ap (λ t. take HEAD_LIMIT t) is ∙ take-parts blank whole rest HEAD_LIMIT m parts in
    let skips : skipped_len (within_limit text) ≡ length blank =
    ap skipped_len (window ∙ ap (λ w. blank ++ (w ++ take m rest)) starts) ∙ skipped_len-blank blank (xs ++ take m rest) x all kept in
    let left : drop (skipped_len (within_limit text)) (within_limit text) ≡ whole ++ take m rest =
    ap (λ n. drop n (within_limit text)) skips ∙ ap (λ t. drop (length blank) t) window ∙ drop-append_seam blank (whole ++ take m rest) in
    let after : take m rest ++ drop HEAD_LIMIT text ≡ rest =
    ap (λ t. take m rest ++ t) (ap (λ t. drop HEAD_LIMIT t) is ∙ drop-parts blank whole rest HEAD_LIMIT m parts)
    ∙ take-append-drop m rest in
    rw (not_over, left, cut (take m rest), after) refl

-- bytes without an empty line, fewer than a head may have, are a head that was cut
pub front_of-cut : (text blank taken : List ℕ) (x : ℕ) → is_skipped x ≡ false → list_all is_skipped blank ≡ true
    → HasNoEnd (x ∷ []) taken → text ≡ blank ++ x ∷ taken → length text < HEAD_LIMIT → front_of text ≡ no_head refusals.BadRequest
unfolding front_of
front_of-cut text blank taken x kept all none is few =
    let not_over : list_all is_skipped text ≡ false = ap (λ t. list_all is_skipped t) is ∙ not_all blank taken x kept in
    let window : within_limit text ≡ text = take_all HEAD_LIMIT text (omega (arith, few)) in
    let skips : skipped_len (within_limit text) ≡ length blank = ap skipped_len (window ∙ is) ∙ skipped_len-blank blank taken x all kept in
    let left : drop (skipped_len (within_limit text)) (within_limit text) ≡ x ∷ taken =
    ap (λ n. drop n (within_limit text)) skips ∙ ap (λ t. drop (length blank) t) (window ∙ is) ∙ drop-append_seam blank (x ∷ taken) in
    let unended : ends_in_empty_line (x ∷ []) ≡ false = ap (λ b. b || b) (and-false (nat_eq 10 x)) in
    let cut : cut_head (x ∷ taken) ≡ None = cut_after-none [] (x ∷ taken) (unended, none) in
    let less : nat_lt (length text) HEAD_LIMIT ≡ true = grind (arith, few) in
    rw (not_over, left, cut, less) refl

and-left : (s r : Bool) → (s && r) ≡ true → s ≡ true
and-left true r both = refl
and-left false r both = absurd (cc)

le-false : (n m : ℕ) → m < n → nat_le n m ≡ false
le-false n m less = grind (arith, less)

lt-false : (n m : ℕ) → m ≤ n → nat_lt n m ≡ false
lt-false n m less = grind (arith, less)

-- bytes that are all skipped
skipped_len-all : (bytes : List ℕ) → list_all is_skipped bytes ≡ true → skipped_len bytes ≡ length bytes
skipped_len-all [] all = refl
skipped_len-all (b ∷ bytes) all = one_skipped _ _ _ _ all (λ e. skipped_len-all bytes e)

-- a front of them is skipped too
all_skipped-take : (n : ℕ) (bytes : List ℕ) → list_all is_skipped bytes ≡ true → list_all is_skipped (take n bytes) ≡ true
all_skipped-take n bytes all =
    and-left _ _ (
    sym (list_all-append is_skipped (take n bytes) (drop n bytes)) ∙ ap (λ t. list_all is_skipped t) (take-append-drop n bytes) ∙ all)

-- skipped bytes alone, no more than a head may have, are no request
pub front_of-over : (bytes : List ℕ) → length bytes ≤ HEAD_LIMIT → list_all is_skipped bytes ≡ true → front_of bytes ≡ over
unfolding front_of
front_of-over bytes few all =
    let fits : nat_le (length bytes) HEAD_LIMIT ≡ true = grind (arith, few) in
    rw (all, fits) refl

-- as many skipped bytes as a head may have, and more, are a head that is too large
pub front_of-blank : (text blank rest : List ℕ) → text ≡ blank ++ rest → list_all is_skipped blank ≡ true
    → HEAD_LIMIT ≤ length blank → HEAD_LIMIT < length text → front_of text ≡ no_head refusals.HeadTooLarge
unfolding front_of
front_of-blank text blank rest is all many long =
    let too_long : nat_le (length text) HEAD_LIMIT ≡ false = le-false (length text) HEAD_LIMIT long in
    let not_over : (list_all is_skipped text && nat_le (length text) HEAD_LIMIT) ≡ false =
    rw too_long (and-false (list_all is_skipped text)) in
    let window : within_limit text ≡ take HEAD_LIMIT blank = ap (λ t. take HEAD_LIMIT t) is ∙ take-append-le HEAD_LIMIT blank rest many in
    let skips : skipped_len (within_limit text) ≡ length (take HEAD_LIMIT blank) =
    ap skipped_len window ∙ skipped_len-all (take HEAD_LIMIT blank) (all_skipped-take HEAD_LIMIT blank all) in
    let left : drop (skipped_len (within_limit text)) (within_limit text) ≡ [] =
    ap (λ n. drop n (within_limit text)) skips ∙ ap (λ t. drop (length (take HEAD_LIMIT blank)) t) window
    ∙ drop_all (length (take HEAD_LIMIT blank)) (take HEAD_LIMIT blank) (omega arith) in
    let less : nat_lt (length text) HEAD_LIMIT ≡ false = lt-false (length text) HEAD_LIMIT (omega (arith, long)) in
    rw (not_over, left, less) refl

-- bytes without an empty line, as many as a head may have, are a head that is too large
pub front_of-full : (text blank taken rest : List ℕ) (x : ℕ) → is_skipped x ≡ false → list_all is_skipped blank ≡ true
    → HasNoEnd (x ∷ []) taken → text ≡ blank ++ (x ∷ (taken ++ rest)) → length blank + suc (length taken) ≡ HEAD_LIMIT
    → front_of text ≡ no_head refusals.HeadTooLarge
unfolding front_of
front_of-full text blank taken rest x kept all none is many =
    let not_over : list_all is_skipped text ≡ false = ap (λ t. list_all is_skipped t) is ∙ not_all blank (taken ++ rest) x kept in
    let window : within_limit text ≡ blank ++ x ∷ taken =
    ap (λ t. take HEAD_LIMIT t) is
    ∙ take-parts blank (x ∷ taken) rest HEAD_LIMIT 0 (omega (arith, many))
    ∙ ap (λ t. blank ++ t) (append-nil (x ∷ taken)) in
    let skips : skipped_len (within_limit text) ≡ length blank = ap skipped_len window ∙ skipped_len-blank blank taken x all kept in
    let left : drop (skipped_len (within_limit text)) (within_limit text) ≡ x ∷ taken =
    ap (λ n. drop n (within_limit text)) skips ∙ ap (λ t. drop (length blank) t) window ∙ drop-append_seam blank (x ∷ taken) in
    let unended : ends_in_empty_line (x ∷ []) ≡ false = ap (λ b. b || b) (and-false (nat_eq 10 x)) in
    let cut : cut_head (x ∷ taken) ≡ None = cut_after-none [] (x ∷ taken) (unended, none) in
    let size : length text ≡ length blank + suc (length taken + length rest) =
    ap length is ∙ length-append blank (x ∷ (taken ++ rest)) ∙ ap (λ n. length blank + suc n) (length-append taken rest) in
    let less : nat_lt (length text) HEAD_LIMIT ≡ false = lt-false (length text) HEAD_LIMIT (omega (arith, size, many)) in
    rw (not_over, left, cut, less) refl

-- a head that was read whole, whatever stands after it
pub front_of-whole : (blank taken whole : List ℕ) (x last : ℕ) (more : List ℕ) → is_skipped x ≡ false → list_all is_skipped blank ≡ true
    → length blank + length whole ≤ HEAD_LIMIT → whole ≡ x ∷ (taken ++ last ∷ [])
    → HasNoEnd (x ∷ []) taken → ends_in_empty_line whole ≡ true
    → front_of (((blank ++ x ∷ []) ++ (taken ++ last ∷ [])) ++ more)
    ≡ (if has_few_lines whole then head whole more else no_head refusals.HeadTooLarge)
front_of-whole blank taken whole x last more kept all fits is none ends =
    let rest = taken ++ last ∷ [] in
    let unended : ends_in_empty_line (x ∷ []) ≡ false = ap (λ b. b || b) (and-false (nat_eq 10 x)) in
    let text_is : ((blank ++ x ∷ []) ++ rest) ++ more ≡ blank ++ (whole ++ more) =
    append_assoc (blank ++ x ∷ []) rest more
    ∙ append_assoc blank (x ∷ []) (rest ++ more)
    ∙ ap (λ w. blank ++ w) (sym (ap (λ w. w ++ more) is)) in
    let cut = λ (after : List ℕ). ap (λ w. cut_head (w ++ after)) is ∙ ap (λ w. cut_head (x ∷ w)) (append_assoc taken (last ∷ []) after)
    ∙ cut_after-found [] (x ∷ taken) whole after last (unended, none) is ends in
    front_of-found (((blank ++ x ∷ []) ++ rest) ++ more) blank whole more x rest is kept all fits text_is cut
