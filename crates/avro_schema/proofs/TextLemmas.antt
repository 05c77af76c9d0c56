-- Texts, their last dot, and lists of distinct texts.
use Rattle.std.proofs.Common.{◌≡◌, ◌≢◌, ℕ, zero, suc, ◌+◌, ◌-◌, ◌≤◌, ◌<◌, List, [], ◌∷◌, ◌++◌, length, get_or, take, drop, Bool}
use Rattle.std.proofs.Common.{true, false, ◌&&◌, ◌||◌, not, Some, None, bytes_eq, refl, sym, ◌∙◌, ap, arith, length-drop}
use Rattle.std.specs.List.{list_any, before_last, after_last, suffix_len}
use Rattle.std.specs.Str.Pattern.{RFindsChar}
use Rattle.std.proofs.lemmas.Bool.{false_from_ne_true, false≢true}
use Rattle.std.proofs.lemmas.Bool.Decides.{nat_tests}
use Rattle.std.proofs.lemmas.List.{get_or-drop}
use Rattle.std.proofs.lemmas.List.Sums.{suffix_len_is}
use Rattle.std.proofs.lemmas.List.Folds.{list_any-append}
use Rattle.std.proofs.lemmas.Slice.Eq.{bytes_eq-Decides}
use Rattle.std.proofs.lemmas.Str.Pattern.{NoCharPasses-char}
use Rattle.avro_schema.specs.Names.{is_dot, has_dot, all_distinct}

pub other_text : (w s : List ℕ) → (s ≡ w → ⊥) → bytes_eq w s ≡ false
other_text w s apart = false_from_ne_true (bytes_eq w s) (λ t. apart (sym ((bytes_eq-Decides w s).0 t)))

pub either_way : (a b : Bool) → (a ≡ true → b ≡ true) → (b ≡ true → a ≡ true) → a ≡ b
either_way true b p q = sym (p refl)
either_way false true p q = q refl
either_way false false p q = refl

pub bytes_eq-sym : (s t : List ℕ) → bytes_eq s t ≡ bytes_eq t s
bytes_eq-sym s t =
    either_way _ _ (λ h. (bytes_eq-Decides t s).1 (sym ((bytes_eq-Decides s t).0 h)))
    (λ h. (bytes_eq-Decides s t).1 (sym ((bytes_eq-Decides t s).0 h)))

-- ---- the last dot

not_dot : (b : ℕ) → b ≢ 46 → not (is_dot b) ≡ true
not_dot b ne = grind (arith, nat_tests)

is_a_dot : (b : ℕ) → b ≡ 46 → not (is_dot b) ≡ false
is_a_dot b e = rw e

pub no_dots : (s : List ℕ) → ((i : ℕ) → i < length s → get_or s i 0 ≢ 46) → has_dot s ≡ false
no_dots [] h = refl
no_dots (x ∷ s) h =
    let ne : x ≢ 46 = h 0 (omega arith) in
    let first : is_dot x ≡ false = grind (arith, nat_tests) in
    rw first (no_dots s (λ i lt. h (suc i) (omega arith)))

pub a_dot : (s : List ℕ) (i : ℕ) → i < length s → get_or s i 0 ≡ 46 → has_dot s ≡ true
a_dot [] i h e = absurd (omega arith)
a_dot (x ∷ s) zero h e = let first : is_dot x ≡ true = rw e in rw first
a_dot (x ∷ s) (suc i) h e = rw (a_dot s i (omega arith) e) (any_true (is_dot x))
  where
    any_true : (b : Bool) → b || true ≡ true
    any_true true = refl
    any_true false = refl

pub unsplit : (s : List ℕ) → RFindsChar 46 s None → (after_last is_dot s ≡ s) × (has_dot s ≡ false)
unsplit s none =
    let no = λ (i : ℕ) (lt : i < length s). NoCharPasses-char 46 s i none (omega arith) lt in
    let all : suffix_len (λ x. not (is_dot x)) s ≡ length s - 0 =
    suffix_len_is (λ x. not (is_dot x)) s 0 0 (omega arith) (λ k _ lt. not_dot _ (no k lt)) (λ h. absurd (omega arith)) in
    let from : length s - suffix_len (λ x. not (is_dot x)) s ≡ 0 = omega arith in
    (rw from, no_dots s no)

pub split_last : (s : List ℕ) (front back : List ℕ) (i j : ℕ) → RFindsChar 46 s (Some (i, j))
    → front ≡ take i s → back ≡ drop j s → i ≤ j → length front ≡ i → length back + j ≡ length s
    → (after_last is_dot s ≡ back) × (before_last is_dot s ≡ front) × (has_dot s ≡ true)
split_last s front back i j found is_front is_back le len_front len_back =
    let next : j ≡ i + 1 = found.1.ends in
    let here : get_or s i 0 ≡ 46 = found.1.byte (omega arith) in
    let no = λ (k : ℕ) (lt : k < length (drop j s)). NoCharPasses-char 46 (drop j s) k found.0 (omega arith) lt in
    let later = λ (k : ℕ) (ge : j ≤ k) (lt : k < length s).
    let at : k - j < length (drop j s) = omega (arith, length-drop j s) in
    let sum : j + (k - j) ≡ k = omega arith in
    let same : get_or (drop j s) (k - j) 0 ≡ get_or s k 0 = get_or-drop j s (k - j) 0 ∙ ap (λ m. get_or s m 0) sum in
    not_dot (get_or s k 0) (λ e. no (k - j) at (same ∙ e)) in
    let before : j - 1 ≡ i = omega arith in
    let all : suffix_len (λ x. not (is_dot x)) s ≡ length s - j =
    suffix_len_is (λ x. not (is_dot x)) s j 0 (omega arith) later (λ _. is_a_dot _ (ap (λ m. get_or s m 0) before ∙ here)) in
    let from : length s - suffix_len (λ x. not (is_dot x)) s ≡ j = omega arith in
    let upto : length s - suffix_len (λ x. not (is_dot x)) s - 1 ≡ i = omega arith in
    (ap (λ m. drop m s) from ∙ sym is_back, ap (λ m. take m s) upto ∙ sym is_front, a_dot s i (omega arith) here)

parted : (s : List ℕ) (i : ℕ) → i < length s → s ≡ take i s ++ get_or s i 0 ∷ drop (suc i) s
parted [] i h = absurd (omega arith)
parted (x ∷ s) zero h = refl
parted (x ∷ s) (suc i) h = ap (λ l. x ∷ l) (parted s i (omega arith))

-- the parts before and after the last dot
pub split_parts : (s : List ℕ) (front back : List ℕ) (i j : ℕ) → RFindsChar 46 s (Some (i, j)) → front ≡ take i s
    → back ≡ drop j s → i ≤ j → length front ≡ i → length back + j ≡ length s → (s ≡ front ++ 46 ∷ back) × (has_dot back ≡ false)
split_parts s front back i j found is_front is_back le len_front len_back =
    let next : j ≡ suc i = omega (arith, found.1.ends) in
    let here : get_or s i 0 ≡ 46 = found.1.byte (omega arith) in
    let no : has_dot (drop j s) ≡ false = no_dots (drop j s) (λ k lt. NoCharPasses-char 46 (drop j s) k found.0 (omega arith) lt) in (
      parted s i (omega arith)
          ∙ ap (λ x. take i s ++ x ∷ drop (suc i) s) here
          ∙ ap (λ k. take i s ++ 46 ∷ drop k s) (sym next)
          ∙ ap (λ l. l ++ 46 ∷ drop j s) (sym is_front)
          ∙ ap (λ l. front ++ 46 ∷ l) (sym is_back),
      ap has_dot is_back ∙ no,
    )

-- ---- distinct texts

or_true : (b : Bool) → b || true ≡ true
or_true true = refl
or_true false = refl

and_false : (a : Bool) → a && false ≡ false
and_false true = refl
and_false false = refl

found_later : {X : Type 0} (same : X → X → Bool) (y : X) (xs : List X) (x : X) (ys : List X)
    → same y x ≡ true → list_any (same y) (xs ++ x ∷ ys) ≡ true
found_later same y xs x ys e =
    list_any-append (same y) xs (x ∷ ys) ∙ ap (λ b. list_any (same y) xs || (b || list_any (same y) ys)) e ∙ or_true (list_any (same y) xs)

by_first : (b h a d : Bool) → b || h ≡ true → (b ≡ true → a ≡ true) → (h ≡ true → d ≡ false) → not a && d ≡ false
by_first true h a d e p q = rw (p refl)
by_first false h a d e p q = rw (q e) (and_false (not a))

pub all_distinct-middle : {X : Type 0} (same : X → X → Bool) → ((a b : X) → same a b ≡ same b a)
    → (xs : List X) (x : X) (ys : List X) → list_any (same x) xs ≡ true → all_distinct same (xs ++ x ∷ ys) ≡ false
all_distinct-middle same swap [] x ys h = absurd (false≢true h)
all_distinct-middle same swap (y ∷ xs) x ys h =
    by_first (same x y) (list_any (same x) xs) _ _ h (λ e. found_later same y xs x ys (swap y x ∙ e))
    (λ k. all_distinct-middle same swap xs x ys k)

both : (a b : Bool) → a && b ≡ true → (a ≡ true) × (b ≡ true)
both true b e = (refl, e)
both false b e = cc

pub neither : (a b : Bool) → a || b ≡ false → (a ≡ false) × (b ≡ false)
neither true b e = cc
neither false b e = (refl, e)

flip : (a : Bool) → not a ≡ true → a ≡ false
flip true e = cc
flip false e = refl

none : (a b : Bool) → a ≡ false → b ≡ false → a || (b || false) ≡ false
none a b p q = rw (p, q)

pub all_distinct-push : {X : Type 0} (same : X → X → Bool) → ((a b : X) → same a b ≡ same b a) → (xs : List X) (x : X)
    → all_distinct same xs ≡ true → list_any (same x) xs ≡ false → all_distinct same (xs ++ x ∷ []) ≡ true
all_distinct-push same swap [] x d h = refl
all_distinct-push same swap (y ∷ xs) x d h =
    let parts = both _ _ d in
    let others = neither _ _ h in
    let rest : all_distinct same (xs ++ x ∷ []) ≡ true = all_distinct-push same swap xs x parts.1 others.1 in
    let here : list_any (same y) (xs ++ x ∷ []) ≡ false =
    list_any-append (same y) xs (x ∷ []) ∙ none _ _ (flip _ parts.0) (swap y x ∙ others.0) in
    rw (here, rest)
