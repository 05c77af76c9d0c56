-- The fields of a line stand between its TABs.
use Rattle.std.proofs.Common.{◌≡◌, ℕ, suc, ◌+◌, ◌<◌, Bool, true, false, cond, not, ◌&&◌, List, [], ◌∷◌, ◌++◌, length}
use Rattle.std.proofs.Common.{take, Some, inl, inr, refl, sym, ap, ◌∙◌, ◌==◌, subst, arith, length-append}
use Rattle.std.specs.Prelude.{All, Err, count_by, position}
use Rattle.std.specs.List.{position_or_len, before_first, after_first, slice_split}
use Rattle.std.proofs.lemmas.Bool.{and_parts, not_from_true, lt-ltb, cases_lt, eqb-true, eqb-false, false≢true, ne_eqb}
use Rattle.std.proofs.lemmas.List.Sums.{AllPass-from_list_all, sum_by-cons, prefix_len-le-length, split_at_first, passes_at_first}
use Rattle.std.proofs.lemmas.List.Splits.{slice_split_at, slice_split_none, length-slice_split}
use Rattle.std.proofs.lemmas.List.Folds.{list_all-append}
use Rattle.reg_records.specs.declared.line.LineError.TheVariants.{BadTabs}
use Rattle.reg_records.specs.Line.{is_tab, is_line_feed, is_free_of, line_of, reading_of}
use Rattle.reg_records.proofs.Tabs.{count_by-none, count_by-after_first}

pub not_true-false : (b : Bool) → not b ≡ true → b ≡ false
not_true-false true e = absurd cc
not_true-false false e = refl

-- the three fields of a line: before, between and after its two TABs
abbrev pub offset_field : List ℕ → List ℕ
offset_field line = before_first is_tab line

abbrev pub key_field : List ℕ → List ℕ
key_field line = before_first is_tab (after_first is_tab line)

abbrev pub value_field : List ℕ → List ℕ
value_field line = after_first is_tab (after_first is_tab line)

module _ (p : ℕ → Bool) where
  -- where none passes, the first that passes is past the end
  pub position_or_len-none : (xs : List ℕ) → is_free_of p xs ≡ true → position_or_len p xs ≡ length xs
  position_or_len-none [] h = refl
  position_or_len-none (x ∷ xs) h =
      let parts = and_parts (not (p x)) _ h in
      rw parts.0 (omega (arith, position_or_len-none xs parts.1))

  -- where none passes before t, t is the first
  pub position_or_len-seam : (xs : List ℕ) (t : ℕ) (ys : List ℕ) → is_free_of p xs ≡ true
      → p t ≡ true → position_or_len p (xs ++ t ∷ ys) ≡ length xs
  position_or_len-seam [] t ys h e = rw (not_from_true _ e)
  position_or_len-seam (x ∷ xs) t ys h e =
      let parts = and_parts (not (p x)) _ h in
      rw parts.0 (omega (arith, position_or_len-seam xs t ys parts.1 e))

  pub All-free : (xs : List ℕ) → is_free_of p xs ≡ true → All (λ x. p x ≡ false) xs
  All-free xs h = λ k d below. not_true-false _ (AllPass-from_list_all (λ b. not (p b)) xs h k d below)

  pub count_by-free : (xs : List ℕ) → is_free_of p xs ≡ true → count_by p xs ≡ 0
  count_by-free xs h = count_by-none p xs (position_or_len-none xs h)

  pub is_free_of-append : (xs ys : List ℕ) → is_free_of p xs ≡ true → is_free_of p ys ≡ true → is_free_of p (xs ++ ys) ≡ true
  is_free_of-append xs ys h k = list_all-append (λ b. not (p b)) xs ys ∙ rw (h, k)

module _ (offset key value : List ℕ) (o : is_free_of is_tab offset ≡ true) (k : is_free_of is_tab key ≡ true) where
  pub slice_split-line_of : is_free_of is_tab value ≡ true → slice_split is_tab (line_of offset key value) ≡ offset ∷ key ∷ value ∷ []
  slice_split-line_of v =
      slice_split_at is_tab offset 9 (key ++ 9 ∷ value) (All-free is_tab offset o) refl
      ∙ ap (λ fields. offset ∷ fields) (slice_split_at is_tab key 9 value (All-free is_tab key k) refl)
      ∙ ap (λ fields. offset ∷ key ∷ fields) (slice_split_none is_tab value (All-free is_tab value v))

-- where the first LF is
pub position-seam : (line rest : List ℕ) → is_free_of is_line_feed line ≡ true
    → position is_line_feed (line ++ 10 ∷ rest) ≡ Some (length line)
position-seam line rest h =
    let at = position_or_len-seam is_line_feed line 10 rest h refl in
    let within : position_or_len is_line_feed (line ++ 10 ∷ rest) < length (line ++ 10 ∷ rest) =
    omega (arith, at, length-append line (10 ∷ rest)) in
    rw (lt-ltb _ _ within) (ap Some at)

-- ---- a line that has two TABs is made of its fields

-- where some pass, the first stands before the end
first_within : (p : ℕ → Bool) (xs : List ℕ) (n : ℕ) → count_by p xs ≡ suc n → position_or_len p xs < length xs
first_within p xs n h = elim (cases_lt (position_or_len p xs) (length xs)) [
  | inl within ↦ within
  | inr past ↦
      let at : position_or_len p xs ≡ length xs = omega (arith, prefix_len-le-length (λ x. not (p x)) xs) in
      absurd (omega (arith, count_by-none p xs at))
]

is_free_of-none : (p : ℕ → Bool) (xs : List ℕ) → count_by p xs ≡ 0 → is_free_of p xs ≡ true
is_free_of-none p [] h = refl
is_free_of-none p (x ∷ xs) h =
    let first = sum_by-cons (λ y. cond (p y) 1 0) x xs in
    elim (p x) as (λ b. count_by p (x ∷ xs) ≡ cond b 1 0 + count_by p xs → (not b && is_free_of p xs) ≡ true) [
      | true ↦ λ e. absurd (omega arith)
      | false ↦ λ e. is_free_of-none p xs (omega arith)
    ] first

is_free_of-before_first : (p : ℕ → Bool) (xs : List ℕ) → is_free_of p (before_first p xs) ≡ true
is_free_of-before_first p [] = refl
is_free_of-before_first p (x ∷ xs) =
    elim (p x) as (λ b. p x ≡ b → is_free_of p (take (cond (not b) (1 + position_or_len p xs) 0) (x ∷ xs)) ≡ true) [
      | true ↦ λ e. refl
      | false ↦ λ e.
          let one : suc (position_or_len p xs) ≡ 1 + position_or_len p xs = omega arith in
          subst (λ n. is_free_of p (take n (x ∷ xs)) ≡ true) one (rw e (is_free_of-before_first p xs))
    ] refl

split_at_tab : (line : List ℕ) → position_or_len is_tab line < length line → line ≡ before_first is_tab line ++ 9 ∷ after_first is_tab line
split_at_tab line h =
    let tab = eqb-true _ 9 (passes_at_first is_tab line 0 h) in
    split_at_first is_tab line 0 h ∙ ap (λ t. before_first is_tab line ++ t ∷ after_first is_tab line) tab

-- the line is the text of its fields, and none of them has a TAB
pub record HasFields (line : List ℕ) : Type 0 where
  pub fields : line ≡ line_of (offset_field line) (key_field line) (value_field line)
  pub key_has_no_tab : is_free_of is_tab (key_field line) ≡ true
  pub value_has_no_tab : is_free_of is_tab (value_field line) ≡ true

pub has_fields : (line : List ℕ) → count_by is_tab line ≡ 2 → HasFields line
has_fields line two =
    let first = first_within is_tab line 1 two in
    let rest = after_first is_tab line in
    let one : count_by is_tab rest ≡ 1 = omega (arith, count_by-after_first is_tab line first) in
    let second = first_within is_tab rest 0 one in
    let zero : count_by is_tab (value_field line) ≡ 0 = omega (arith, count_by-after_first is_tab rest second) in
    record {
      fields = split_at_tab line first ∙ ap (λ r. offset_field line ++ 9 ∷ r) (split_at_tab rest second);
      key_has_no_tab = is_free_of-before_first is_tab rest;
      value_has_no_tab = is_free_of-none is_tab (value_field line) zero;
    }

-- the parts of a line that has two TABs are its fields
pub slice_split-fields : (line : List ℕ) → (count_by is_tab line == 2) ≡ true
    → slice_split is_tab line ≡ offset_field line ∷ key_field line ∷ value_field line ∷ []
slice_split-fields line two =
    let parts = has_fields line (eqb-true _ 2 two) in
    ap (slice_split is_tab) parts.fields
    ∙ slice_split-line_of (offset_field line) (key_field line) (value_field line)
    (is_free_of-before_first is_tab line) parts.key_has_no_tab parts.value_has_no_tab

-- as many parts as no line has say nothing
reading_of-other : (parts : List (List ℕ)) → (length parts == 3) ≡ false → reading_of parts ≡ Err BadTabs
reading_of-other [] e = refl
reading_of-other (a ∷ []) e = refl
reading_of-other (a ∷ b ∷ []) e = refl
reading_of-other (a ∷ b ∷ c ∷ []) e = absurd (false≢true (sym e))
reading_of-other (a ∷ b ∷ c ∷ d ∷ more) e = refl

pub reading_of-bad_tabs : (line : List ℕ) → (count_by is_tab line == 2) ≡ false → reading_of (slice_split is_tab line) ≡ Err BadTabs
reading_of-bad_tabs line bad =
    reading_of-other (slice_split is_tab line)
    (ne_eqb _ 3 (λ three. eqb-false (count_by is_tab line) 2 bad (omega (arith, three, length-slice_split is_tab line))))

-- ---- how many TABs a line has, by where its first ones stand

pub no_tab : (line : List ℕ) → position_or_len is_tab line ≡ length line → (count_by is_tab line == 2) ≡ false
no_tab line none = ap (λ n. n == 2) (count_by-none is_tab line none)

pub one_tab : (line : List ℕ) → position_or_len is_tab line < length line
    → position_or_len is_tab (after_first is_tab line) ≡ length (after_first is_tab line)
    → (count_by is_tab line == 2) ≡ false
one_tab line first none =
    ap (λ n. n == 2) (count_by-after_first is_tab line first ∙ ap suc (count_by-none is_tab (after_first is_tab line) none))

module _ (line : List ℕ) (first : position_or_len is_tab line < length line)
    (second : position_or_len is_tab (after_first is_tab line) < length (after_first is_tab line)) where
  two_and_more : count_by is_tab line ≡ suc (suc (count_by is_tab (value_field line)))
  two_and_more = count_by-after_first is_tab line first ∙ ap suc (count_by-after_first is_tab (after_first is_tab line) second)

  pub two_tabs : is_free_of is_tab (value_field line) ≡ true → (count_by is_tab line == 2) ≡ true
  two_tabs free = ap (λ n. n == 2) (two_and_more ∙ ap (λ n. suc (suc n)) (count_by-free is_tab (value_field line) free))

  pub more_tabs : is_free_of is_tab (value_field line) ≡ false → (count_by is_tab line == 2) ≡ false
  more_tabs not_free =
      ne_eqb _ 2 (λ two. false≢true (sym not_free ∙ is_free_of-none is_tab (value_field line) (omega (arith, two, two_and_more))))
