-- What a worklist keeps when it takes up a further word.
use Rattle.std.proofs.Common.{◌≡◌, ◌≢◌, ℕ, zero, suc, ◌/◌, ◌%◌, ◌<◌, List, [], ◌∷◌, ◌++◌, length, Bool, true}
use Rattle.std.proofs.Common.{false, ◌&&◌, ◌||◌, eqb, All, get_or, slice_set, refl, sym, ◌∙◌, ap, subst, arith}
use Rattle.std.specs.List.{list_any, Contains}
use Rattle.std.proofs.lemmas.Bool.{eqb-true, eqb-false}
use Rattle.std.proofs.lemmas.List.Elements.{All-contains, All-contains_itself, All-head}
use Rattle.std.proofs.lemmas.List.Elements.{All-weaker}
use Rattle.std.proofs.lemmas.List.Elements.{Contains-append_left, Contains-append_right}
use Rattle.std.proofs.lemmas.List.Folds.{list_any-append}
use Rattle.std.proofs.lemmas.Nat.Bits.{bit_at-zero}
use Rattle.avro_resolve.specs.declared.worklist.Worklist.{Worklist}
use Rattle.avro_resolve.specs.Worklist.{is_in_word, has_number, is_of_word, waits, IsOrderly}

-- ---- lists

set_here : (xs : List ℕ) (i x : ℕ) → i < length xs → get_or (slice_set xs i x) i 0 ≡ x
set_here [] i x h = absurd (omega arith)
set_here (y ∷ xs) zero x h = refl
set_here (y ∷ xs) (suc i) x h = set_here xs i x (omega arith)

set_elsewhere : (xs : List ℕ) (i j x : ℕ) → (i ≡ j → ⊥) → get_or (slice_set xs i x) j 0 ≡ get_or xs j 0
set_elsewhere [] i j x differ = refl
set_elsewhere (y ∷ xs) zero zero x differ = absurd (differ refl)
set_elsewhere (y ∷ xs) zero (suc j) x differ = refl
set_elsewhere (y ∷ xs) (suc i) zero x differ = refl
set_elsewhere (y ∷ xs) (suc i) (suc j) x differ = set_elsewhere xs i j x (λ e. differ (ap suc e))

length-slice_set : (xs : List ℕ) (i x : ℕ) → length (slice_set xs i x) ≡ length xs
length-slice_set [] i x = refl
length-slice_set (y ∷ xs) zero x = refl
length-slice_set (y ∷ xs) (suc i) x = ap suc (length-slice_set xs i x)

All-left : {A : Type 0} (P : A → Type 0) (xs ys : List A) → All P (xs ++ ys) → All P xs
All-left P xs ys all =
    All-weaker (Contains xs) P (λ x has. All-contains P (xs ++ ys) x all (Contains-append_left xs ys x has)) xs (All-contains_itself xs)

All-right : {A : Type 0} (P : A → Type 0) (xs ys : List A) → All P (xs ++ ys) → All P ys
All-right P xs ys all =
    All-weaker (Contains ys) P (λ x has. All-contains P (xs ++ ys) x all (Contains-append_right xs ys x has)) ys (All-contains_itself ys)

All-last : (P : ℕ → Type 0) (xs : List ℕ) (x : ℕ) → All P (xs ++ x ∷ []) → P x
All-last P xs x all = All-head P x [] (All-right P xs (x ∷ []) all)

-- ---- truth values

or_false : (b : Bool) → (b || false) ≡ b
or_false true = refl
or_false false = refl

or_first : (b : Bool) → (b || (false || false)) ≡ true → b ≡ true
or_first true e = refl
or_first false e = e

-- ---- bits of a word

no_bits : (k : ℕ) → is_in_word 0 k ≡ false
no_bits k = ap (λ n. eqb n 1) (bit_at-zero (k % 64))

-- ---- a word is taken up

hand_empty : (place bits l : ℕ) → bits ≡ 0 → is_of_word place bits l ≡ false
hand_empty place bits l e =
    ap (λ n. is_of_word place n l) e ∙ ap (λ t. eqb place (l / 64) && t) (no_bits l) ∙ and_false (eqb place (l / 64))
  where
    and_false : (b : Bool) → (b && false) ≡ false
    and_false true = refl
    and_false false = refl

module _ (a b : Worklist) (j : ℕ) (s : IsOrderly a) (empty : a.bits ≡ 0)
    (met : b.met.words.items ≡ a.met.words.items)
    (places : a.places.items ≡ b.places.items ++ j ∷ [])
    (place : b.place ≡ j)
    (bits : b.bits ≡ get_or a.waiting.words.items j 0)
    (waiting : b.waiting.words.items ≡ slice_set a.waiting.words.items j 0) where
  pub takes_inside : j < length a.waiting.words.items
  takes_inside =
      All-last (λ i. i < length a.waiting.words.items) b.places.items j
      (subst (All (λ i. i < length a.waiting.words.items)) places s.within)

  -- its numbers are in hand, and those of the others wait
  parted : (l : ℕ) (t : Bool) → eqb j (l / 64) ≡ t
      → ((t && is_in_word (get_or a.waiting.words.items j 0) l) || has_number (slice_set a.waiting.words.items j 0) l)
      ≡ has_number a.waiting.words.items l
  parted l true e =
      let here : j ≡ l / 64 = eqb-true j (l / 64) e in
      let none : has_number (slice_set a.waiting.words.items j 0) l ≡ false =
      ap (λ i. is_in_word (get_or (slice_set a.waiting.words.items j 0) i 0) l) (sym here)
      ∙ ap (λ v. is_in_word v l) (set_here a.waiting.words.items j 0 takes_inside)
      ∙ no_bits l in
      ap (λ t. is_in_word (get_or a.waiting.words.items j 0) l || t) none
      ∙ or_false (is_in_word (get_or a.waiting.words.items j 0) l)
      ∙ ap (λ i. is_in_word (get_or a.waiting.words.items i 0) l) here
  parted l false e = ap (λ v. is_in_word v l) (set_elsewhere a.waiting.words.items j (l / 64) 0 (eqb-false j (l / 64) e))

  pub takes_waits : (l : ℕ) → waits b l ≡ waits a l
  takes_waits l =
      ap (λ n. is_of_word n b.bits l || has_number b.waiting.words.items l) place
      ∙ ap (λ n. is_of_word j n l || has_number b.waiting.words.items l) bits
      ∙ ap (λ ws. is_of_word j (get_or a.waiting.words.items j 0) l || has_number ws l) waiting
      ∙ parted l _ refl
      ∙ ap (λ t. t || has_number a.waiting.words.items l) (sym (hand_empty a.place a.bits l empty))

  size : length b.waiting.words.items ≡ length a.waiting.words.items
  size = ap length waiting ∙ length-slice_set a.waiting.words.items j 0

  listed_rest : (i : ℕ) (t : Bool) → eqb j i ≡ t → get_or (slice_set a.waiting.words.items j 0) i 0 ≢ 0
      → list_any (λ n. eqb n i) b.places.items ≡ true
  listed_rest i true e some =
      let here : j ≡ i = eqb-true j i e in
      absurd (
      some (ap (λ n. get_or (slice_set a.waiting.words.items j 0) n 0) (sym here) ∙ set_here a.waiting.words.items j 0 takes_inside))
  listed_rest i false e some =
      or_first (list_any (λ n. eqb n i) b.places.items)
      (ap (λ t. list_any (λ n. eqb n i) b.places.items || (t || false)) (sym e)
      ∙ sym (list_any-append (λ n. eqb n i) b.places.items (j ∷ []))
      ∙ ap (list_any (λ n. eqb n i)) (sym places)
      ∙ s.listed i (λ none. some (set_elsewhere a.waiting.words.items j i 0 (eqb-false j i e) ∙ none)))

  apart_rest : (l : ℕ) (t : Bool) → eqb j (l / 64) ≡ t → (t && is_in_word (get_or a.waiting.words.items j 0) l) ≡ true
      → has_number (slice_set a.waiting.words.items j 0) l ≡ false
  apart_rest l true e in_hand =
      let here : j ≡ l / 64 = eqb-true j (l / 64) e in
      ap (λ i. is_in_word (get_or (slice_set a.waiting.words.items j 0) i 0) l) (sym here)
      ∙ ap (λ v. is_in_word v l) (set_here a.waiting.words.items j 0 takes_inside)
      ∙ no_bits l
  apart_rest l false e in_hand = cc

  pub takes_orderly : IsOrderly b
  takes_orderly = record {
    alike = size ∙ s.alike ∙ ap length (sym met);
    small = let h = ap length met in omega (arith, h, s.small);
    within = subst (λ n. All (λ i. i < n) b.places.items) (sym size)
        (All-left (λ i. i < length a.waiting.words.items) b.places.items (j ∷ [])
        (subst (All (λ i. i < length a.waiting.words.items)) places s.within));
    listed = λ i some. listed_rest i _ refl (λ none. some (ap (λ ws. get_or ws i 0) waiting ∙ none));
    in_hand = let h = ap length met in omega (arith, h, place, takes_inside, s.alike);
    known = λ l e. ap (λ ws. has_number ws l) met ∙ s.known l (sym (takes_waits l) ∙ e);
    apart = λ l e.
        ap (λ ws. has_number ws l) waiting
        ∙ apart_rest l _ refl (ap (λ n. is_of_word j n l) (sym bits) ∙ ap (λ n. is_of_word n b.bits l) (sym place) ∙ e);
  }
