-- The pairs that were seen, pair by pair.
use Rattle.std.proofs.Common.{◌≡◌, ◌≢◌, ℕ, zero, suc, ◌/◌, ◌%◌, List, [], ◌∷◌, Bool, true, false, not, ◌&&◌, ◌||◌, eqb, cond}
use Rattle.std.proofs.Common.{replicate, Option, Some, None, unwrap_or, slice_get, slice_set, refl, sym, ◌∙◌, ap, subst, arith}
use Rattle.std.proofs.lemmas.Grind.{common_steps}
use Rattle.std.proofs.lemmas.Bool.{eqb-true, eqb-false, eq-eqb}
use Rattle.std.proofs.lemmas.Bool.Decides.{nat_tests}
use Rattle.std.specs.Int.{bit_at}
use Rattle.std.specs.declared.cmp.Ordering.{Ordering}
use Rattle.std.specs.declared.cmp.Ordering.TheVariants.{Less, Equal, Greater}
use Rattle.std.specs.Ordering.{nat_cmp, ordering_then, is_eq}
use Rattle.std.specs.BTreeMap.{BTreeMap, get, is_at}
use Rattle.avro_resolve.specs.declared.firsts.Known.{Known}
use Rattle.avro_resolve.specs.declared.firsts.Known.TheVariants.{New, Same, Other}
use Rattle.avro_resolve.specs.Seen.{same_numbers, known, with_first, is_beside, are_joined, IsFairOver, word_at}

-- ---- lists

get_set_same : {A : Type 0} (xs : List A) (i : ℕ) (x y : A) → slice_get xs i ≡ Some y → slice_get (slice_set xs i x) i ≡ Some x
get_set_same [] i x y e = cc
get_set_same (z ∷ xs) zero x y e = refl
get_set_same (z ∷ xs) (suc i) x y e = get_set_same xs i x y e

get_set_other : {A : Type 0} (xs : List A) (i k : ℕ) (x : A) → (i ≡ k → ⊥) → slice_get (slice_set xs i x) k ≡ slice_get xs k
get_set_other [] i k x differ = refl
get_set_other (z ∷ xs) zero zero x differ = absurd (differ refl)
get_set_other (z ∷ xs) zero (suc k) x differ = refl
get_set_other (z ∷ xs) (suc i) zero x differ = refl
get_set_other (z ∷ xs) (suc i) (suc k) x differ = get_set_other xs i k x (λ e. differ (ap suc e))

-- ---- one pair more

abbrev pub Adds : ℕ → ℕ → (ℕ → ℕ → Bool) → (ℕ → ℕ → Bool) → Type 0
Adds i j old new = (k l : ℕ) → new k l ≡ (same_numbers i j k l || old k l)

-- the same pair, with the numbers the other way round
pub Adds-turned : (i j : ℕ) (old new : ℕ → ℕ → Bool) → Adds i j old new → Adds j i (λ b a. old a b) (λ b a. new a b)
Adds-turned i j old new added k l = added l k ∙ ap (λ b. b || old l k) (and_swap (eqb i l) (eqb j k))
  where
    and_swap : (a b : Bool) → (a && b) ≡ (b && a)
    and_swap true true = refl
    and_swap true false = refl
    and_swap false true = refl
    and_swap false false = refl

-- a pair that was there is no new one
pub Adds-nothing : (i j : ℕ) (old : ℕ → ℕ → Bool) → old i j ≡ true → Adds i j old old
Adds-nothing i j old there k l = go (eqb i k) refl (eqb j l) refl
  where
    go : (a : Bool) → eqb i k ≡ a → (b : Bool) → eqb j l ≡ b → old k l ≡ ((a && b) || old k l)
    go true one true two = ap (λ n. old n l) (sym (eqb-true i k one)) ∙ ap (old i) (sym (eqb-true j l two)) ∙ there
    go true one false two = refl
    go false one b two = refl

-- ---- the first that came with each

is_same : (first j : ℕ) → cond (eqb first j) Same Other ≡ Same → eqb first j ≡ true
is_same first j e = go (eqb first j) e
  where
    go : (b : Bool) → cond b Same Other ≡ Same → b ≡ true
    go true e = refl
    go false e = cc

is_other : (first j : ℕ) → cond (eqb first j) Same Other ≡ Other → eqb first j ≡ false
is_other first j e = go (eqb first j) e
  where
    go : (b : Bool) → cond b Same Other ≡ Other → b ≡ false
    go true e = cc
    go false e = refl

no_new : (first j : ℕ) → cond (eqb first j) Same Other ≡ New → ⊥
no_new first j e = go (eqb first j) e
  where
    go : (b : Bool) → cond b Same Other ≡ New → ⊥
    go true e = cc
    go false e = cc

-- none had come
pub known_new : (o : Option (Option ℕ)) (j : ℕ) → known o j ≡ New → o ≡ Some None
known_new None j e = cc
known_new (Some None) j e = refl
known_new (Some (Some first)) j e = absurd (no_new first j e)

module _ (firsts : List (Option ℕ)) (i j : ℕ) (others : ℕ → ℕ → Bool) where
  -- ---- no type had come with i
  pub new_is_new : known (slice_get firsts i) j ≡ New → true ≡ not (are_joined firsts others i j)
  new_is_new e = ap (λ o. not (is_beside (others i j) j o)) (sym (known_new (slice_get firsts i) j e))

  pub new_added : known (slice_get firsts i) j ≡ New → IsFairOver firsts others
      → Adds i j (are_joined firsts others) (are_joined (slice_set firsts i (Some j)) others)
  new_added e fair k l = go (eqb i k) refl
    where
      free : slice_get firsts i ≡ Some None
      free = known_new (slice_get firsts i) j e

      go : (b : Bool) → eqb i k ≡ b → are_joined (slice_set firsts i (Some j)) others k l ≡ ((b && eqb j l) || are_joined firsts others k l)
      go true is =
          let one = eqb-true i k is in
          let now : slice_get (slice_set firsts i (Some j)) k ≡ Some (Some j) =
          ap (slice_get (slice_set firsts i (Some j))) (sym one) ∙ get_set_same firsts i (Some j) None free in
          let was : slice_get firsts k ≡ Some None = ap (slice_get firsts) (sym one) ∙ free in
          ap (is_beside (others k l) l) now
          ∙ ap (λ b. eqb j l || b) (fair k l was)
          ∙ ap (λ o. eqb j l || is_beside (others k l) l o) (sym was)
      go false is = ap (is_beside (others k l) l) (get_set_other firsts i k (Some j) (eqb-false i k is))

  pub new_fair : known (slice_get firsts i) j ≡ New → IsFairOver firsts others → IsFairOver (slice_set firsts i (Some j)) others
  new_fair e fair k l at = go (eqb i k) refl
    where
      go : (b : Bool) → eqb i k ≡ b → others k l ≡ false
      go true is = fair k l (ap (slice_get firsts) (sym (eqb-true i k is)) ∙ known_new (slice_get firsts i) j e)
      go false is = fair k l (sym (get_set_other firsts i k (Some j) (eqb-false i k is)) ∙ at)

  -- ---- j was the first
  pub same_joined : known (slice_get firsts i) j ≡ Same → are_joined firsts others i j ≡ true
  same_joined e = go (slice_get firsts i) e
    where
      go : (o : Option (Option ℕ)) → known o j ≡ Same → is_beside (others i j) j o ≡ true
      go None e = cc
      go (Some None) e = cc
      go (Some (Some first)) e = ap (λ b. b || others i j) (is_same first j e)

  pub same_is_old : known (slice_get firsts i) j ≡ Same → false ≡ not (are_joined firsts others i j)
  same_is_old e = ap not (sym (same_joined e))

  -- ---- another was the first
  pub other_beside : known (slice_get firsts i) j ≡ Other → are_joined firsts others i j ≡ others i j
  other_beside e = go (slice_get firsts i) e
    where
      go : (o : Option (Option ℕ)) → known o j ≡ Other → is_beside (others i j) j o ≡ others i j
      go None e = refl
      go (Some None) e = cc
      go (Some (Some first)) e = ap (λ b. b || others i j) (is_other first j e)

  not_free : known (slice_get firsts i) j ≡ Other → slice_get firsts i ≡ Some None → ⊥
  not_free e free = let no : New ≡ Other = ap (λ o. known o j) (sym free) ∙ e in cc

  module _ (new : ℕ → ℕ → Bool) (added : Adds i j others new) where
    pub other_added : known (slice_get firsts i) j ≡ Other → Adds i j (are_joined firsts others) (are_joined firsts new)
    other_added e k l = go (slice_get firsts k) refl
      where
        here : (b : Bool) → eqb i k ≡ b → slice_get firsts k ≡ Some None → false ≡ ((b && eqb j l) || false)
        here true is at = absurd (not_free e (ap (slice_get firsts) (eqb-true i k is) ∙ at))
        here false is at = refl

        or_swap : (a b c : Bool) → (a || (b || c)) ≡ (b || (a || c))
        or_swap true true c = refl
        or_swap true false c = refl
        or_swap false b c = refl

        go : (o : Option (Option ℕ)) → slice_get firsts k ≡ o
            → is_beside (new k l) l o ≡ (same_numbers i j k l || is_beside (others k l) l o)
        go None at = added k l
        go (Some None) at = here (eqb i k) refl at
        go (Some (Some first)) at = ap (λ b. eqb first l || b) (added k l) ∙ or_swap (eqb first l) (same_numbers i j k l) (others k l)

    pub other_fair : known (slice_get firsts i) j ≡ Other → IsFairOver firsts others → IsFairOver firsts new
    other_fair e fair k l at = added k l ∙ here (eqb i k) refl ∙ fair k l at
      where
        here : (b : Bool) → eqb i k ≡ b → ((b && eqb j l) || others k l) ≡ others k l
        here true is = absurd (not_free e (ap (slice_get firsts) (eqb-true i k is) ∙ at))
        here false is = refl

-- nothing came together
get_replicate : (n i : ℕ) (o : Option ℕ) → slice_get (replicate n None) i ≡ Some o → o ≡ None
get_replicate zero i o e = cc
get_replicate (suc n) zero o e = cc
get_replicate (suc n) (suc i) o e = get_replicate n i o e

-- ---- pairs by the bits of words

abbrev pair_cmp : ℕ × ℕ → ℕ × ℕ → Ordering
pair_cmp a b = ordering_then (nat_cmp a.0 b.0) (nat_cmp a.1 b.1)

pub is_eq-nat_cmp : (a b : ℕ) → is_eq (nat_cmp a b) ≡ eqb a b
is_eq-nat_cmp a b = grind (arith, common_steps, nat_tests)

pub is_eq-then : (o p : Ordering) → is_eq (ordering_then o p) ≡ (is_eq o && is_eq p)
is_eq-then Less p = refl
is_eq-then Equal p = refl
is_eq-then Greater p = refl

key_at : (i j k l : ℕ) → is_at (pair_cmp (i, j)) (k, l) ≡ (eqb i k && eqb j l)
key_at i j k l =
    is_eq-then (nat_cmp i k) (nat_cmp j l)
    ∙ ap (λ b. b && is_eq (nat_cmp j l)) (is_eq-nat_cmp i k)
    ∙ ap (λ b. eqb i k && b) (is_eq-nat_cmp j l)

abbrev has_bit_of : BTreeMap (ℕ × ℕ) ℕ → ℕ → ℕ → Bool
has_bit_of words i j = eqb (bit_at (word_at words i (j / 64)) (j % 64)) 1

same_parts : (j l : ℕ) → j / 64 ≡ l / 64 → j % 64 ≡ l % 64 → j ≡ l
same_parts j l q r = omega arith

-- a word with one bit more
pub bit_added : (i j bits : ℕ) (old new : BTreeMap (ℕ × ℕ) ℕ)
    → bit_at bits (j % 64) ≡ 1
    → ((n : ℕ) → n ≢ j % 64 → bit_at bits n ≡ bit_at (word_at old i (j / 64)) n)
    → ((q : ℕ × ℕ) → get pair_cmp new q ≡ cond (is_at (pair_cmp (i, j / 64)) q) (Some bits) (get pair_cmp old q))
    → Adds i j (has_bit_of old) (has_bit_of new)
bit_added i j bits old new set others updated k l = go (eqb i k) refl (eqb (j / 64) (l / 64)) refl
  where
    word : (b c : Bool) → eqb i k ≡ b → eqb (j / 64) (l / 64) ≡ c
        → word_at new k (l / 64) ≡ unwrap_or (cond (b && c) (Some bits) (get pair_cmp old (k, l / 64))) 0
    word b c one two =
        ap (λ o. unwrap_or o 0) (updated (k, l / 64))
        ∙ ap (λ t. unwrap_or (cond t (Some bits) (get pair_cmp old (k, l / 64))) 0)
        (key_at i (j / 64) k (l / 64) ∙ ap (λ t. t && eqb (j / 64) (l / 64)) one ∙ ap (λ t. b && t) two)

    bit : (b c : Bool) → eqb i k ≡ b → eqb (j / 64) (l / 64) ≡ c
        → has_bit_of new k l ≡ eqb (bit_at (unwrap_or (cond (b && c) (Some bits) (get pair_cmp old (k, l / 64))) 0) (l % 64)) 1
    bit b c one two = ap (λ w. eqb (bit_at w (l % 64)) 1) (word b c one two)

    apart : (b : Bool) → eqb j l ≡ b → eqb (j / 64) (l / 64) ≡ false → b ≡ false
    apart true e two =
        let same : j ≡ l = eqb-true j l e in let yes : eqb (j / 64) (l / 64) ≡ true = eq-eqb (j / 64) (l / 64) (ap (λ n. n / 64) same) in cc
    apart false e two = refl

    inside : (b : Bool) → eqb j l ≡ b → i ≡ k → j / 64 ≡ l / 64 → eqb (bit_at bits (l % 64)) 1 ≡ (b || has_bit_of old k l)
    inside true e one two = eq-eqb (bit_at bits (l % 64)) 1 (ap (λ n. bit_at bits (n % 64)) (sym (eqb-true j l e)) ∙ set)
    inside false e one two =
        ap (λ n. eqb n 1)
        (others (l % 64) (λ same. eqb-false j l e (same_parts j l two (sym same)))
        ∙ ap (λ n. bit_at (word_at old n (j / 64)) (l % 64)) one
        ∙ ap (λ n. bit_at (word_at old k n) (l % 64)) two)

    go : (b : Bool) → eqb i k ≡ b → (c : Bool) → eqb (j / 64) (l / 64) ≡ c → has_bit_of new k l ≡ ((b && eqb j l) || has_bit_of old k l)
    go true one true two = bit true true one two ∙ inside (eqb j l) refl (eqb-true i k one) (eqb-true (j / 64) (l / 64) two)
    go true one false two = bit true false one two ∙ ap (λ b. b || has_bit_of old k l) (sym (apart (eqb j l) refl two))
    go false one c two = bit false c one two

-- ---- types i and j came together

-- what becomes of the first ones, and of the others; b says whether the pair is new
pub record IsJoined (firsts after : List (Option ℕ)) (i j : ℕ) (others new : ℕ → ℕ → Bool) (b : Bool) : Type 0 where
  pub is_new : b ≡ not (are_joined firsts others i j)
  pub added : Adds i j (are_joined firsts others) (are_joined after new)
  pub fair : IsFairOver after new

module _ (firsts after : List (Option ℕ)) (i j : ℕ) (others : ℕ → ℕ → Bool) (o : Known)
    (is : o ≡ known (slice_get firsts i) j) (becomes : after ≡ with_first (known (slice_get firsts i) j) i j firsts)
    (fair : IsFairOver firsts others) where
  after_is : (p : Known) → o ≡ p → after ≡ with_first p i j firsts
  after_is p e = becomes ∙ ap (λ q. with_first q i j firsts) (sym is ∙ e)

  pub joined_new : o ≡ New → IsJoined firsts after i j others others true
  joined_new e =
      let k : known (slice_get firsts i) j ≡ New = sym is ∙ e in
      let now : after ≡ slice_set firsts i (Some j) = after_is New e in
      record {
        is_new = new_is_new firsts i j others k;
        added = λ m n. ap (λ fs. are_joined fs others m n) now ∙ new_added firsts i j others k fair m n;
        fair = subst (λ fs. IsFairOver fs others) (sym now) (new_fair firsts i j others k fair);
      }

  pub joined_same : o ≡ Same → IsJoined firsts after i j others others false
  joined_same e =
      let k : known (slice_get firsts i) j ≡ Same = sym is ∙ e in
      let now : after ≡ firsts = after_is Same e in
      record {
        is_new = same_is_old firsts i j others k;
        added = λ m n.
            ap (λ fs. are_joined fs others m n) now ∙ Adds-nothing i j (are_joined firsts others) (same_joined firsts i j others k) m n;
        fair = subst (λ fs. IsFairOver fs others) (sym now) fair;
      }

  pub joined_other : o ≡ Other → (new : ℕ → ℕ → Bool) (b : Bool) → b ≡ not (others i j)
      → Adds i j others new → IsJoined firsts after i j others new b
  joined_other e new b fresh adds =
      let k : known (slice_get firsts i) j ≡ Other = sym is ∙ e in
      let now : after ≡ firsts = after_is Other e in
      record {
        is_new = fresh ∙ ap not (sym (other_beside firsts i j others k));
        added = λ m n. ap (λ fs. are_joined fs new m n) now ∙ other_added firsts i j others new adds k m n;
        fair = subst (λ fs. IsFairOver fs new) (sym now) (other_fair firsts i j others new adds k fair);
      }
