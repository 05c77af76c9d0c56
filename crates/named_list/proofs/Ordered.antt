-- Entries in the order of their names' hashes.
use Rattle.std.proofs.Common.{◌≡◌, ℕ, ◌+◌, ◌<◌, ◌==◌, ◌||◌, not, Bool, true, false, List, [], ◌∷◌, Option, Some, None, Result, Ok, Err}
use Rattle.std.proofs.Common.{IfOk, MatchOption, length, map, get_or, bytes_eq, refl, sym, ap, subst, ◌∙◌, arith}
use Rattle.std.proofs.lemmas.Bool.{true≢false, false≢true, eq-eqb}
use Rattle.std.proofs.lemmas.List.{get_or-map, length-map}
use Rattle.std.proofs.lemmas.List.Elements.{All-head, All-tail, All-cons}
use Rattle.std.proofs.lemmas.List.Sorted.{IsPermutation-map, IsPermutation-sym, All-permutation}
use Rattle.std.proofs.lemmas.Map.Keys.{apart_from_distinct, sorted_from_all_adjacent, IsDistinct-IsPermutation, IsDistinct-from_sorted}
use Rattle.std.proofs.lemmas.Slice.Eq.{bytes_eq-Decides}
use Rattle.std.specs.Cmp.Lexicographic.{slice_cmp, nat_list_eq_equiv}
use Rattle.std.specs.List.{All, AllAdjacentBelow, IsAllAdjacentAnswer, IsDistinct}
use Rattle.std.specs.List.Sorted.{IsPermutation, IsSorted, IsStrictlySortedBy}
use Rattle.std.specs.Ordering.{nat_cmp, is_eq, is_lt, ordering_reverse, ordering_then}
use Rattle.std.specs.declared.cmp.Ordering.{Ordering}
use Rattle.std.specs.declared.cmp.Ordering.TheVariants.{Less, Equal, Greater}
use Rattle.named_list.specs.Distinct.{all_distinct}
use Rattle.named_list.specs.Index.{Entry, Place, hash_cmp, names_at, names_of, place_of, are_apart, IsHashed, IsIndex, IsPlaced, IsOrderOf}
use Rattle.named_list.specs.Slots.{hash_from}
use Rattle.named_list.proofs.Distinct.{IsDistinct-from_true, all_distinct-true}
use Rattle.named_list.proofs.Hashed.{hash_cmp_total, is_eq-hash_cmp}

-- ---- the index

names_there : (names : List (List ℕ)) (es : List Entry) → All (IsPlaced names) es
    → names_at names (map place_of es) ≡ names_of es
names_there names [] h = refl
names_there names (e ∷ es) h = λ i. (All-head (IsPlaced names) e es h).1 i ∷ names_there names es (All-tail (IsPlaced names) e es h) i

places_within : (names : List (List ℕ)) (es : List Entry) → All (IsPlaced names) es
    → All (λ (p : Place). p.1 < length names) (map place_of es)
places_within names [] h = λ k d b. absurd (omega arith)
places_within names (e ∷ es) h =
    All-cons (λ (p : Place). p.1 < length names) (place_of e) (map place_of es)
    (All-head (IsPlaced names) e es h).0 (places_within names es (All-tail (IsPlaced names) e es h))

places_hashed : (names : List (List ℕ)) (es : List Entry) → All (IsPlaced names) es → All IsHashed es
    → All (λ (p : Place). p.0 ≡ hash_from 0 (get_or names p.1 [])) (map place_of es)
places_hashed names [] h known = λ k d b. absurd (omega arith)
places_hashed names (e ∷ es) h known =
    All-cons (λ (p : Place). p.0 ≡ hash_from 0 (get_or names p.1 [])) (place_of e) (map place_of es)
    (All-head IsHashed e es known ∙ ap (hash_from 0) (sym (All-head (IsPlaced names) e es h).1))
    (places_hashed names es (All-tail (IsPlaced names) e es h) (All-tail IsHashed e es known))

pub index_is : (names : List (List ℕ)) (entries : List Entry) (places : List Place) → names_of entries ≡ names
    → All (IsPlaced names) entries → All IsHashed entries → IsOrderOf entries places → IsIndex names places
index_is names entries places is placed known order =
    let all = All-permutation (IsPlaced names) entries order.sorted order.moved placed in
    let hashes = All-permutation IsHashed entries order.sorted order.moved known in
    let there : names_at names places ≡ names_of order.sorted = ap (names_at names) order.are_places ∙ names_there names order.sorted all in
    let moved : IsPermutation (names_of entries) (names_of order.sorted) =
    IsPermutation-map (λ (e : Entry). e.1.now) entries order.sorted order.moved in
    record {
      within = subst (All (λ (p : Place). p.1 < length names)) (sym order.are_places) (places_within names order.sorted all);
      hashed =
          subst (All (λ (p : Place). p.0 ≡ hash_from 0 (get_or names p.1 []))) (sym order.are_places)
          (places_hashed names order.sorted all hashes);
      in_order = subst (IsStrictlySortedBy hash_cmp) (sym there) order.in_order;
      whole = subst (λ ns. IsPermutation ns (names_at names places)) is (subst (IsPermutation (names_of entries)) (sym there) moved);
    }

pub all_distinct-from_index : (names : List (List ℕ)) (places : List Place) → IsIndex names places → all_distinct bytes_eq names ≡ true
all_distinct-from_index names places index =
    let ordered = names_at names places in
    let by_order = IsDistinct-from_sorted hash_cmp ordered index.in_order in
    let by_bytes : IsDistinct bytes_eq ordered =
    subst (λ (e : List ℕ → List ℕ → Bool). IsDistinct e ordered) (λ i x y. is_eq-hash_cmp x y i) by_order in
    all_distinct-true bytes_eq names (
    IsDistinct-IsPermutation bytes_eq nat_list_eq_equiv.symm ordered names (IsPermutation-sym names ordered index.whole) by_bytes)

-- ---- the order

-- neither below the one before it nor the same
above : (o p q : Ordering) → o ≡ ordering_reverse p → is_lt (ordering_then p q) ≡ false → is_eq o ≡ false → o ≡ Less
above o Less q e n other = absurd (true≢false n)
above o Equal q e n other = absurd (true≢false (sym (ap is_eq e) ∙ other))
above o Greater q e n other = e

apart_names : (x y : Entry) → IsHashed x → IsHashed y → true ≡ are_apart x y → (b : Bool)
    → bytes_eq x.1.now y.1.now ≡ b → b ≡ false
apart_names x y hx hy apart true same =
    let is : x.1.now ≡ y.1.now = (bytes_eq-Decides x.1.now y.1.now).0 same in
    let hashes : x.0 ≡ y.0 = hx ∙ ap (hash_from 0) is ∙ sym hy in
    absurd (true≢false (
    apart
    ∙ ap (λ n. not (n == y.0) || not (bytes_eq x.1.now y.1.now)) hashes
    ∙ ap (λ b. not b || not (bytes_eq x.1.now y.1.now)) (eq-eqb y.0 y.0 refl)
    ∙ ap not same))
apart_names x y hx hy apart false same = refl

-- the order that entries are sorted in
abbrev pub entry_cmp : Entry → Entry → Ordering
entry_cmp x y = ordering_then (ordering_then (nat_cmp x.0 y.0) (slice_cmp nat_cmp x.1.now y.1.now)) (nat_cmp x.2 y.2)

rises : (x y : Entry) → IsHashed x → IsHashed y → true ≡ are_apart x y → is_lt (entry_cmp y x) ≡ false
    → hash_cmp x.1.now y.1.now ≡ Less
rises x y hx hy apart sorted =
    let falls : is_lt (ordering_then (hash_cmp y.1.now x.1.now) (nat_cmp y.2 x.2)) ≡ false =
    ap
    (λ (h : ℕ × ℕ).
    is_lt (ordering_then (ordering_then (nat_cmp h.0 h.1) (slice_cmp nat_cmp y.1.now x.1.now)) (nat_cmp y.2 x.2)))
    (λ i. (sym hy i, sym hx i))
    ∙ sorted in
    above (hash_cmp x.1.now y.1.now) (hash_cmp y.1.now x.1.now) (nat_cmp y.2 x.2)
    (hash_cmp_total.antisymm x.1.now y.1.now) falls
    (is_eq-hash_cmp x.1.now y.1.now ∙ apart_names x y hx hy apart (bytes_eq x.1.now y.1.now) refl)

sorted_strictly : (es : List Entry) → All IsHashed es → IsSorted entry_cmp es
    → AllAdjacentBelow (λ x y. true ≡ are_apart x y) es (length es) → IsStrictlySortedBy hash_cmp (names_of es)
sorted_strictly [] known sorted h = sorted_from_all_adjacent hash_cmp_total [] [] (λ k b. absurd (omega arith))
sorted_strictly (e ∷ es) known sorted h =
    sorted_from_all_adjacent hash_cmp_total (names_of (e ∷ es)) []
    (λ k b.
    let whole = length-map (e ∷ es) (λ (f : Entry). f.1.now) in
    let inside : k + 1 < length (e ∷ es) = subst (λ n. k + 1 < n) whole b in
    let before : k < length (e ∷ es) = omega arith in
    let here = get_or-map (λ (f : Entry). f.1.now) (e ∷ es) k e [] before in
    let next = get_or-map (λ (f : Entry). f.1.now) (e ∷ es) (k + 1) e [] inside in
    (λ i. hash_cmp (here i) (next i))
    ∙ rises (get_or (e ∷ es) k e) (get_or (e ∷ es) (k + 1) e) (known k e before) (known (k + 1) e inside) (h k e inside)
    (sorted k e (omega arith) inside))

same_names : (b c : Bool) → false ≡ (not b || not c) → c ≡ true
same_names b true h = refl
same_names true false h = absurd (false≢true h)
same_names false false h = absurd (false≢true h)

not_distinct : (entries es : List Entry) → IsPermutation entries es → (k : ℕ) → k + 1 < length es
    → ((e : Entry) → bytes_eq (get_or es k e).1.now (get_or es (k + 1) e).1.now ≡ true) → all_distinct bytes_eq (names_of entries) ≡ false
not_distinct entries es moved k within same = by_test _ refl
  where
    apart : all_distinct bytes_eq (names_of entries) ≡ true → (xs : List Entry) → xs ≡ es → ⊥
    apart h [] is = absurd (omega (arith, ap length is))
    apart h (e ∷ xs) is =
        let distinct = IsDistinct-IsPermutation bytes_eq nat_list_eq_equiv.symm (names_of entries) (names_of es)
        (IsPermutation-map (λ (f : Entry). f.1.now) entries es moved) (IsDistinct-from_true bytes_eq (names_of entries) h) in
        let whole = length-map es (λ (f : Entry). f.1.now) in
        let here = get_or-map (λ (f : Entry). f.1.now) es k e [] (omega arith) in
        let next = get_or-map (λ (f : Entry). f.1.now) es (k + 1) e [] within in
        false≢true (
        sym (apart_from_distinct bytes_eq (names_of es) k (k + 1) [] distinct (omega arith) (omega (arith, whole)))
        ∙ (λ i. bytes_eq (here i) (next i))
        ∙ same e)

    by_test : (b : Bool) → all_distinct bytes_eq (names_of entries) ≡ b → all_distinct bytes_eq (names_of entries) ≡ false
    by_test true h = absurd (apart h es refl)
    by_test false h = h

-- what the neighbours of sorted entries settle
module _ (entries es xs : List Entry) (moved : IsPermutation entries es) (is : xs ≡ es) where
  pub none_ordered : IsAllAdjacentAnswer (λ x y b. b ≡ are_apart x y) xs false → all_distinct bytes_eq (names_of entries) ≡ false
  none_ordered same =
      let f = subst (λ ys. IsAllAdjacentAnswer (λ x y b. b ≡ are_apart x y) ys false) is same in
      not_distinct entries es moved f.0 f.1 (λ e. same_names _ _ (f.2 e))

  pub ordered : All IsHashed entries → IsSorted entry_cmp es → IsAllAdjacentAnswer (λ x y b. b ≡ are_apart x y) xs true
      → (places : List Place) → places ≡ map place_of es → IsOrderOf entries places
  ordered known sorted apart places are =
      record {
        sorted = es;
        moved = moved;
        are_places = are;
        in_order =
            sorted_strictly es (All-permutation IsHashed entries es moved known) sorted
            (subst (λ ys. IsAllAdjacentAnswer (λ x y b. b ≡ are_apart x y) ys true) is apart);
      }

pub answered : {V E : Type 0} (A C : Type 0) (B D : V → Type 0) → (A → C) → ((v : V) → B v → D v)
    → (r : Result (Option V) E) → IfOk r (λ o. MatchOption o A B) → IfOk r (λ o. MatchOption o C D)
answered A C B D f g (Err e) h = h
answered A C B D f g (Ok None) h = f h
answered A C B D f g (Ok (Some v)) h = g v h
