-- The last record of a key is the greatest of its records.
use Rattle.std.proofs.Common.{◌≡◌, Bool, true, false, cond, ◌&&◌, ◌||◌, List, [], ◌∷◌, Some, None, refl, sym, ap, subst, ◌∙◌}
use Rattle.std.proofs.lemmas.Bool.{false≢true}
use Rattle.std.proofs.lemmas.Cmp.{tied_itself, upto}
use Rattle.std.specs.FinSet.{contains}
use Rattle.std.specs.List.{list_any, list_all, filter, fold, reduce}
use Rattle.std.specs.Option.{unwrap_or}
use Rattle.std.specs.Ordering.{eq_by_cmp, is_eq, is_gt, is_le, is_lt, ord_max, ordering_reverse}
use Rattle.std.specs.declared.cmp.Ordering.{Ordering}
use Rattle.std.specs.declared.cmp.Ordering.TheVariants.{Less, Equal, Greater}
use Rattle.reg_records.specs.declared.key.Key.{Key}
use Rattle.reg_records.specs.declared.record.Record.{Record}
use Rattle.reg_set.specs.LastRecords.{is_of, last, IsGreatestOf}
use Rattle.reg_set.specs.RecordOrder.{age_cmp, key_cmp, record_cmp}
use Rattle.reg_set.specs.Records.{Records, records_of}
use Rattle.reg_set.proofs.Orders.{age_cmp-total, age_cmp-of_one_key, key_cmp-total, key_cmp-ties, record_cmp-total, record_cmp-ties}
use Rattle.reg_set.proofs.InOrder.{both, first_of, second_of, contains-records_of}

pub equal : (o : Ordering) → is_eq o ≡ true → o ≡ Equal
equal Less h = absurd (false≢true h)
equal Equal h = refl
equal Greater h = absurd (false≢true h)

not_gt : (o : Ordering) → is_le o ≡ true → is_gt o ≡ false
not_gt Less h = refl
not_gt Equal h = refl
not_gt Greater h = absurd (false≢true h)

le_of : (o : Ordering) → is_gt o ≡ false → is_le o ≡ true
le_of Less h = refl
le_of Equal h = refl
le_of Greater h = absurd (false≢true (sym h))

pub both_le : (o : Ordering) → is_le o ≡ true → is_le (ordering_reverse o) ≡ true → o ≡ Equal
both_le Less h k = absurd (false≢true k)
both_le Equal h k = refl
both_le Greater h k = absurd (false≢true h)

pub le_itself : (r : Record) → is_le (age_cmp r r) ≡ true
le_itself r = ap is_le (tied_itself age_cmp-total r)

pub le_trans : (r q p : Record) → is_le (age_cmp r q) ≡ true → is_le (age_cmp q p) ≡ true → is_le (age_cmp r p) ≡ true
le_trans r q p h k = le_of _ (upto age_cmp-total r q p (not_gt _ h) (not_gt _ k))

pub turn_lt : (o : Ordering) → is_lt o ≡ false → is_le (ordering_reverse o) ≡ true
turn_lt Less h = absurd (false≢true (sym h))
turn_lt Equal h = refl
turn_lt Greater h = refl

pub lt_le : (o : Ordering) → is_lt o ≡ true → is_le o ≡ true
lt_le Less h = refl
lt_le Equal h = refl
lt_le Greater h = absurd (false≢true h)

-- the greater of two is at least both
pub le-ord_max_left : (a b : Record) → is_le (age_cmp a (ord_max age_cmp a b)) ≡ true
le-ord_max_left a b =
    elim (is_lt (age_cmp b a)) as (λ t. is_lt (age_cmp b a) ≡ t → is_le (age_cmp a (cond t a b)) ≡ true) [
      | true ↦ λ _. le_itself a
      | false ↦ λ e. ap is_le (age_cmp-total.antisymm a b) ∙ turn_lt _ e
    ] refl

pub le-ord_max_right : (a b : Record) → is_le (age_cmp b (ord_max age_cmp a b)) ≡ true
le-ord_max_right a b =
    elim (is_lt (age_cmp b a)) as (λ t. is_lt (age_cmp b a) ≡ t → is_le (age_cmp b (cond t a b)) ≡ true) [
      | true ↦ λ e. lt_le _ e
      | false ↦ λ _. le_itself b
    ] refl

-- what holds of each of a list holds of one that is among them
pub at_any : (p : Record → Bool) (q : Record) (xs : List Record)
    → list_all p xs ≡ true → list_any (eq_by_cmp record_cmp q) xs ≡ true → p q ≡ true
at_any p q [] all one = absurd (false≢true one)
at_any p q (x ∷ xs) all one =
    elim (eq_by_cmp record_cmp q x) as (λ t.
    eq_by_cmp record_cmp q x ≡ t → (t || list_any (eq_by_cmp record_cmp q) xs) ≡ true → p q ≡ true) [
      | true ↦ λ e _. ap p (record_cmp-ties q x (equal _ e)) ∙ first_of _ _ all
      | false ↦ λ _ rest. at_any p q xs (second_of _ _ all) rest
    ] refl one

-- one is among those that pass where it passes and is among them all
pub any_filter : (p : Record → Bool) (q : Record) (xs : List Record)
    → list_any (eq_by_cmp record_cmp q) (filter p xs) ≡ (p q && list_any (eq_by_cmp record_cmp q) xs)
any_filter p q [] = elim (p q) as (λ b. false ≡ (b && false)) [ true ↦ refl | false ↦ refl ]
any_filter p q (x ∷ xs) =
    let is : Record → Bool = eq_by_cmp record_cmp q in
    let rest = any_filter p q xs in
    elim (is x) as (λ t. is x ≡ t → list_any is (cond (p x) (x ∷ filter p xs) (filter p xs)) ≡ (p q && (t || list_any is xs))) [
      | true ↦ λ e.
          let same : p x ≡ p q = ap p (sym (record_cmp-ties q x (equal _ e))) in
          elim (p x) as (λ b. b ≡ p q → list_any is (cond b (x ∷ filter p xs) (filter p xs)) ≡ (p q && true)) [
            | true ↦ λ pq. ap (λ b. b || list_any is (filter p xs)) e ∙ ap (λ b. b && true) pq
            | false ↦ λ pq. rest ∙ ap (λ b. b && list_any is xs) (sym pq) ∙ ap (λ b. b && true) pq
          ] same
      | false ↦ λ e.
          elim (p x) as (λ b. list_any is (cond b (x ∷ filter p xs) (filter p xs)) ≡ (p q && list_any is xs)) [
            | true ↦ ap (λ b. b || list_any is (filter p xs)) e ∙ rest
            | false ↦ rest
          ]
    ] refl

all_le : (m : Record) (n : Record) (xs : List Record) → is_le (age_cmp m n) ≡ true
    → list_all (λ q. is_le (age_cmp q m)) xs ≡ true → list_all (λ q. is_le (age_cmp q n)) xs ≡ true
all_le m n [] h all = refl
all_le m n (x ∷ xs) h all = both (le_trans x m n (first_of _ _ all) h) (all_le m n xs h (second_of _ _ all))

abbrev most : Record → List Record → Record
most a xs = fold (ord_max age_cmp) a xs

most-first : (a : Record) (xs : List Record) → is_le (age_cmp a (most a xs)) ≡ true
most-first a [] = le_itself a
most-first a (x ∷ xs) =
    le_trans a (ord_max age_cmp a x) (most (ord_max age_cmp a x) xs) (le-ord_max_left a x) (most-first (ord_max age_cmp a x) xs)

most-others : (a : Record) (xs : List Record) → list_all (λ q. is_le (age_cmp q (most a xs))) xs ≡ true
most-others a [] = refl
most-others a (x ∷ xs) =
    let b = ord_max age_cmp a x in
    both (le_trans x b (most b xs) (le-ord_max_right a x) (most-first b xs)) (most-others b xs)

itself : (r : Record) → eq_by_cmp record_cmp r r ≡ true
itself r = ap is_eq (tied_itself record_cmp-total r)

most-among : (a : Record) (xs : List Record) → list_any (eq_by_cmp record_cmp (most a xs)) (a ∷ xs) ≡ true
most-among a [] = ap (λ b. b || false) (itself a)
most-among a (x ∷ xs) =
    let m = most (ord_max age_cmp a x) xs in
    let is : Record → Bool = eq_by_cmp record_cmp m in
    elim (is_lt (age_cmp x a)) as (λ t. (is (cond t a x) || list_any is xs) ≡ true → (is a || (is x || list_any is xs)) ≡ true) [
      | true ↦ λ h. elim (is a) as (λ b. (b || list_any is xs) ≡ true → (b || (is x || list_any is xs)) ≡ true) [
        | true ↦ λ _. refl
        | false ↦ λ one. elim (is x) as (λ b. (b || list_any is xs) ≡ true) [ true ↦ refl | false ↦ one ]
      ] h
      | false ↦ λ h. elim (is a) as (λ b. (b || (is x || list_any is xs)) ≡ true) [ true ↦ refl | false ↦ h ]
    ] (most-among (ord_max age_cmp a x) xs)

-- the greatest of a list is among it, and each of the list is at most that one
greatest-some : (xs : List Record) (r : Record) → reduce (ord_max age_cmp) xs ≡ Some r
    → (list_any (eq_by_cmp record_cmp r) xs ≡ true) × (list_all (λ q. is_le (age_cmp q r)) xs ≡ true)
greatest-some [] r e = absurd (cc)
greatest-some (x ∷ xs) r e =
    let same : most x xs ≡ r = ap (λ o. unwrap_or o r) e in (
      subst (λ m. list_any (eq_by_cmp record_cmp m) (x ∷ xs) ≡ true) same (most-among x xs),
      subst (λ m. list_all (λ q. is_le (age_cmp q m)) (x ∷ xs) ≡ true) same (both (most-first x xs) (most-others x xs)),
    )

greatest-none : (xs : List Record) → reduce (ord_max age_cmp) xs ≡ None → xs ≡ []
greatest-none [] e = refl
greatest-none (x ∷ xs) e = absurd (cc)

pub is_of-is : (key : Key) (r : Record) → is_of key r ≡ true → r.key ≡ key
unfolding is_of
is_of-is key r e = sym (key_cmp-ties key r.key (equal _ e))

pub is_of-of : (key : Key) (r : Record) → r.key ≡ key → is_of key r ≡ true
unfolding is_of
is_of-of key r e = ap (λ k. eq_by_cmp key_cmp key k) e ∙ ap is_eq (tied_itself key_cmp-total key)

-- a record of a key and a set is among those that its last one is chosen from
chosen_from : (s : Records) (key : Key) (q : Record)
    → list_any (eq_by_cmp record_cmp q) (filter (is_of key) (records_of s)) ≡ (is_of key q && contains s q)
chosen_from s key q = any_filter (is_of key) q (records_of s) ∙ ap (λ b. is_of key q && b) (sym (contains-records_of s q))

pub last-some : (s : Records) (key : Key) (r : Record) → last s key ≡ Some r → IsGreatestOf s key r
unfolding last
last-some s key r e =
    let facts = greatest-some (filter (is_of key) (records_of s)) r e in
    let there = sym (chosen_from s key r) ∙ facts.0 in
    record {
      is_in_set = second_of (is_of key r) _ there;
      is_of_key = is_of-is key r (first_of _ (contains s r) there);
      is_greatest = λ q inside same.
          at_any (λ x. is_le (age_cmp x r)) q (filter (is_of key) (records_of s)) facts.1
          (chosen_from s key q ∙ both (is_of-of key q same) inside);
    }

pub last-none : (s : Records) (key : Key) → last s key ≡ None → (q : Record) → contains s q ≡ true → q.key ≡ key → ⊥
unfolding last
last-none s key e q inside same =
    let none = greatest-none (filter (is_of key) (records_of s)) e in
    let there = chosen_from s key q ∙ both (is_of-of key q same) inside in
    false≢true (sym (ap (list_any (eq_by_cmp record_cmp q)) none) ∙ there)

pub IsGreatestOf-one : (s : Records) (key : Key) (r q : Record) → IsGreatestOf s key r → IsGreatestOf s key q → r ≡ q
IsGreatestOf-one s key r q a b =
    let ages : age_cmp r q ≡ Equal = both_le _ (b.is_greatest r a.is_in_set a.is_of_key)
    (ap is_le (sym (age_cmp-total.antisymm q r)) ∙ a.is_greatest q b.is_in_set b.is_of_key) in
    let keys : key_cmp r.key q.key ≡ Equal = ap (key_cmp r.key) (b.is_of_key ∙ sym a.is_of_key) ∙ tied_itself key_cmp-total r.key in
    record_cmp-ties r q (sym (age_cmp-of_one_key r q keys) ∙ ages)

pub last-greatest : (s : Records) (key : Key) (r : Record) → IsGreatestOf s key r → last s key ≡ Some r
last-greatest s key r h =
    elim (last s key) as (λ o. last s key ≡ o → o ≡ Some r) [
      | None ↦ λ e. absurd (last-none s key e r h.is_in_set h.is_of_key)
      | Some q ↦ λ e. ap Some (IsGreatestOf-one s key q r (last-some s key q e) h)
    ] refl

pub last-absent : (s : Records) (key : Key) → ((q : Record) → contains s q ≡ true → q.key ≡ key → ⊥) → last s key ≡ None
last-absent s key none =
    elim (last s key) as (λ o. last s key ≡ o → o ≡ None) [
      | None ↦ λ _. refl
      | Some q ↦ λ e. absurd (none q (last-some s key q e).is_in_set (last-some s key q e).is_of_key)
    ] refl
