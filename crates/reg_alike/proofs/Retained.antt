-- The records of a part of a set, in order, are those of the set that are in the part.
use Rattle.std.proofs.Common.{◌≡◌, Bool, true, false, cond, ◌&&◌, ◌||◌, List, [], ◌∷◌, refl, sym, ap, ◌∙◌}
use Rattle.std.proofs.lemmas.Bool.{false≢true}
use Rattle.std.proofs.lemmas.Cmp.{alike_right, tied_itself}
use Rattle.std.specs.Cmp.{IsTotalOrder}
use Rattle.std.specs.FinSet.{IsAntisymmetric, contains, items, retain, contains-items, contains-retain}
use Rattle.std.specs.List.{filter, list_all, list_any}
use Rattle.std.specs.Ordering.{eq_by_cmp, is_eq, is_lt, match_ordering, ordering_reverse}
use Rattle.std.specs.declared.cmp.Ordering.{Ordering}
use Rattle.std.specs.declared.cmp.Ordering.TheVariants.{Less, Equal, Greater}
use Rattle.reg_leader.specs.reg_records.declared.record.Record.{Record}
use Rattle.reg_leader.specs.reg_set.RecordOrder.{record_cmp}
use Rattle.reg_leader.specs.reg_set.Records.{Records, in_order, is_in_order, placed, records_of}

abbrev is_among : Record → List Record → Bool
is_among q rs = list_any (eq_by_cmp record_cmp q) rs

-- whether a record stands before all others
abbrev is_before : Record → List Record → Bool
is_before r rs = list_all (λ q. is_lt (record_cmp r q)) rs

pub both : {a b : Bool} → a ≡ true → b ≡ true → (a && b) ≡ true
both {a} {b} p q = ap (λ x. x && b) p ∙ q

pub first_true : (a b : Bool) → (a && b) ≡ true → a ≡ true
first_true true b h = refl
first_true false b h = absurd (false≢true h)

pub second_true : (a b : Bool) → (a && b) ≡ true → b ≡ true
second_true true b h = h
second_true false b h = absurd (false≢true h)

swapped : (a b : Bool) → (a && b) ≡ (b && a)
swapped true true = refl
swapped true false = refl
swapped false true = refl
swapped false false = refl

or_swap : (a b c : Bool) → (a || (b || c)) ≡ (b || (a || c))
or_swap true true c = refl
or_swap true false c = refl
or_swap false b c = refl

or_same : (a b : Bool) → (a || b) ≡ (a || (a || b))
or_same true b = refl
or_same false b = refl

less : (o : Ordering) → is_lt o ≡ true → o ≡ Less
less Less h = refl
less Equal h = absurd (false≢true h)
less Greater h = absurd (false≢true h)

pub equal : (o : Ordering) → is_eq o ≡ true → o ≡ Equal
equal Less h = absurd (false≢true h)
equal Equal h = refl
equal Greater h = absurd (false≢true h)

all_placed : (p : Record → Bool) (r : Record) (qs : List Record) → p r ≡ true → list_all p qs ≡ true → list_all p (placed r qs) ≡ true
all_placed p r [] one all = both one refl
all_placed p r (q ∷ qs) one all =
    elim (record_cmp r q) as (λ o. list_all p (match_ordering o (r ∷ q ∷ qs) (q ∷ qs) (q ∷ placed r qs)) ≡ true) [
      | Less ↦ both one all
      | Equal ↦ all
      | Greater ↦ both (first_true _ _ all) (all_placed p r qs one (second_true _ _ all))
    ]

all_filter : (p test : Record → Bool) (rs : List Record) → list_all test rs ≡ true → list_all test (filter p rs) ≡ true
all_filter p test [] all = refl
all_filter p test (r ∷ rs) all =
    let rest = all_filter p test rs (second_true (test r) _ all) in
    elim (p r) as (λ b. list_all test (cond b (r ∷ filter p rs) (filter p rs)) ≡ true) [
      | true ↦ both (first_true _ _ all) rest
      | false ↦ rest
    ]

-- what is in order stays so
in_order-filter : (p : Record → Bool) (rs : List Record) → is_in_order rs ≡ true → is_in_order (filter p rs) ≡ true
in_order-filter p [] h = refl
in_order-filter p (r ∷ rs) h =
    let rest = in_order-filter p rs (second_true (is_before r rs) _ h) in
    elim (p r) as (λ b. is_in_order (cond b (r ∷ filter p rs) (filter p rs)) ≡ true) [
      | true ↦ both (all_filter p _ rs (first_true _ _ h)) rest
      | false ↦ rest
    ]

module _ (total : IsTotalOrder record_cmp) where
  turned : (r q : Record) (o : Ordering) → record_cmp r q ≡ o → record_cmp q r ≡ ordering_reverse o
  turned r q o e = total.antisymm q r ∙ ap ordering_reverse e

  itself : (r : Record) → eq_by_cmp record_cmp r r ≡ true
  itself r = ap is_eq (tied_itself total r)

  -- what stands before the first stands before the others
  before_others : (r q : Record) (qs : List Record) → record_cmp r q ≡ Less → is_before q qs ≡ true → is_before r qs ≡ true
  before_others r q [] e h = refl
  before_others r q (x ∷ xs) e h =
      both (ap is_lt (total.trans r q x e (less _ (first_true _ _ h)))) (before_others r q xs e (second_true _ _ h))

  in_order-placed : (r : Record) (qs : List Record) → is_in_order qs ≡ true → is_in_order (placed r qs) ≡ true
  in_order-placed r [] h = refl
  in_order-placed r (q ∷ qs) h =
      let rest = in_order-placed r qs (second_true (is_before q qs) _ h) in
      elim (record_cmp r q) as (λ o. record_cmp r q ≡ o → is_in_order (match_ordering o (r ∷ q ∷ qs) (q ∷ qs) (q ∷ placed r qs)) ≡ true) [
        | Less ↦ λ e. both (both (ap is_lt e) (before_others r q qs e (first_true _ _ h))) h
        | Equal ↦ λ _. h
        | Greater ↦ λ e. both (all_placed _ r qs (ap is_lt (turned r q Greater e)) (first_true _ _ h)) rest
      ] refl

  in_order-in_order : (rs : List Record) → is_in_order (in_order rs) ≡ true
  in_order-in_order [] = refl
  in_order-in_order (r ∷ rs) = in_order-placed r (in_order rs) (in_order-in_order rs)

  in_order-records_of : (s : Records) → is_in_order (records_of s) ≡ true
  unfolding records_of
  in_order-records_of s = in_order-in_order (items s)

  tied_alike : (q r x : Record) → record_cmp r x ≡ Equal → eq_by_cmp record_cmp q x ≡ eq_by_cmp record_cmp q r
  tied_alike q r x e = ap is_eq (sym (alike_right total r x q e))

  among-placed : (q r : Record) (rs : List Record) → is_among q (placed r rs) ≡ is_among q (r ∷ rs)
  among-placed q r [] = refl
  among-placed q r (x ∷ xs) =
      let is : Record → Bool = eq_by_cmp record_cmp q in
      let all : List Record = r ∷ x ∷ xs in
      elim (record_cmp r x) as (λ o. record_cmp r x ≡ o → is_among q (match_ordering o all (x ∷ xs) (x ∷ placed r xs)) ≡ is_among q all) [
        | Less ↦ λ _. refl
        | Equal ↦ λ e. or_same (is x) _ ∙ ap (λ b. b || is_among q (x ∷ xs)) (tied_alike q r x e)
        | Greater ↦ λ _. ap (λ b. is x || b) (among-placed q r xs) ∙ or_swap (is x) (is r) _
      ] refl

  among-in_order : (q : Record) (rs : List Record) → is_among q (in_order rs) ≡ is_among q rs
  among-in_order q [] = refl
  among-in_order q (r ∷ rs) = among-placed q r (in_order rs) ∙ ap (λ b. eq_by_cmp record_cmp q r || b) (among-in_order q rs)

  -- the records of a set are its members
  among-records_of : (s : Records) (q : Record) → is_among q (records_of s) ≡ contains s q
  unfolding records_of
  among-records_of s q = among-in_order q (items s) ∙ sym (contains-items s q)

  -- what ties with a record that stands before all others is none of these
  none_of_others : (r q : Record) (qs : List Record) → record_cmp q r ≡ Equal → is_before r qs ≡ true → is_among q qs ≡ false
  none_of_others r q [] e h = refl
  none_of_others r q (x ∷ xs) e h =
      let apart = ap is_eq (total.congr q r x e ∙ less _ (first_true _ _ h)) in
      ap (λ b. b || is_among q xs) apart ∙ none_of_others r q xs e (second_true _ _ h)

  -- the first of a list is not before the first of another with the same records
  first_not_before : (x y : Record) (xs ys : List Record) → is_in_order (y ∷ ys) ≡ true → is_among x (x ∷ xs) ≡ is_among x (y ∷ ys)
      → record_cmp x y ≡ Less → ⊥
  first_not_before x y xs ys h each e =
      let there : is_among x (x ∷ xs) ≡ true = ap (λ b. b || is_among x xs) (itself x) in
      let later = none_of_others x x ys (tied_itself total x) (before_others x y ys e (first_true _ _ h)) in
      let none : is_among x (y ∷ ys) ≡ false = ap (λ b. b || is_among x ys) (ap is_eq e) ∙ later in
      false≢true (sym none ∙ sym each ∙ there)

  module _ (ties : IsAntisymmetric record_cmp) where
    -- two lists in order that have the same records are one
    one_order : (xs ys : List Record) → is_in_order xs ≡ true → is_in_order ys ≡ true → ((q : Record) → is_among q xs ≡ is_among q ys)
        → xs ≡ ys
    one_order [] [] a b each = refl
    one_order [] (y ∷ ys) a b each = absurd (false≢true (each y ∙ ap (λ t. t || is_among y ys) (itself y)))
    one_order (x ∷ xs) [] a b each = absurd (false≢true (sym (each x) ∙ ap (λ t. t || is_among x xs) (itself x)))
    one_order (x ∷ xs) (y ∷ ys) a b each =
        let first : record_cmp x y ≡ Equal =
        elim (record_cmp x y) as (λ o. record_cmp x y ≡ o → o ≡ Equal) [
          | Less ↦ λ e. absurd (first_not_before x y xs ys b (each x) e)
          | Equal ↦ λ _. refl
          | Greater ↦ λ e. absurd (first_not_before y x ys xs a (sym (each y)) (turned x y Greater e))
        ] refl in
        let rest : (q : Record) → is_among q xs ≡ is_among q ys = λ q.
        elim (eq_by_cmp record_cmp q x) as (λ t. eq_by_cmp record_cmp q x ≡ t → is_among q xs ≡ is_among q ys) [
          | true ↦ λ e.
              let tie = equal _ e in
              let none = none_of_others x q xs tie (first_true _ _ a) in
              none ∙ sym (none_of_others y q ys (sym (alike_right total x y q first) ∙ tie) (first_true _ _ b))
          | false ↦ λ e.
              ap (λ t. t || is_among q xs) (sym e) ∙ each q ∙ ap (λ t. t || is_among q ys) (tied_alike q x y first ∙ e)
        ] refl in
        let tails = one_order xs ys (second_true _ _ a) (second_true _ _ b) rest in
        λ i. ties x y first i ∷ tails i

    -- one is among those that pass where it is among them all, and passes
    among-filter : (p : Record → Bool) (q : Record) (rs : List Record) → is_among q (filter p rs) ≡ (is_among q rs && p q)
    among-filter p q [] = refl
    among-filter p q (r ∷ rs) =
        let is : Record → Bool = eq_by_cmp record_cmp q in
        let rest = among-filter p q rs in
        elim (is r) as (λ t. is r ≡ t → is_among q (cond (p r) (r ∷ filter p rs) (filter p rs)) ≡ ((t || is_among q rs) && p q)) [
          | true ↦ λ e.
              let same : p r ≡ p q = ap p (sym (ties q r (equal _ e))) in
              elim (p r) as (λ b. b ≡ p q → is_among q (cond b (r ∷ filter p rs) (filter p rs)) ≡ p q) [
                | true ↦ λ pq. ap (λ t. t || is_among q (filter p rs)) e ∙ pq
                | false ↦ λ pq. rest ∙ ap (λ t. is_among q rs && t) (sym pq) ∙ swapped (is_among q rs) false ∙ pq
              ] same
          | false ↦ λ e. elim (p r) as (λ b. is_among q (cond b (r ∷ filter p rs) (filter p rs)) ≡ (is_among q rs && p q)) [
            | true ↦ ap (λ t. t || is_among q (filter p rs)) e ∙ rest
            | false ↦ rest
          ]
        ] refl

    pub in_retain : (s : Records) (p : Record → Bool) (q : Record) → contains (retain s p) q ≡ (contains s q && p q)
    in_retain s p q = contains-retain s p q (λ x e. ap p (sym (ties q x e)))

    pub records_of-retain : (s : Records) (p : Record → Bool) → records_of (retain s p) ≡ filter p (records_of s)
    records_of-retain s p =
        let left = in_order-records_of (retain s p) in
        let right = in_order-filter p (records_of s) (in_order-records_of s) in
        one_order (records_of (retain s p)) (filter p (records_of s)) left right (λ q.
        among-records_of (retain s p) q ∙ in_retain s p q
        ∙ ap (λ b. b && p q) (sym (among-records_of s q)) ∙ sym (among-filter p q (records_of s)))
