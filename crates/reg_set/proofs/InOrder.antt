-- Lists of records in order, and the list that a set of records is.
use Rattle.std.proofs.Common.{◌≡◌, Bool, true, false, ◌&&◌, ◌||◌, List, [], ◌∷◌, refl, sym, ap, ◌∙◌}
use Rattle.std.proofs.lemmas.Bool.{false≢true}
use Rattle.std.proofs.lemmas.Cmp.{alike_right, tied_itself}
use Rattle.std.specs.FinSet.{contains, from_list, items, contains-items, contains-from_list}
use Rattle.std.specs.List.{list_any, list_all}
use Rattle.std.specs.Ordering.{eq_by_cmp, is_eq, is_lt, match_ordering, ordering_reverse}
use Rattle.std.specs.declared.cmp.Ordering.{Ordering}
use Rattle.std.specs.declared.cmp.Ordering.TheVariants.{Less, Equal, Greater}
use Rattle.reg_records.specs.declared.record.Record.{Record}
use Rattle.reg_set.specs.RecordOrder.{record_cmp}
use Rattle.reg_set.specs.Records.{Records, is_in_order, placed, in_order, records_of}
use Rattle.reg_set.proofs.Orders.{record_cmp-total, record_cmp-ties}

pub both : {a b : Bool} → a ≡ true → b ≡ true → (a && b) ≡ true
both {a} {b} p q = ap (λ x. x && b) p ∙ q

pub first_of : (a b : Bool) → (a && b) ≡ true → a ≡ true
first_of true b h = refl
first_of false b h = absurd (false≢true h)

pub second_of : (a b : Bool) → (a && b) ≡ true → b ≡ true
second_of true b h = h
second_of false b h = absurd (false≢true h)

or_swap : (a b c : Bool) → (a || (b || c)) ≡ (b || (a || c))
or_swap true true c = refl
or_swap true false c = refl
or_swap false b c = refl

or_same : (a b : Bool) → (a || b) ≡ (a || (a || b))
or_same true b = refl
or_same false b = refl

pub less : (o : Ordering) → is_lt o ≡ true → o ≡ Less
less Less h = refl
less Equal h = absurd (false≢true h)
less Greater h = absurd (false≢true h)

pub turned : (r q : Record) (o : Ordering) → record_cmp r q ≡ o → record_cmp q r ≡ ordering_reverse o
turned r q o e = record_cmp-total.antisymm q r ∙ ap ordering_reverse e

-- what stands before the first stands before the others
pub before_all : (r q : Record) (qs : List Record) → record_cmp r q ≡ Less
    → list_all (λ x. is_lt (record_cmp q x)) qs ≡ true → list_all (λ x. is_lt (record_cmp r x)) qs ≡ true
before_all r q [] e h = refl
before_all r q (x ∷ xs) e h =
    let one = ap is_lt (record_cmp-total.trans r q x e (less _ (first_of _ _ h))) in
    both one (before_all r q xs e (second_of _ _ h))

-- what stands before all is none of them
pub none_of_later : (r q : Record) (qs : List Record) → record_cmp q r ≡ Equal
    → list_all (λ x. is_lt (record_cmp r x)) qs ≡ true → list_any (eq_by_cmp record_cmp q) qs ≡ false
none_of_later r q [] e h = refl
none_of_later r q (x ∷ xs) e h =
    let apart = ap is_eq (record_cmp-total.congr q r x e ∙ less _ (first_of _ _ h)) in
    ap (λ b. b || list_any (eq_by_cmp record_cmp q) xs) apart ∙ none_of_later r q xs e (second_of _ _ h)

pub all_placed : (p : Record → Bool) (r : Record) (qs : List Record) → p r ≡ true → list_all p qs ≡ true → list_all p (placed r qs) ≡ true
all_placed p r [] one all = both one refl
all_placed p r (q ∷ qs) one all =
    elim (record_cmp r q) as (λ o. list_all p (match_ordering o (r ∷ q ∷ qs) (q ∷ qs) (q ∷ placed r qs)) ≡ true) [
      | Less ↦ both one all
      | Equal ↦ all
      | Greater ↦ both (first_of _ _ all) (all_placed p r qs one (second_of _ _ all))
    ]

pub is_in_order-placed : (r : Record) (qs : List Record) → is_in_order qs ≡ true → is_in_order (placed r qs) ≡ true
is_in_order-placed r [] h = refl
is_in_order-placed r (q ∷ qs) h =
    elim (record_cmp r q) as (λ o. record_cmp r q ≡ o → is_in_order (match_ordering o (r ∷ q ∷ qs) (q ∷ qs) (q ∷ placed r qs)) ≡ true) [
      | Less ↦ λ e. both (both (ap is_lt e) (before_all r q qs e (first_of _ _ h))) h
      | Equal ↦ λ _. h
      | Greater ↦ λ e.
          both (all_placed _ r qs (ap is_lt (turned r q Greater e)) (first_of _ _ h)) (is_in_order-placed r qs (second_of _ _ h))
    ] refl

pub is_in_order-in_order : (rs : List Record) → is_in_order (in_order rs) ≡ true
is_in_order-in_order [] = refl
is_in_order-in_order (r ∷ rs) = is_in_order-placed r (in_order rs) (is_in_order-in_order rs)

pub any_placed : (p : Record → Bool) (r : Record) (qs : List Record)
    → ((x : Record) → record_cmp r x ≡ Equal → p x ≡ p r) → list_any p (placed r qs) ≡ (p r || list_any p qs)
any_placed p r [] alike = refl
any_placed p r (q ∷ qs) alike =
    elim (record_cmp r q) as (λ o.
    record_cmp r q ≡ o → list_any p (match_ordering o (r ∷ q ∷ qs) (q ∷ qs) (q ∷ placed r qs)) ≡ (p r || (p q || list_any p qs))) [
      | Less ↦ λ _. refl
      | Equal ↦ λ e. or_same (p q) _ ∙ ap (λ b. b || (p q || list_any p qs)) (alike q e)
      | Greater ↦ λ _. ap (λ b. p q || b) (any_placed p r qs alike) ∙ or_swap (p q) (p r) _
    ] refl

pub any_in_order : (p : Record → Bool) → ((r x : Record) → record_cmp r x ≡ Equal → p x ≡ p r)
    → (rs : List Record) → list_any p (in_order rs) ≡ list_any p rs
any_in_order p alike [] = refl
any_in_order p alike (r ∷ rs) = any_placed p r (in_order rs) (alike r) ∙ ap (λ b. p r || b) (any_in_order p alike rs)

pub ties_alike : (q r x : Record) → record_cmp r x ≡ Equal → eq_by_cmp record_cmp q x ≡ eq_by_cmp record_cmp q r
ties_alike q r x e = ap is_eq (sym (alike_right record_cmp-total r x q e))

pub itself : (r : Record) → eq_by_cmp record_cmp r r ≡ true
itself r = ap is_eq (tied_itself record_cmp-total r)

-- the records of a set are its members
pub contains-records_of : (s : Records) (q : Record) → contains s q ≡ list_any (eq_by_cmp record_cmp q) (records_of s)
unfolding records_of
contains-records_of s q = contains-items s q ∙ sym (any_in_order _ (ties_alike q) (items s))

pub is_in_order-records_of : (s : Records) → is_in_order (records_of s) ≡ true
unfolding records_of
is_in_order-records_of s = is_in_order-in_order (items s)

-- the first of a list is not before the first of another with the same records
first_is_not_before : (x y : Record) (xs ys : List Record) → is_in_order (y ∷ ys) ≡ true
    → list_any (eq_by_cmp record_cmp x) (x ∷ xs) ≡ list_any (eq_by_cmp record_cmp x) (y ∷ ys) → record_cmp x y ≡ Less → ⊥
first_is_not_before x y xs ys h each e =
    let there : list_any (eq_by_cmp record_cmp x) (x ∷ xs) ≡ true = ap (λ b. b || list_any (eq_by_cmp record_cmp x) xs) (itself x) in
    let later = none_of_later x x ys (tied_itself record_cmp-total x) (before_all x y ys e (first_of _ _ h)) in
    let none : list_any (eq_by_cmp record_cmp x) (y ∷ ys) ≡ false =
    ap (λ b. b || list_any (eq_by_cmp record_cmp x) ys) (ap is_eq e) ∙ later in
    false≢true (sym none ∙ sym each ∙ there)

-- two lists in order that have the same records are one
pub one_order : (xs ys : List Record) → is_in_order xs ≡ true → is_in_order ys ≡ true
    → ((q : Record) → list_any (eq_by_cmp record_cmp q) xs ≡ list_any (eq_by_cmp record_cmp q) ys) → xs ≡ ys
one_order [] [] a b each = refl
one_order [] (y ∷ ys) a b each = absurd (false≢true (each y ∙ ap (λ b. b || list_any (eq_by_cmp record_cmp y) ys) (itself y)))
one_order (x ∷ xs) [] a b each = absurd (false≢true (sym (each x) ∙ ap (λ b. b || list_any (eq_by_cmp record_cmp x) xs) (itself x)))
one_order (x ∷ xs) (y ∷ ys) a b each =
    let first : record_cmp x y ≡ Equal =
    elim (record_cmp x y) as (λ o. record_cmp x y ≡ o → o ≡ Equal) [
      | Less ↦ λ e. absurd (first_is_not_before x y xs ys b (each x) e)
      | Equal ↦ λ _. refl
      | Greater ↦ λ e. absurd (first_is_not_before y x ys xs a (sym (each y)) (turned x y Greater e))
    ] refl in
    let rest : (q : Record) → list_any (eq_by_cmp record_cmp q) xs ≡ list_any (eq_by_cmp record_cmp q) ys =
    λ q. elim (record_cmp q x) as (λ o. record_cmp q x ≡ o → list_any (eq_by_cmp record_cmp q) xs ≡ list_any (eq_by_cmp record_cmp q) ys) [
      | Less ↦ λ e.
          ap (λ o. is_eq o || list_any (eq_by_cmp record_cmp q) xs) (sym e)
          ∙ each q
          ∙ ap (λ o. is_eq o || list_any (eq_by_cmp record_cmp q) ys) (sym (alike_right record_cmp-total x y q first) ∙ e)
      | Equal ↦ λ e.
          none_of_later x q xs e (first_of _ _ a)
          ∙ sym (none_of_later y q ys (sym (alike_right record_cmp-total x y q first) ∙ e) (first_of _ _ b))
      | Greater ↦ λ e.
          ap (λ o. is_eq o || list_any (eq_by_cmp record_cmp q) xs) (sym e)
          ∙ each q
          ∙ ap (λ o. is_eq o || list_any (eq_by_cmp record_cmp q) ys) (sym (alike_right record_cmp-total x y q first) ∙ e)
    ] refl in
    let tails = one_order xs ys (second_of _ _ a) (second_of _ _ b) rest in
    λ i. record_cmp-ties x y first i ∷ tails i

pub records_of-from_list : (rs : List Record) → is_in_order rs ≡ true → records_of (from_list rs) ≡ rs
records_of-from_list rs h =
    one_order (records_of (from_list rs)) rs (is_in_order-records_of (from_list rs)) h
    (λ q. sym (contains-records_of (from_list rs) q) ∙ contains-from_list record_cmp-total rs q)
