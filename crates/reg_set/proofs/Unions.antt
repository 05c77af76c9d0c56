-- Unions of sets of records, and their last records.
use Rattle.std.proofs.Common.{◌≡◌, ℕ, ◌+◌, ◌<◌, List, [], ◌∷◌, ◌++◌, length, get_or, map, take, Bool, true}
use Rattle.std.proofs.Common.{false, cond, ◌||◌, ◌⊎◌, inl, inr, ⊎_elim, Some, None, refl, sym, ap, ◌∙◌}
use Rattle.std.proofs.lemmas.Bool.{false≢true}
use Rattle.std.specs.FinSet.{contains, empty, from_list, insert, union, contains-empty}
use Rattle.std.specs.FinSet.{contains-insert, contains-union, contains-from_list}
use Rattle.std.specs.FinSet.{from_list_push, same_set}
use Rattle.std.proofs.lemmas.List.{take_more}
use Rattle.std.proofs.lemmas.List.Folds.{list_any-append}
use Rattle.std.proofs.lemmas.List.Sorted.{list_any-IsPermutation}
use Rattle.std.specs.List.Sorted.{IsPermutation}
use denote.Ref.{Bor}
use Rattle.std.specs.Ordering.{eq_by_cmp, is_eq, is_le, is_lt}
use Rattle.std.proofs.lemmas.Cmp.{tied_itself}
use Rattle.reg_records.specs.declared.key.Key.{Key}
use Rattle.reg_records.specs.declared.record.Record.{Record}
use Rattle.reg_set.specs.RecordOrder.{age_cmp, record_cmp}
use Rattle.reg_set.specs.Records.{Records}
use Rattle.reg_set.specs.LastRecords.{last}
use Rattle.reg_set.specs.Join.{MergingIsCommutative, MergingIsAssociative, MergingIsIdempotent, LastOfUnion, later}
use Rattle.reg_set.proofs.Orders.{age_cmp-total, record_cmp-total, record_cmp-ties}
use Rattle.reg_set.proofs.Lasts.{equal, le_trans, turn_lt, lt_le, last-some, last-none, last-greatest, last-absent}

pub same_answers : (s t : Bool) → (s ≡ true → t ≡ true) → (t ≡ true → s ≡ true) → s ≡ t
same_answers true t f g = sym (f refl)
same_answers false true f g = g refl
same_answers false false f g = refl

-- sets that have the same records are one
pub one_set : (R S : Records) → ((q : Record) → contains R q ≡ true → contains S q ≡ true)
    → ((q : Record) → contains S q ≡ true → contains R q ≡ true) → R ≡ S
one_set R S f g = same_set record_cmp-total record_cmp-ties R S (λ q. same_answers (contains R q) (contains S q) (f q) (g q))

pub or_left : (a b : Bool) → a ≡ true → (a || b) ≡ true
or_left true b h = refl
or_left false b h = absurd (false≢true h)

pub or_right : (a b : Bool) → b ≡ true → (a || b) ≡ true
or_right true b h = refl
or_right false b h = h

pub either : (a b : Bool) → (a || b) ≡ true → (a ≡ true) ⊎ (b ≡ true)
either true b h = inl refl
either false b h = inr h

pub in_left : (R S : Records) (q : Record) → contains R q ≡ true → contains (union R S) q ≡ true
in_left R S q h = contains-union record_cmp-total R S q ∙ or_left _ _ h

pub in_right : (R S : Records) (q : Record) → contains S q ≡ true → contains (union R S) q ≡ true
in_right R S q h = contains-union record_cmp-total R S q ∙ or_right _ _ h

pub in_either : (R S : Records) (q : Record) → contains (union R S) q ≡ true → (contains R q ≡ true) ⊎ (contains S q ≡ true)
in_either R S q h = either _ _ (sym (contains-union record_cmp-total R S q) ∙ h)

part_of_union : (R S T : Records) → ((q : Record) → contains R q ≡ true → contains T q ≡ true)
    → ((q : Record) → contains S q ≡ true → contains T q ≡ true) → (q : Record) → contains (union R S) q ≡ true → contains T q ≡ true
part_of_union R S T f g q h = ⊎_elim (f q) (g q) (in_either R S q h)

pub merging_is_commutative : MergingIsCommutative
merging_is_commutative R S =
    one_set (union R S) (union S R) (part_of_union R S (union S R) (in_right S R) (in_left S R))
    (part_of_union S R (union R S) (in_right R S) (in_left R S))

pub merging_is_associative : MergingIsAssociative
merging_is_associative R S T =
    let left = union (union R S) T in
    let right = union R (union S T) in
    one_set left right
    (part_of_union (union R S) T right (part_of_union R S right (in_left R (union S T)) (λ q h. in_right R (union S T) q (in_left S T q h)))
    (λ q h. in_right R (union S T) q (in_right S T q h)))
    (part_of_union R (union S T) left (λ q h. in_left (union R S) T q (in_left R S q h))
    (part_of_union S T left (λ q h. in_left (union R S) T q (in_right R S q h)) (in_right (union R S) T)))

pub merging_is_idempotent : MergingIsIdempotent
merging_is_idempotent R = one_set (union R R) R (part_of_union R R R (λ q h. h) (λ q h. h)) (in_left R R)

-- to add a record is to merge the set of that record alone
pub insert-union : (R : Records) (r : Record) → insert R r ≡ union R (insert empty r)
insert-union R r =
    same_set record_cmp-total record_cmp-ties _ _ (λ q.
    let alone = contains-insert record_cmp-total empty r q ∙ ap (λ b. eq_by_cmp record_cmp q r || b) (contains-empty record_cmp q) in
    contains-insert record_cmp-total R r q ∙ swapped (eq_by_cmp record_cmp q r) (contains R q)
    ∙ ap (λ b. contains R q || b) (sym alone) ∙ sym (contains-union record_cmp-total R (insert empty r) q))
  where
    swapped : (a b : Bool) → (a || b) ≡ (b || (a || false))
    swapped true true = refl
    swapped true false = refl
    swapped false true = refl
    swapped false false = refl

pub in_insert : (R : Records) (r q : Record) → contains (insert R r) q ≡ true → (q ≡ r) ⊎ (contains R q ≡ true)
in_insert R r q h =
    ⊎_elim (λ e. inl (record_cmp-ties q r (equal _ e))) inr (either _ _ (sym (contains-insert record_cmp-total R r q) ∙ h))

pub insert-in : (R : Records) (r q : Record) → contains R q ≡ true → contains (insert R r) q ≡ true
insert-in R r q h = contains-insert record_cmp-total R r q ∙ or_right _ _ h

pub insert-itself : (R : Records) (r : Record) → contains (insert R r) r ≡ true
insert-itself R r = contains-insert record_cmp-total R r r ∙ or_left _ _ (ap is_eq (tied_itself record_cmp-total r))

-- the last of a union, from what is at least each record of the key on either side
last-union : (R S : Records) (key : Key) (m : Record) → contains (union R S) m ≡ true
    → m.key ≡ key → ((q : Record) → contains R q ≡ true → q.key ≡ key → is_le (age_cmp q m) ≡ true)
    → ((q : Record) → contains S q ≡ true → q.key ≡ key → is_le (age_cmp q m) ≡ true) → last (union R S) key ≡ Some m
last-union R S key m there of_key left right =
    last-greatest (union R S) key m (record {
      is_in_set = there;
      is_of_key = of_key;
      is_greatest = λ q inside same. ⊎_elim (λ h. left q h same) (λ h. right q h same) (in_either R S q inside);
    })

pub last_of_union : LastOfUnion
last_of_union R S key =
    elim (last R key) as (λ o. last R key ≡ o → last (union R S) key ≡ later o (last S key)) [
      | None ↦ λ r. elim (last S key) as (λ o. last S key ≡ o → last (union R S) key ≡ later None o) [
        | None ↦ λ s.
            last-absent (union R S) key
            (λ q inside same. ⊎_elim (λ h. last-none R key r q h same) (λ h. last-none S key s q h same) (in_either R S q inside))
        | Some b ↦ λ s. let B = last-some S key b s in
            last-union R S key b (in_right R S b B.is_in_set) B.is_of_key (λ q h same. absurd (last-none R key r q h same)) B.is_greatest
      ] refl
      | Some a ↦ λ r. let A = last-some R key a r in
          elim (last S key) as (λ o. last S key ≡ o → last (union R S) key ≡ later (Some a) o) [
            | None ↦ λ s.
                last-union R S key a (in_left R S a A.is_in_set) A.is_of_key A.is_greatest (λ q h same. absurd (last-none S key s q h same))
            | Some b ↦ λ s. let B = last-some S key b s in
                elim (is_lt (age_cmp b a)) as (λ t. is_lt (age_cmp b a) ≡ t → last (union R S) key ≡ cond t (Some a) (Some b)) [
                  | true ↦ λ e.
                      last-union R S key a (in_left R S a A.is_in_set) A.is_of_key A.is_greatest
                      (λ q h same. le_trans q b a (B.is_greatest q h same) (lt_le _ e))
                  | false ↦ λ e.
                      last-union R S key b (in_right R S b B.is_in_set) B.is_of_key (λ q h same.
                      le_trans q a b (A.is_greatest q h same) (ap is_le (age_cmp-total.antisymm a b) ∙ turn_lt _ e)) B.is_greatest
                ] refl
          ] refl
    ] refl

pub insert-contained : (R : Records) (r : Record) → contains R r ≡ true → insert R r ≡ R
insert-contained R r there =
    one_set (insert R r) R (λ q h. ⊎_elim (λ e. ap (contains R) e ∙ there) (λ k. k) (in_insert R r q h)) (insert-in R r)

-- the records of two lists
pub from_list-both : (xs ys : List Record) → from_list {R = record_cmp} (xs ++ ys) ≡ union (from_list xs) (from_list ys)
from_list-both xs ys =
    same_set record_cmp-total record_cmp-ties _ _ (λ q.
    contains-from_list record_cmp-total (xs ++ ys) q ∙ list_any-append (eq_by_cmp record_cmp q) xs ys
    ∙ sym (contains-union record_cmp-total (from_list xs) (from_list ys) q
    ∙ (λ i. contains-from_list record_cmp-total xs q i || contains-from_list record_cmp-total ys q i)))

-- the order of a list doesn't count
pub from_list-permuted : (xs ys : List Record) → IsPermutation xs ys → from_list {R = record_cmp} xs ≡ from_list ys
from_list-permuted xs ys h =
    same_set record_cmp-total record_cmp-ties _ _ (λ q.
    contains-from_list record_cmp-total xs q
    ∙ list_any-IsPermutation (eq_by_cmp record_cmp q) xs ys h
    ∙ sym (contains-from_list record_cmp-total ys q))

map_push : (xs : List (Bor Record)) (x : Bor Record) → map (λ r. r.now) (xs ++ x ∷ []) ≡ map (λ r. r.now) xs ++ x.now ∷ []
map_push [] x = refl
map_push (y ∷ ys) x = ap (λ l. y.now ∷ l) (map_push ys x)

-- one more of a list of references
pub from_list-more : (xs : List (Bor Record)) (i : ℕ) (x : Bor Record) → i < length xs → x ≡ get_or xs i x
    → insert (from_list {R = record_cmp} (map (λ r. r.now) (take i xs))) x.now ≡ from_list (map (λ r. r.now) (take (i + 1) xs))
from_list-more xs i x within here =
    sym (ap (λ l. from_list {R = record_cmp} (map (λ r. r.now) l)) (take_more xs i x within ∙ ap (λ y. take i xs ++ y ∷ []) (sym here))
    ∙ ap from_list (map_push (take i xs) x) ∙ from_list_push record_cmp-total record_cmp-ties (map (λ r. r.now) (take i xs)) x.now)
