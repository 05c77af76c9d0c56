-- Records that stand by offset.
use Rattle.std.proofs.Common.{◌≡◌, ℕ, suc, ◌+◌, ◌<◌, ◌≤◌, ◌==◌, Bool, true, false, ◌&&◌, not, cond, List, []}
use Rattle.std.proofs.Common.{◌∷◌, ◌++◌, length, get_or, take, drop, refl, sym, ap, ◌∙◌, arith, is_none}
use Prim.Native.Nat.{zero}
use Rattle.std.specs.Bool.{nat_lt, nat_le}
use Rattle.std.proofs.lemmas.Bool.{false≢true}
use Rattle.std.proofs.lemmas.Bool.Decides.{nat_tests}
use Rattle.std.proofs.lemmas.List.Elements.{All-from_recursion}
use Rattle.std.proofs.lemmas.List.Sorted.{IsPartitionedBy-leb, IsPartitionedBy-ltb}
use Rattle.std.specs.List.{AllByRecursion, filter, list_all}
use Rattle.std.specs.List.Sorted.{IsNonDecreasingBy, IsPartitionedBy}
use Rattle.std.specs.Ordering.{is_lt, nat_cmp, ordering_then}
use Rattle.std.specs.declared.cmp.Ordering.{Ordering}
use Rattle.reg_leader.specs.OneStep.{goes_on}
use Rattle.reg_records.specs.declared.record.Record.{Record}
use Rattle.reg_set.specs.Compaction.{deletes_below}
use Rattle.reg_set.specs.RecordOrder.{record_cmp}
use Rattle.reg_set.specs.Records.{is_in_order}
use Rattle.reg_shared.specs.Kept.{IsRising}
use Rattle.reg_shared.proofs.Members.{both}

both_true : (a b : Bool) → (a && b) ≡ true → (a ≡ true) × (b ≡ true)
both_true true b h = (refl, h)
both_true false b h = absurd (false≢true h)

pub all_map : {A : Type 0} (P Q : A → Type 0) → ((x : A) → P x → Q x) → (xs : List A) → AllByRecursion P xs → AllByRecursion Q xs
all_map P Q f [] h = tt
all_map P Q f (x ∷ xs) h = (f x h.0, all_map P Q f xs h.1)

pub all_append : {A : Type 0} (P : A → Type 0) (xs ys : List A) → AllByRecursion P xs → AllByRecursion P ys → AllByRecursion P (xs ++ ys)
all_append P [] ys a b = b
all_append P (x ∷ xs) ys a b = (a.0, all_append P xs ys a.1 b)

pub all_filter : {A : Type 0} (P : A → Type 0) (p : A → Bool) (xs : List A) → AllByRecursion P xs → AllByRecursion P (filter p xs)
all_filter P p [] h = tt
all_filter P p (x ∷ xs) h = elim (p x) as (λ b. AllByRecursion P (cond b (x ∷ filter p xs) (filter p xs))) [
  | true ↦ (h.0, all_filter P p xs h.1)
  | false ↦ all_filter P p xs h.1
]

list_all_filter : (t p : Record → Bool) (xs : List Record) → list_all t xs ≡ true → list_all t (filter p xs) ≡ true
list_all_filter t p [] h = refl
list_all_filter t p (x ∷ xs) h =
    let parts = both_true (t x) (list_all t xs) h in
    elim (p x) as (λ b. list_all t (cond b (x ∷ filter p xs) (filter p xs)) ≡ true) [
      | true ↦ both parts.0 (list_all_filter t p xs parts.1)
      | false ↦ list_all_filter t p xs parts.1
    ]

list_all_append : (t : Record → Bool) (xs ys : List Record) → list_all t xs ≡ true → list_all t ys ≡ true → list_all t (xs ++ ys) ≡ true
list_all_append t [] ys a b = b
list_all_append t (x ∷ xs) ys a b =
    let parts = both_true (t x) (list_all t xs) a in both parts.0 (list_all_append t xs ys parts.1 b)

-- what stands at a smaller offset stands before
first_less : (m n : ℕ) (o : Ordering) → m < n → is_lt (ordering_then (nat_cmp m n) o) ≡ true
first_less m n o h = grind (arith, nat_tests)

before : (r q : Record) → r.offset < q.offset → is_lt (record_cmp r q) ≡ true
unfolding record_cmp
before r q h = first_less r.offset q.offset _ h

all_before : (r : Record) (rs : List Record) → AllByRecursion (λ q. r.offset < q.offset) rs
    → list_all (λ q. is_lt (record_cmp r q)) rs ≡ true
all_before r [] h = refl
all_before r (q ∷ rs) h = both (before r q h.0) (all_before r rs h.1)

pub in_order_filter : (p : Record → Bool) (xs : List Record) → is_in_order xs ≡ true → is_in_order (filter p xs) ≡ true
in_order_filter p [] h = refl
in_order_filter p (x ∷ xs) h =
    let parts = both_true (list_all (λ q. is_lt (record_cmp x q)) xs) (is_in_order xs) h in
    elim (p x) as (λ b. is_in_order (cond b (x ∷ filter p xs) (filter p xs)) ≡ true) [
      | true ↦ both (list_all_filter (λ q. is_lt (record_cmp x q)) p xs parts.0) (in_order_filter p xs parts.1)
      | false ↦ in_order_filter p xs parts.1
    ]

pub in_order_append : (n : ℕ) (xs ys : List Record) → is_in_order xs ≡ true → is_in_order ys ≡ true
    → AllByRecursion (λ r. r.offset < n) xs → AllByRecursion (λ r. n ≤ r.offset) ys → is_in_order (xs ++ ys) ≡ true
in_order_append n [] ys a b below above = b
in_order_append n (x ∷ xs) ys a b below above =
    let low : x.offset < n = below.0 in
    let parts = both_true (list_all (λ q. is_lt (record_cmp x q)) xs) (is_in_order xs) a in
    let later = all_before x ys (all_map (λ r. n ≤ r.offset) (λ q. x.offset < q.offset) (λ q h. omega arith) ys above) in
    both (list_all_append (λ q. is_lt (record_cmp x q)) xs ys parts.0 later) (in_order_append n xs ys parts.1 b below.1 above)

-- a batch that goes on
pub record GoesOn (n : ℕ) (rs : List Record) : Type 0 where
  pub above : AllByRecursion (λ r. n ≤ r.offset) rs
  pub in_order : is_in_order rs ≡ true
  pub below : AllByRecursion (λ r. r.offset < n + length rs) rs

same_number : (m n : ℕ) → (m == n) ≡ true → m ≡ n
same_number m n h = grind (arith, nat_tests)

pub goes_on_is : (n : ℕ) (rs : List Record) → goes_on n rs ≡ true → GoesOn n rs
goes_on_is n [] h = record { above = tt; in_order = refl; below = tt }
goes_on_is n (r ∷ rs) h =
    let parts = both_true (r.offset == n) (goes_on (suc n) rs) h in
    let here : r.offset ≡ n = same_number r.offset n parts.0 in
    let rest = goes_on_is (suc n) rs parts.1 in record {
      above = (omega arith, all_map (λ q. suc n ≤ q.offset) (λ q. n ≤ q.offset) (λ q h. omega arith) rs rest.above);
      in_order = both (all_before r rs (all_map (λ q. suc n ≤ q.offset) (λ q. r.offset < q.offset) (λ q h. omega arith) rs rest.above)) rest.in_order;
      below = (
        omega arith,
        all_map (λ q. q.offset < suc n + length rs) (λ q. q.offset < n + suc (length rs)) (λ q h. omega arith) rs rest.below,
      );
    }

-- records in order
offsets : (m n : ℕ) (o : Ordering) → is_lt (ordering_then (nat_cmp m n) o) ≡ true → m ≤ n
offsets m n o h = grind (arith, nat_tests)

less_offset : (r q : Record) → is_lt (record_cmp r q) ≡ true → r.offset ≤ q.offset
unfolding record_cmp
less_offset r q h = offsets r.offset q.offset _ h

all_later : (r : Record) (rs : List Record) → list_all (λ q. is_lt (record_cmp r q)) rs ≡ true
    → AllByRecursion (λ q. r.offset ≤ q.offset) rs
all_later r [] h = tt
all_later r (q ∷ rs) h =
    let parts = both_true (is_lt (record_cmp r q)) (list_all (λ q. is_lt (record_cmp r q)) rs) h in
    (less_offset r q parts.0, all_later r rs parts.1)

pub rising_in_order : (rs : List Record) → is_in_order rs ≡ true → IsRising rs
rising_in_order [] h = tt
rising_in_order (r ∷ rs) h =
    let parts = both_true (list_all (λ q. is_lt (record_cmp r q)) rs) (is_in_order rs) h in
    (all_later r rs parts.0, rising_in_order rs parts.1)

all_from : (P : Record → Type 0) (xs : List Record) → ((k : ℕ) (d : Record) → k < length xs → P (get_or xs k d)) → AllByRecursion P xs
all_from P [] h = tt
all_from P (x ∷ xs) h = (h 0 x (omega arith), all_from P xs (λ k d lt. h (suc k) d (omega arith)))

-- sorted records rise
pub rising_sorted : (xs : List Record) → IsNonDecreasingBy (λ r. r.offset) xs → IsRising xs
rising_sorted [] h = tt
rising_sorted (x ∷ xs) h = (
  all_from (λ q. x.offset ≤ q.offset) xs (λ k d lt. h 0 (suc k) d (omega arith) (omega arith)),
  rising_sorted xs (λ i j d le lt. h (suc i) (suc j) d (omega arith) (omega arith)),
)

pub rising_filter : (p : Record → Bool) (xs : List Record) → IsRising xs → IsRising (filter p xs)
rising_filter p [] h = tt
rising_filter p (x ∷ xs) h = elim (p x) as (λ b. IsRising (cond b (x ∷ filter p xs) (filter p xs))) [
  | true ↦ (all_filter (λ q. x.offset ≤ q.offset) p xs h.0, rising_filter p xs h.1)
  | false ↦ rising_filter p xs h.1
]

-- what stands at or above an offset
rises : (xs : List Record) → IsRising xs → (i j : ℕ) (d : Record) → i ≤ j → j < length xs → (get_or xs i d).offset ≤ (get_or xs j d).offset
rises [] h i j d le lt = absurd (omega arith)
rises (x ∷ xs) h zero zero d le lt = omega arith
rises (x ∷ xs) h zero (suc j) d le lt = All-from_recursion (λ q. x.offset ≤ q.offset) xs h.0 j d (omega arith)
rises (x ∷ xs) h (suc i) zero d le lt = absurd (omega arith)
rises (x ∷ xs) h (suc i) (suc j) d le lt = rises xs h.1 i j d (omega arith) (omega arith)

pub parted : (from : ℕ) (xs : List Record) → IsRising xs → IsPartitionedBy (λ r. nat_lt r.offset from) xs
parted from xs h = IsPartitionedBy-ltb (λ r. r.offset) xs from (λ i j d le lt. rises xs h i j d le lt)

pub parted_up_to : (offset : ℕ) (xs : List Record) → IsRising xs → IsPartitionedBy (λ r. nat_le r.offset offset) xs
parted_up_to offset xs h = IsPartitionedBy-leb (λ r. r.offset) xs offset (λ i j d le lt. rises xs h i j d le lt)

pub at_or_above : (from n : ℕ) → nat_le from n ≡ not (nat_lt n from)
at_or_above from n = grind (arith, nat_tests)

pub from_point : (p q : Record → Bool) → ((r : Record) → q r ≡ not (p r)) → (xs : List Record) (k : ℕ) → k ≤ length xs
    → ((i : ℕ) (d : Record) → i < k → p (get_or xs i d) ≡ true)
    → ((i : ℕ) (d : Record) → k ≤ i → i < length xs → p (get_or xs i d) ≡ false) → drop k xs ≡ filter q xs
from_point p q other [] zero le low high = refl
from_point p q other [] (suc k) le low high = absurd (omega arith)
from_point p q other (x ∷ xs) zero le low high =
    let here : q x ≡ true = other x ∙ ap not (high 0 x (omega arith) (omega arith)) in
    let rest =
    from_point p q other xs 0 (omega arith) (λ i d lt. absurd (omega arith)) (λ i d l m. high (suc i) d (omega arith) (omega arith)) in
    ap (λ ys. x ∷ ys) rest ∙ ap (λ b. cond b (x ∷ filter q xs) (filter q xs)) (sym here)
from_point p q other (x ∷ xs) (suc k) le low high =
    let here : q x ≡ false = other x ∙ ap not (low 0 x (omega arith)) in
    let rest = from_point p q other xs k (omega arith) (λ i d lt. low (suc i) d (omega arith))
    (λ i d l m. high (suc i) d (omega arith) (omega arith)) in
    rest ∙ ap (λ b. cond b (x ∷ filter q xs) (filter q xs)) (sym here)

take_none : (xs : List Record) → take 0 xs ≡ []
take_none [] = refl
take_none (x ∷ xs) = refl

pub to_point : (p : Record → Bool) → (xs : List Record) (k : ℕ) → k ≤ length xs
    → ((i : ℕ) (d : Record) → i < k → p (get_or xs i d) ≡ true)
    → ((i : ℕ) (d : Record) → k ≤ i → i < length xs → p (get_or xs i d) ≡ false) → take k xs ≡ filter p xs
to_point p [] zero le low high = refl
to_point p [] (suc k) le low high = absurd (omega arith)
to_point p (x ∷ xs) zero le low high =
    let here : p x ≡ false = high 0 x (omega arith) (omega arith) in
    let rest = to_point p xs 0 (omega arith) (λ i d lt. absurd (omega arith)) (λ i d l m. high (suc i) d (omega arith) (omega arith)) in
    sym (take_none xs) ∙ rest ∙ ap (λ b. cond b (x ∷ filter p xs) (filter p xs)) (sym here)
to_point p (x ∷ xs) (suc k) le low high =
    let here : p x ≡ true = low 0 x (omega arith) in
    let rest =
    to_point p xs k (omega arith) (λ i d lt. low (suc i) d (omega arith)) (λ i d l m. high (suc i) d (omega arith) (omega arith)) in
    ap (λ ys. x ∷ ys) rest ∙ ap (λ b. cond b (x ∷ filter p xs) (filter p xs)) (sym here)

no_delete : (n g : Bool) → ((n && false) && g) ≡ false
no_delete true g = refl
no_delete false g = refl

-- what deletes its key below the floor stands below it
pub below_twice : (floor : ℕ) (f : Record → Bool) (xs : List Record)
    → filter (λ r. deletes_below floor r && f r) (filter (λ r. nat_lt r.offset floor) xs) ≡ filter (λ r. deletes_below floor r && f r) xs
below_twice floor f [] = refl
below_twice floor f (x ∷ xs) =
    let p : Record → Bool = λ r. deletes_below floor r && f r in
    let ys = filter (λ r. nat_lt r.offset floor) xs in
    elim (nat_lt x.offset floor) as (λ b.
    nat_lt x.offset floor ≡ b → filter p (cond b (x ∷ ys) ys) ≡ cond (p x) (x ∷ filter p xs) (filter p xs)) [
      | true ↦ λ e. ap (λ zs. cond (p x) (x ∷ zs) zs) (below_twice floor f xs)
      | false ↦ λ e.
          below_twice floor f xs
          ∙ ap (λ b. cond b (x ∷ filter p xs) (filter p xs))
          (sym (ap (λ b. (is_none x.value && b) && f x) e ∙ no_delete (is_none x.value) (f x)))
    ] refl
