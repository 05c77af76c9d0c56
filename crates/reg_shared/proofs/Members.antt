-- Members of sets that lists of records make.
use Rattle.std.proofs.Common.{◌≡◌, ℕ, ◌<◌, Bool, true, false, ◌&&◌, ◌||◌, List, [], ◌∷◌, ◌++◌, refl, sym, ap, subst, ◌∙◌, All, arith}
use Rattle.std.proofs.lemmas.Bool.{false≢true, le-leb}
use Rattle.std.proofs.lemmas.List.Elements.{All-head, All-tail}
use Rattle.std.proofs.lemmas.List.Folds.{list_any-append}
use Rattle.std.proofs.lemmas.List.Sorted.{list_any-IsPermutation}
use Rattle.std.proofs.lemmas.Map.Views.{any-filter_same}
use Rattle.std.specs.Cmp.{IsTotalOrder}
use Rattle.std.specs.FinSet.{contains, from_list, union, IsAntisymmetric, contains-from_list, contains-retain, contains-union, same_set}
use Rattle.std.specs.Bool.{nat_le}
use Rattle.std.specs.List.{AllByRecursion, filter, list_any}
use Rattle.std.specs.List.Sorted.{IsPermutation}
use Rattle.std.proofs.lemmas.Cmp.{tied_itself}
use Rattle.std.specs.Ordering.{eq_by_cmp, is_eq}
use Rattle.reg_records.specs.contracts.record.RecordPartialEq.TheImpl as equality
use Rattle.reg_records.specs.declared.record.Record.{Record}
use Rattle.reg_set.specs.LastRecords.{is_last, last_records}
use Rattle.reg_set.specs.RecordOrder.{record_cmp}
use Rattle.reg_set.specs.Records.{Records}
use Rattle.reg_shared.proofs.Equality.{eq-by_cmp, equal}

and_swap : (a b : Bool) → (a && b) ≡ (b && a)
and_swap true true = refl
and_swap true false = refl
and_swap false true = refl
and_swap false false = refl

pub both : {a b : Bool} → a ≡ true → b ≡ true → (a && b) ≡ true
both {b = b} e f = ap (λ a. a && b) e ∙ f

pub right : (a b : Bool) → b ≡ true → (a || b) ≡ true
right true b e = refl
right false b e = e

any_same : {A : Type 0} (p q : A → Bool) → ((x : A) → p x ≡ q x) → (xs : List A) → list_any p xs ≡ list_any q xs
any_same p q same [] = refl
any_same p q same (x ∷ xs) = ap (λ b. b || list_any p xs) (same x) ∙ ap (λ b. q x || b) (any_same p q same xs)

pub all_members : (P : Record → Type 0) (rs : List Record) → ((q : Record) → list_any (eq_by_cmp record_cmp q) rs ≡ true → P q)
    → ((q : Record) → eq_by_cmp record_cmp q q ≡ true) → AllByRecursion P rs
all_members P [] h itself = tt
all_members P (r ∷ rs) h itself = (
  h r (ap (λ b. b || list_any (eq_by_cmp record_cmp r) rs) (itself r)),
  all_members P rs (λ q any. h q (right (eq_by_cmp record_cmp q r) _ any)) itself,
)

module _ (order : IsTotalOrder record_cmp) (apart : IsAntisymmetric record_cmp) where
  pub in_list : (rs : List Record) (q : Record) → contains (from_list {R = record_cmp} rs) q ≡ list_any (eq_by_cmp record_cmp q) rs
  in_list rs q = contains-from_list order rs q

  pub itself : (q : Record) → eq_by_cmp record_cmp q q ≡ true
  itself q = ap is_eq (tied_itself order q)

  among : (next : ℕ) (rs : List Record) → All (λ r. r.offset < next) rs
      → (q : Record) → list_any (eq_by_cmp record_cmp q) rs ≡ true → q.offset < next
  among next [] all q any = absurd (false≢true any)
  among next (r ∷ rs) all q any =
      elim (eq_by_cmp record_cmp q r) as (λ b.
      eq_by_cmp record_cmp q r ≡ b → (b || list_any (eq_by_cmp record_cmp q) rs) ≡ true → q.offset < next) [
        | true ↦ λ e _. subst (λ (x : Record). x.offset < next) (sym (equal order apart q r e)) (All-head (λ x. x.offset < next) r rs all)
        | false ↦ λ _ rest. among next rs (All-tail (λ x. x.offset < next) r rs all) q rest
      ] refl any

  -- what lies below an offset does so in whatever order
  pub below_members : (next : ℕ) (base rs : List Record) → All (λ r. r.offset < next) base
      → from_list {R = record_cmp} base ≡ from_list rs → AllByRecursion (λ r. r.offset < next) rs
  below_members next base rs all same =
      all_members (λ r. r.offset < next) rs
      (λ q any. among next base all q (sym (in_list base q) ∙ (ap (λ s. contains s q) same ∙ (in_list rs q ∙ any)))) itself

  pub filtered : (p : Record → Bool) (rs : List Record) (q : Record)
      → contains (from_list {R = record_cmp} (filter p rs)) q ≡ (contains (from_list {R = record_cmp} rs) q && p q)
  filtered p rs q =
      in_list (filter p rs) q
      ∙ any-filter_same (eq_by_cmp record_cmp q) p (p q) (λ k e. ap p (sym (equal order apart q k e))) rs
      ∙ and_swap (p q) (list_any (eq_by_cmp record_cmp q) rs)
      ∙ ap (λ b. b && p q) (sym (in_list rs q))

  pub joined : (rs qs : List Record) → from_list {R = record_cmp} (rs ++ qs) ≡ union (from_list rs) (from_list qs)
  joined rs qs = same_set order apart (from_list (rs ++ qs)) (union (from_list rs) (from_list qs)) (λ q.
      in_list (rs ++ qs) q ∙ list_any-append (eq_by_cmp record_cmp q) rs qs
      ∙ ap (λ b. b || list_any (eq_by_cmp record_cmp q) qs) (sym (in_list rs q))
      ∙ ap (λ b. contains (from_list {R = record_cmp} rs) q || b) (sym (in_list qs q))
      ∙ sym (contains-union order (from_list rs) (from_list qs) q))

  -- a record is among the last ones where it is in the set and the last of its key
  pub in_lasts : (s : Records) (q : Record) → contains (last_records s) q ≡ (contains s q && is_last s q)
  unfolding last_records
  in_lasts s q = contains-retain s (is_last s) q (λ x e. ap (is_last s) (sym (apart q x e)))

  -- what a search by `==` finds
  pub stands : (rs : List Record) (r : Record) → list_any (λ q. (equality.ghosts).eq q r) rs ≡ contains (from_list {R = record_cmp} rs) r
  stands rs r = any_same (λ q. (equality.ghosts).eq q r) (eq_by_cmp record_cmp r) (λ q. eq-by_cmp order apart q r) rs ∙ sym (in_list rs r)

  pub permuted : (xs ys : List Record) → IsPermutation xs ys → from_list {R = record_cmp} xs ≡ from_list ys
  permuted xs ys h =
      same_set order apart (from_list xs) (from_list ys)
      (λ q. in_list xs q ∙ list_any-IsPermutation (eq_by_cmp record_cmp q) xs ys h ∙ sym (in_list ys q))

  -- a record is among others where it is among those at its offset
  pub at_its_offset : (rs : List Record) (q : Record)
      → contains (from_list {R = record_cmp} (filter (λ r. nat_le r.offset q.offset) (filter (λ r. nat_le q.offset r.offset) rs))) q
      ≡ contains (from_list {R = record_cmp} rs) q
  at_its_offset rs q =
      filtered (λ r. nat_le r.offset q.offset) (filter (λ r. nat_le q.offset r.offset) rs) q
      ∙ ap (λ b. b && nat_le q.offset q.offset) (filtered (λ r. nat_le q.offset r.offset) rs q)
      ∙ twice (contains (from_list {R = record_cmp} rs) q) (nat_le q.offset q.offset) (le-leb q.offset q.offset (omega arith))
    where
      twice : (b t : Bool) → t ≡ true → ((b && t) && t) ≡ b
      twice true t e = ap (λ a. a && a) e
      twice false t e = refl
