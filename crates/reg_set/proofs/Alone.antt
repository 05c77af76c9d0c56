-- The last of records of one key, in order, alone.
use Rattle.std.proofs.Common.{◌≡◌, ℕ, suc, zero, ◌+◌, ◌-◌, Bool, true, false, ◌||◌, ◌⊎◌, inl, inr, ⊎_elim, List}
use Rattle.std.proofs.Common.{[], ◌∷◌, Some, None, length, get_or, take, refl, sym, ap, ◌∙◌, arith}
use Rattle.std.proofs.lemmas.Bool.{false≢true}
use Rattle.std.proofs.lemmas.Cmp.{tied_itself}
use Rattle.std.specs.List.{list_any, list_all, slice_get, swap}
use Rattle.std.specs.Ordering.{eq_by_cmp, is_le, is_lt}
use Rattle.std.specs.declared.cmp.Ordering.TheVariants.{Less, Equal, Greater}
use Rattle.reg_records.specs.declared.record.Record.{Record}
use Rattle.reg_set.specs.ByKey.{last_alone}
use Rattle.reg_set.specs.RecordOrder.{record_cmp}
use Rattle.reg_set.specs.Records.{is_in_order}
use Rattle.reg_set.proofs.Orders.{record_cmp-total, record_cmp-ties}
use Rattle.reg_set.proofs.InOrder.{both, first_of, second_of, itself, less}
use Rattle.reg_set.proofs.Lasts.{at_any, equal, lt_le}
use Rattle.reg_set.proofs.Unions.{or_right}

abbrev is_same : Record → Record → Bool
is_same r q = eq_by_cmp record_cmp r q

-- there is a last one unless there is none
pub alone-cases : (rs : List Record) → (rs ≡ []) ⊎ ((r : Record) × (last_alone rs ≡ r ∷ []))
alone-cases [] = inl refl
alone-cases (r ∷ []) = inr (r, refl)
alone-cases (r ∷ q ∷ rs) = inr (some (q ∷ rs) (alone-cases (q ∷ rs)) (λ e. cc))
  where
    some : (qs : List Record) → (qs ≡ []) ⊎ ((r : Record) × (last_alone qs ≡ r ∷ []))
        → (qs ≡ [] → ⊥) → (r : Record) × (last_alone qs ≡ r ∷ [])
    some qs (inl e) not = absurd (not e)
    some qs (inr found) not = found

pub any-alone : (p : Record → Bool) (rs : List Record) → list_any p (last_alone rs) ≡ true → list_any p rs ≡ true
any-alone p [] h = h
any-alone p (r ∷ []) h = h
any-alone p (r ∷ q ∷ rs) h = or_right (p r) _ (any-alone p (q ∷ rs) h)

pub all-alone : (p : Record → Bool) (rs : List Record) → list_all p rs ≡ true → list_all p (last_alone rs) ≡ true
all-alone p [] h = h
all-alone p (r ∷ []) h = h
all-alone p (r ∷ q ∷ rs) h = all-alone p (q ∷ rs) (second_of (p r) _ h)

pub in_order-alone : (rs : List Record) → is_in_order (last_alone rs) ≡ true
in_order-alone [] = refl
in_order-alone (r ∷ []) = refl
in_order-alone (r ∷ q ∷ rs) = in_order-alone (q ∷ rs)

-- one that is among the last ones is the last one
pub alone-one : (r : Record) (rs : List Record) → list_any (is_same r) (last_alone rs) ≡ true → last_alone rs ≡ r ∷ []
alone-one r [] h = absurd (false≢true h)
alone-one r (q ∷ []) h = ap (λ x. x ∷ []) (sym (record_cmp-ties r q (equal _ (only (is_same r q) h))))
  where
    only : (b : Bool) → (b || false) ≡ true → b ≡ true
    only true k = refl
    only false k = k
alone-one r (q ∷ p ∷ rs) h = alone-one r (p ∷ rs) h

pub alone-among : (r : Record) (rs : List Record) → last_alone rs ≡ r ∷ [] → list_any (is_same r) rs ≡ true
alone-among r rs e = any-alone (is_same r) rs (ap (list_any (is_same r)) e ∙ ap (λ b. b || false) (itself r))

-- each of those in order is at most the last one
pub up_to_alone : (r : Record) (rs : List Record) → is_in_order rs ≡ true
    → last_alone rs ≡ r ∷ [] → list_all (λ q. is_le (record_cmp q r)) rs ≡ true
up_to_alone r [] h e = refl
up_to_alone r (q ∷ []) h e =
    let same : q ≡ r = cc in
    both (ap (λ x. is_le (record_cmp x r)) same ∙ ap is_le (tied_itself record_cmp-total r)) refl
up_to_alone r (q ∷ p ∷ rs) h e =
    both (lt_le _ (at_any (λ x. is_lt (record_cmp q x)) r (p ∷ rs) (first_of _ _ h) (alone-among r (p ∷ rs) e)))
    (up_to_alone r (p ∷ rs) (second_of (list_all (λ x. is_lt (record_cmp q x)) (p ∷ rs)) _ h) e)

lower : (p q r : Record) → is_le (record_cmp p q) ≡ true → is_lt (record_cmp q r) ≡ true → is_lt (record_cmp p r) ≡ true
lower p q r h k =
    elim (record_cmp p q) as (λ o. record_cmp p q ≡ o → is_le o ≡ true → is_lt (record_cmp p r) ≡ true) [
      | Less ↦ λ e _. ap is_lt (record_cmp-total.trans p q r e (less _ k))
      | Equal ↦ λ e _. ap (λ x. is_lt (record_cmp x r)) (record_cmp-ties p q e) ∙ k
      | Greater ↦ λ _ l. absurd (false≢true l)
    ] refl h

-- what stands after the last one stands after all
pub all_before : (q r : Record) (rs : List Record) → list_all (λ p. is_le (record_cmp p q)) rs ≡ true
    → is_lt (record_cmp q r) ≡ true → list_all (λ p. is_lt (record_cmp p r)) rs ≡ true
all_before q r [] h k = refl
all_before q r (p ∷ rs) h k = both (lower p q r (first_of _ _ h) k) (all_before q r rs (second_of (is_le (record_cmp p q)) _ h) k)

-- the last one by its place
pub alone-at : (rs : List Record) (n : ℕ) (d : Record) → n + 1 ≡ length rs → last_alone rs ≡ get_or rs n d ∷ []
alone-at [] n d h = absurd (omega arith)
alone-at (r ∷ []) zero d h = refl
alone-at (r ∷ []) (suc n) d h = absurd (omega arith)
alone-at (r ∷ q ∷ rs) zero d h = absurd (omega arith)
alone-at (r ∷ q ∷ rs) (suc n) d h = alone-at (q ∷ rs) n d (omega arith)

pub alone-get : (rs : List Record) (n : ℕ) (r : Record) → n + 1 ≡ length rs → last_alone rs ≡ r ∷ [] → slice_get rs n ≡ Some r
alone-get [] n r h e = absurd (omega arith)
alone-get (q ∷ []) zero r h e =
    let same : q ≡ r = cc in
    ap Some same
alone-get (q ∷ []) (suc n) r h e = absurd (omega arith)
alone-get (q ∷ p ∷ rs) zero r h e = absurd (omega arith)
alone-get (q ∷ p ∷ rs) (suc n) r h e = alone-get (p ∷ rs) n r (omega arith) e

-- the last one, put first
pub swapped-alone : (rs : List Record) (n : ℕ) → n + 1 ≡ length rs → take 1 (swap rs 0 n) ≡ last_alone rs
swapped-alone [] n h = absurd (omega arith)
swapped-alone (r ∷ rs) zero h = sym (alone-at (r ∷ rs) zero r h)
swapped-alone (r ∷ rs) (suc n) h = sym (alone-at (r ∷ rs) (suc n) r h)

-- where there is no last one there is none
pub none_of : (rs : List Record) → slice_get rs (length rs - 1) ≡ None → rs ≡ []
none_of [] h = refl
none_of (r ∷ rs) h =
    ⊎_elim (λ (e : r ∷ rs ≡ []). e)
    (λ (found : (q : Record) × (last_alone (r ∷ rs) ≡ q ∷ [])).
    let both : None ≡ Some found.0 = sym h ∙ alone-get (r ∷ rs) (length (r ∷ rs) - 1) found.0 (omega arith) found.1 in
    absurd (cc)) (alone-cases (r ∷ rs))
