-- The orders of places and names.
use Rattle.std.proofs.Common.{◌≡◌, true, false, refl, sym}
use Rattle.std.proofs.lemmas.Bool.{false≢true}
use Rattle.std.proofs.lemmas.Cmp.{nat_cmp_total, nat_list_cmp_total, on_total, then_total}
use Rattle.std.specs.Cmp.{IsTotalOrder}
use Rattle.std.specs.FinMap.{IsAntisymmetric, nat_cmp-IsAntisymmetric, slice_cmp-IsAntisymmetric}
use Rattle.std.specs.Ordering.{nat_cmp, ordering_then, eq_by_cmp, is_eq}
use Rattle.std.specs.Cmp.Lexicographic.{slice_cmp}
use Rattle.std.specs.declared.cmp.Ordering.{Ordering}
use Rattle.std.specs.declared.cmp.Ordering.TheVariants.{Less, Equal, Greater}
use Rattle.reg_entries.specs.EntryOrder.{Place, place_cmp}
use Rattle.reg_entries.specs.Index.{name_cmp}

pub place_cmp-total : IsTotalOrder place_cmp
place_cmp-total = then_total (on_total (λ p. p.0) nat_list_cmp_total) (on_total (λ p. p.1) nat_cmp_total)

pub name_cmp-total : IsTotalOrder name_cmp
name_cmp-total =
    then_total (then_total (on_total (λ n. n.0) nat_cmp_total) (on_total (λ n. n.1) nat_cmp_total)) (on_total (λ n. n.2) place_cmp-total)

-- two orders one after the other tie where both do
pub then_ties : (a b : Ordering) → ordering_then a b ≡ Equal → (a ≡ Equal) × (b ≡ Equal)
then_ties Less b e = absurd (cc)
then_ties Equal b e = (refl, e)
then_ties Greater b e = absurd (cc)

-- places that tie are one place
pub place_cmp-ties : IsAntisymmetric place_cmp
place_cmp-ties p q e =
    let ties = then_ties (slice_cmp nat_cmp p.0 q.0) (nat_cmp p.1 q.1) e in
    let subjects = slice_cmp-IsAntisymmetric nat_cmp-IsAntisymmetric p.0 q.0 ties.0 in
    let versions = nat_cmp-IsAntisymmetric p.1 q.1 ties.1 in
    λ i. (subjects i, versions i)

-- and so are names
pub name_cmp-ties : IsAntisymmetric name_cmp
name_cmp-ties m n e =
    let ties = then_ties (ordering_then (nat_cmp m.0 n.0) (nat_cmp m.1 n.1)) (place_cmp m.2 n.2) e in
    let numbers = then_ties (nat_cmp m.0 n.0) (nat_cmp m.1 n.1) ties.0 in
    let ids = nat_cmp-IsAntisymmetric m.0 n.0 numbers.0 in
    let offsets = nat_cmp-IsAntisymmetric m.1 n.1 numbers.1 in
    let places = place_cmp-ties m.2 n.2 ties.1 in
    λ i. (ids i, offsets i, places i)

pub equal : (o : Ordering) → is_eq o ≡ true → o ≡ Equal
equal Less h = absurd (false≢true h)
equal Equal h = refl
equal Greater h = absurd (false≢true h)

pub then_apart : (a b : Ordering) → is_eq b ≡ false → is_eq (ordering_then a b) ≡ false
then_apart Less b h = refl
then_apart Equal b h = h
then_apart Greater b h = refl

pub apart_first : (a b : Ordering) → is_eq a ≡ false → is_eq (ordering_then a b) ≡ false
apart_first Less b h = refl
apart_first Equal b h = absurd (false≢true (sym h))
apart_first Greater b h = refl

pub same_place : (p q : Place) → eq_by_cmp place_cmp p q ≡ true → p ≡ q
same_place p q h = place_cmp-ties p q (equal _ h)
