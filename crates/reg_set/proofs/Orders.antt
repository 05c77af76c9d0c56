-- The orders of keys and records are total, and only equal ones tie.
use Rattle.std.proofs.Common.{◌≡◌, true, Some, None, refl, sym, ap, ◌∙◌, rules}
use Rattle.std.specs.Cmp.{IsTotalOrder}
use Rattle.std.specs.Cmp.Lexicographic.{options_total, slice_cmp}
use Rattle.std.specs.FinSet.{IsAntisymmetric, nat_cmp-IsAntisymmetric, slice_cmp-IsAntisymmetric}
use Rattle.std.specs.Ordering.{is_eq, nat_cmp, ordering_then}
use Rattle.std.specs.declared.cmp.Ordering.{Ordering}
use Rattle.std.specs.declared.cmp.Ordering.TheVariants.{Less, Equal, Greater}
use Rattle.std.proofs.lemmas.Cmp.{nat_cmp_total, nat_list_cmp_total, on_total, then_total, tied_itself}
use Rattle.reg_records.specs.contracts.key.KeyPartialEq.TheImpl as key_eq
use Rattle.reg_records.specs.contracts.key.KeyOrd.TheImpl.Laws.{total-law, matches_eq-law}
use Rattle.reg_records.specs.declared.key.Key.{Key}
use Rattle.reg_records.specs.declared.record.Record.{Record}
use Rattle.reg_records.specs.Written.{written_key}
use Rattle.reg_set.specs.RecordOrder.{value_cmp, key_cmp, listed_cmp, age_cmp, record_cmp}

pub value_cmp-total : IsTotalOrder value_cmp
unfolding value_cmp
value_cmp-total = options_total nat_list_cmp_total

pub key_cmp-total : IsTotalOrder key_cmp
key_cmp-total = total-law

pub age_cmp-total : IsTotalOrder age_cmp
unfolding age_cmp
age_cmp-total = then_total (on_total (λ r. r.offset) nat_cmp_total) (on_total (λ r. r.value) value_cmp-total)

listed_cmp-total : IsTotalOrder listed_cmp
unfolding listed_cmp
listed_cmp-total = then_total (on_total written_key nat_list_cmp_total) key_cmp-total

pub record_cmp-total : IsTotalOrder record_cmp
unfolding record_cmp
record_cmp-total =
    then_total (on_total (λ r. r.offset) nat_cmp_total)
    (then_total (on_total (λ r. r.key) listed_cmp-total) (on_total (λ r. r.value) value_cmp-total))

-- of two orders one after the other the first decides where it doesn't tie
decides : (a b : Ordering) → ¬ (a ≡ Equal) → a ≡ ordering_then a b
decides Less b apart = refl
decides Equal b apart = absurd (apart refl)
decides Greater b apart = refl

-- two orders one after the other tie where both do
then_ties : (a b : Ordering) → ordering_then a b ≡ Equal → (a ≡ Equal) × (b ≡ Equal)
then_ties Less b e = absurd (cc)
then_ties Equal b e = (refl, e)
then_ties Greater b e = absurd (cc)

value_cmp-ties : IsAntisymmetric value_cmp
unfolding value_cmp
value_cmp-ties None None e = refl
value_cmp-ties None (Some y) e = absurd (cc)
value_cmp-ties (Some x) None e = absurd (cc)
value_cmp-ties (Some x) (Some y) e = ap Some (slice_cmp-IsAntisymmetric nat_cmp-IsAntisymmetric x y e)

key_eq-is : (a b : Key) → (key_eq.ghosts).eq a b ≡ true → a ≡ b
key_eq-is a b e = search rules

pub key_cmp-ties : IsAntisymmetric key_cmp
key_cmp-ties a b e = key_eq-is a b (matches_eq-law a b ∙ ap is_eq e)

listed_cmp-ties : IsAntisymmetric listed_cmp
unfolding listed_cmp
listed_cmp-ties a b e = key_cmp-ties a b (then_ties (slice_cmp nat_cmp (written_key a) (written_key b)) (key_cmp a b) e).1

listed_cmp-same : (a b : Key) → a ≡ b → listed_cmp a b ≡ Equal
listed_cmp-same a b e = ap (listed_cmp a) (sym e) ∙ tied_itself listed_cmp-total a

-- records of one key are ordered by their age
pub age_cmp-of_one_key : (r q : Record) → key_cmp r.key q.key ≡ Equal → age_cmp r q ≡ record_cmp r q
unfolding age_cmp record_cmp
age_cmp-of_one_key r q e =
    ap (λ o. ordering_then (nat_cmp r.offset q.offset) (ordering_then o (value_cmp r.value q.value)))
    (sym (listed_cmp-same r.key q.key (key_cmp-ties r.key q.key e)))

pub record_cmp-ties : IsAntisymmetric record_cmp
unfolding record_cmp
record_cmp-ties r q e =
    let rest = then_ties (nat_cmp r.offset q.offset) (ordering_then (listed_cmp r.key q.key) (value_cmp r.value q.value)) e in
    let later = then_ties (listed_cmp r.key q.key) (value_cmp r.value q.value) rest.1 in
    let offsets = nat_cmp-IsAntisymmetric r.offset q.offset rest.0 in
    let keys = listed_cmp-ties r.key q.key later.0 in
    let values = value_cmp-ties r.value q.value later.1 in
    λ i. record { offset = offsets i; key = keys i; value = values i }

-- of one key the offsets decide, and then the values
pub age_cmp-by_offset : (r q : Record) → ¬ (nat_cmp r.offset q.offset ≡ Equal) → nat_cmp r.offset q.offset ≡ age_cmp r q
unfolding age_cmp
age_cmp-by_offset r q apart = decides (nat_cmp r.offset q.offset) (value_cmp r.value q.value) apart

pub age_cmp-by_value : (r q : Record) → nat_cmp r.offset q.offset ≡ Equal → value_cmp r.value q.value ≡ age_cmp r q
unfolding age_cmp
age_cmp-by_value r q tie = ap (λ o. ordering_then o (value_cmp r.value q.value)) (sym tie)

-- at different offsets the offsets decide
pub record_cmp-by_offset : (r q : Record) → ¬ (nat_cmp r.offset q.offset ≡ Equal) → nat_cmp r.offset q.offset ≡ record_cmp r q
unfolding record_cmp
record_cmp-by_offset r q apart = decides (nat_cmp r.offset q.offset) _ apart

-- at one offset the texts of the keys decide, then the keys, and then the values
at_offset : (r q : Record) → r.offset ≡ q.offset → ordering_then (listed_cmp r.key q.key) (value_cmp r.value q.value) ≡ record_cmp r q
unfolding record_cmp
at_offset r q e =
    let tie : nat_cmp r.offset q.offset ≡ Equal = ap (nat_cmp r.offset) (sym e) ∙ tied_itself nat_cmp_total r.offset in
    ap (λ o. ordering_then o (ordering_then (listed_cmp r.key q.key) (value_cmp r.value q.value))) (sym tie)

by_listed : (r q : Record) → r.offset ≡ q.offset → ¬ (listed_cmp r.key q.key ≡ Equal) → listed_cmp r.key q.key ≡ record_cmp r q
by_listed r q e apart = decides (listed_cmp r.key q.key) (value_cmp r.value q.value) apart ∙ at_offset r q e

abbrev text_cmp : Record → Record → Ordering
text_cmp r q = slice_cmp nat_cmp (written_key r.key) (written_key q.key)

pub record_cmp-by_text : (r q : Record) → r.offset ≡ q.offset → ¬ (text_cmp r q ≡ Equal) → text_cmp r q ≡ record_cmp r q
unfolding listed_cmp
record_cmp-by_text r q e apart =
    decides (text_cmp r q) (key_cmp r.key q.key) apart
    ∙ by_listed r q e (λ tie. apart (then_ties (text_cmp r q) (key_cmp r.key q.key) tie).0)

pub record_cmp-by_key : (r q : Record) → r.offset ≡ q.offset → text_cmp r q ≡ Equal
    → ¬ (key_cmp r.key q.key ≡ Equal) → key_cmp r.key q.key ≡ record_cmp r q
unfolding listed_cmp
record_cmp-by_key r q e texts apart =
    ap (λ o. ordering_then o (key_cmp r.key q.key)) (sym texts)
    ∙ by_listed r q e (λ tie. apart (then_ties (text_cmp r q) (key_cmp r.key q.key) tie).1)

pub record_cmp-by_value : (r q : Record) → r.offset ≡ q.offset → r.key ≡ q.key → value_cmp r.value q.value ≡ record_cmp r q
record_cmp-by_value r q e same =
    ap (λ o. ordering_then o (value_cmp r.value q.value)) (sym (listed_cmp-same r.key q.key same)) ∙ at_offset r q e
