-- Where the records of a batch stand.
use Rattle.std.proofs.Common.{◌≡◌, ◌⊎◌, inl, inr, ℕ, suc, ◌+◌, ◌<◌, ◌≤◌, ◌==◌, Bool, true, false, ◌&&◌, ◌||◌}
use Rattle.std.proofs.Common.{List, [], ◌∷◌, length, refl, ap, ◌∙◌, arith, eqb-true}
use Rattle.std.proofs.lemmas.Bool.{false≢true}
use Rattle.std.specs.Cmp.{Equal-is}
use Rattle.std.specs.FinSet.{IsAntisymmetric}
use Rattle.std.specs.List.{list_any}
use Rattle.std.specs.Ordering.{eq_by_cmp}
use Rattle.reg_alike.specs.reg_records.declared.record.Record.{Record}
use Rattle.reg_alike.specs.reg_set.RecordOrder.{record_cmp}
use Rattle.reg_alike.specs.reg_leader.OneStep.{goes_on}

both_true : (a b : Bool) → (a && b) ≡ true → (a ≡ true) × (b ≡ true)
both_true true b h = (refl, h)
both_true false b h = absurd (false≢true h)

pub either : (a b : Bool) → (a || b) ≡ true → (a ≡ true) ⊎ (b ≡ true)
either true b h = inl refl
either false b h = inr h

-- whether the record is among those of the list
abbrev pub is_among : Record → List Record → Bool
is_among q rs = list_any (eq_by_cmp record_cmp q) rs

-- a record of a batch that goes on stands at one of its offsets
pub within : IsAntisymmetric record_cmp → (n : ℕ) (rs : List Record) (q : Record) → goes_on n rs ≡ true → is_among q rs ≡ true
    → (n ≤ q.offset) × (q.offset < n + length rs)
within apart n [] q on any = absurd (false≢true any)
within apart n (r ∷ rs) q on any =
    let parts = both_true (r.offset == n) (goes_on (suc n) rs) on in
    elim (either (eq_by_cmp record_cmp q r) (is_among q rs) any) as (λ _. (n ≤ q.offset) × (q.offset < n + length (r ∷ rs))) [
      | inl e ↦
          let at = ap (λ (x : Record). x.offset) (apart q r ((Equal-is (record_cmp q r)).0 e)) ∙ eqb-true r.offset n parts.0 in
          (omega (arith, at), omega (arith, at))
      | inr rest ↦
          let h = within apart (suc n) rs q parts.1 rest in
          let low = h.0 in
          let high = h.1 in
          (omega (arith, low), omega (arith, high))
    ]
