-- Whether a batch goes on, record by record.
use Rattle.std.proofs.Common.{◌≡◌, ◌≢◌, ℕ, suc, ◌+◌, ◌<◌, ◌≤◌, ◌==◌, ◌&&◌, true, false, List}
use Rattle.std.proofs.Common.{length, get_or, drop, refl, sym, ap, ◌∙◌, eq-eqb, eqb-true}
use Rattle.std.proofs.lemmas.List.{at_drop_more, at_drop_all}
use Rattle.reg_leader.specs.reg_records.declared.record.Record.{Record}
use Rattle.reg_leader.specs.OneStep.{goes_on}

-- the record at a place, and those after it
at_place : (n i : ℕ) (rs : List Record) (r : Record) → i < length rs → r ≡ get_or rs i r
    → goes_on n (drop i rs) ≡ ((r.offset == n) && goes_on (suc n) (drop (i + 1) rs))
at_place n i rs r within is =
    at_drop_more (goes_on n) rs i r within ∙ ap (λ q. (q.offset == n) && goes_on (suc n) (drop (i + 1) rs)) (sym is)

pub goes_on_more : (n m i : ℕ) (rs : List Record) (r : Record) → i < length rs → r ≡ get_or rs i r
    → r.offset ≡ n → m ≡ suc n → goes_on m (drop (i + 1) rs) ≡ goes_on n (drop i rs)
goes_on_more n m i rs r within is here next =
    ap (λ k. goes_on k (drop (i + 1) rs)) next
    ∙ sym (at_place n i rs r within is ∙ ap (λ b. b && goes_on (suc n) (drop (i + 1) rs)) (eq-eqb r.offset n here))

not_equal : (m n : ℕ) → m ≢ n → (m == n) ≡ false
not_equal m n apart =
    elim (m == n) as (λ b. (m == n) ≡ b → b ≡ false) [ true ↦ λ e. absurd (apart (eqb-true m n e)) | false ↦ λ _. refl ] refl

pub goes_astray : (n i : ℕ) (rs : List Record) (r : Record) → i < length rs
    → r ≡ get_or rs i r → r.offset ≢ n → goes_on n (drop i rs) ≡ false
goes_astray n i rs r within is apart =
    at_place n i rs r within is ∙ ap (λ b. b && goes_on (suc n) (drop (i + 1) rs)) (not_equal r.offset n apart)

pub goes_on_all : (n i : ℕ) (rs : List Record) → length rs ≤ i → goes_on n (drop i rs) ≡ true
goes_on_all n i rs past = at_drop_all (goes_on n) rs i past
