-- What is left of a set without some records, record by record.
use Rattle.std.proofs.Common.{◌≡◌, ℕ, ◌+◌, ◌<◌, Bool, true, false, ◌&&◌, ◌||◌, not, List, [], ◌∷◌}
use Rattle.std.proofs.Common.{◌++◌, length, get_or, take, refl, sym, ap, ◌∙◌, if◌then◌else◌}
use Rattle.std.proofs.lemmas.List.{take_more}
use Rattle.std.specs.Cmp.{IsTotalOrder}
use Rattle.std.specs.FinSet.{IsAntisymmetric, contains, from_list, insert}
use Rattle.std.specs.FinSet.{contains-difference, contains-from_list}
use Rattle.std.specs.FinSet.{contains-insert, same_set}
use Rattle.std.specs.List.{list_any}
use Rattle.std.specs.Ordering.{eq_by_cmp}
use Rattle.reg_records.specs.declared.record.Record.{Record}
use Rattle.reg_set.specs.RecordOrder.{record_cmp}
use Rattle.reg_set.specs.Records.{Records}
use Rattle.reg_floored.specs.Floors.{without}
use Rattle.reg_floored.proofs.Sets.{same_record}

-- the set has those of the records that aren't gone
abbrev pub HasLeft : Records → List Record → Records → Type 0
HasLeft gone rs left = (q : Record) → contains left q ≡ (list_any (eq_by_cmp record_cmp q) rs && not (contains gone q))

swapped : (a b c : Bool) → (a || (b || c)) ≡ (b || (a || c))
swapped true true c = refl
swapped true false c = refl
swapped false b c = refl

any_push : (p : Record → Bool) (rs : List Record) (r : Record) → list_any p (rs ++ r ∷ []) ≡ (p r || list_any p rs)
any_push p [] r = refl
any_push p (q ∷ rs) r = ap (λ b. p q || b) (any_push p rs r) ∙ swapped (p q) (p r) (list_any p rs)

kept_case : (e a g : Bool) → (e ≡ true → g ≡ false) → (e || (a && not g)) ≡ ((e || a) && not g)
kept_case true a g here = ap not (sym (here refl))
kept_case false a g here = refl

gone_case : (e a g : Bool) → (e ≡ true → g ≡ true) → (a && not g) ≡ ((e || a) && not g)
gone_case true true g here = refl
gone_case true false g here = ap not (sym (here refl))
gone_case false a g here = refl

module _ (order : IsTotalOrder record_cmp) (apart : IsAntisymmetric record_cmp) where
  one_more : (rs : List Record) (i : ℕ) (r q : Record) → i < length rs → r ≡ get_or rs i r
      → list_any (eq_by_cmp record_cmp q) (take (i + 1) rs) ≡ (eq_by_cmp record_cmp q r || list_any (eq_by_cmp record_cmp q) (take i rs))
  one_more rs i r q within is =
      ap (list_any (eq_by_cmp record_cmp q)) (take_more rs i r within ∙ ap (λ x. take i rs ++ x ∷ []) (sym is))
      ∙ any_push (eq_by_cmp record_cmp q) (take i rs) r

  pub stays_more : (gone left : Records) (rs : List Record) (i : ℕ) (r : Record) → i < length rs → r ≡ get_or rs i r
      → contains gone r ≡ false → HasLeft gone (take i rs) left → HasLeft gone (take (i + 1) rs) (insert left r)
  stays_more gone left rs i r within is stays has q =
      contains-insert order left r q ∙ ap (λ b. eq_by_cmp record_cmp q r || b) (has q)
      ∙ kept_case (eq_by_cmp record_cmp q r) (list_any (eq_by_cmp record_cmp q) (take i rs))
      (contains gone q) (λ e. ap (contains gone) (same_record order apart q r e) ∙ stays)
      ∙ ap (λ b. b && not (contains gone q)) (sym (one_more rs i r q within is))

  pub leaves_more : (gone left : Records) (rs : List Record) (i : ℕ) (r : Record) → i < length rs → r ≡ get_or rs i r
      → contains gone r ≡ true → HasLeft gone (take i rs) left → HasLeft gone (take (i + 1) rs) left
  leaves_more gone left rs i r within is leaves has q =
      has q
      ∙ gone_case (eq_by_cmp record_cmp q r) (list_any (eq_by_cmp record_cmp q) (take i rs))
      (contains gone q) (λ e. ap (contains gone) (same_record order apart q r e) ∙ leaves)
      ∙ ap (λ b. b && not (contains gone q)) (sym (one_more rs i r q within is))

  pub left_more : (gone told left : Records) (rs : List Record) (i : ℕ) (r : Record)
      → told ≡ gone → i < length rs → r ≡ get_or rs i r → HasLeft gone (take i rs) left
      → HasLeft gone (take (i + 1) rs) (if contains told r then left else insert left r)
  left_more gone told left rs i r same within is has =
      elim (contains told r) as (λ b. contains told r ≡ b → HasLeft gone (take (i + 1) rs) (if b then left else insert left r)) [
        | true ↦ λ e. leaves_more gone left rs i r within is (sym (ap (λ s. contains s r) same) ∙ e) has
        | false ↦ λ e. stays_more gone left rs i r within is (sym (ap (λ s. contains s r) same) ∙ e) has
      ] refl

  pub left_all : (kept left : Records) (dropped rs : List Record) → kept ≡ from_list rs
      → HasLeft (from_list dropped) rs left → left ≡ without kept dropped
  left_all kept left dropped rs is has = same_set order apart left (without kept dropped) (λ q.
      has q
      ∙ ap (λ b. b && not (contains (from_list {R = record_cmp} dropped) q))
      (sym (contains-from_list order rs q) ∙ ap (λ s. contains s q) (sym is))
      ∙ sym (contains-difference order kept (from_list dropped) q))
