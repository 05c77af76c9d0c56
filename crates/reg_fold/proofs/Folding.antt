-- Adding records one after another adds them all.
use Rattle.std.proofs.Common.{◌≡◌, ℕ, ◌+◌, ◌<◌, Bool, true, false, ◌||◌, List, [], ◌∷◌, ◌++◌}
use Rattle.std.proofs.Common.{length, get_or, take, map, refl, sym, ap, ◌∙◌, Bor, arith}
use Rattle.std.proofs.lemmas.List.{get_or-map, length-map, map-append, take_more}
use Rattle.std.proofs.lemmas.List.Folds.{list_any_at}
use Rattle.std.specs.Cmp.{IsTotalOrder}
use Rattle.std.specs.FinSet as set
use Rattle.std.specs.FinSet.{IsAntisymmetric}
use Rattle.std.specs.Ordering.{eq_by_cmp}
use Rattle.reg_values.specs.reg_records.declared.record.Record.{Record}
use Rattle.reg_set.specs.RecordOrder.{record_cmp}
use Rattle.reg_set.specs.Records.{Records}

or_false : (a : Bool) → (a || false) ≡ a
or_false true = refl
or_false false = refl

moved : (e l x : Bool) → ((e || l) || x) ≡ (l || (e || x))
moved true true x = refl
moved true false x = refl
moved false l x = refl

turned : (s e x : Bool) → (s || (e || x)) ≡ (e || (s || x))
turned true true x = refl
turned true false x = refl
turned false e x = refl

-- the set of some records
abbrev pub of_list : List Record → Records
of_list rs = set.from_list rs

-- the set of some records that are lent
abbrev pub of_lent : List (Bor Record) → Records
of_lent xs = of_list (map (λ (x : Bor Record). x.now) xs)

abbrev pub with_one : Records → Record → Records
with_one S r = set.insert S r

module _ (total : IsTotalOrder record_cmp) (ties : IsAntisymmetric record_cmp) where
  pub union-empty : (S : Records) → set.union S set.empty ≡ S
  union-empty S =
      set.same_set total ties (set.union S set.empty) S (λ q.
      set.contains-union total S set.empty q
      ∙ ap (λ b. set.contains S q || b) (set.contains-empty record_cmp q)
      ∙ or_false (set.contains S q))

  union-insert : (S X : Records) (r : Record) → set.union S (set.insert X r) ≡ set.insert (set.union S X) r
  union-insert S X r =
      set.same_set total ties (set.union S (set.insert X r)) (set.insert (set.union S X) r) (λ q.
      set.contains-union total S (set.insert X r) q ∙ ap (λ b. set.contains S q || b) (set.contains-insert total X r q)
      ∙ turned (set.contains S q) (eq_by_cmp record_cmp q r) (set.contains X q)
      ∙ ap (λ b. eq_by_cmp record_cmp q r || b) (sym (set.contains-union total S X q))
      ∙ sym (set.contains-insert total (set.union S X) r q))

  list-more : (xs : List Record) (i : ℕ) (r : Record) → i < length xs
      → r ≡ get_or xs i r → with_one (of_list (take i xs)) r ≡ of_list (take (i + 1) xs)
  list-more xs i r within at =
      sym (set.from_list_push total ties (take i xs) r)
      ∙ ap (λ (y : Record). of_list (take i xs ++ y ∷ [])) at
      ∙ ap of_list (sym (take_more xs i r within))

  pub union-more : (S : Records) (xs : List Record) (i : ℕ) (r : Record) → i < length xs → r ≡ get_or xs i r
      → set.insert (set.union S (set.from_list (take i xs))) r ≡ set.union S (set.from_list (take (i + 1) xs))
  union-more S xs i r within at =
      sym (union-insert S (set.from_list (take i xs)) r) ∙ ap (set.union S) (list-more xs i r within at)

  pub union-push : (S : Records) (xs : List Record) (r : Record)
      → set.insert (set.union S (set.from_list xs)) r ≡ set.union S (set.from_list (xs ++ r ∷ []))
  union-push S xs r = sym (union-insert S (set.from_list xs) r) ∙ ap (set.union S) (sym (set.from_list_push total ties xs r))

  pub lent-more : (xs : List (Bor Record)) (i : ℕ) (r : Bor Record) → i < length xs → r ≡ get_or xs i r
      → with_one (of_list (map (λ (x : Bor Record). x.now) (take i xs))) r.now ≡ of_list (map (λ (x : Bor Record). x.now) (take (i + 1) xs))
  lent-more xs i r within at =
      sym (set.from_list_push total ties (map (λ (x : Bor Record). x.now) (take i xs)) r.now)
      ∙ ap of_list (sym (map-append (λ (x : Bor Record). x.now) (take i xs) (r ∷ [])))
      ∙ ap (λ (y : Bor Record). of_list (map (λ (x : Bor Record). x.now) (take i xs ++ y ∷ []))) at
      ∙ ap (λ (ys : List (Bor Record)). of_list (map (λ (x : Bor Record). x.now) ys)) (sym (take_more xs i r within))

  pub union-one : (S : Records) (xs : List Record) (r : Record) → length xs ≡ 1
      → r ≡ get_or xs 0 r → set.insert S r ≡ set.union S (set.from_list xs)
  union-one S [] r one at = absurd (omega arith)
  union-one S (x ∷ []) r one at =
      ap (λ s. set.insert s r) (sym (union-empty S)) ∙ union-more S (x ∷ []) 0 r (omega arith) at
  union-one S (x ∷ (y ∷ ys)) r one at = absurd (omega arith)

  pub empty-union : (S : Records) → set.union set.empty S ≡ S
  empty-union S =
      set.same_set total ties (set.union set.empty S) S (λ q.
      set.contains-union total set.empty S q ∙ ap (λ b. b || set.contains S q) (set.contains-empty record_cmp q))

  pub union-each : (S : Records) (xs : List (Bor Record)) (i : ℕ) (r : Bor Record) → i < length xs → r ≡ get_or xs i r
      → set.insert (set.union S (of_lent (take i xs))) r.now ≡ set.union S (of_lent (take (i + 1) xs))
  union-each S xs i r within at =
      sym (union-insert S (of_lent (take i xs)) r.now) ∙ ap (set.union S) (lent-more xs i r within at)

  is_among : (xs : List (Bor Record)) (i : ℕ) (r : Bor Record) → i < length xs → r ≡ get_or xs i r → (q : Record)
      → eq_by_cmp record_cmp q r.now ≡ true → set.contains (of_lent xs) q ≡ true
  is_among xs i r within at q equal =
      let now : Bor Record → Record = λ x. x.now in
      let there : get_or (map now xs) i r.now ≡ r.now = get_or-map now xs i r r.now within ∙ ap now (sym at) in
      let long : length (map now xs) ≡ length xs = length-map xs now in
      set.contains-from_list total (map now xs) q
      ∙ list_any_at (eq_by_cmp record_cmp q) (map now xs) i r.now (omega (arith, long, within)) (ap (eq_by_cmp record_cmp q) there ∙ equal)

  -- one of them added beside them all adds nothing
  pub one_of_all : (S : Records) (xs : List (Bor Record)) (i : ℕ) (r : Bor Record) → i < length xs → r ≡ get_or xs i r
      → set.union (set.insert S r.now) (of_lent xs) ≡ set.union S (of_lent xs)
  one_of_all S xs i r within at =
      let W = of_lent xs in
      let nothing : (q : Record) → (eq_by_cmp record_cmp q r.now || set.contains W q) ≡ set.contains W q = λ q.
      elim (eq_by_cmp record_cmp q r.now) as (λ b. eq_by_cmp record_cmp q r.now ≡ b → (b || set.contains W q) ≡ set.contains W q) [
        | false ↦ λ _. refl
        | true ↦ λ equal. sym (is_among xs i r within at q equal)
      ] refl in
      set.same_set total ties (set.union (set.insert S r.now) W) (set.union S W) (λ q.
      set.contains-union total (set.insert S r.now) W q
      ∙ ap (λ b. b || set.contains W q) (set.contains-insert total S r.now q)
      ∙ moved (eq_by_cmp record_cmp q r.now) (set.contains S q) (set.contains W q)
      ∙ ap (λ b. set.contains S q || b) (nothing q)
      ∙ sym (set.contains-union total S W q))
