-- Tombstones of versions that have a record: they give nothing, and stay tombstones.
use Rattle.std.proofs.Common.{◌≡◌, ◌<◌, ℕ, Bool, true, false, ◌&&◌, ◌||◌, List, [], ◌∷◌, length, get_or, Option}
use Rattle.std.proofs.Common.{Some, None, IsSome, is_none, is_some, option_and_then, refl, sym, ap, ◌∙◌}
use Rattle.std.proofs.lemmas.Bool.{false≢true}
use Rattle.std.proofs.lemmas.List.Folds.{list_all_at}
use Rattle.std.specs.Cmp.{IsTotalOrder}
use Rattle.std.specs.FinSet.{IsAntisymmetric, contains, contains-from_list, contains-insert}
use Rattle.std.specs.FinSet.{contains-union, from_list, insert, same_set, union}
use Rattle.std.specs.List.{list_all, list_any}
use Rattle.std.specs.Ordering.{eq_by_cmp}
use Rattle.reg_values.specs.Value.{value_of, value_of_text}
use Rattle.reg_values.specs.reg_records.declared.key.Key.{Key}
use Rattle.reg_values.specs.reg_records.declared.record.Record.{Record}
use Rattle.reg_set.specs.Join.{LastIsGreatest, LastOfLastRecords, LastRecordsOfUnion, NoLastIsNoRecord}
use Rattle.reg_set.specs.LastRecords.{last, last_records}
use Rattle.reg_set.specs.RecordOrder.{record_cmp}
use Rattle.reg_set.specs.Records.{Records}
use Rattle.reg_fold.specs.Opaque.{is_version}
use Rattle.reg_fold.specs.Entries.{own_entry_in}
use Rattle.reg_fold.specs.Own.{own_entry_of}
use Rattle.reg_fold.specs.Tombstones.{is_tombstone}

first_true : (a b : Bool) → (a && b) ≡ true → a ≡ true
first_true true b h = refl
first_true false b h = absurd (false≢true h)

second_true : (a b : Bool) → (a && b) ≡ true → b ≡ true
second_true true b h = h
second_true false b h = absurd (false≢true h)

module _ (rs : Records) (r : Record) (tombstone : is_tombstone rs r ≡ true) where
  pub is_of_version : is_version r.key ≡ true
  is_of_version = first_true _ _ tombstone

  none_is : (o : Option (List ℕ)) → is_none o ≡ true → o ≡ None
  none_is None h = refl
  none_is (Some x) h = absurd (false≢true h)

  no_value : r.value ≡ None
  no_value = none_is r.value (first_true _ _ (second_true _ _ tombstone))

  pub has_no_value : is_some r.value ≡ false
  has_no_value = ap is_some no_value

  pub has_last : IsSome (last rs r.key)
  has_last = second_true _ _ (second_true _ _ tombstone)

  says_nothing : value_of r ≡ None
  says_nothing = ap (option_and_then (value_of_text r.key)) no_value

  pub gives_none : own_entry_of r ≡ None
  unfolding own_entry_of
  gives_none = ap (option_and_then (own_entry_in r.offset)) says_nothing

-- what all pass, the one at a place passes
pub each_passes : (p : Record → Bool) (rs : List Record) (i : ℕ) (r : Record)
    → i < length rs → r ≡ get_or rs i r → list_all p rs ≡ true → p r ≡ true
each_passes p rs i r within is all =
    ap p is
    ∙ elim (p (get_or rs i r)) as (λ b. p (get_or rs i r) ≡ b → b ≡ true) [
      | true ↦ λ _. refl
      | false ↦ λ e. absurd (false≢true (sym (list_all_at p rs i r within e) ∙ all))
    ] refl

or_right : (a b : Bool) → b ≡ true → (a || b) ≡ true
or_right true b h = refl
or_right false b h = h

and_last : (a b c d : Bool) → (c ≡ true → d ≡ true) → (a && (b && c)) ≡ true → (a && (b && d)) ≡ true
and_last true true c d f h = f h
and_last true false c d f h = absurd (false≢true h)
and_last false b c d f h = absurd (false≢true h)

moved : (e l x : Bool) → ((e || l) || x) ≡ (l || (e || x))
moved true true x = refl
moved true false x = refl
moved false l x = refl

module _ (total : IsTotalOrder record_cmp) where
  module _ (greatest : LastIsGreatest) (none : NoLastIsNoRecord) (lasts : LastOfLastRecords) where
    -- a key keeps having a record
    last_stays : (rs : Records) (r : Record) (key : Key) → is_some (last rs key) ≡ true
        → is_some (last (last_records (insert rs r)) key) ≡ true
    last_stays rs r key there =
        ap is_some (lasts (insert rs r) key)
        ∙ elim (last rs key) as (λ o. last rs key ≡ o → is_some o ≡ true → is_some (last (insert rs r) key) ≡ true) [
          | None ↦ λ _ h. absurd (false≢true h)
          | Some x ↦ λ is _.
              let top = (greatest rs key x).0 is in
              let inside : contains (insert rs r) x ≡ true =
              contains-insert total rs r x ∙ or_right (eq_by_cmp record_cmp x r) (contains rs x) top.is_in_set in
              some (last (insert rs r) key) (λ gone. none (insert rs r) x inside (ap (last (insert rs r)) top.is_of_key ∙ gone))
        ] refl there
      where
        some : (o : Option Record) → ¬ (o ≡ None) → is_some o ≡ true
        some None h = absurd (h refl)
        some (Some x) h = refl

    -- so a tombstone stays one
    pub stays_tombstone : (rs : Records) (r q : Record) → is_tombstone rs q ≡ true → is_tombstone (last_records (insert rs r)) q ≡ true
    stays_tombstone rs r q h =
        and_last (is_version q.key) (is_none q.value) (is_some (last rs q.key))
        (is_some (last (last_records (insert rs r)) q.key)) (last_stays rs r q.key) h

    pub stay_tombstones : (rs : Records) (r : Record) (qs : List Record)
        → list_all (is_tombstone rs) qs ≡ true → list_all (is_tombstone (last_records (insert rs r))) qs ≡ true
    stay_tombstones rs r [] h = refl
    stay_tombstones rs r (q ∷ qs) h =
        ap (λ b. b && list_all (is_tombstone (last_records (insert rs r))) qs)
        (stays_tombstone rs r q (first_true (is_tombstone rs q) (list_all (is_tombstone rs) qs) h))
        ∙ stay_tombstones rs r qs (second_true (is_tombstone rs q) (list_all (is_tombstone rs) qs) h)

  module _ (ties : IsAntisymmetric record_cmp) where
    -- a record, and then others
    first_joined : (rs : Records) (r : Record) (qs : List Record) → union (insert rs r) (from_list qs) ≡ union rs (from_list (r ∷ qs))
    first_joined rs r qs =
        same_set total ties (union (insert rs r) (from_list qs)) (union rs (from_list (r ∷ qs))) (λ q.
        contains-union total (insert rs r) (from_list qs) q
        ∙ ap (λ b. b || contains (from_list {R = record_cmp} qs) q) (contains-insert total rs r q)
        ∙ ap (λ b. (eq_by_cmp record_cmp q r || contains rs q) || b) (contains-from_list total qs q)
        ∙ moved (eq_by_cmp record_cmp q r) (contains rs q) (list_any (eq_by_cmp record_cmp q) qs)
        ∙ sym (contains-union total rs (from_list (r ∷ qs)) q ∙ ap (λ b. contains rs q || b) (contains-from_list total (r ∷ qs) q)))

    pub added_all : LastRecordsOfUnion → (rs mid : Records) (r : Record) (qs : List Record) → mid ≡ last_records (insert rs r)
        → last_records (union mid (from_list qs)) ≡ last_records (union rs (from_list (r ∷ qs)))
    added_all of_union rs mid r qs is =
        ap (λ s. last_records (union s (from_list qs))) is ∙ of_union (insert rs r) (from_list qs) ∙ ap last_records (first_joined rs r qs)
