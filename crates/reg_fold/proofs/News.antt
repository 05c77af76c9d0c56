-- What a record that is news does to the last records.
use Rattle.std.proofs.Common.{◌≡◌, ◌≢◌, Bool, true, false, ◌||◌, ◌⊎◌, inl, inr, ⊎_elim, Option, Some, None, refl, sym, ap, subst, ◌∙◌}
use Rattle.std.proofs.lemmas.Bool.{false≢true}
use Rattle.std.proofs.lemmas.Cmp.{tied_itself}
use Rattle.std.specs.Cmp.{IsTotalOrder}
use Rattle.std.specs.FinSet.{IsAntisymmetric, contains, contains-insert, insert, same_set}
use Rattle.std.specs.Option.{unwrap_or}
use Rattle.std.specs.Ordering.{eq_by_cmp, is_eq, is_le}
use Rattle.reg_values.specs.reg_records.declared.key.Key.{Key}
use Rattle.reg_values.specs.reg_records.declared.record.Record.{Record}
use Rattle.reg_set.specs.Join.{LastIsGreatest, LastOfLastRecords, NoLastIsNoRecord}
use Rattle.reg_set.specs.LastRecords.{last, last_records}
use Rattle.reg_set.specs.RecordOrder.{age_cmp, record_cmp}
use Rattle.reg_set.specs.Records.{Records}
use Rattle.reg_fold.proofs.OfLasts.{last_of_itself}
use Rattle.reg_fold.proofs.Places.{equal}

either : (a b : Bool) → (a || b) ≡ true → (a ≡ true) ⊎ (b ≡ true)
either true b h = inl refl
either false b h = inr h

or_left : (a b : Bool) → a ≡ true → (a || b) ≡ true
or_left true b h = refl
or_left false b h = absurd (false≢true h)

or_right : (a b : Bool) → b ≡ true → (a || b) ≡ true
or_right true b h = refl
or_right false b h = h

same_some : (x y : Record) → Some x ≡ Some y → x ≡ y
same_some x y e = ap (λ o. unwrap_or o x) e

same_option : (a b : Option Record) → ((x : Record) → a ≡ Some x → b ≡ Some x) → ((x : Record) → b ≡ Some x → a ≡ Some x) → a ≡ b
same_option None None f g = refl
same_option (Some x) b f g = sym (f x refl)
same_option None (Some y) f g = g y refl

module _ (total : IsTotalOrder record_cmp) (ties : IsAntisymmetric record_cmp)
    (greatest : LastIsGreatest) (lasts : LastOfLastRecords) (S : Records) (r : Record) where
  -- the set with the record has that one and those of the set
  inserted : (q : Record) → contains (insert S r) q ≡ true → (q ≡ r) ⊎ (contains S q ≡ true)
  inserted q h =
      ⊎_elim (λ same. inl (ties q r (equal _ same))) (λ there. inr there)
      (either (eq_by_cmp record_cmp q r) (contains S q) (sym (contains-insert total S r q) ∙ h))

  stays_in : (q : Record) → contains S q ≡ true → contains (insert S r) q ≡ true
  stays_in q h = contains-insert total S r q ∙ or_right (eq_by_cmp record_cmp q r) (contains S q) h

  itself_in : contains (insert S r) r ≡ true
  itself_in = contains-insert total S r r ∙ or_left (eq_by_cmp record_cmp r r) (contains S r) (ap is_eq (tied_itself total r))

  -- the last records of the other keys are those before
  pub last-others : (key : Key) → ¬ (r.key ≡ key) → last (last_records (insert S r)) key ≡ last S key
  last-others key apart =
      lasts (insert S r) key
      ∙ same_option (last (insert S r) key) (last S key)
      (λ x is.
      let g = (greatest (insert S r) key x).0 is in
      let here : contains S x ≡ true = ⊎_elim (λ (same : x ≡ r). absurd (apart (ap (λ (q : Record). q.key) (sym same) ∙ g.is_of_key)))
      (λ (there : contains S x ≡ true). there) (inserted x g.is_in_set) in
      (greatest S key x).1 (
      record { is_in_set = here; is_of_key = g.is_of_key; is_greatest = λ q there of_key. g.is_greatest q (stays_in q there) of_key }))
      (λ x is.
      let g = (greatest S key x).0 is in
      (greatest (insert S r) key x).1 (record {
        is_in_set = stays_in x g.is_in_set;
        is_of_key = g.is_of_key;
        is_greatest = λ q there of_key.
            ⊎_elim (λ (same : q ≡ r). absurd (apart (ap (λ (z : Record). z.key) (sym same) ∙ of_key)))
            (λ (inside : contains S q ≡ true). g.is_greatest q inside of_key) (inserted q there);
      }))

  module _ (none : NoLastIsNoRecord) (compact : last_records S ≡ S)
      (compact_after : last_records (last_records (insert S r)) ≡ last_records (insert S r)) where
    -- where another record is the greatest of the key nothing changes
    unchanged : (y : Record) → last (insert S r) r.key ≡ Some y → contains S y ≡ true → last_records (insert S r) ≡ S
    unchanged y is inside =
        same_set total ties T S (λ q. same_test (contains T q) (contains S q) (into q) (out_of q))
      where
        T : Records
        T = last_records (insert S r)

        same_test : (a b : Bool) → (a ≡ true → b ≡ true) → (b ≡ true → a ≡ true) → a ≡ b
        same_test true b f g = sym (f refl)
        same_test false true f g = g refl
        same_test false false f g = refl

        last_before : last S r.key ≡ Some y
        last_before =
            let g = (greatest (insert S r) r.key y).0 is in
            (greatest S r.key y).1 (
            record {
              is_in_set = inside;
              is_of_key = g.is_of_key;
              is_greatest = λ q there of_key. g.is_greatest q (stays_in q there) of_key;
            })

        into : (q : Record) → contains (last_records (insert S r)) q ≡ true → contains S q ≡ true
        into q there =
            let own : last (insert S r) q.key ≡ Some q =
            sym (lasts (insert S r) q.key) ∙ last_of_itself total ties (last_records (insert S r)) compact_after q there in
            let g = (greatest (insert S r) q.key q).0 own in
            ⊎_elim
            (λ (same : q ≡ r).
            subst (λ z. contains S z ≡ true)
            (same_some y q (sym is ∙ ap (λ (z : Record). last (insert S r) z.key) (sym same) ∙ own)) inside)
            (λ (h : contains S q ≡ true). h) (inserted q g.is_in_set)

        out_of : (q : Record) → contains S q ≡ true → contains (last_records (insert S r)) q ≡ true
        out_of q there =
            let own : last S q.key ≡ Some q = last_of_itself total ties S compact q there in
            let g = (greatest S q.key q).0 own in
            let top = (greatest (insert S r) r.key y).0 is in
            let still : last (insert S r) q.key ≡ Some q = (greatest (insert S r) q.key q).1 (record {
              is_in_set = stays_in q there;
              is_of_key = refl;
              is_greatest = λ z within of_key.
                  ⊎_elim (λ (same : z ≡ r).
                  let y_is_q : y ≡ q =
                  same_some y q (sym last_before ∙ ap (last S) (ap (λ (x : Record). x.key) (sym same) ∙ of_key) ∙ own) in
                  subst (λ x. is_le (age_cmp z x) ≡ true) y_is_q (top.is_greatest z within (ap (λ (x : Record). x.key) same)))
                  (λ (h : contains S z ≡ true). g.is_greatest z h of_key) (inserted z within);
            }) in
            ((greatest (last_records (insert S r)) q.key q).0 (lasts (insert S r) q.key ∙ still)).is_in_set

    -- a record that changes the last records is now the last of its key
    pub last-newest : last_records (insert S r) ≢ S → last (last_records (insert S r)) r.key ≡ Some r
    last-newest news =
        lasts (insert S r) r.key
        ∙ elim (last (insert S r) r.key) as (λ o. last (insert S r) r.key ≡ o → o ≡ Some r) [
          | None ↦ λ is. absurd (none (insert S r) r itself_in is)
          | Some y ↦ λ is.
              ⊎_elim (λ (same : y ≡ r). ap Some same) (λ (inside : contains S y ≡ true). absurd (news (unchanged y is inside)))
              (inserted y (((greatest (insert S r) r.key y).0 is).is_in_set))
        ] refl
