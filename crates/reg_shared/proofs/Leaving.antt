-- What leaves by a compaction, and what is left.
use Rattle.std.proofs.Common.{◌≡◌, ◌⊎◌, inl, inr, ℕ, Bool, true, false, ◌&&◌, ◌||◌, not, List, [], ◌∷◌}
use Rattle.std.proofs.Common.{◌++◌, Option, Some, None, is_none, refl, sym, ap, ◌∙◌, if◌then◌else◌}
use Rattle.std.proofs.lemmas.Bool.{false≢true}
use Rattle.std.specs.Cmp.{IsTotalOrder}
use Rattle.std.specs.FinSet.{contains, difference, from_list, IsAntisymmetric}
use Rattle.std.specs.FinSet.{contains-difference, contains-retain}
use Rattle.std.specs.FinSet.{contains-union, same_set}
use Rattle.std.specs.List.{filter, list_all, list_any}
use Rattle.std.specs.Option.{option_map_or}
use Rattle.std.specs.Ordering.{eq_by_cmp}
use Rattle.reg_records.specs.declared.key.Key.{Key}
use Rattle.reg_records.specs.declared.record.Record.{Record}
use Rattle.reg_set.specs.Compaction.{deletes_below, is_gone}
use Rattle.reg_set.specs.Join.{LastIsGreatest, NoLastIsNoRecord}
use Rattle.reg_set.specs.LastRecords.{is_last, last, last_records}
use Rattle.reg_set.specs.RecordOrder.{record_cmp}
use Rattle.reg_set.specs.Records.{Records}
use Rattle.reg_floored.specs.Floors.{compacted_to, may_leave, without}
use Rattle.reg_shared.specs.Kept.{kept_of, may_go}
use Rattle.reg_shared.proofs.Equality.{alike, equal}
use Rattle.reg_shared.proofs.Keeping.{is_kept}
use Rattle.reg_shared.proofs.Members.{filtered, in_lasts, in_list, itself, joined, right}

first_true : (a b : Bool) → (a && b) ≡ true → a ≡ true
first_true true b h = refl
first_true false b h = absurd (false≢true h)

second_true : (a b : Bool) → (a && b) ≡ true → b ≡ true
second_true true b h = h
second_true false b h = absurd (false≢true h)

both : {a b : Bool} → a ≡ true → b ≡ true → (a && b) ≡ true
both {b = b} e f = ap (λ a. a && b) e ∙ f

either : (a b : Bool) → (a || b) ≡ true → (a ≡ true) ⊎ (b ≡ true)
either true b h = inl refl
either false b h = inr h

none_is : {A : Type 0} (o : Option A) → is_none o ≡ true → o ≡ None
none_is None h = refl
none_is (Some x) h = absurd (false≢true h)

not_false : (b : Bool) → not b ≡ true → b ≡ false
not_false false e = refl
not_false true e = absurd (false≢true e)

-- Tests of one record: whether it is a last one, an older one, kept, the last of its key in what is kept, dropped, a delete.
may_go_same : (l o k il g h : Bool) → k ≡ (l || o) → l ≡ (k && il) → (l ≡ true → g ≡ h) → (if l then g else o) ≡ (k && (not il || h))
may_go_same true o true true g h e f same = same refl
may_go_same true o true false g h e f same = absurd (false≢true (sym f))
may_go_same true o false il g h e f same = absurd (false≢true e)
may_go_same false true true true g h e f same = absurd (false≢true f)
may_go_same false true true false g h e f same = refl
may_go_same false true false il g h e f same = absurd (false≢true e)
may_go_same false false true il g h e f same = absurd (false≢true (sym e))
may_go_same false false false il g h e f same = refl

left_same : (l o d n : Bool) → (l ≡ true → d ≡ true → n ≡ true) → ((l && not (d && n)) || (o && (not d && not l))) ≡ ((l || o) && not d)
left_same true o true n h = ap (λ b. not b || (o && false)) (h refl refl) ∙ and_false o
  where
    and_false : (b : Bool) → (false || (b && false)) ≡ false
    and_false true = refl
    and_false false = refl
left_same true o false n h = refl
left_same false true true n h = refl
left_same false true false n h = refl
left_same false false d n h = refl

dropped_same : (l o b d : Bool) → (l ≡ true → b ≡ true) → ((o && not l) || (b && (d && l))) ≡ ((l || o) && not (l && not d))
dropped_same true o true true h = or_true o
  where
    or_true : (b : Bool) → ((b && false) || true) ≡ true
    or_true true = refl
    or_true false = refl
dropped_same true o true false h = or_false o
  where
    or_false : (b : Bool) → ((b && false) || false) ≡ false
    or_false true = refl
    or_false false = refl
dropped_same true o false d h = absurd (false≢true (h refl))
dropped_same false true true true h = refl
dropped_same false true true false h = refl
dropped_same false true false d h = refl
dropped_same false false true true h = refl
dropped_same false false true false h = refl
dropped_same false false false d h = refl

module _ (order : IsTotalOrder record_cmp) (apart : IsAntisymmetric record_cmp) where
  -- tests that agree on each of a list
  all_same_in : (p q : Record → Bool) (rs : List Record)
      → ((r : Record) → list_any (eq_by_cmp record_cmp r) rs ≡ true → p r ≡ q r) → list_all p rs ≡ list_all q rs
  all_same_in p q [] same = refl
  all_same_in p q (r ∷ rs) same =
      ap (λ b. b && list_all p rs) (same r (ap (λ b. b || list_any (eq_by_cmp record_cmp r) rs) (itself order apart r)))
      ∙ ap (λ b. q r && b) (all_same_in p q rs (λ x any. same x (right (eq_by_cmp record_cmp x r) _ any)))

  all_of : (p : Record → Bool) (rs : List Record) (r : Record) → list_all p rs ≡ true
      → list_any (eq_by_cmp record_cmp r) rs ≡ true → p r ≡ true
  all_of p [] r all any = absurd (false≢true any)
  all_of p (d ∷ ds) r all any =
      elim (eq_by_cmp record_cmp r d) as (λ b.
      eq_by_cmp record_cmp r d ≡ b → (b || list_any (eq_by_cmp record_cmp r) ds) ≡ true → p r ≡ true) [
        | true ↦ λ e _. ap p (equal order apart r d e) ∙ first_true (p d) (list_all p ds) all
        | false ↦ λ _ rest. all_of p ds r (second_true (p d) (list_all p ds) all) rest
      ] refl any

  -- the deletes among some records
  abbrev pub deletes_of : List Record → Records
  deletes_of ds = from_list (filter (λ r. is_none r.value) ds)

  module _ (greatest : LastIsGreatest) (no_last : NoLastIsNoRecord) where
    absent : (S : Records) (key : Key) → ((q : Record) → contains S q ≡ true → q.key ≡ key → ⊥) → last S key ≡ None
    absent S key nothing = elim (last S key) as (λ o. last S key ≡ o → o ≡ None) [
      | None ↦ λ _. refl
      | Some q ↦ λ is. let g = (greatest S key q).0 is in absurd (nothing q g.is_in_set g.is_of_key)
    ] refl

    -- the last of its key, from what is last
    last_of : (S : Records) (q : Record) → contains (last_records S) q ≡ true → last S q.key ≡ Some q
    unfolding is_last
    last_of S q h = found (last S q.key) (second_true (contains S q) (is_last S q) (sym (in_lasts order apart S q) ∙ h))
      where
        found : (o : Option Record) → option_map_or (eq_by_cmp record_cmp q) o false ≡ true → o ≡ Some q
        found None e = absurd (false≢true e)
        found (Some x) e = ap Some (sym (equal order apart q x e))

    is_last_one : (S : Records) (q : Record) → last S q.key ≡ Some q → contains (last_records S) q ≡ true
    unfolding is_last
    is_last_one S q is =
        in_lasts order apart S q
        ∙ both ((greatest S q.key q).0 is).is_in_set (ap (λ o. option_map_or (eq_by_cmp record_cmp q) o false) is ∙ itself order apart q)

    -- a last record that a part of a set has is the part's last one
    last_in_part : (part whole : Records) (q : Record) → ((r : Record) → contains part r ≡ true → contains whole r ≡ true)
        → last whole q.key ≡ Some q → contains part q ≡ true → last part q.key ≡ Some q
    last_in_part part whole q within is has =
        let g = (greatest whole q.key q).0 is in
        (greatest part q.key q).1 (
        record { is_in_set = has; is_of_key = refl; is_greatest = λ r in_part of_key. g.is_greatest r (within r in_part) of_key })

    module _ (lasts : Records) (older ds : List Record) (floor : ℕ) (lasts_are : lasts ≡ last_records (kept_of lasts older)) where
      abbrev kept : Records
      kept = kept_of lasts older

      abbrev gone : Records
      gone = from_list ds

      abbrev pub rest : List Record
      rest = filter (λ r. not (contains gone r) && not (contains lasts r)) older

      in_kept : (q : Record) → contains kept q ≡ (contains lasts q || contains (from_list {R = record_cmp} older) q)
      in_kept q = is_kept order apart lasts older q

      last_is : (q : Record) → contains lasts q ≡ (contains kept q && is_last kept q)
      last_is q = ap (λ (s : Records). contains s q) lasts_are ∙ in_lasts order apart kept q

      was_last : (q : Record) → contains lasts q ≡ true → last kept q.key ≡ Some q
      was_last q h = last_of kept q (ap (λ (s : Records). contains s q) (sym lasts_are) ∙ h)

      in_rest : (q : Record)
          → contains (from_list {R = record_cmp} rest) q
          ≡ (contains (from_list {R = record_cmp} older) q && (not (contains gone q) && not (contains lasts q)))
      in_rest q = filtered order apart (λ r. not (contains gone r) && not (contains lasts r)) older q

      in_without : (q : Record) → contains (without kept ds) q ≡ (contains kept q && not (contains gone q))
      in_without q = contains-difference order kept gone q

      rest_stays : (q : Record) → contains (from_list {R = record_cmp} rest) q ≡ true → contains (without kept ds) q ≡ true
      rest_stays q h =
          let parts = sym (in_rest q) ∙ h in
          let among = first_true (contains (from_list {R = record_cmp} older) q) _ parts in
          let stays = first_true (not (contains gone q)) _ (second_true (contains (from_list {R = record_cmp} older) q) _ parts) in
          in_without q ∙ both (in_kept q ∙ right (contains lasts q) _ among) stays

      -- what stays of the key of a last record that leaves is among the rest
      stays_in_rest : (r q : Record) → contains lasts r ≡ true → contains gone r ≡ true
          → contains (without kept ds) q ≡ true → q.key ≡ r.key → contains (from_list {R = record_cmp} rest) q ≡ true
      stays_in_rest r q is_l is_gone_r stays same =
          let parts = sym (in_without q) ∙ stays in
          let here = first_true (contains kept q) _ parts in
          let away = second_true (contains kept q) _ parts in
          elim (contains lasts q) as (λ b. contains lasts q ≡ b → contains (from_list {R = record_cmp} rest) q ≡ true) [
            | true ↦ λ e.
                let one : Some q ≡ Some r = sym (was_last q e) ∙ (ap (last kept) same ∙ was_last r is_l) in
                let is : q ≡ r = cc in
                absurd (false≢true (sym (not_false (contains gone q) away) ∙ (ap (contains gone) is ∙ is_gone_r)))
            | false ↦ λ e.
                let among : contains (from_list {R = record_cmp} older) q ≡ true =
                sym (ap (λ b. b || contains (from_list {R = record_cmp} older) q) e) ∙ (sym (in_kept q) ∙ here) in
                in_rest q ∙ both among (both away (ap not e))
          ] refl

      gone_same : (r : Record) → contains gone r ≡ true → contains lasts r ≡ true
          → is_gone floor (from_list rest) r ≡ is_gone floor (without kept ds) r
      gone_same r is_gone_r is_l =
          ap (λ b. deletes_below floor r && b) (alike _ _
          (λ e. ap is_none (
          absent (without kept ds) r.key (λ q stays same.
          no_last (from_list rest) q (stays_in_rest r q is_l is_gone_r stays same) (ap (last (from_list rest)) same ∙ none_is _ e))))
          (λ e.
          ap is_none (
          absent (from_list rest) r.key
          (λ q stays same. no_last (without kept ds) q (rest_stays q stays) (ap (last (without kept ds)) same ∙ none_is _ e)))))

      -- the test of what may leave
      pub may_leave_is : list_all (may_go lasts (from_list older) (from_list rest) floor) ds ≡ may_leave floor kept ds
      may_leave_is =
          all_same_in (may_go lasts (from_list older) (from_list rest) floor)
          (λ r. contains kept r && (not (is_last kept r) || is_gone floor (without kept ds) r)) ds (λ r any.
          may_go_same (contains lasts r) (contains (from_list {R = record_cmp} older) r) (contains kept r)
          (is_last kept r) (is_gone floor (from_list rest) r) (is_gone floor (without kept ds) r)
          (in_kept r) (last_is r) (gone_same r (in_list order apart ds r ∙ any)))

      module _ (may : may_leave floor kept ds ≡ true) where
        -- a last record that leaves is a delete
        deletes : (q : Record) → contains lasts q ≡ true → contains gone q ≡ true → is_none q.value ≡ true
        deletes q is_l is_gone_q =
            let leaves = all_of (λ r. contains kept r && (not (is_last kept r) || is_gone floor (without kept ds) r)) ds q may
            (sym (in_list order apart ds q) ∙ is_gone_q) in
            let il : is_last kept q ≡ true = second_true (contains kept q) _ (sym (last_is q) ∙ is_l) in
            let facts : is_gone floor (without kept ds) q ≡ true =
            ap (λ b. not b || is_gone floor (without kept ds) q) (sym il) ∙ second_true (contains kept q) _ leaves in
            first_true (is_none q.value) _ (first_true (deletes_below floor q) _ facts)

        abbrev pub lasts_left : Records
        lasts_left = difference lasts (deletes_of ds)

        in_lasts_left : (q : Record) → contains lasts_left q ≡ (contains lasts q && not (contains gone q && is_none q.value))
        in_lasts_left q =
            contains-difference order lasts (deletes_of ds) q
            ∙ ap (λ b. contains lasts q && not b) (filtered order apart (λ r. is_none r.value) ds q)

        pub left_is : kept_of lasts_left rest ≡ without kept ds
        left_is = same_set order apart (kept_of lasts_left rest) (without kept ds) (λ q.
            is_kept order apart lasts_left rest q
            ∙ ap (λ b. b || contains (from_list {R = record_cmp} rest) q) (in_lasts_left q)
            ∙ ap (λ b. (contains lasts q && not (contains gone q && is_none q.value)) || b) (in_rest q)
            ∙ left_same (contains lasts q) (contains (from_list {R = record_cmp} older) q) (contains gone q) (is_none q.value) (deletes q)
            ∙ ap (λ b. b && not (contains gone q)) (sym (in_kept q))
            ∙ sym (in_without q))

        pub part : (r : Record) → contains (without kept ds) r ≡ true → contains kept r ≡ true
        part r h = first_true (contains kept r) _ (sym (in_without r) ∙ h)

        last_stays : (q : Record) → contains lasts q ≡ true → contains gone q ≡ false → contains (last_records (without kept ds)) q ≡ true
        last_stays q is_l stays =
            is_last_one (without kept ds) q
            (last_in_part (without kept ds) kept q part (was_last q is_l)
            (in_without q ∙ both (in_kept q ∙ ap (λ b. b || contains (from_list {R = record_cmp} older) q) is_l) (ap not stays)))

        still_last : (q : Record) → contains lasts_left q ≡ true → contains (last_records (without kept ds)) q ≡ true
        still_last q h =
            let parts = sym (in_lasts_left q) ∙ h in
            let is_l = first_true (contains lasts q) _ parts in
            elim (contains gone q) as (λ b. contains gone q ≡ b → contains (last_records (without kept ds)) q ≡ true) [
              | false ↦ λ e. last_stays q is_l e
              | true ↦ λ e. absurd (false≢true (sym (ap not (both e (deletes q is_l e))) ∙ second_true (contains lasts q) _ parts))
            ] refl

        -- the last record of a key of which something is left was its last one
        was_last_one : (q : Record) → contains (last_records (without kept ds)) q ≡ true → contains lasts_left q ≡ true
        was_last_one q h =
            let is = last_of (without kept ds) q h in
            let in_left = ((greatest (without kept ds) q.key q).0 is).is_in_set in
            let stays = not_false (contains gone q) (second_true (contains kept q) _ (sym (in_without q) ∙ in_left)) in
            let was : contains lasts q ≡ true = found q is in_left in
            in_lasts_left q ∙ both was (ap (λ b. not (b && is_none q.value)) stays)
          where
            found : (q : Record) → last (without kept ds) q.key ≡ Some q → contains (without kept ds) q ≡ true → contains lasts q ≡ true
            found q is in_left = elim (last kept q.key) as (λ o. last kept q.key ≡ o → contains lasts q ≡ true) [
              | None ↦ λ e. absurd (no_last kept q (part q in_left) e)
              | Some r ↦ λ e.
                  let g = (greatest kept q.key r).0 e in
                  let r_last : last kept r.key ≡ Some r = ap (last kept) g.is_of_key ∙ e in
                  let is_l : contains lasts r ≡ true = ap (λ (s : Records). contains s r) lasts_are ∙ is_last_one kept r r_last in
                  elim (contains gone r) as (λ b. contains gone r ≡ b → contains lasts q ≡ true) [
                    | false ↦ λ f.
                        let again : last (without kept ds) r.key ≡ Some r = last_of (without kept ds) r (last_stays r is_l f) in
                        let one : Some q ≡ Some r = sym is ∙ (ap (last (without kept ds)) (sym g.is_of_key) ∙ again) in
                        let same : q ≡ r = cc in
                        ap (contains lasts) same ∙ is_l
                    | true ↦ λ f.
                        let leaves = all_of (λ r. contains kept r && (not (is_last kept r) || is_gone floor (without kept ds) r)) ds r may
                        (sym (in_list order apart ds r) ∙ f) in
                        let il : is_last kept r ≡ true = second_true (contains kept r) _ (sym (last_is r) ∙ is_l) in
                        let facts : is_gone floor (without kept ds) r ≡ true =
                        ap (λ b. not b || is_gone floor (without kept ds) r) (sym il) ∙ second_true (contains kept r) _ leaves in
                        absurd (
                        no_last (without kept ds) q in_left
                        (ap (last (without kept ds)) (sym g.is_of_key) ∙ none_is _ (second_true (deletes_below floor r) _ facts)))
                  ] refl
            ] refl

        pub lasts_left_are : lasts_left ≡ last_records (without kept ds)
        lasts_left_are = same_set order apart lasts_left (last_records (without kept ds)) (λ q. alike _ _ (still_last q) (was_last_one q))

  -- What a compaction to a floor drops.
  pub dropped_are : (lasts : Records) (older by_offset found : List Record) (floor : ℕ) → lasts ≡ last_records (kept_of lasts older)
      → ((r : Record) → contains (kept_of lasts older) r ≡ true → contains (from_list {R = record_cmp} by_offset) r ≡ true)
      → found ≡ filter (λ r. not (contains lasts r)) older ++ filter (λ r. deletes_below floor r && contains lasts r) by_offset
      → (r : Record)
      → contains (from_list {R = record_cmp} found) r
      ≡ (contains (kept_of lasts older) r && not (contains (compacted_to floor (kept_of lasts older)) r))
  dropped_are lasts older by_offset found floor lasts_are among is r =
      let k : Records = kept_of lasts older in
      ap (λ l. contains (from_list {R = record_cmp} l) r) is
      ∙ ap (λ s. contains s r) (
      joined order apart (filter (λ r. not (contains lasts r)) older) (filter (λ r. deletes_below floor r && contains lasts r) by_offset))
      ∙ contains-union order (from_list (filter (λ r. not (contains lasts r)) older))
      (from_list (filter (λ r. deletes_below floor r && contains lasts r) by_offset)) r
      ∙ ap (λ b. b || contains (from_list {R = record_cmp} (filter (λ r. deletes_below floor r && contains lasts r) by_offset)) r)
      (filtered order apart (λ r. not (contains lasts r)) older r)
      ∙ ap (λ b. (contains (from_list {R = record_cmp} older) r && not (contains lasts r)) || b)
      (filtered order apart (λ r. deletes_below floor r && contains lasts r) by_offset r)
      ∙ dropped_same (contains lasts r) (contains (from_list {R = record_cmp} older) r)
      (contains (from_list {R = record_cmp} by_offset) r) (deletes_below floor r)
      (λ h. among r (is_kept order apart lasts older r ∙ ap (λ b. b || contains (from_list {R = record_cmp} older) r) h))
      ∙ ap (λ b. b && not (contains lasts r && not (deletes_below floor r))) (sym (is_kept order apart lasts older r))
      ∙ ap (λ b. contains k r && not b)
      (ap (λ b. b && not (deletes_below floor r)) (ap (λ (s : Records). contains s r) lasts_are) ∙ sym (stays r))
    where
      stays : (r : Record)
          → contains (compacted_to floor (kept_of lasts older)) r
          ≡ (contains (last_records (kept_of lasts older)) r && not (deletes_below floor r))
      stays r =
          contains-retain (last_records (kept_of lasts older)) (λ r. not (deletes_below floor r)) r
          (λ x e. ap (λ r. not (deletes_below floor r)) (sym (apart r x e)))
