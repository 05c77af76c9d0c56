-- Maps of the records of each key, as sets of records.
use Rattle.std.proofs.Common.{◌≡◌, ℕ, suc, zero, ◌-◌, ◌<◌, Bool, true, false, cond, ◌||◌, ⊎_elim, List, [], ◌∷◌}
use Rattle.std.proofs.Common.{◌++◌, append-nil, length, map, Some, None, refl, sym, ap, subst, ◌∙◌, arith}
use Rattle.std.proofs.lemmas.Bool.{false≢true}
use Rattle.std.proofs.lemmas.Cmp.{tied_itself}
use Rattle.std.proofs.lemmas.List.{map_push}
use Rattle.std.proofs.lemmas.List.Concat.{flat_map-append}
use Rattle.std.proofs.lemmas.List.Folds.{list_any-append}
use Rattle.std.proofs.lemmas.Map.Entries.{btree_map_get_place}
use Rattle.std.specs.BTreeMap.{IsOrdered, Updates, get, is_at}
use Rattle.std.specs.FinSet.{contains, insert, contains-from_list, contains-insert, same_set}
use Rattle.std.specs.Global.{Vec}
use Rattle.std.specs.List.{flat_map, list_any, list_all, slice_get, AllZip}
use Rattle.std.specs.Map.{keys_of, lookup, values_of}
use Rattle.std.specs.Map.Calls.{RetainsPairs}
use Rattle.std.specs.Map.Iter.{deref, deref_pair}
use denote.Ref.{Bor}
use Rattle.std.specs.Option.{option_map_or}
use Rattle.std.specs.Ordering.{eq_by_cmp, is_eq, is_le, is_lt}
use Rattle.reg_records.specs.contracts.key.KeyOrd.TheImpl.Laws.{total-law}
use Rattle.reg_records.specs.declared.key.Key.{Key}
use Rattle.reg_records.specs.declared.record.Record.{Record}
use Rattle.reg_set.specs.ByKey.{RecordLists, AreByKey, AreOf, AreSame, IsLastsOf, IsTakenIn, all_records, last_alone, records_at, set_of}
use Rattle.reg_set.specs.LastRecords.{is_of, last, last_records}
use Rattle.reg_set.specs.RecordOrder.{age_cmp, key_cmp, record_cmp}
use Rattle.reg_set.specs.Records.{placed}
use Rattle.reg_set.proofs.Alone.{alone-cases, alone-among, alone-get, alone-one, all-alone, all_before, in_order-alone, up_to_alone}
use Rattle.reg_set.proofs.KeptLasts.{last_records-last, last-last_records}
use Rattle.reg_set.proofs.InOrder.{all_placed, any_placed, is_in_order-placed, ties_alike}
use Rattle.reg_set.proofs.Indexed.{key_cmp-itself}
use Rattle.reg_set.proofs.Lasts.{at_any, equal, is_of-is, is_of-of, last-greatest, last-absent}
use Rattle.reg_set.proofs.OneEach.{is_new}
use Rattle.reg_set.proofs.Orders.{age_cmp-of_one_key, key_cmp-total, key_cmp-ties, record_cmp-total, record_cmp-ties}
use Rattle.reg_set.proofs.Unions.{one_set, or_right, same_answers}

abbrev is_same : Record → Record → Bool
is_same r q = eq_by_cmp record_cmp r q

some_alone : (r : Record) (rs : List Record) → last_alone rs ≡ r ∷ [] → 0 < length rs
some_alone r [] e = absurd (cc)
some_alone r (q ∷ rs) e = omega arith

abbrev pub Entries : Type 0
Entries = List (Key × Vec Record)

abbrev pub listed : Entries → List Record
listed es = flat_map (λ v. v.items) (values_of es)

-- a record has a place
pub place_of : (r : Record) (es : Entries) → list_any (is_same r) (listed es) ≡ true
    → (i : ℕ) × (k : Key) × (v : Vec Record) × (slice_get es i ≡ Some (k, v)) × (list_any (is_same r) v.items ≡ true)
place_of r [] h = absurd (false≢true h)
place_of r (e ∷ es) h =
    elim (list_any (is_same r) e.1.items) as (λ b. list_any (is_same r) e.1.items ≡ b → (b || list_any (is_same r) (listed es)) ≡ true
    → (i : ℕ) × (k : Key) × (v : Vec Record) × (slice_get (e ∷ es) i ≡ Some (k, v)) × (list_any (is_same r) v.items ≡ true)) [
      | true ↦ λ there _. (zero, e.0, e.1, refl, there)
      | false ↦ λ _ rest. let found = place_of r es rest in (suc found.0, found.1, found.2, found.3, found.4)
    ] refl (sym (list_any-append (is_same r) e.1.items (listed es)) ∙ h)

-- what a look-up finds is among the records
among : (test : Key → Bool) (r : Record) (es : Entries)
    → list_any (is_same r) (option_map_or (λ v. v.items) (lookup test es) []) ≡ true → list_any (is_same r) (listed es) ≡ true
among test r [] h = absurd (false≢true h)
among test r (e ∷ es) h =
    list_any-append (is_same r) e.1.items (listed es)
    ∙ elim (test e.0) as (λ b. list_any (is_same r) (option_map_or (λ v. v.items) (cond b (Some e.1) (lookup test es)) []) ≡ true
    → (list_any (is_same r) e.1.items || list_any (is_same r) (listed es)) ≡ true) [
      | true ↦ λ here. ap (λ b. b || list_any (is_same r) (listed es)) here
      | false ↦ λ rest. or_right (list_any (is_same r) e.1.items) _ (among test r es rest)
    ] h

pub of_one_key : (q r : Record) → q.key ≡ r.key → age_cmp q r ≡ record_cmp q r
of_one_key q r same = age_cmp-of_one_key q r (ap (key_cmp q.key) (sym same) ∙ tied_itself key_cmp-total q.key)

module _ (m : RecordLists) (by_key : AreByKey m) where
  -- the records of an entry are those of its key
  pub at_place : (i : ℕ) (k : Key) (v : Vec Record) → slice_get m.entries i ≡ Some (k, v) → records_at m k ≡ v.items
  at_place i k v h = ap (λ o. option_map_or (λ v. v.items) o []) (btree_map_get_place total-law m i k v by_key.is_ordered h)

  pub of_that_key : (key : Key) (r : Record) → list_any (is_same r) (records_at m key) ≡ true → r.key ≡ key
  of_that_key key r h = is_of-is key r (at_any (is_of key) r (records_at m key) (by_key.of_keys key).of_key h)

  -- the map has a record where its key has it
  pub contains-set_of : (r : Record) → contains (set_of m) r ≡ list_any (is_same r) (records_at m r.key)
  contains-set_of r =
      same_answers _ _
      (λ h.
      let place = place_of r m.entries (sym (contains-from_list record_cmp-total (all_records m) r) ∙ h) in
      let at = at_place place.0 place.1 place.2 place.3 in
      let there : list_any (is_same r) (records_at m place.1) ≡ true = ap (list_any (is_same r)) at ∙ place.4 in
      ap (λ k. list_any (is_same r) (records_at m k)) (of_that_key place.1 r there) ∙ there)
      (λ h. contains-from_list record_cmp-total (all_records m) r ∙ among (is_at (key_cmp r.key)) r m.entries h)

  pub in_set : (key : Key) (r : Record) → list_any (is_same r) (records_at m key) ≡ true → contains (set_of m) r ≡ true
  in_set key r h = contains-set_of r ∙ ap (λ k. list_any (is_same r) (records_at m k)) (of_that_key key r h) ∙ h

  in_list : (key : Key) (r : Record) → contains (set_of m) r ≡ true → r.key ≡ key → list_any (is_same r) (records_at m key) ≡ true
  in_list key r h same = ap (λ k. list_any (is_same r) (records_at m k)) (sym same) ∙ sym (contains-set_of r) ∙ h

  -- the last of a key's records is the last record of the key
  pub last-some_at : (key : Key) (r : Record) → last_alone (records_at m key) ≡ r ∷ [] → last (set_of m) key ≡ Some r
  last-some_at key r e =
      let there = alone-among r (records_at m key) e in
      let is_key = of_that_key key r there in
      last-greatest (set_of m) key r (record {
        is_in_set = in_set key r there;
        is_of_key = is_key;
        is_greatest = λ q inside same.
            ap is_le (of_one_key q r (same ∙ sym is_key))
            ∙ at_any (λ x. is_le (record_cmp x r)) q (records_at m key)
            (up_to_alone r (records_at m key) (by_key.of_keys key).in_order e) (in_list key q inside same);
      })

  pub last-none_at : (key : Key) → records_at m key ≡ [] → last (set_of m) key ≡ None
  last-none_at key e =
      last-absent (set_of m) key (λ q inside same. false≢true (sym (ap (list_any (is_same q)) e) ∙ in_list key q inside same))

  pub last-at : (key : Key) → slice_get (records_at m key) (length (records_at m key) - 1) ≡ last (set_of m) key
  last-at key =
      let rs = records_at m key in
      ⊎_elim
      (λ (none : rs ≡ []). ap (λ xs. slice_get xs (length xs - 1)) none ∙ sym (last-none_at key none))
      (λ (found : (q : Record) × (last_alone rs ≡ q ∷ [])).
      let some : 0 < length rs = some_alone found.0 rs found.1 in
      alone-get rs (length rs - 1) found.0 (omega arith) found.1 ∙ sym (last-some_at key found.0 found.1))
      (alone-cases rs)

  -- all of a key stand before a record where it is later than the last one
  pub news-at : (r : Record) → list_all (λ q. is_lt (record_cmp q r)) (records_at m r.key) ≡ is_new (last (set_of m) r.key) r
  news-at r =
      let rs = records_at m r.key in
      ⊎_elim
      (λ (none : rs ≡ []). ap (list_all (λ q. is_lt (record_cmp q r))) none ∙ sym (ap (λ o. is_new o r) (last-none_at r.key none)))
      (λ (found : (q : Record) × (last_alone rs ≡ q ∷ [])).
      let q = found.0 in
      let there = alone-among q rs found.1 in
      let ages = of_one_key q r (of_that_key r.key q there) in
      same_answers (list_all (λ p. is_lt (record_cmp p r)) rs) (is_lt (record_cmp q r))
      (λ h. at_any (λ p. is_lt (record_cmp p r)) q rs h there)
      (λ h. all_before q r rs (up_to_alone q rs (by_key.of_keys r.key).in_order found.1) h)
      ∙ sym (ap (λ o. is_new o r) (last-some_at r.key q found.1) ∙ ap is_lt ages))
      (alone-cases rs)

-- a map that has other records at one key
module _ (m n : RecordLists) (key : Key) (v : Vec Record) (updates : Updates key_cmp m n key (Some v)) where
  at_each : (q : Key) → records_at n q ≡ cond (is_eq (key_cmp key q)) v.items (records_at m q)
  at_each q =
      ap (λ o. option_map_or (λ v. v.items) o []) (updates.0 q)
      ∙ elim (is_eq (key_cmp key q)) as (λ b.
      option_map_or (λ v. v.items) (cond b (Some v) (get key_cmp m q)) []
      ≡ cond b v.items (records_at m q)) [ true ↦ refl | false ↦ refl ]

  pub IsTakenIn-updated : (r : Record) → r.key ≡ key → v.items ≡ placed r (records_at m key) → IsTakenIn m n r
  IsTakenIn-updated r same items q =
      at_each q ∙ (λ i. cond (is_eq (key_cmp (sym same i) q)) ((items ∙ ap (λ k. placed r (records_at m k)) (sym same)) i) (records_at m q))

  pub AreSame-updated : v.items ≡ records_at m key → AreSame m n
  AreSame-updated items q =
      at_each q
      ∙ elim (is_eq (key_cmp key q)) as (λ b. is_eq (key_cmp key q) ≡ b → cond b v.items (records_at m q) ≡ records_at m q) [
        | true ↦ λ e. items ∙ ap (records_at m) (key_cmp-ties key q (equal _ e))
        | false ↦ λ _. refl
      ] refl

-- a map with the same records of each key
module _ (m n : RecordLists) (by_key : AreByKey m) (ordered : IsOrdered key_cmp n) (same : AreSame m n) where
  pub AreByKey-same : AreByKey n
  AreByKey-same = record { is_ordered = ordered; of_keys = λ key. subst (AreOf key) (sym (same key)) (by_key.of_keys key) }

  pub set_of-same : set_of n ≡ set_of m
  set_of-same =
      same_set record_cmp-total record_cmp-ties _ _ (λ q.
      contains-set_of n AreByKey-same q ∙ ap (list_any (is_same q)) (same q.key) ∙ sym (contains-set_of m by_key q))

-- a map with one more record
module _ (m n : RecordLists) (by_key : AreByKey m) (ordered : IsOrdered key_cmp n) (r : Record) (taken : IsTakenIn m n r) where
  abbrev before : List Record
  before = records_at m r.key

  placed_of : AreOf r.key (placed r before)
  placed_of = record {
    in_order = is_in_order-placed r before (by_key.of_keys r.key).in_order;
    of_key = all_placed (is_of r.key) r before (is_of-of r.key r refl) (by_key.of_keys r.key).of_key;
  }

  pub AreByKey-taken : AreByKey n
  AreByKey-taken = record {
    is_ordered = ordered;
    of_keys = λ key. subst (AreOf key) (sym (taken key)) (
        elim (is_eq (key_cmp r.key key)) as (λ b. is_eq (key_cmp r.key key) ≡ b → AreOf key (cond b (placed r before) (records_at m key))) [
          | true ↦ λ e. subst (λ k. AreOf k (placed r before)) (key_cmp-ties r.key key (equal _ e)) placed_of
          | false ↦ λ _. by_key.of_keys key
        ] refl);
  }

  apart : (q : Record) → is_eq (key_cmp r.key q.key) ≡ false → is_same q r ≡ false
  apart q e =
      elim (is_same q r) as (λ b. is_same q r ≡ b → b ≡ false) [
        | true ↦ λ h. absurd (false≢true (sym e ∙ key_cmp-itself r.key q.key (sym (ap (λ x. x.key) (record_cmp-ties q r (equal _ h))))))
        | false ↦ λ _. refl
      ] refl

  pub set_of-taken : set_of n ≡ insert (set_of m) r
  set_of-taken =
      same_set record_cmp-total record_cmp-ties _ _ (λ q.
      contains-set_of n AreByKey-taken q ∙ ap (list_any (is_same q)) (taken q.key)
      ∙ elim (is_eq (key_cmp r.key q.key)) as (λ b. is_eq (key_cmp r.key q.key) ≡ b
      → list_any (is_same q) (cond b (placed r before) (records_at m q.key))
      ≡ (is_same q r || list_any (is_same q) (records_at m q.key))) [
        | true ↦ λ e.
            any_placed (is_same q) r before (ties_alike q r)
            ∙ ap (λ k. is_same q r || list_any (is_same q) (records_at m k)) (key_cmp-ties r.key q.key (equal _ e))
        | false ↦ λ e. ap (λ b. b || list_any (is_same q) (records_at m q.key)) (sym (apart q e))
      ] refl
      ∙ ap (λ b. is_same q r || b) (sym (contains-set_of m by_key q)) ∙ sym (contains-insert record_cmp-total (set_of m) r q))

-- a map with the last record of each key alone
module _ (m n : RecordLists) (by_key : AreByKey m) (ordered : IsOrdered key_cmp n) (lasts : IsLastsOf m n) where
  pub AreByKey-lasts : AreByKey n
  AreByKey-lasts = record {
    is_ordered = ordered;
    of_keys = λ key. subst (AreOf key) (sym (lasts key)) (record {
      in_order = in_order-alone (records_at m key);
      of_key = all-alone (is_of key) (records_at m key) (by_key.of_keys key).of_key;
    });
  }

  last_there : (q : Record) → last (set_of m) q.key ≡ Some q → last_alone (records_at m q.key) ≡ q ∷ []
  last_there q e =
      ⊎_elim
      (λ (none : records_at m q.key ≡ []). let no : None ≡ Some q = sym (last-none_at m by_key q.key none) ∙ e in absurd (cc))
      (λ (found : (r : Record) × (last_alone (records_at m q.key) ≡ r ∷ [])).
      let both : Some found.0 ≡ Some q = sym (last-some_at m by_key q.key found.0 found.1) ∙ e in
      let one : found.0 ≡ q = cc in
      found.1 ∙ ap (λ x. x ∷ []) one)
      (alone-cases (records_at m q.key))

  pub set_of-lasts : set_of n ≡ last_records (set_of m)
  set_of-lasts =
      one_set (set_of n) (last_records (set_of m))
      (λ q h. last-last_records (set_of m) q.key q (
      last-some_at m by_key q.key q (
      alone-one q (records_at m q.key) (ap (list_any (is_same q)) (sym (lasts q.key)) ∙ sym (contains-set_of n AreByKey-lasts q) ∙ h))))
      (λ q h.
      contains-set_of n AreByKey-lasts q
      ∙ ap (list_any (is_same q)) (lasts q.key ∙ last_there q (last_records-last (set_of m) q h))
      ∙ ap (λ b. b || false) (ap is_eq (tied_itself record_cmp-total q)))

-- a map of no key
pub AreByKey-empty : (m : RecordLists) → m.entries ≡ [] → IsOrdered key_cmp m → AreByKey m
AreByKey-empty m none ordered = record {
  is_ordered = ordered;
  of_keys = λ key.
      subst (λ es. AreOf key (option_map_or (λ v. v.items) (lookup (is_at (key_cmp key)) es) []))
      (sym none) (record { in_order = refl; of_key = refl });
}

-- copies of entries
module _ (C : Key → Key → Type 0) (D : Vec Record → Vec Record → Type 0)
    (same_key : (a b : Key) → C a b → b ≡ a) (same_items : (v w : Vec Record) → D v w → w.items ≡ v.items) where
  pub copied-keys : (es fs : Entries) → AllZip (λ p q. C p.0 q.0 × D p.1 q.1) es fs → keys_of fs ≡ keys_of es
  copied-keys [] [] h = refl
  copied-keys [] (f ∷ fs) h = absurd h
  copied-keys (e ∷ es) [] h = absurd h
  copied-keys (e ∷ es) (f ∷ fs) h = λ i. same_key e.0 f.0 h.0.0 i ∷ copied-keys es fs h.1 i

  pub copied-lists : (test : Key → Bool) (es fs : Entries) → AllZip (λ p q. C p.0 q.0 × D p.1 q.1) es fs
      → option_map_or (λ v. v.items) (lookup test fs) [] ≡ option_map_or (λ v. v.items) (lookup test es) []
  copied-lists test [] [] h = refl
  copied-lists test [] (f ∷ fs) h = absurd h
  copied-lists test (e ∷ es) [] h = absurd h
  copied-lists test (e ∷ es) (f ∷ fs) h =
      ap (λ k. option_map_or (λ v. v.items) (cond (test k) (Some f.1) (lookup test fs)) []) (same_key e.0 f.0 h.0.0)
      ∙ elim (test e.0) as (λ b.
      option_map_or (λ v. v.items) (cond b (Some f.1) (lookup test fs)) []
      ≡ option_map_or (λ v. v.items) (cond b (Some e.1) (lookup test es)) []) [
        | true ↦ same_items e.1 f.1 h.0.1
        | false ↦ copied-lists test es fs h.1
      ]

-- what a closure that leaves the last ones leaves
pub left-keys : {F : Type 0} (T : F → Key → Vec Record → Bool → Vec Record → F → Type 0)
    → ((g : F) (k : Key) (v : Vec Record) (b : Bool) (w : Vec Record) (g' : F)
    → T g k v b w g' → (b ≡ true) × (w.items ≡ last_alone v.items))
    → (test : Key → Bool) (f : F) (es kept : Entries) → RetainsPairs T f es kept
    → option_map_or (λ v. v.items) (lookup test kept) [] ≡ last_alone (option_map_or (λ v. v.items) (lookup test es) [])
left-keys T each test f [] kept h = ap (λ es. option_map_or (λ v. v.items) (lookup test es) []) h
left-keys T each test f (e ∷ es) kept h =
    let facts = each f e.0 e.1 h.0 h.1 h.2 h.4 in
    ap (λ es. option_map_or (λ v. v.items) (lookup test es) []) (h.6 ∙ ap (λ b. cond b ((e.0, h.1) ∷ h.3) h.3) facts.0)
    ∙ elim (test e.0) as (λ b.
    option_map_or (λ v. v.items) (cond b (Some h.1) (lookup test h.3)) []
    ≡ last_alone (option_map_or (λ v. v.items) (cond b (Some e.1) (lookup test es)) [])) [
      | true ↦ facts.1
      | false ↦ left-keys T each test h.2 es h.3 h.5
    ]

-- one more list joined
pub joined_more : (xs : List (Bor (Vec Record))) (x : Bor (Vec Record)) (found more : List Record)
    → found ≡ flat_map (λ v. v.items) (map deref xs) → more ≡ x.now.items
    → found ++ more ≡ flat_map (λ v. v.items) (map deref (xs ++ x ∷ []))
joined_more xs x found more done same =
    (λ i. done i ++ same i)
    ∙ sym (
    ap (flat_map (λ v. v.items)) (map_push deref xs x)
    ∙ flat_map-append (λ v. v.items) (map deref xs) (x.now ∷ [])
    ∙ ap (λ l. flat_map (λ v. v.items) (map deref xs) ++ l) (append-nil x.now.items))

pub entry_more : (xs : List (Bor Key × Bor (Vec Record))) (x : Bor Key × Bor (Vec Record))
    → listed (map deref_pair (xs ++ x ∷ [])) ≡ listed (map deref_pair xs) ++ x.1.now.items
entry_more xs x =
    ap listed (map_push deref_pair xs x) ∙ ap (flat_map (λ v. v.items)) (map_push (λ e. e.1) (map deref_pair xs) (deref_pair x))
    ∙ flat_map-append (λ v. v.items) (values_of (map deref_pair xs)) (x.1.now ∷ [])
    ∙ ap (λ l. listed (map deref_pair xs) ++ l) (append-nil x.1.now.items)
