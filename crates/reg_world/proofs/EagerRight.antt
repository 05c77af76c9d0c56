-- Taken one after the other, the records of a log give the log's entries.
use Rattle.std.proofs.Common.{◌≡◌, ◌≢◌, ◌⊎◌, inl, inr, ℕ, suc, ◌+◌, ◌<◌, ◌≤◌, Bool, true, false, cond, ◌&&◌, ◌==◌, max, nat_le, fold}
use Rattle.std.proofs.Common.{length, List, [], ◌∷◌, ◌++◌, All, map, Option, Some, Contains, bytes_eq, refl, sym, ap, subst, ◌∙◌}
use Rattle.std.proofs.Common.{arith, eqb-true}
use Rattle.std.proofs.lemmas.Bool.{false≢true, le-leb}
use Rattle.std.proofs.lemmas.List.Concat.{flat_map-cons}
use Rattle.std.proofs.lemmas.List.Elements.{All-head, All-tail}
use Rattle.std.proofs.lemmas.List.Sums.{fold-append}
use Rattle.std.proofs.lemmas.Slice.Eq.{bytes_eq-Decides}
use Rattle.std.specs.FinSet.{contains, from_list, insert, contains-from_list, contains-insert, contains-union}
use Rattle.std.specs.List.{filter, list_any, reduce}
use Rattle.std.specs.Ordering.{eq_by_cmp}
use Rattle.reg_alike.specs.reg_values.Value.{value_of}
use Rattle.reg_alike.specs.reg_records.WrittenValue.{written_value}
use Rattle.reg_alike.specs.reg_values.OfKey.{IsValueOf}
use Rattle.reg_alike.specs.reg_records.declared.key.Key.{Key}
use Rattle.reg_alike.specs.reg_records.declared.key.Key.TheVariants as keys
use Rattle.reg_alike.specs.reg_records.declared.limits.TheConstants.{OFFSET_LIMIT}
use Rattle.reg_alike.specs.reg_records.declared.record.Record.{Record}
use Rattle.reg_alike.specs.reg_records.declared.value.Value.{Value}
use Rattle.reg_alike.specs.reg_records.declared.value.Value.TheVariants as values
use Rattle.reg_alike.specs.GiveAlike.{CompactionsGiveAlike}
use Rattle.reg_alike.specs.reg_set.LastRecords.{last_records}
use Rattle.reg_alike.specs.reg_set.RecordOrder.{record_cmp}
use Rattle.reg_alike.specs.reg_set.Records.{Records}
use Rattle.reg_alike.specs.reg_entries.EntryOrder.{Place}
use Rattle.reg_alike.specs.reg_entries.Sought.{of_subject}
use Rattle.reg_alike.specs.reg_entries.declared.entry.Entry.{Entry}
use Rattle.reg_alike.specs.reg_fold.Entries.{EntriesAreOfKeys, EntriesAreOfPlaces, entries}
use Rattle.reg_alike.specs.reg_fold.Standing.{greatest_version}
use Rattle.reg_alike.specs.reg_leader.Deletes.{DeletesNameGreatest, IsSoftDelete}
use Rattle.reg_alike.specs.reg_records.Key.{is_delete}
use Rattle.reg_alike.specs.reg_leader.OneStep.{BatchesEndByTheLimit, BatchesGoOn, goes_on}
use Rattle.reg_topic.specs.Topic.{IsLawful, after_batch, after_compaction, after_item, after_items, follows}
use Rattle.reg_topic.specs.Topic.{may_compact, published_by, records_of_item, registry_of, whole_log}
use Rattle.reg_topic.specs.declared.published.Compaction.{Compaction}
use Rattle.reg_topic.specs.declared.published.Item.{Item}
use Rattle.reg_topic.specs.declared.published.Item.TheVariants as items
use Rattle.reg_topic.specs.declared.topic.Topic.{Topic}
use Rattle.reg_world.specs.Core.{LogIsLawful}
use Rattle.reg_world.specs.Eager.{EagerFoldingIsRight, after_key, after_records, standing_at}
use Rattle.reg_world.specs.State.{topic_of}
use Rattle.reg_world.proofs.EagerFolding.{Fits, all_records}
use Rattle.reg_world.proofs.EagerPlaces.{at_place, first_or_rest, found-some, head, tail}
use Rattle.reg_world.proofs.EagerSteps.{IsFit, seen, there_seen}
use Rattle.reg_world.proofs.Bools.{both_true, either}
use Rattle.reg_world.proofs.Tops.{LastLaws, equal}

-- what is known of the crates below, beside last records
pub record EagerLaws : Type 0 where
  pub last : LastLaws
  pub alike : CompactionsGiveAlike
  pub keyed : EntriesAreOfKeys
  pub stand : EntriesAreOfPlaces
  pub read : (offset : ℕ) (k : Key) (v : Value) → IsValueOf k v
      → value_of (record { offset = offset; key = k; value = written_value v }) ≡ Some v
  pub go_on : BatchesGoOn
  pub ends : BatchesEndByTheLimit
  pub deletes : DeletesNameGreatest

-- Lists.
filter_in : {A : Type 0} (p : A → Bool) (xs : List A) (x : A) → Contains xs x → p x ≡ true → Contains (filter p xs) x
filter_in p [] x (k, lt, is) e = absurd (omega arith)
filter_in p (y ∷ ys) x c e =
    elim (first_or_rest y ys x c) [
      | inl is ↦ subst (λ b. Contains (cond b (y ∷ filter p ys) (filter p ys)) x)
          (sym (ap p is ∙ e)) (subst (Contains (y ∷ filter p ys)) is (head y (filter p ys)))
      | inr rest ↦
          let found = filter_in p ys x rest e in
          elim (p y) as (λ b. Contains (cond b (y ∷ filter p ys) (filter p ys)) x) [ true ↦ tail y (filter p ys) x found | false ↦ found ]
    ]

map_in : {A B : Type 0} (f : A → B) (xs : List A) (x : A) → Contains xs x → Contains (map f xs) (f x)
map_in f [] x (k, lt, is) = absurd (omega arith)
map_in f (y ∷ ys) x c =
    elim (first_or_rest y ys x c) [
      | inl is ↦ subst (λ z. Contains (f y ∷ map f ys) (f z)) is (head (f y) (map f ys))
      | inr rest ↦ tail (f y) (map f ys) (f x) (map_in f ys x rest)
    ]

at_most_fold : (a : ℕ) (xs : List ℕ) → a ≤ fold max a xs
at_most_fold a [] = omega arith
at_most_fold a (y ∷ ys) = let h = at_most_fold (max a y) ys in omega (arith, h)

-- no element is above the greatest
at_most_max : (a : ℕ) (xs : List ℕ) (x : ℕ) → Contains (a ∷ xs) x → x ≤ fold max a xs
at_most_max a [] x c = elim (first_or_rest a [] x c) [ inl is ↦ omega (arith, is) | inr rest ↦ absurd (omega (arith, rest.1)) ]
at_most_max a (y ∷ ys) x c =
    elim (first_or_rest a (y ∷ ys) x c) [
      | inl is ↦ let h = at_most_fold (max a y) ys in omega (arith, h, is)
      | inr rest ↦ elim (first_or_rest y ys x rest) [
        | inl is ↦ let h = at_most_fold (max a y) ys in omega (arith, h, is)
        | inr more ↦ at_most_max (max a y) ys x (tail (max a y) ys x more)
      ]
    ]

at_most_greatest : (xs : List ℕ) (m x : ℕ) → reduce max xs ≡ Some m → Contains xs x → x ≤ m
at_most_greatest [] m x e c = cc
at_most_greatest (a ∷ xs) m x e c = let is : fold max a xs ≡ m = cc in subst (λ n. x ≤ n) is (at_most_max a xs x c)

after-append : (p : Place) (o : Option Entry) (xs ys : List Record)
    → after_records p o (xs ++ ys) ≡ after_records p (after_records p o xs) ys
after-append p o xs ys = fold-append (λ found r. after_key r.key p found r) o xs ys

-- all offsets are below that one
abbrev Below : Records → ℕ → Type 0
Below log n = (q : Record) → contains log q ≡ true → q.offset < n

fit_plain : (log : Records) (k : Key) (r : Record) → is_delete k ≡ false → IsFit log k r
fit_plain log (keys.Schema subject version) r e = tt
fit_plain log (keys.Config scope) r e = tt
fit_plain log (keys.Mode scope) r e = tt
fit_plain log (keys.DeleteSubject subject) r e = absurd (false≢true (sym e))
fit_plain log keys.Noop r e = tt
fit_plain log keys.IdMark r e = tt

module _ (l : EagerLaws) where
  below_more : (log : Records) (n : ℕ) (r : Record) → r.offset ≡ n → Below log n → Below (insert log r) (suc n)
  below_more log n r is below q in_new =
      elim (either (eq_by_cmp record_cmp q r) (contains log q) (sym (contains-insert l.last.order log r q) ∙ in_new)) [
        | inl same ↦ let at = ap (λ (x : Record). x.offset) (equal l.last q r same) ∙ is in omega (arith, at)
        | inr old ↦ let h = below q old in omega (arith, h)
      ]

  -- a batch without soft deletes of subjects
  fits_plain : (log : Records) (n : ℕ) (rs : List Record) → Below log n
      → goes_on n rs ≡ true → All (λ r. is_delete r.key ≡ false) rs → Fits log rs
  fits_plain log n [] below on all = tt
  fits_plain log n (r ∷ rs) below on all =
      let parts = both_true (r.offset == n) (goes_on (suc n) rs) on in
      let at : r.offset ≡ n = eqb-true r.offset n parts.0 in (
        (λ q h. subst (λ m. q.offset < m) (sym at) (below q h)),
        fit_plain log r.key r (All-head (λ r. is_delete r.key ≡ false) r rs all),
        fits_plain (insert log r) (suc n) rs (below_more log n r at below) parts.1 (All-tail (λ r. is_delete r.key ≡ false) r rs all),
      )

  -- an entry that stands is no greater than the greatest of its subject
  up_to_greatest : (log : Records) (subject : List ℕ) (greatest : ℕ) → greatest_version (last_records log) subject ≡ Some greatest
      → (p : Place) (e : Entry) → seen log p ≡ Some e → e.subject ≡ subject → e.version ≤ greatest
  up_to_greatest log subject greatest is p e stands own =
      let found =
      found-some p (entries (last_records log)) e (at_place l.last.greatest l.keyed l.stand log p ∙ there_seen l.last log p ∙ stands) in
      at_most_greatest (map (λ (e : Entry). e.version) (of_subject (entries (last_records log)) subject)) greatest e.version is
      (map_in (λ (e : Entry). e.version) (of_subject (entries (last_records log)) subject) e
      (filter_in (λ e. bytes_eq e.subject subject) (entries (last_records log)) e found.0 ((bytes_eq-Decides e.subject subject).1 own)))

  fits_delete : (log : Records) (n : ℕ) (batch : List Record) → Below log n → IsSoftDelete (last_records log) n batch → Fits log batch
  fits_delete log n batch below one =
      subst (Fits log) (sym one.one_record) (
        below,
        (
          one.greatest,
          l.read n (keys.DeleteSubject one.subject) (values.DeleteSubject one.subject one.greatest) (refl, one.greatest_fits),
          up_to_greatest log one.subject one.greatest one.is_greatest,
        ),
        tt,
      )

  fits : (log : Records) (n : ℕ) (batch : List Record) → Below log n → goes_on n batch ≡ true
      → All (λ r. is_delete r.key ≡ false) batch ⊎ IsSoftDelete (last_records log) n batch → Fits log batch
  fits log n batch below on (inl plain) = fits_plain log n batch below on plain
  fits log n batch below on (inr one) = fits_delete log n batch below one

  batch_below : (n : ℕ) (rs : List Record) (q : Record) → goes_on n rs ≡ true
      → list_any (eq_by_cmp record_cmp q) rs ≡ true → q.offset < n + length rs
  batch_below n [] q on any = absurd (false≢true any)
  batch_below n (r ∷ rs) q on any =
      let parts = both_true (r.offset == n) (goes_on (suc n) rs) on in
      elim (either (eq_by_cmp record_cmp q r) (list_any (eq_by_cmp record_cmp q) rs) any) [
        | inl same ↦ let at = ap (λ (x : Record). x.offset) (equal l.last q r same) ∙ eqb-true r.offset n parts.0 in omega (arith, at)
        | inr later ↦ let h = batch_below (suc n) rs q parts.1 later in omega (arith, h)
      ]

  below_batch : (t : Topic) (batch : List Record) → goes_on t.next batch ≡ true
      → Below t.log t.next → Below (after_batch true t batch).log (after_batch true t batch).next
  below_batch t batch on below q h =
      elim (
      either (contains t.log q) (contains (from_list {R = record_cmp} batch) q)
      (sym (contains-union l.last.order t.log (from_list batch) q) ∙ h)) [
        | inl old ↦ let k = below q old in omega (arith, k)
        | inr new ↦ batch_below t.next batch q on (sym (contains-from_list l.last.order batch q) ∙ new)
      ]

  -- a batch that isn't empty and goes on joins the log
  joins : (n : ℕ) (batch : List Record) → goes_on n batch ≡ true
      → (batch ≡ []) ⊎ (n + length batch ≤ suc OFFSET_LIMIT) → batch ≢ [] → follows n batch ≡ true
  joins n batch on (inl none) some = absurd (some none)
  joins n batch on (inr ends) some =
      ap (λ b. b && nat_le (n + length batch) (suc OFFSET_LIMIT)) on ∙ le-leb (n + length batch) (suc OFFSET_LIMIT) ends

  compaction_log : (t : Topic) (c : Compaction) (b : Bool)
      → ((after_compaction b t c).log ≡ t.log) × ((after_compaction b t c).next ≡ t.next)
  compaction_log t c true = (refl, refl)
  compaction_log t c false = (refl, refl)

  all_items : (t : Topic) (is : List Item) (p : Place) → IsLawful t is → Below t.log t.next
      → after_records p (seen t.log p) (published_by is) ≡ seen (after_items t is).log p
  all_items t [] p lawful below = refl
  all_items t (items.Commit commit ∷ is) p lawful below =
      let may = lawful.0 in
      let on = l.go_on (registry_of t) t.next commit.command may.reply commit.batch may.step in
      let joined : follows t.next commit.batch ≡ true =
      joins t.next commit.batch on (l.ends (registry_of t) t.next commit.command may.reply commit.batch may.step) may.writes in
      let after : after_item t (items.Commit commit) ≡ after_batch true t commit.batch = ap (λ b. after_batch b t commit.batch) joined in
      let f = fits t.log t.next commit.batch below on (l.deletes (registry_of t) t.next commit.command may.reply commit.batch may.step) in
      ap (after_records p (seen t.log p)) (flat_map-cons records_of_item (items.Commit commit) is)
      ∙ after-append p (seen t.log p) commit.batch (published_by is)
      ∙ ap (λ o. after_records p o (published_by is))
      (all_records l.last t.log commit.batch p f ∙ ap (λ (u : Topic). seen u.log p) (sym after))
      ∙ all_items (after_item t (items.Commit commit)) is p lawful.1
      (subst (λ (u : Topic). Below u.log u.next) (sym after) (below_batch t commit.batch on below))
  all_items t (items.Compaction c ∷ is) p lawful below =
      let same = compaction_log t c (may_compact t c) in
      ap (after_records p (seen t.log p)) (flat_map-cons records_of_item (items.Compaction c) is)
      ∙ ap (λ log. after_records p (seen log p) (published_by is)) (sym same.0)
      ∙ all_items (after_item t (items.Compaction c)) is p lawful.1
      (λ q h. subst (λ n. q.offset < n) (sym same.1) (below q (ap (λ log. contains log q) (sym same.0) ∙ h)))

  -- the entry at a place, by the entries and by the last records
  by_seen : (log : Records) (p : Place) → standing_at p (entries (last_records log)) ≡ seen log p
  by_seen log p = at_place l.last.greatest l.keyed l.stand log p ∙ there_seen l.last log p

  pub eager_folding : LogIsLawful → EagerFoldingIsRight
  eager_folding lawful es w a p part compaction =
      let h = lawful es w a in
      ap (λ o. after_records p o (published_by w.items)) (by_seen w.base.log p)
      ∙ all_items w.base w.items p h.1 h.0.ahead
      ∙ sym (by_seen (topic_of w).log p)
      ∙ ap (standing_at p) (sym (l.alike part (whole_log (topic_of w)) compaction).entries_alike)
