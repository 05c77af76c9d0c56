-- Maps of entries by place, as the body folds them.
use Rattle.std.proofs.Common.{◌≡◌, ◌<◌, ◌≤◌, ◌+◌, ◌↔◌, ◌&&◌, inl, inr, ℕ, Bool, true, false, cond, ◌||◌, nat_le, bytes_eq, length, get_or}
use Rattle.std.proofs.Common.{take, drop, List, [], ◌∷◌, ◌++◌, map, Option, Some, None, Contains, option_and_then, refl, sym, ap, subst}
use Rattle.std.proofs.Common.{◌∙◌, find, arith}
use Rattle.std.proofs.lemmas.List.{take_all, take_more, take-append-drop}
use Rattle.std.proofs.lemmas.List.Concat.{flat_map-cons}
use Rattle.std.proofs.lemmas.List.Elements.{Contains-append_left, Contains-get_or}
use Rattle.std.proofs.lemmas.List.Folds.{find-append}
use Rattle.std.proofs.lemmas.List.Sums.{fold-append}
use Rattle.std.specs.FinMap as finmap
use Rattle.std.specs.FinMap.Entries.{put, by_order}
use Rattle.std.specs.List.{AllByRecursion, filter_map, flat_map, fold}
use Rattle.std.specs.Option.{option_or, unwrap_or}
use Rattle.std.specs.Ordering.{eq_by_cmp}
use Rattle.std.specs.declared.cmp.Ordering.TheVariants.{Less, Equal, Greater}
use Rattle.reg_alike.specs.reg_values.Value.{value_of}
use Rattle.reg_alike.specs.reg_values.OfKey.{ValuesAreOfKeys}
use Rattle.reg_alike.specs.reg_records.declared.key.Key.TheVariants as keys
use Rattle.reg_alike.specs.reg_records.declared.record.Record.{Record}
use Rattle.reg_alike.specs.reg_records.declared.value.Value.{Value}
use Rattle.reg_alike.specs.reg_records.declared.value.Value.TheVariants as values
use Rattle.reg_alike.specs.reg_set.LastRecords.{last, last_records}
use Rattle.reg_alike.specs.reg_set.Records.{Records, records_of}
use Rattle.reg_alike.specs.reg_entries.EntryOrder.{Place, place_cmp, place_of}
use Rattle.reg_alike.specs.reg_entries.Flagged.{with_soft}
use Rattle.reg_alike.specs.reg_entries.declared.entry.Entry.{Entry}
use Rattle.reg_alike.specs.reg_fold.Entries.{EntriesAreOfPlaces, entries, entry_map, entry_of, own_entry_in}
use Rattle.reg_topic.specs.Topic.{records_of_item}
use Rattle.reg_topic.specs.declared.published.Item.{Item}
use Rattle.reg_topic.specs.declared.topic.Topic.{Topic}
use Rattle.reg_world.specs.Eager.{after_key, after_records, eager_after, flagged_with, put_by, standing_at}
use Rattle.reg_world.proofs.EagerPlaces.{found-none, found-some, place_cmp-ties, place_cmp-total, same_place}

abbrev Standing : Type 0
Standing = finmap.FinMap place_cmp Entry

-- no two of the entries have one place
abbrev pub AreAlone : List Entry → Type 0
AreAlone es = (e f : Entry) → Contains es e → Contains es f → place_of e ≡ place_of f → e ≡ f

inside : {A : Type 0} (a b : A) → Some a ≡ Some b → a ≡ b
inside a b same = cc

-- the entries of a set are alone
pub are_alone : EntriesAreOfPlaces → (log : Records) → AreAlone (entries (last_records log))
are_alone stand log e f in_e in_f same =
    let a = (stand log e).0 in_e in
    let b = (stand log f).0 in_f in
    let one : a.0 ≡ b.0 = inside a.0 b.0 (sym a.1 ∙ ap (λ (p : Place). last log (keys.Schema p.0 p.1)) same ∙ b.1) in
    inside e f (sym a.2 ∙ ap (entry_of (last_records log)) one ∙ b.2)

-- an entry is in a list exactly where it is found at its place
pub is_found : (es : List Entry) → AreAlone es → (e : Entry) → Contains es e ↔ (standing_at (place_of e) es ≡ Some e)
is_found es alone e = (
  λ c. elim (standing_at (place_of e) es) as (λ o. standing_at (place_of e) es ≡ o → o ≡ Some e) [
    | None ↦ λ none. absurd (found-none (place_of e) es none e c refl)
    | Some f ↦ λ some. let g = found-some (place_of e) es f some in ap Some (alone f e g.0 c g.1)
  ] refl,
  λ some. (found-some (place_of e) es e some).0,
)

-- One more of some items.
after-append : (p : Place) (o : Option Entry) (xs ys : List Record)
    → after_records p o (xs ++ ys) ≡ after_records p (after_records p o xs) ys
after-append p o xs ys = fold-append (λ found r. after_key r.key p found r) o xs ys

flat-append : (xs ys : List Item) → flat_map records_of_item (xs ++ ys) ≡ flat_map records_of_item xs ++ flat_map records_of_item ys
flat-append [] ys = refl
flat-append (x ∷ xs) ys =
    flat_map-cons records_of_item x (xs ++ ys) ∙ ap (λ rs. records_of_item x ++ rs) (flat-append xs ys)
    ∙ sym (
    ap (λ rs. rs ++ flat_map records_of_item ys) (flat_map-cons records_of_item x xs)
    ∙ assoc (records_of_item x) (flat_map records_of_item xs) (flat_map records_of_item ys))
  where
    assoc : (a b c : List Record) → (a ++ b) ++ c ≡ a ++ (b ++ c)
    assoc [] b c = refl
    assoc (r ∷ a) b c = ap (λ rs. r ∷ rs) (assoc a b c)

flat-one : (i : Item) → flat_map records_of_item (i ∷ []) ≡ records_of_item i
flat-one i = flat_map-cons records_of_item i [] ∙ nil (records_of_item i)
  where
    nil : (rs : List Record) → rs ++ [] ≡ rs
    nil [] = refl
    nil (r ∷ rs) = ap (λ qs. r ∷ qs) (nil rs)

pub items_more : (base : Topic) (is : List Item) (i : ℕ) (item : Item) (before after : Standing) → i < length is
    → item ≡ get_or is i item → ((p : Place) → finmap.get before p ≡ eager_after base (take i is) p)
    → ((p : Place) → finmap.get after p ≡ after_records p (finmap.get before p) (records_of_item item))
    → (p : Place) → finmap.get after p ≡ eager_after base (take (i + 1) is) p
items_more base is i item before after within at had next p =
    let start = standing_at p (entries (last_records base.log)) in
    next p ∙ ap (λ o. after_records p o (records_of_item item)) (had p)
    ∙ sym (after-append p start (flat_map records_of_item (take i is)) (records_of_item item))
    ∙ ap (after_records p start) (sym (
    ap (flat_map records_of_item) (take_more is i item within ∙ ap (λ x. take i is ++ x ∷ []) (sym at))
    ∙ flat-append (take i is) (item ∷ []) ∙ ap (λ rs. flat_map records_of_item (take i is) ++ rs) (flat-one item)))

pub items_all : (base : Topic) (is : List Item) (i : ℕ) (standing : Standing) → length is ≤ i
    → ((p : Place) → finmap.get standing p ≡ eager_after base (take i is) p) → (p : Place) → finmap.get standing p ≡ eager_after base is p
items_all base is i standing past had p = had p ∙ ap (λ js. eager_after base js p) (take_all i is past)

pub records_more : (start before after : Standing) (rs : List Record) (i : ℕ) (r : Record) → i < length rs
    → r ≡ get_or rs i r → ((p : Place) → finmap.get before p ≡ after_records p (finmap.get start p) (take i rs))
    → ((p : Place) → finmap.get after p ≡ after_key r.key p (finmap.get before p) r)
    → (p : Place) → finmap.get after p ≡ after_records p (finmap.get start p) (take (i + 1) rs)
records_more start before after rs i r within at had next p =
    next p ∙ ap (λ o. after_key r.key p o r) (had p)
    ∙ sym (after-append p (finmap.get start p) (take i rs) (r ∷ []))
    ∙ ap (after_records p (finmap.get start p)) (sym (take_more rs i r within ∙ ap (λ x. take i rs ++ x ∷ []) (sym at)))

pub records_all : (start standing : Standing) (rs : List Record) (i : ℕ) → length rs ≤ i
    → ((p : Place) → finmap.get standing p ≡ after_records p (finmap.get start p) (take i rs))
    → (p : Place) → finmap.get standing p ≡ after_records p (finmap.get start p) rs
records_all start standing rs i past had p = had p ∙ ap (after_records p (finmap.get start p)) (take_all i rs past)

-- an element of a beginning is one of the whole
in_take : {A : Type 0} (i : ℕ) (xs : List A) (x : A) → Contains (take i xs) x → Contains xs x
in_take i xs x c = subst (λ l. Contains l x) (take-append-drop i xs) (Contains-append_left (take i xs) (drop i xs) x c)

-- one entry more, alone at its place
pub entry_more : (before : Standing) (es : List Entry) (i : ℕ) (e : Entry) → AreAlone es → i < length es
    → e ≡ get_or es i e → ((p : Place) → finmap.get before p ≡ standing_at p (take i es))
    → (p : Place) → finmap.get (finmap.insert before (place_of e) e) p ≡ standing_at p (take (i + 1) es)
entry_more before es i e alone within at had p =
    finmap.get-insert place_cmp-total before (place_of e) e p
    ∙ ap (cond (eq_by_cmp place_cmp p (place_of e)) (Some e)) (had p)
    ∙ chosen (eq_by_cmp place_cmp p (place_of e)) refl
    ∙ sym (
    ap (standing_at p) (take_more es i e within ∙ ap (λ x. take i es ++ x ∷ []) (sym at))
    ∙ find-append (λ f. eq_by_cmp place_cmp p (place_of f)) (take i es) (e ∷ []))
  where
    here : Contains es e
    here = subst (Contains es) (sym at) (Contains-get_or es i e within)

    or_none : (o : Option Entry) → o ≡ option_or o None
    or_none None = refl
    or_none (Some f) = refl

    chosen : (b : Bool) → eq_by_cmp place_cmp p (place_of e) ≡ b
        → cond b (Some e) (standing_at p (take i es)) ≡ option_or (standing_at p (take i es)) (cond b (Some e) None)
    chosen true is = elim (standing_at p (take i es)) as (λ o. standing_at p (take i es) ≡ o → Some e ≡ option_or o (Some e)) [
      | None ↦ λ _. refl
      | Some f ↦ λ some.
          let g = found-some p (take i es) f some in
          ap Some (alone e f here (in_take i es f g.0) (sym (same_place p (place_of e) is) ∙ sym g.1))
    ] refl
    chosen false is = or_none (standing_at p (take i es))

-- Each entry of a map of a set's entries is at its own place.
abbrev placed : Standing → Entry → Standing
placed m e = finmap.insert m (place_of e) e

abbrev ArePlaced : List (Place × Entry) → Type 0
ArePlaced = AllByRecursion (λ kept. kept.0 ≡ place_of kept.1)

put-each : (e : Entry) (es : List (Place × Entry)) → ArePlaced es → ArePlaced (put place_cmp (place_of e) e es)
put-each e [] all = (refl, tt)
put-each e (f ∷ fs) all =
    elim (place_cmp (place_of e) f.0) as (λ o. place_cmp (place_of e) f.0 ≡ o
    → ArePlaced (by_order o ((place_of e, e) ∷ f ∷ fs) ((f.0, e) ∷ fs) (f ∷ put place_cmp (place_of e) e fs))) [
      | Less ↦ λ _. (refl, all)
      | Equal ↦ λ tie. (sym (place_cmp-ties (place_of e) f.0 tie), all.1)
      | Greater ↦ λ _. (all.0, put-each e fs all.1)
    ] refl

fold-each : (es : List Entry) (m : Standing) → ArePlaced (finmap.entries m) → ArePlaced (finmap.entries (fold placed m es))
fold-each [] m all = all
fold-each (e ∷ es) m all =
    fold-each es (placed m e)
    (subst ArePlaced (sym (finmap.entries-insert place_cmp-total m (place_of e) e)) (put-each e (finmap.entries m) all))

no_length : {A : Type 0} (es : List A) → length es ≡ 0 → es ≡ []
no_length [] e = refl
no_length (x ∷ es) e = absurd (omega arith)

entries-empty : finmap.entries (finmap.empty {K = Place} {X = Entry} {R = place_cmp}) ≡ []
entries-empty = no_length _ (sym (finmap.len-entries finmap.empty) ∙ finmap.len-empty place_cmp Entry)

entry_map-placed : (rs : Records) → ArePlaced (finmap.entries (entry_map rs))
unfolding entry_map
entry_map-placed rs = fold-each (filter_map (entry_of rs) (records_of rs)) finmap.empty (subst ArePlaced (sym entries-empty) tt)

-- what is found among the values of such a map is what it has at the place
found-values : (es : List (Place × Entry)) → ArePlaced es → (p : Place) → standing_at p (map (λ e. e.1) es) ≡ finmap.find place_cmp p es
found-values [] all p = refl
found-values (e ∷ es) all p =
    ap (λ q. cond (eq_by_cmp place_cmp p q) (Some e.1) (standing_at p (map (λ e. e.1) es))) (sym all.0)
    ∙ ap (cond (eq_by_cmp place_cmp p e.0) (Some e.1)) (found-values es all.1 p)

-- a map that has at each place the entry of a set has the entries of the set
pub same_entries : (m : Standing) (rs : Records)
    → ((p : Place) → finmap.get m p ≡ standing_at p (entries rs)) → finmap.values m ≡ entries rs
unfolding entries
same_entries m rs is = ap finmap.values (finmap.same_map place_cmp-total place_cmp-ties m (entry_map rs) (λ p.
    is p ∙ found-values (finmap.entries (entry_map rs)) (entry_map-placed rs) p ∙ sym (finmap.get-entries (entry_map rs) p)))

-- A version's record puts its entry at the place of its key.
place-put : ValuesAreOfKeys → (r : Record) (e : Entry) → put_by r ≡ Some e → r.key ≡ keys.Schema e.subject e.version
place-put of_keys r e is =
    elim (value_of r) as (λ o.
    value_of r ≡ o → option_and_then (own_entry_in r.offset) o ≡ Some e → r.key ≡ keys.Schema e.subject e.version) [
      | None ↦ λ _ h. absurd (cc)
      | Some v ↦ λ has h. of_value v has h
    ] refl is
  where
    of_value : (v : Value) → value_of r ≡ Some v → own_entry_in r.offset v ≡ Some e → r.key ≡ keys.Schema e.subject e.version
    of_value (values.Schema subject version id schema deleted) has h =
        elim (of_keys r (values.Schema subject version id schema deleted) has) [
          | inl of ↦ of.0 ∙ ap (λ o. keys.Schema (unwrap_or o e).subject (unwrap_or o e).version) h
          | inr noop ↦ let f : values.Schema subject version id schema deleted ≡ values.Noop = noop.1 in absurd (cc)
        ]
    of_value (values.Config level) has h = absurd (cc)
    of_value (values.Mode mode) has h = absurd (cc)
    of_value (values.DeleteSubject subject version) has h = absurd (cc)
    of_value values.Noop has h = absurd (cc)
    of_value (values.IdMark id) has h = absurd (cc)

pub version_put : ValuesAreOfKeys → (m : Standing) (r : Record) (subject : List ℕ) (version : ℕ) (e : Entry)
    → r.key ≡ keys.Schema subject version → put_by r ≡ Some e
    → (p : Place) → finmap.get (finmap.insert m (place_of e) e) p ≡ after_key (keys.Schema subject version) p (finmap.get m p) r
version_put of_keys m r subject version e key is p =
    let k : keys.Schema e.subject e.version ≡ keys.Schema subject version = sym (place-put of_keys r e is) ∙ key in
    let s : e.subject ≡ subject = cc in
    let v : e.version ≡ version = cc in
    finmap.get-insert place_cmp-total m (place_of e) e p
    ∙ ap (λ (q : Place). cond (eq_by_cmp place_cmp p q) (Some e) (finmap.get m p)) (λ i. (s i, v i))
    ∙ ap (λ o. cond (eq_by_cmp place_cmp p (subject, version)) o (finmap.get m p)) (sym is)

pub version_gone : (m : Standing) (r : Record) (subject : List ℕ) (version : ℕ) → put_by r ≡ None → (p : Place)
    → finmap.get (finmap.remove m (subject, version)) p ≡ after_key (keys.Schema subject version) p (finmap.get m p) r
version_gone m r subject version is p =
    finmap.get-remove place_cmp-total m (subject, version) p
    ∙ ap (λ o. cond (eq_by_cmp place_cmp p (subject, version)) o (finmap.get m p)) (sym is)

-- The flags of a soft delete.
pub flagged_up_to : (subject : List ℕ) (greatest : ℕ) (e : Entry)
    → cond (bytes_eq e.subject subject) (with_soft (e.soft || nat_le e.version greatest) e) e
    ≡ flagged_with (values.DeleteSubject subject greatest) e
flagged_up_to subject greatest e = by_subject (bytes_eq e.subject subject)
  where
    by_version : (b s : Bool) → s ≡ e.soft → with_soft (s || b) e ≡ cond b (with_soft true e) e
    by_version true true is = refl
    by_version true false is = refl
    by_version false true is = ap (λ s. with_soft s e) is
    by_version false false is = ap (λ s. with_soft s e) is

    by_subject : (b : Bool)
        → cond b (with_soft (e.soft || nat_le e.version greatest) e) e ≡ cond (b && nat_le e.version greatest) (with_soft true e) e
    by_subject true = by_version (nat_le e.version greatest) e.soft refl
    by_subject false = refl
