-- What is sought among the entries of last records.
use Rattle.std.proofs.Common.{◌≡◌, ◌⊎◌, inl, inr, ⊎_elim, ℕ, zero, suc, ◌≤◌, max, Bool, true, false, cond, not, nat_le, ◌==◌, ◌&&◌, ◌||◌}
use Rattle.std.proofs.Common.{List, [], ◌∷◌, map, fold, find, bytes_eq, Option, Some, None, is_some, option_map}
use Rattle.std.proofs.Common.{All, Contains, refl, sym, ap, subst, ◌∙◌, arith, eq-eqb, eqb-true}
use Rattle.std.proofs.lemmas.Bool.{false≢true}
use Rattle.std.proofs.lemmas.List.Elements.{All-nil, All-cons, All-head, All-tail, All-contains, All-contains_itself, All-filter, All-map, All-weaker, filter_passes}
use Rattle.std.proofs.lemmas.Slice.Eq.{bytes_eq-Decides}
use Rattle.std.specs.List.{filter, list_any, reduce}
use Rattle.std.specs.Option.{option_map_or}
use Rattle.std.specs.Ordering.{is_lt, nat_cmp, on, ord_max}
use Rattle.std.specs.declared.cmp.Ordering.{Ordering}
use Rattle.reg_leader.specs.reg_entries.Sought as sought
use Rattle.reg_leader.specs.reg_entries.declared.entry.Entry.{Entry}
use Rattle.reg_leader.specs.reg_fold.Entries.{EntriesAreInLimits, EntriesAreOfPlaces, entries}
use Rattle.reg_leader.specs.reg_fold.Standing.{greatest_version, version_in}
use Rattle.reg_leader.specs.reg_fold.declared.version_ref.VersionRef.{VersionRef}
use Rattle.reg_leader.specs.reg_fold.declared.version_ref.VersionRef.TheVariants.{Latest, Number}
use Rattle.reg_leader.specs.reg_modes.Permitted.{granted}
use Rattle.reg_leader.specs.reg_records.Written.{IsVersionOrId}
use Rattle.reg_leader.specs.reg_refusals.declared.refusal.Refusal.{Refusal}
use Rattle.reg_leader.specs.reg_rules.Tests.{refuse_if}
use Rattle.reg_leader.specs.reg_rules.Standing.{next_version, standing, version_meant}
use Rattle.reg_leader.specs.reg_set.LastRecords.{last_records}
use Rattle.reg_leader.specs.reg_set.Records.{Records}

inside : {X : Type 0} (a b : X) → Some a ≡ Some b → a ≡ b
inside a b same = cc

-- an element of a list is its first or one of the others
at_front : {X : Type 0} (x : X) (xs : List X) (e : X) → Contains (x ∷ xs) e → (x ≡ e) ⊎ Contains xs e
at_front x xs e (zero, within, at) = inl at
at_front x xs e (suc k, within, at) = inr (k, omega arith, at)

behind : {X : Type 0} (x : X) (xs : List X) (e : X) → Contains xs e → Contains (x ∷ xs) e
behind x xs e (k, within, at) = (suc k, omega arith, at)

none_in : {X : Type 0} (e : X) → Contains [] e → ⊥
none_in e (k, within, at) = absurd (omega (arith, within))

module _ {X : Type 0} (p : X → Bool) (e : X) (passes : p e ≡ true) where
  -- an element that passes is left
  pub contains_filter : (xs : List X) → Contains xs e → Contains (filter p xs) e
  contains_filter [] at = absurd (none_in e at)
  contains_filter (x ∷ xs) at =
      elim (p x) as (λ b. p x ≡ b → Contains (cond b (x ∷ filter p xs) (filter p xs)) e) [
        | true ↦ λ _. elim (at_front x xs e at) [
          | inl same ↦ (0, omega arith, same)
          | inr rest ↦ behind x (filter p xs) e (contains_filter xs rest)
        ]
        | false ↦ λ is. elim (at_front x xs e at) [
          | inl same ↦ absurd (false≢true (sym is ∙ ap p same ∙ passes))
          | inr rest ↦ contains_filter xs rest
        ]
      ] refl

  -- the only element that passes is found
  pub find_is : (xs : List X) → Contains xs e → All (λ x. p x ≡ true → x ≡ e) xs → find p xs ≡ Some e
  find_is [] at only = absurd (none_in e at)
  find_is (x ∷ xs) at only =
      elim (p x) as (λ b. p x ≡ b → cond b (Some x) (find p xs) ≡ Some e) [
        | true ↦ λ is. ap Some (All-head (λ x. p x ≡ true → x ≡ e) x xs only is)
        | false ↦ λ is. elim (at_front x xs e at) [
          | inl same ↦ absurd (false≢true (sym is ∙ ap p same ∙ passes))
          | inr rest ↦ find_is xs rest (All-tail (λ x. p x ≡ true → x ≡ e) x xs only)
        ]
      ] refl

module _ {X : Type 0} (p : X → Bool) where
  -- where none passes, none is found
  pub find_none : (xs : List X) → All (λ x. p x ≡ false) xs → find p xs ≡ None
  find_none [] all = refl
  find_none (x ∷ xs) all =
      ap (λ b. cond b (Some x) (find p xs)) (All-head (λ x. p x ≡ false) x xs all)
      ∙ find_none xs (All-tail (λ x. p x ≡ false) x xs all)

  pub find_passes : (xs : List X) (x : X) → find p xs ≡ Some x → p x ≡ true
  find_passes [] x is = absurd (cc)
  find_passes (y ∷ ys) x is =
      elim (p y) as (λ b. p y ≡ b → cond b (Some y) (find p ys) ≡ Some x → p x ≡ true) [
        | true ↦ λ passes same. subst (λ z. p z ≡ true) (inside y x same) passes
        | false ↦ λ _ rest. find_passes ys x rest
      ] refl is

  pub any_none : (xs : List X) → list_any p xs ≡ false → All (λ x. p x ≡ false) xs
  any_none [] none = All-nil (λ x. p x ≡ false)
  any_none (x ∷ xs) none =
      elim (p x) as (λ b. p x ≡ b → (b || list_any p xs) ≡ false → All (λ x. p x ≡ false) (x ∷ xs)) [
        | true ↦ λ _ e. absurd (false≢true (sym e))
        | false ↦ λ is e. All-cons (λ x. p x ≡ false) x xs is (any_none xs e)
      ] refl none

  -- a test that all pass leaves all
  pub filter_all : (xs : List X) → ((x : X) → p x ≡ true) → filter p xs ≡ xs
  filter_all [] all = refl
  filter_all (x ∷ xs) all = ap (λ b. cond b (x ∷ filter p xs) (filter p xs)) (all x) ∙ ap (λ ys. x ∷ ys) (filter_all xs all)

-- what all elements have, one that is chosen among them has
module _ {X : Type 0} (P : X → Type 0) where
  find_has : (p : X → Bool) (xs : List X) (x : X) → All P xs → find p xs ≡ Some x → P x
  find_has p [] x all is = absurd (cc)
  find_has p (y ∷ ys) x all is =
      elim (p y) as (λ b. cond b (Some y) (find p ys) ≡ Some x → P x) [
        | true ↦ λ same. subst P (inside y x same) (All-head P y ys all)
        | false ↦ λ rest. find_has p ys x (All-tail P y ys all) rest
      ] is

  module _ (f : X → X → X) (picks : (a b : X) → (f a b ≡ a) ⊎ (f a b ≡ b)) where
    fold_has : (x : X) (xs : List X) → P x → All P xs → P (fold f x xs)
    fold_has x [] p all = p
    fold_has x (y ∷ ys) p all =
        fold_has (f x y) ys (⊎_elim (λ e. subst P (sym e) p) (λ e. subst P (sym e) (All-head P y ys all)) (picks x y)) (All-tail P y ys all)

    reduce_has : (xs : List X) (x : X) → All P xs → reduce f xs ≡ Some x → P x
    reduce_has [] x all is = absurd (cc)
    reduce_has (y ∷ ys) x all is = subst P (inside _ x is) (fold_has y ys (All-head P y ys all) (All-tail P y ys all))

ord_max-picks : {X : Type 0} (cmp : X → X → Ordering) (a b : X) → (ord_max cmp a b ≡ a) ⊎ (ord_max cmp a b ≡ b)
ord_max-picks cmp a b = elim (is_lt (cmp b a)) as (λ c. (cond c a b ≡ a) ⊎ (cond c a b ≡ b)) [ true ↦ inl refl | false ↦ inr refl ]

max-picks : (a b : ℕ) → (max a b ≡ a) ⊎ (max a b ≡ b)
max-picks a b =
    elim (nat_le a b)
    as (λ c. nat_le a b ≡ c → (max a b ≡ a) ⊎ (max a b ≡ b)) [ true ↦ λ e. inr (grind arith) | false ↦ λ e. inl (grind arith) ] refl

-- no number is above the greatest
at_most_fold : (a : ℕ) (xs : List ℕ) → a ≤ fold max a xs
at_most_fold a [] = omega arith
at_most_fold a (y ∷ ys) = let h = at_most_fold (max a y) ys in omega (arith, h)

up_to_fold : {Y : Type 0} (f : Y → ℕ) (a : ℕ) (ys : List Y) → All (λ y. f y ≤ fold max a (map f ys)) ys
up_to_fold f a [] = All-nil (λ y. f y ≤ a)
up_to_fold f a (y ∷ ys) =
    let h = at_most_fold (max a (f y)) (map f ys) in
    All-cons (λ x. f x ≤ fold max (max a (f y)) (map f ys)) y ys (omega (arith, h)) (up_to_fold f (max a (f y)) ys)

up_to_greatest : {Y : Type 0} (f : Y → ℕ) (ys : List Y) (m : ℕ) → reduce max (map f ys) ≡ Some m → All (λ y. f y ≤ m) ys
up_to_greatest f [] m is = All-nil (λ y. f y ≤ m)
up_to_greatest f (y ∷ ys) m is =
    subst (λ n. All (λ x. f x ≤ n) (y ∷ ys)) (inside _ m is)
    (All-cons (λ x. f x ≤ fold max (f y) (map f ys)) y ys (at_most_fold (f y) (map f ys)) (up_to_fold f (f y) ys))

none_greatest : {Y : Type 0} (f : Y → ℕ) (ys : List Y) → reduce max (map f ys) ≡ None → All (λ _. ⊥) ys
none_greatest f [] none = All-nil (λ _. ⊥)
none_greatest f (y ∷ ys) none = absurd (cc)

same_texts : (a b : List ℕ) → bytes_eq a b ≡ true → a ≡ b
same_texts a b same = (bytes_eq-Decides a b).0 same

module _ (places : EntriesAreOfPlaces) (whole : Records) where
  abbrev pub rs : Records
  rs = last_records whole

  -- entries of one place are one entry
  pub one_entry : (e f : Entry) → Contains (entries rs) e → Contains (entries rs) f → e.subject ≡ f.subject → e.version ≡ f.version → e ≡ f
  one_entry e f of_e of_f subject version =
      let one = (places whole e).0 of_e in
      let two = (places whole f).0 of_f in
      cc (one.1, one.2, two.1, two.2)

  module _ (subject : List ℕ) where
    -- the entry is one of the subject's
    pub record Is (e : Entry) : Type 0 where
      pub stands : Contains (entries rs) e
      pub of_subject : e.subject ≡ subject

    all_are : (deleted : Bool) → All Is (sought.counting (entries rs) subject deleted)
    all_are deleted =
        All-filter (sought.counts deleted) Is (sought.of_subject (entries rs) subject) (λ k d within.
        record {
          stands = All-filter (λ e. bytes_eq e.subject subject) (Contains (entries rs)) (entries rs) (All-contains_itself (entries rs)) k d within;
          of_subject = same_texts _ subject (filter_passes (λ e. bytes_eq e.subject subject) (entries rs) k d within);
        })

    pub meant_is : (ref : VersionRef) (e : Entry) → version_meant rs subject ref ≡ Some e → Is e
    meant_is Latest e is =
        reduce_has Is (ord_max (on (λ e. e.version) nat_cmp)) (ord_max-picks (on (λ e. e.version) nat_cmp))
        (sought.counting (entries rs) subject false) e (all_are false) is
    meant_is (Number version) e is =
        find_has Is (λ e. e.version == version) (sought.counting (entries rs) subject true) e (all_are true) is

    -- an entry of the subject is among those of the subject, soft ones too
    is_standing : (e : Entry) → Is e → Contains (standing rs subject) e
    is_standing e is =
        contains_filter (sought.counts true) e refl (sought.of_subject (entries rs) subject)
        (contains_filter (λ e. bytes_eq e.subject subject) e ((bytes_eq-Decides e.subject subject).1 is.of_subject) (entries rs) is.stands)

    -- an entry of the subject is the one that its version names
    pub named_by_version : (e : Entry) → Is e → version_meant rs subject (Number e.version) ≡ Some e
    named_by_version e is =
        find_is (λ x. x.version == e.version) e (eq-eqb e.version e.version refl) (standing rs subject) (is_standing e is) (λ k d within same.
        let x = all_are true k d within in
        one_entry _ e x.stands is.stands (x.of_subject ∙ sym is.of_subject) (eqb-true _ e.version same))

    -- the next version is no entry's
    pub next_is_new : (deleted : Bool) → version_in (entries rs) subject (Number (next_version rs subject)) deleted ≡ None
    next_is_new deleted = find_none (λ e. e.version == next_version rs subject) (sought.counting (entries rs) subject deleted)
        (All-filter (sought.counts deleted) (λ e. (e.version == next_version rs subject) ≡ false) (sought.of_subject (entries rs) subject) below)
      where
        below : All (λ e. (e.version == next_version rs subject) ≡ false) (sought.of_subject (entries rs) subject)
        below = elim (greatest_version rs subject)
            as (λ g. greatest_version rs subject ≡ g → All (λ e. (e.version == option_map_or suc g 1) ≡ false) (sought.of_subject (entries rs) subject)) [
              | None ↦ λ is. All-weaker (λ _. ⊥) (λ e. (e.version == 1) ≡ false) (λ e no. absurd no) (sought.of_subject (entries rs) subject)
                  (none_greatest (λ (e : Entry). e.version) (sought.of_subject (entries rs) subject) is)
              | Some m ↦ λ is. All-weaker (λ e. e.version ≤ m) (λ e. (e.version == suc m) ≡ false) (λ e low. grind (arith, low))
                  (sought.of_subject (entries rs) subject)
                  (up_to_greatest (λ (e : Entry). e.version) (sought.of_subject (entries rs) subject) m is)
            ] refl

    -- a subject that has a greatest version has an entry
    pub some_stand : (m : ℕ) → greatest_version rs subject ≡ Some m → standing rs subject ≡ [] → ⊥
    some_stand m is none =
        let all = filter_all (sought.counts true) (sought.of_subject (entries rs) subject) (λ e. refl) in
        let empty : sought.of_subject (entries rs) subject ≡ [] = sym all ∙ none in
        let no : None ≡ Some m = sym (ap (λ es. reduce max (map {A = Entry} (λ e. e.version) es)) empty) ∙ is in
        cc

    -- those that stand are the subject's
    pub first_is : (e : Entry) (es : List Entry) → standing rs subject ≡ e ∷ es → Is e
    first_is e es is = All-head Is e es (subst (All Is) is (all_are true))

    -- where none is live, an entry of the subject is soft
    pub is_soft : (e : Entry) → Is e → sought.has_live (entries rs) (Some subject) ≡ false → e.soft ≡ true
    is_soft e is none =
        let not_live = All-contains (λ e. (sought.is_in_scope (Some subject) e && not e.soft) ≡ false) (entries rs) e
        (any_none (λ e. sought.is_in_scope (Some subject) e && not e.soft) (entries rs) none) is.stands in
        soft e.soft (subst (λ b. (b && not e.soft) ≡ false) ((bytes_eq-Decides e.subject subject).1 is.of_subject) not_live)
      where
        soft : (b : Bool) → (not b) ≡ false → b ≡ true
        soft true e = refl
        soft false e = absurd (false≢true (sym e))

    -- the greatest version is within the limits of versions
    pub greatest_fits : EntriesAreInLimits → (m : ℕ) → greatest_version rs subject ≡ Some m → IsVersionOrId m
    greatest_fits limits m is =
        reduce_has IsVersionOrId max max-picks (map (λ e. e.version) (sought.of_subject (entries rs) subject)) m
        (All-map IsVersionOrId (λ (e : Entry). e.version) (sought.of_subject (entries rs) subject)
        (All-filter (λ e. bytes_eq e.subject subject) (λ e. IsVersionOrId e.version) (entries rs)
        (All-weaker (Contains (entries rs)) (λ e. IsVersionOrId e.version) (λ e stands. (limits rs e stands).0) (entries rs)
        (All-contains_itself (entries rs))))) is

-- a test that passed tells that none is live
pub no_live : (b : Bool) (why : Refusal) → refuse_if b why ≡ granted → b ≡ false
no_live true why e = absurd (cc)
no_live false why e = refl

pub mapped : {A B : Type 0} (f : A → B) (o : Option A) (b : B) → option_map f o ≡ Some b → is_some o ≡ true
mapped f None b e = cc
mapped f (Some a) b e = refl
