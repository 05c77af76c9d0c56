-- Entries with other flags.
use Rattle.std.proofs.Common.{◌≡◌, ℕ, ◌+◌, ◌<◌, Bool, true, false, cond, ◌&&◌, ◌==◌, ◌⊎◌, inl, inr, ⊎_elim, List, [], ◌∷◌, ◌++◌, map}
use Rattle.std.proofs.Common.{take, length, get_or, fold, Option, Some, None, option_map, refl, sym, ap, subst, ◌∙◌, arith}
use Rattle.std.proofs.lemmas.Bool.{false≢true}
use Rattle.std.proofs.lemmas.List.{take_more}
use Rattle.std.proofs.lemmas.List.Sums.{fold-append}
use Rattle.std.proofs.lemmas.Slice.Eq.{bytes_eq-Decides}
use Rattle.std.specs.BTreeMap.{BTreeMap, IsOrdered, get_by_text}
use Rattle.std.specs.BTreeSet.{BTreeSet, contains}
use Rattle.std.specs.List.{filter, AllByRecursion}
use Rattle.std.specs.Map.{values_of}
use Rattle.std.specs.Option.{option_map_or}
use Rattle.std.specs.Ordering.{eq_by_cmp, is_eq, nat_cmp}
use Rattle.std.proofs.lemmas.Cmp.{tied_itself}
use Rattle.std.specs.Prelude.{bytes_eq, IfSome, is_some}
use Rattle.std.specs.declared.string.String.{String}
use Rattle.reg_entries.specs.EntryOrder.{Place, place_cmp, place_of}
use Rattle.reg_entries.specs.Index.{Name, name_cmp, name_of, entry_at, IsAt, ArePlaced, AreNamed, HasAt, IsIndexed, IsTop}
use Rattle.reg_entries.specs.Flagged.{with_soft, flag_one, flagged, FlagsEach}
use Rattle.reg_entries.specs.Schemas.{Schema, schema_of, AreListed}
use Rattle.reg_entries.specs.declared.entry.Entry.{Entry}
use Rattle.reg_entries.specs.declared.entry.Flag.{Flag}
use Rattle.reg_entries.proofs.Chosen.{IsIn, all_filter, all_map, in_filter}
use Rattle.reg_entries.proofs.Found.{all_found, in_values}
use Rattle.reg_entries.proofs.Listed.{has_it}
use Rattle.reg_entries.proofs.Queries.{one_place}
use Rattle.reg_entries.proofs.Places.{place_cmp-total, same_place}

module _ (m n : BTreeMap Place Entry) (p : Place) (soft : Bool) where
  -- where the entry at a place is flagged
  pub soft_at : (e : Entry) → entry_at m p ≡ Some e → HasAt m n p (Some (with_soft soft e))
      → (q : Place) → entry_at n q ≡ cond (eq_by_cmp place_cmp p q) (option_map (with_soft soft) (entry_at m q)) (entry_at m q)
  soft_at e found at q =
      elim (eq_by_cmp place_cmp p q) as (λ b.
      eq_by_cmp place_cmp p q ≡ b → entry_at n q ≡ cond b (option_map (with_soft soft) (entry_at m q)) (entry_at m q)) [
        | true ↦ λ h.
            at q
            ∙ ap (λ b. cond b (Some (with_soft soft e)) (entry_at m q)) h
            ∙ ap (option_map (with_soft soft)) (sym found ∙ ap (entry_at m) (same_place p q h))
        | false ↦ λ h. at q ∙ ap (λ b. cond b (Some (with_soft soft e)) (entry_at m q)) h
      ] refl

  -- where there is none
  pub soft_nowhere : entry_at m p ≡ None → (q : Place)
      → entry_at m q ≡ cond (eq_by_cmp place_cmp p q) (option_map (with_soft soft) (entry_at m q)) (entry_at m q)
  soft_nowhere none q =
      elim (eq_by_cmp place_cmp p q) as (λ b.
      eq_by_cmp place_cmp p q ≡ b → entry_at m q ≡ cond b (option_map (with_soft soft) (entry_at m q)) (entry_at m q)) [
        | true ↦ λ h.
            let here : entry_at m q ≡ None = ap (entry_at m) (sym (same_place p q h)) ∙ none in
            here ∙ ap (option_map (with_soft soft)) (sym here)
        | false ↦ λ h. refl
      ] refl

-- the version and the subject of an entry stay under any flags
fold_keeps : {X : Type 0} (f : Entry → X) → ((b : Bool) (e : Entry) → f (with_soft b e) ≡ f e)
    → (flags : List Flag) (e : Entry) → f (fold flag_one e flags) ≡ f e
fold_keeps f same [] e = refl
fold_keeps f same (k ∷ ks) e = fold_keeps f same ks (flag_one e k) ∙ one (e.version == k.version)
  where
    one : (b : Bool) → f (cond b (with_soft k.soft e) e) ≡ f e
    one true = same k.soft e
    one false = refl

pub flagged_keeps : {X : Type 0} (f : Entry → X) → ((b : Bool) (e : Entry) → f (with_soft b e) ≡ f e)
    → (s : List ℕ) (flags : List Flag) (e : Entry) → f (flagged s flags e) ≡ f e
flagged_keeps f same s flags e =
    elim (bytes_eq e.subject s) as (λ b. f (cond b (fold flag_one e flags) e) ≡ f e) [ true ↦ fold_keeps f same flags e | false ↦ refl ]

number : (a b : ℕ) → (a == b) ≡ true → a ≡ b
number a b h = grind arith

itself : (a b : ℕ) → a ≡ b → (a == b) ≡ true
itself a b h = grind arith

same_test : (a b : Bool) → (a ≡ true → b ≡ true) → (b ≡ true → a ≡ true) → a ≡ b
same_test true b f g = sym (f refl)
same_test false true f g = g refl
same_test false false f g = refl

-- whether a place is that of a version of the entry's subject
is_version : (s : List ℕ) (v : ℕ) (e : Entry) → e.subject ≡ s → eq_by_cmp place_cmp (s, v) (place_of e) ≡ (e.version == v)
is_version s v e same =
    same_test _ _
    (λ h. itself e.version v (sym (ap (λ (p : Place). p.1) (same_place (s, v) (place_of e) h))))
    (λ h.
    let place : (s, v) ≡ place_of e = λ i. (sym same i, sym (number e.version v h) i) in
    ap (λ q. is_eq (place_cmp (s, v) q)) (sym place) ∙ ap is_eq (tied_itself place_cmp-total (s, v)))

other_subject : (s : List ℕ) (v : ℕ) (e : Entry) → bytes_eq e.subject s ≡ false → eq_by_cmp place_cmp (s, v) (place_of e) ≡ false
other_subject s v e apart =
    elim (eq_by_cmp place_cmp (s, v) (place_of e)) as (λ b. eq_by_cmp place_cmp (s, v) (place_of e) ≡ b → b ≡ false) [
      | true ↦ λ h.
          absurd (
          false≢true (sym apart ∙ (bytes_eq-Decides e.subject s).1 (sym (ap (λ (p : Place). p.0) (same_place (s, v) (place_of e) h)))))
      | false ↦ λ h. refl
    ] refl

module _ (s : List ℕ) (flags : List Flag) (i : ℕ) (k : Flag) (within : i < length flags) (at : k ≡ get_or flags i k) where
  more : take (i + 1) flags ≡ take i flags ++ k ∷ []
  more = take_more flags i k within ∙ ap (λ y. take i flags ++ y ∷ []) (sym at)

  fold_more : (e : Entry) → fold flag_one e (take (i + 1) flags) ≡ flag_one (fold flag_one e (take i flags)) k
  fold_more e = ap (fold flag_one e) more ∙ fold-append flag_one e (take i flags) (k ∷ [])

  -- one more flag
  one_more : (e : Entry)
      → cond (eq_by_cmp place_cmp (s, k.version) (place_of e)) (with_soft k.soft (flagged s (take i flags) e)) (flagged s (take i flags) e)
      ≡ flagged s (take (i + 1) flags) e
  one_more e =
      elim (bytes_eq e.subject s) as (λ b. bytes_eq e.subject s ≡ b
      → cond (eq_by_cmp place_cmp (s, k.version) (place_of e))
      (with_soft k.soft (cond b (fold flag_one e (take i flags)) e)) (cond b (fold flag_one e (take i flags)) e)
      ≡ cond b (fold flag_one e (take (i + 1) flags)) e) [
        | true ↦ λ h.
            let f = fold flag_one e (take i flags) in
            let version : f.version ≡ e.version = fold_keeps (λ x. x.version) (λ b x. refl) (take i flags) e in
            let test : eq_by_cmp place_cmp (s, k.version) (place_of e) ≡ (f.version == k.version) =
            is_version s k.version e ((bytes_eq-Decides e.subject s).0 h) ∙ ap (λ v. v == k.version) (sym version) in
            ap (λ b. cond b (with_soft k.soft f) f) test ∙ sym (fold_more e)
        | false ↦ λ h. ap (λ b. cond b (with_soft k.soft e) e) (other_subject s k.version e h)
      ] refl

  pub flagged_more : (m cur new : BTreeMap Place Entry) → ArePlaced m
      → ((p : Place) → entry_at cur p ≡ option_map (flagged s (take i flags)) (entry_at m p))
      → ((q : Place)
      → entry_at new q ≡ cond (eq_by_cmp place_cmp (s, k.version) q) (option_map (with_soft k.soft) (entry_at cur q)) (entry_at cur q))
      → (q : Place) → entry_at new q ≡ option_map (flagged s (take (i + 1) flags)) (entry_at m q)
  flagged_more m cur new placed so_far set q =
      elim (entry_at m q) as (λ o. entry_at m q ≡ o → entry_at new q ≡ option_map (flagged s (take (i + 1) flags)) o) [
        | None ↦ λ is.
            let none : entry_at cur q ≡ None = so_far q ∙ ap (option_map (flagged s (take i flags))) is in
            set q
            ∙ ap (λ o. cond (eq_by_cmp place_cmp (s, k.version) q) (option_map (with_soft k.soft) o) o) none
            ∙ never (eq_by_cmp place_cmp (s, k.version) q)
        | Some e ↦ λ is.
            let place : place_of e ≡ q = (subst (λ o. IfSome o (IsAt q)) is (placed q)).0 in
            let some : entry_at cur q ≡ Some (flagged s (take i flags) e) = so_far q ∙ ap (option_map (flagged s (take i flags))) is in
            set q ∙ ap (λ o. cond (eq_by_cmp place_cmp (s, k.version) q) (option_map (with_soft k.soft) o) o) some
            ∙ inward (eq_by_cmp place_cmp (s, k.version) q) (flagged s (take i flags) e)
            ∙ ap Some (
            ap
            (λ p.
            cond (eq_by_cmp place_cmp (s, k.version) p)
            (with_soft k.soft (flagged s (take i flags) e)) (flagged s (take i flags) e))
            (sym place)
            ∙ one_more e)
      ] refl
    where
      never : (b : Bool) → ◌≡◌ {A = Option Entry} (cond b None None) None
      never true = refl
      never false = refl

      inward : (b : Bool) (e : Entry) → cond b (option_map (with_soft k.soft) (Some e)) (Some e) ≡ Some (cond b (with_soft k.soft e) e)
      inward true e = refl
      inward false e = refl

-- before the first flag
pub flagged_none : (s : List ℕ) (o : Option Entry) → o ≡ option_map (flagged s []) o
flagged_none s None = refl
flagged_none s (Some e) = ap Some (elim (bytes_eq e.subject s) as (λ b. e ≡ cond b e e) [ true ↦ refl | false ↦ refl ])

module _ {Y : Type 0} (m n : BTreeMap Place Entry) (names : BTreeSet Name) (tops : BTreeMap (String Y) Place)
    (indexed : IsIndexed m names tops) (ordered : IsOrdered place_cmp n) (s : List ℕ) (flags : List Flag)
    (at : (p : Place) → entry_at n p ≡ option_map (flagged s flags) (entry_at m p)) where
  same_some : (p : Place) → is_some (entry_at n p) ≡ is_some (entry_at m p)
  same_some p =
      ap is_some (at p) ∙ elim (entry_at m p) as (λ o. is_some (option_map (flagged s flags) o) ≡ is_some o) [ None ↦ refl | Some e ↦ refl ]

  placed_flagged : ArePlaced n
  placed_flagged p = subst (λ o. IfSome o (IsAt p)) (sym (at p)) (each (entry_at m p) (indexed.placed p))
    where
      each : (o : Option Entry) → IfSome o (IsAt p) → IfSome (option_map (flagged s flags) o) (IsAt p)
      each None h = h
      each (Some e) h = (flagged_keeps place_of (λ b x. refl) s flags e ∙ h.0, h.1)

  named_flagged : AreNamed n names
  named_flagged x =
      indexed.named x ∙ each (entry_at m x.2) ∙ ap (λ o. option_map_or (λ e. eq_by_cmp name_cmp (name_of e) x) o false) (sym (at x.2))
    where
      each : (o : Option Entry)
          → option_map_or (λ e. eq_by_cmp name_cmp (name_of e) x) o false
          ≡ option_map_or (λ e. eq_by_cmp name_cmp (name_of e) x) (option_map (flagged s flags) o) false
      each None = refl
      each (Some e) = ap (λ y. eq_by_cmp name_cmp y x) (sym (flagged_keeps name_of (λ b x. refl) s flags e))

  top_flagged : (t : List ℕ) (o : Option Place) → IsTop m t o → IsTop n t o
  top_flagged t None h = λ w. at (t, w) ∙ ap (option_map (flagged s flags)) (h w)
  top_flagged t (Some p) h = (h.0, same_some p ∙ h.1, λ w some. h.2 w (sym (same_some (t, w)) ∙ some))

  -- all that is kept beside the entries stays under flags
  pub indexed_flagged : IsIndexed n names tops
  indexed_flagged = record {
    ordered = ordered;
    placed = placed_flagged;
    named = named_flagged;
    top = λ t. top_flagged t (get_by_text tops t) (indexed.top t);
  }

-- flags of other entries leave an entry as it is, and its own gives it its flag
module _ (soft : Entry → Bool) (e : Entry) where
  abbrev flag_of : Entry → Flag
  flag_of x = record { version = x.version; soft = soft x }

  abbrev IsSame : Entry → Type 0
  IsSame x = x.version ≡ e.version → x ≡ e

  one : (b : Bool) (x : Entry) → IsSame x
      → (flag_one (with_soft b e) (flag_of x) ≡ with_soft b e) ⊎ (flag_one (with_soft b e) (flag_of x) ≡ with_soft (soft e) e)
  one b x same =
      elim (e.version == x.version) as (λ t. (e.version == x.version) ≡ t
      → (cond t (with_soft (soft x) (with_soft b e)) (with_soft b e) ≡ with_soft b e)
      ⊎ (cond t (with_soft (soft x) (with_soft b e)) (with_soft b e) ≡ with_soft (soft e) e)) [
        | true ↦ λ h. inr (ap (λ y. with_soft (soft y) e) (same (sym (number e.version x.version h))))
        | false ↦ λ h. inl refl
      ] refl

  own_flag : (b : Bool) (x : Entry) → x ≡ e → flag_one (with_soft b e) (flag_of x) ≡ with_soft (soft e) e
  own_flag b x is =
      ap (λ t. cond t (with_soft (soft x) e) (with_soft b e)) (itself e.version x.version (sym (ap (λ y. y.version) is)))
      ∙ ap (λ y. with_soft (soft y) e) is

  fold_hit : (xs : List Entry) → AllByRecursion IsSame xs → fold flag_one (with_soft (soft e) e) (map flag_of xs) ≡ with_soft (soft e) e
  fold_hit [] h = refl
  fold_hit (x ∷ xs) h = ap (λ y. fold flag_one y (map flag_of xs)) (⊎_elim (λ k. k) (λ k. k) (one (soft e) x h.0)) ∙ fold_hit xs h.1

  fold_reach : (b : Bool) (xs : List Entry) → AllByRecursion IsSame xs → IsIn e xs
      → fold flag_one (with_soft b e) (map flag_of xs) ≡ with_soft (soft e) e
  fold_reach b [] h i = absurd i
  fold_reach b (x ∷ xs) h (inl is) = ap (λ y. fold flag_one y (map flag_of xs)) (own_flag b x is) ∙ fold_hit xs h.1
  fold_reach b (x ∷ xs) h (inr i) =
      ⊎_elim (λ k. ap (λ y. fold flag_one y (map flag_of xs)) k ∙ fold_reach b xs h.1 i)
      (λ k. ap (λ y. fold flag_one y (map flag_of xs)) k ∙ fold_hit xs h.1) (one b x h.0)

module _ {Y : Type 0} (m n : BTreeMap Place Entry) (names : BTreeSet Name)
    (tops : BTreeMap (String Y) Place) (indexed : IsIndexed m names tops) (s : List ℕ) (flags : List Flag)
    (at : (p : Place) → entry_at n p ≡ option_map (flagged s flags) (entry_at m p)) where
  -- where each entry of the subject has its flag
  pub each_flagged : (soft : Entry → Bool) → FlagsEach soft flags (filter (λ e. bytes_eq e.subject s) (values_of m.entries))
      → (p : Place) → entry_at n p ≡ option_map (λ e. cond (bytes_eq e.subject s) (with_soft (soft e) e) e) (entry_at m p)
  each_flagged soft are p =
      elim (entry_at m p) as (λ o.
      entry_at m p ≡ o → entry_at n p ≡ option_map (λ e. cond (bytes_eq e.subject s) (with_soft (soft e) e) e) o) [
        | None ↦ λ is. at p ∙ ap (option_map (flagged s flags)) is
        | Some e ↦ λ is. at p ∙ ap (option_map (flagged s flags)) is ∙ ap Some (own e is)
      ] refl
    where
      same : (e : Entry) → entry_at m p ≡ Some e → e.subject ≡ s
          → AllByRecursion (λ x. x.version ≡ e.version → x ≡ e) (filter (λ x. bytes_eq x.subject s) (values_of m.entries))
      same e is of_s =
          all_filter (λ x. bytes_eq x.subject s) (λ x. x.version ≡ e.version → x ≡ e) (values_of m.entries)
          (all_map (λ (x : Place × Entry). x.1) (λ x. bytes_eq x.subject s ≡ true → x.version ≡ e.version → x ≡ e) m.entries
          (all_found (λ q x. bytes_eq x.subject s ≡ true → x.version ≡ e.version → x ≡ e) m.entries indexed.ordered
          (λ q x found subject version.
          one_place m names tops indexed q p x e found is (λ i. (((bytes_eq-Decides x.subject s).0 subject ∙ sym of_s) i, version i)))))

      own : (e : Entry) → entry_at m p ≡ Some e → flagged s flags e ≡ cond (bytes_eq e.subject s) (with_soft (soft e) e) e
      own e is =
          elim (bytes_eq e.subject s) as (λ b.
          bytes_eq e.subject s ≡ b → cond b (fold flag_one e flags) e ≡ cond b (with_soft (soft e) e) e) [
            | true ↦ λ h.
                let of_s : e.subject ≡ s = (bytes_eq-Decides e.subject s).0 h in
                ap (fold flag_one e) are
                ∙ fold_reach soft e e.soft (filter (λ x. bytes_eq x.subject s) (values_of m.entries)) (same e is of_s)
                (in_filter (λ x. bytes_eq x.subject s) e (values_of m.entries) h (in_values p e m.entries is))
            | false ↦ λ h. refl
          ] refl

-- the schemas stay under flags
pub listed_flagged : (m n : BTreeMap Place Entry) (schemas : BTreeSet Schema) → AreListed m schemas → (s : List ℕ) (flags : List Flag)
    → ((p : Place) → entry_at n p ≡ option_map (flagged s flags) (entry_at m p)) → AreListed n schemas
listed_flagged m n schemas listed s flags at x = listed x ∙ each (entry_at m x.2) ∙ ap (λ o. has_it o x) (sym (at x.2))
  where
    each : (o : Option Entry) → has_it o x ≡ has_it (option_map (flagged s flags) o) x
    each None = refl
    each (Some e) = ap (λ (k : Schema). k.1 == x.1 && bytes_eq k.0 x.0) (sym (flagged_keeps schema_of (λ b x. refl) s flags e))
