-- The names and the greatest versions after an entry is written or removed.
use Rattle.std.proofs.Common.{◌≡◌, ℕ, ◌<◌, ◌^◌, Bool, true, false, cond, not, ◌&&◌, ◌||◌}
use Rattle.std.proofs.Common.{◌==◌, Option, Some, None, refl, sym, ap, subst, ◌∙◌, arith}
use Rattle.std.proofs.lemmas.Bool.{false≢true}
use Rattle.std.specs.BTreeMap.{BTreeMap}
use Rattle.std.specs.BTreeSet.{BTreeSet, contains}
use Rattle.std.specs.Option.{option_map_or}
use Rattle.std.specs.Ordering.{nat_cmp, eq_by_cmp, ordering_then}
use Rattle.std.specs.Prelude.{IfSome}
use Rattle.reg_entries.specs.EntryOrder.{Place, place_cmp, place_of}
use Rattle.reg_entries.specs.Index.{Name, name_of, name_cmp, entry_at, is_named, IsAt, ArePlaced, AreNamed, HasAt}
use Rattle.reg_entries.specs.declared.entry.Entry.{Entry}
use Rattle.reg_entries.proofs.Places.{name_cmp-ties, equal, then_apart, same_place}

-- the names of entries at different places differ
name_apart : (e : Entry) (n : Name) → eq_by_cmp place_cmp (place_of e) n.2 ≡ false → eq_by_cmp name_cmp (name_of e) n ≡ false
name_apart e n h = then_apart (ordering_then (nat_cmp e.id n.0) (nat_cmp e.offset n.1)) (place_cmp (place_of e) n.2) h

same_name : (e : Entry) (n : Name) → eq_by_cmp name_cmp (name_of e) n ≡ true → name_of e ≡ n
same_name e n h = name_cmp-ties (name_of e) n (equal _ h)

both_same : (a b c d : ℕ) → a ≡ b → c ≡ d → (a == b && c == d) ≡ true
both_same a b c d e f = grind arith

same_first : (a b c d : ℕ) → (a == b && c == d) ≡ true → a ≡ b
same_first a b c d h = grind arith

same_second : (a b c d : ℕ) → (a == b && c == d) ≡ true → c ≡ d
same_second a b c d h = grind arith

as_it_is : (b : Bool) → cond b true false ≡ b
as_it_is true = refl
as_it_is false = refl

-- a name that goes where it isn't the same
pub forgotten : (is had same : Bool) → same ≡ false → cond is false had ≡ (had && (not is || same))
forgotten true true true h = absurd (false≢true (sym h))
forgotten true true false h = refl
forgotten true false same h = refl
forgotten false true same h = refl
forgotten false false same h = refl

-- whether x is the name of that entry, if there is one
abbrev names_it : Name → Option Entry → Bool
names_it x o = option_map_or (λ e. eq_by_cmp name_cmp (name_of e) x) o false

-- what is at a place that is, or isn't, the one that has changed
here_is : (m n : BTreeMap Place Entry) (p : Place) (o : Option Entry)
    → HasAt m n p o → (q : Place) → eq_by_cmp place_cmp p q ≡ true → entry_at n q ≡ o
here_is m n p o at q h = at q ∙ ap (λ b. cond b o (entry_at m q)) h

else_is : (m n : BTreeMap Place Entry) (p : Place) (o : Option Entry) → HasAt m n p o
    → (q : Place) → eq_by_cmp place_cmp p q ≡ false → entry_at n q ≡ entry_at m q
else_is m n p o at q h = at q ∙ ap (λ b. cond b o (entry_at m q)) h

-- an entry that is found at a place is at its own
own_place : (m : BTreeMap Place Entry) → ArePlaced m → (p : Place) (e : Entry) → entry_at m p ≡ Some e → place_of e ≡ p
own_place m placed p e is = (subst (λ o. IfSome o (IsAt p)) is (placed p)).0

over : (a b same : Bool) → (a ≡ true → b ≡ true → same ≡ true)
    → (same ≡ true → b ≡ true → a ≡ true) → (cond a true b && (not b || same)) ≡ a
over true true same f g = f refl refl
over true false same f g = refl
over false true true f g = sym (g refl refl)
over false true false f g = refl
over false false same f g = refl

module _ (m n : BTreeMap Place Entry) (names : BTreeSet Name) (placed : ArePlaced m) (named : AreNamed m names) where
  -- where a name is taken back, since its entry could not be written
  pub named-back : (e : Entry) (mid after : BTreeSet Name) → entry_at m (place_of e) ≡ None
      → ((x : Name) → contains name_cmp mid x ≡ cond (eq_by_cmp name_cmp (name_of e) x) true (contains name_cmp names x))
      → ((x : Name) → contains name_cmp after x ≡ cond (eq_by_cmp name_cmp (name_of e) x) false (contains name_cmp mid x))
      → AreNamed m after
  named-back e mid after none added gone x =
      elim (eq_by_cmp name_cmp (name_of e) x) as (λ b. eq_by_cmp name_cmp (name_of e) x ≡ b → contains name_cmp after x ≡ is_named m x) [
        | true ↦ λ h.
            let here : place_of e ≡ x.2 = ap (λ (y : Name). y.2) (same_name e x h) in
            gone x ∙ ap (λ b. cond b false (contains name_cmp mid x)) h ∙ sym (named_none x (ap (entry_at m) (sym here) ∙ none))
        | false ↦ λ h.
            gone x
            ∙ ap (λ b. cond b false (contains name_cmp mid x)) h
            ∙ added x
            ∙ ap (λ b. cond b true (contains name_cmp names x)) h
            ∙ named x
      ] refl
    where
      named_none : (x : Name) → entry_at m x.2 ≡ None → is_named m x ≡ false
      named_none x none = ap (names_it x) none

  module _ (e : Entry) (at : HasAt m n (place_of e) (Some e)) where
    -- where an entry is written at a place that had none
    pub named-new : (after : BTreeSet Name) → entry_at m (place_of e) ≡ None
        → ((x : Name) → contains name_cmp after x ≡ cond (eq_by_cmp name_cmp (name_of e) x) true (contains name_cmp names x))
        → AreNamed n after
    named-new after none added x =
        elim (eq_by_cmp place_cmp (place_of e) x.2) as (λ b.
        eq_by_cmp place_cmp (place_of e) x.2 ≡ b → contains name_cmp after x ≡ is_named n x) [
          | true ↦ λ h.
              let was : is_named m x ≡ false = ap (names_it x) (ap (entry_at m) (sym (same_place _ _ h)) ∙ none) in
              added x ∙ ap (cond (eq_by_cmp name_cmp (name_of e) x) true) (named x ∙ was) ∙ as_it_is _
              ∙ sym (ap (names_it x) (here_is m n (place_of e) (Some e) at x.2 h))
          | false ↦ λ h.
              added x ∙ ap (λ b. cond b true (contains name_cmp names x)) (name_apart e x h) ∙ named x
              ∙ sym (ap (names_it x) (else_is m n (place_of e) (Some e) at x.2 h))
        ] refl

    -- where it is written over another, whose name goes unless it is the same
    pub named-over : (mid after : BTreeSet Name) (old : Entry) → entry_at m (place_of e) ≡ Some old
        → ((x : Name) → contains name_cmp mid x ≡ cond (eq_by_cmp name_cmp (name_of e) x) true (contains name_cmp names x))
        → ((x : Name)
        → contains name_cmp after x
        ≡ (contains name_cmp mid x && (not (eq_by_cmp name_cmp (name_of old) x) || (old.id == e.id && old.offset == e.offset))))
        → AreNamed n after
    named-over mid after old was added gone x =
        let old_place : place_of old ≡ place_of e = own_place m placed (place_of e) old was in
        let same = old.id == e.id && old.offset == e.offset in
        let N = eq_by_cmp name_cmp (name_of e) x in
        let O = eq_by_cmp name_cmp (name_of old) x in
        elim (eq_by_cmp place_cmp (place_of e) x.2) as (λ b.
        eq_by_cmp place_cmp (place_of e) x.2 ≡ b → contains name_cmp after x ≡ is_named n x) [
          | true ↦ λ h.
              let before : contains name_cmp names x ≡ O = named x ∙ ap (names_it x) (ap (entry_at m) (sym (same_place _ _ h)) ∙ was) in
              gone x ∙ ap (λ b. b && (not O || same)) (added x ∙ ap (cond N true) before)
              ∙ over N O same (both_named x old) (one_name x old old_place)
              ∙ sym (ap (names_it x) (here_is m n (place_of e) (Some e) at x.2 h))
          | false ↦ λ h.
              let apart : O ≡ false = name_apart old x (ap (λ p. eq_by_cmp place_cmp p x.2) old_place ∙ h) in
              gone x ∙ ap (λ b. contains name_cmp mid x && (not b || same)) apart ∙ kept _
              ∙ added x ∙ ap (λ b. cond b true (contains name_cmp names x)) (name_apart e x h) ∙ named x
              ∙ sym (ap (names_it x) (else_is m n (place_of e) (Some e) at x.2 h))
        ] refl
      where
        kept : (b : Bool) → (b && true) ≡ b
        kept true = refl
        kept false = refl

        both_named : (x : Name) (old : Entry) → eq_by_cmp name_cmp (name_of e) x ≡ true
            → eq_by_cmp name_cmp (name_of old) x ≡ true → (old.id == e.id && old.offset == e.offset) ≡ true
        both_named x old one other =
            let ids : old.id ≡ e.id = ap (λ (y : Name). y.0) (same_name old x other ∙ sym (same_name e x one)) in
            let offsets : old.offset ≡ e.offset = ap (λ (y : Name). y.1) (same_name old x other ∙ sym (same_name e x one)) in
            both_same old.id e.id old.offset e.offset ids offsets

        one_name : (x : Name) (old : Entry) → place_of old ≡ place_of e → (old.id == e.id && old.offset == e.offset) ≡ true
            → eq_by_cmp name_cmp (name_of old) x ≡ true → eq_by_cmp name_cmp (name_of e) x ≡ true
        one_name x old places same other =
            let ids : old.id ≡ e.id = same_first old.id e.id old.offset e.offset same in
            let offsets : old.offset ≡ e.offset = same_second old.id e.id old.offset e.offset same in
            let names : name_of old ≡ name_of e = λ i. (ids i, offsets i, places i) in
            ap (λ y. eq_by_cmp name_cmp y x) (sym names) ∙ other

    pub placed-written : e.version < 2 ^ 32 → ArePlaced n
    placed-written fits q =
        elim (eq_by_cmp place_cmp (place_of e) q) as (λ b. eq_by_cmp place_cmp (place_of e) q ≡ b → IfSome (entry_at n q) (IsAt q)) [
          | true ↦ λ h.
              let here = same_place _ _ h in
              subst (λ o. IfSome o (IsAt q)) (sym (here_is m n (place_of e) (Some e) at q h))
              (here, subst (λ (p : Place). p.1 < 2 ^ 32) here fits)
          | false ↦ λ h. subst (λ o. IfSome o (IsAt q)) (sym (else_is m n (place_of e) (Some e) at q h)) (placed q)
        ] refl

  module _ (p : Place) (at : HasAt m n p None) where
    -- where the entry at a place is removed, and its name
    pub named-gone : (after : BTreeSet Name) (e : Entry) → entry_at m p ≡ Some e
        → ((x : Name) → contains name_cmp after x ≡ cond (eq_by_cmp name_cmp (name_of e) x) false (contains name_cmp names x))
        → AreNamed n after
    named-gone after e was gone x =
        let own : place_of e ≡ p = own_place m placed p e was in
        let N = eq_by_cmp name_cmp (name_of e) x in
        elim (eq_by_cmp place_cmp p x.2) as (λ b. eq_by_cmp place_cmp p x.2 ≡ b → contains name_cmp after x ≡ is_named n x) [
          | true ↦ λ h.
              let before : contains name_cmp names x ≡ N = named x ∙ ap (names_it x) (ap (entry_at m) (sym (same_place _ _ h)) ∙ was) in
              gone x ∙ ap (cond N false) before ∙ never N
              ∙ sym (ap (names_it x) (here_is m n p None at x.2 h))
          | false ↦ λ h.
              let apart : N ≡ false = name_apart e x (ap (λ q. eq_by_cmp place_cmp q x.2) own ∙ h) in
              gone x ∙ ap (λ b. cond b false (contains name_cmp names x)) apart ∙ named x
              ∙ sym (ap (names_it x) (else_is m n p None at x.2 h))
        ] refl
      where
        never : (b : Bool) → cond b false b ≡ false
        never true = refl
        never false = refl

    pub placed-gone : ArePlaced n
    placed-gone q =
        elim (eq_by_cmp place_cmp p q) as (λ b. eq_by_cmp place_cmp p q ≡ b → IfSome (entry_at n q) (IsAt q)) [
          | true ↦ λ h. subst (λ o. IfSome o (IsAt q)) (sym (here_is m n p None at q h)) tt
          | false ↦ λ h. subst (λ o. IfSome o (IsAt q)) (sym (else_is m n p None at q h)) (placed q)
        ] refl
