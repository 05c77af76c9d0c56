-- The order of schemas, and what a set of them has.
use Rattle.std.proofs.Common.{◌≡◌, ℕ, Bool, true, false, cond, not, ◌&&◌, ◌||◌, ◌==◌, ◌⊎◌, inl, inr, List}
use Rattle.std.proofs.Common.{option_map, Option, Some, None, refl, sym, ap, subst, ◌∙◌, arith}
use Rattle.std.proofs.lemmas.Bool.{false≢true}
use Rattle.std.proofs.lemmas.Cmp.{tied_itself, nat_cmp_total, nat_list_cmp_total, on_total, then_total}
use Rattle.std.proofs.lemmas.Slice.Eq.{bytes_eq-Decides}
use Rattle.std.specs.BTreeMap.{BTreeMap, is_at}
use Rattle.std.specs.BTreeSet.{BTreeSet, contains}
use Rattle.std.specs.Cmp.{IsTotalOrder}
use Rattle.std.specs.Cmp.Lexicographic.{slice_cmp}
use Rattle.std.specs.FinMap.{IsAntisymmetric, nat_cmp-IsAntisymmetric, slice_cmp-IsAntisymmetric}
use Rattle.std.specs.Map.{lookup}
use Rattle.std.specs.Option.{option_map_or}
use Rattle.std.specs.Ordering.{nat_cmp, ordering_then, eq_by_cmp, is_eq}
use Rattle.std.specs.Prelude.{bytes_eq, IfSome, OnOk, OnErr}
use Rattle.std.specs.declared.result.Result.{Result}
use Rattle.std.specs.declared.result.Result.TheVariants.{Ok, Err}
use Rattle.reg_entries.specs.EntryOrder.{Place, place_cmp, place_of}
use Rattle.reg_entries.specs.Index.{entry_at, HasAt, IsAt, ArePlaced}
use Rattle.reg_entries.specs.Schemas.{Schema, schema_of, schema_cmp, is_held, is_that, AreListed}
use Rattle.reg_entries.specs.declared.entry.Entry.{Entry}
use Rattle.reg_entries.proofs.Places.{place_cmp-total, place_cmp-ties, then_ties, equal, same_place}

pub schema_cmp-total : IsTotalOrder schema_cmp
schema_cmp-total =
    then_total (then_total (on_total (λ s. s.0) nat_list_cmp_total) (on_total (λ s. s.1) nat_cmp_total))
    (on_total (λ s. s.2) place_cmp-total)

-- schemas that tie are one
pub schema_cmp-ties : IsAntisymmetric schema_cmp
schema_cmp-ties s t e =
    let ties = then_ties (ordering_then (slice_cmp nat_cmp s.0 t.0) (nat_cmp s.1 t.1)) (place_cmp s.2 t.2) e in
    let firsts = then_ties (slice_cmp nat_cmp s.0 t.0) (nat_cmp s.1 t.1) ties.0 in
    let texts = slice_cmp-IsAntisymmetric nat_cmp-IsAntisymmetric s.0 t.0 firsts.0 in
    let ids = nat_cmp-IsAntisymmetric s.1 t.1 firsts.1 in
    let places = place_cmp-ties s.2 t.2 ties.1 in
    λ i. (texts i, ids i, places i)

pub same_schema : (s t : Schema) → eq_by_cmp schema_cmp s t ≡ true → s ≡ t
same_schema s t h = schema_cmp-ties s t (equal _ h)

pub one_schema : (s t : Schema) → s ≡ t → eq_by_cmp schema_cmp s t ≡ true
one_schema s t h = ap (λ u. is_eq (schema_cmp s u)) (sym h) ∙ ap is_eq (tied_itself schema_cmp-total s)

number : (a b : ℕ) → (a == b) ≡ true → a ≡ b
number a b h = grind arith

itself : (a b : ℕ) → a ≡ b → (a == b) ≡ true
itself a b h = grind arith

first : (a b : Bool) → (a && b) ≡ true → a ≡ true
first true b h = refl
first false b h = h

second : (a b : Bool) → (a && b) ≡ true → b ≡ true
second true b h = h
second false b h = absurd (false≢true h)

both : (a b : Bool) → a ≡ true → b ≡ true → (a && b) ≡ true
both true b h k = k
both false b h k = h

-- whether that entry, if there is one, has the text and the id of s
abbrev pub has_it : Option Entry → Schema → Bool
has_it o s = option_map_or (λ e. e.id == s.1 && bytes_eq e.normal s.0) o false

pub had : (e : Entry) (s : Schema) → has_it (Some e) s ≡ true → (e.normal ≡ s.0) × (e.id ≡ s.1)
had e s h = ((bytes_eq-Decides e.normal s.0).0 (second _ _ h), number e.id s.1 (first (e.id == s.1) _ h))

pub has_own : (e : Entry) → has_it (Some e) (schema_of e) ≡ true
has_own e = both _ _ (itself e.id e.id refl) ((bytes_eq-Decides e.normal e.normal).1 refl)

-- the schema of an entry at the place of s, which has the text and the id of s, is s
pub schema_here : (e : Entry) (s : Schema) → place_of e ≡ s.2 → has_it (Some e) s ≡ true → schema_of e ≡ s
schema_here e s place h = let k = had e s h in λ i. (k.0 i, k.1 i, place i)

-- an entry that is found at a place is at its own
pub own_place : (m : BTreeMap Place Entry) → ArePlaced m → (p : Place) (e : Entry) → entry_at m p ≡ Some e → place_of e ≡ p
own_place m placed p e is = (subst (λ o. IfSome o (IsAt p)) is (placed p)).0

pub by_bool : (b : Bool) {X : Type 0} → (b ≡ true → X) → (b ≡ false → X) → X
by_bool true f g = f refl
by_bool false f g = g refl

pub never : (b : Bool) → b ≡ true → b ≡ false → ⊥
never b h k = false≢true (sym k ∙ h)

kept : (b : Bool) (x : Bool) → (b && (x || true)) ≡ b
kept true true = refl
kept true false = refl
kept false x = refl

as_it_is : (b : Bool) → (b && true) ≡ b
as_it_is true = refl
as_it_is false = refl

gone : (b : Bool) → (b && false) ≡ false
gone true = refl
gone false = refl

module _ (m : BTreeMap Place Entry) (before after : BTreeSet Schema) (k : Schema) where
  -- a schema that no entry has is taken away
  pub refreshed_away : is_held m k ≡ false
      → ((s : Schema) → contains schema_cmp after s ≡ cond (eq_by_cmp schema_cmp k s) false (contains schema_cmp before s))
      → (s : Schema) → contains schema_cmp after s ≡ (contains schema_cmp before s && (not (eq_by_cmp schema_cmp k s) || is_held m s))
  refreshed_away isnt goes s =
      goes s ∙ by_bool (eq_by_cmp schema_cmp k s)
      (λ h. ap (λ b. cond b false (contains schema_cmp before s)) h
      ∙ sym (
      ap (λ b. contains schema_cmp before s && (not b || is_held m s)) h
      ∙ ap (λ b. contains schema_cmp before s && b) (ap (is_held m) (sym (same_schema k s h)) ∙ isnt)
      ∙ gone (contains schema_cmp before s)))
      (λ h. ap (λ b. cond b false (contains schema_cmp before s)) h
      ∙ sym (ap (λ b. contains schema_cmp before s && (not b || is_held m s)) h ∙ as_it_is (contains schema_cmp before s)))

  -- and one that an entry has stays
  pub refreshed_stays : is_held m k ≡ true → (s : Schema)
      → contains schema_cmp before s ≡ (contains schema_cmp before s && (not (eq_by_cmp schema_cmp k s) || is_held m s))
  refreshed_stays is s =
      by_bool (eq_by_cmp schema_cmp k s)
      (λ h.
      sym (
      ap (λ b. contains schema_cmp before s && (not b || is_held m s)) h
      ∙ ap (λ b. contains schema_cmp before s && b) (ap (is_held m) (sym (same_schema k s h)) ∙ is)
      ∙ as_it_is (contains schema_cmp before s)))
      (λ h. sym (ap (λ b. contains schema_cmp before s && (not b || is_held m s)) h ∙ as_it_is (contains schema_cmp before s)))

-- where a write that may be refused leaves all else
pub else_same : (m n : BTreeMap Place Entry) (p : Place) (o : Option Entry) → HasAt m n p o ⊎ (n.entries ≡ m.entries)
    → (q : Place) → eq_by_cmp place_cmp p q ≡ false → entry_at n q ≡ entry_at m q
else_same m n p o (inl at) q h = at q ∙ ap (λ b. cond b o (entry_at m q)) h
else_same m n p o (inr same) q h = ap (λ (es : List (Place × Entry)). lookup (is_at (place_cmp q)) es) same

-- and what it does at its place
pub here_either : (m n : BTreeMap Place Entry) (p : Place) (o : Option Entry)
    → HasAt m n p o ⊎ (n.entries ≡ m.entries) → (entry_at n p ≡ o) ⊎ (entry_at n p ≡ entry_at m p)
here_either m n p o (inl at) = inl (at p ∙ ap (λ b. cond b o (entry_at m p)) (ap is_eq (tied_itself place_cmp-total p)))
here_either m n p o (inr same) = inr (ap (λ (es : List (Place × Entry)). lookup (is_at (place_cmp p)) es) same)

-- a call either succeeds or fails
pub either : {X Y P Q : Type 0} (r : Result X Y) → OnOk r P → OnErr r Q → P ⊎ Q
either (Ok x) p q = inl p
either (Err x) p q = inr q

module _ (m n : BTreeMap Place Entry) (e : Entry) (old : Option Schema) (placed : ArePlaced m)
    (else : (q : Place) → eq_by_cmp place_cmp (place_of e) q ≡ false → entry_at n q ≡ entry_at m q)
    (here : (entry_at n (place_of e) ≡ Some e) ⊎ (entry_at n (place_of e) ≡ entry_at m (place_of e)))
    (old_is : old ≡ option_map schema_of (entry_at m (place_of e))) where
  -- what n has at the place of s, where s isn't the schema of e, m has too
  pub same_entry : (s : Schema) → eq_by_cmp schema_cmp (schema_of e) s ≡ false → is_held n s ≡ true → is_held m s ≡ true
  same_entry s apart is =
      by_bool (eq_by_cmp place_cmp (place_of e) s.2)
      (λ h. let place : place_of e ≡ s.2 = same_place _ _ h in at_place place (either place here))
      (λ h. sym (ap (λ o. has_it o s) (else s.2 h)) ∙ is)
    where
      either : place_of e ≡ s.2 → (entry_at n (place_of e) ≡ Some e) ⊎ (entry_at n (place_of e) ≡ entry_at m (place_of e))
          → (entry_at n s.2 ≡ Some e) ⊎ (entry_at n s.2 ≡ entry_at m s.2)
      either place (inl h) = inl (sym (ap (entry_at n) place) ∙ h)
      either place (inr h) = inr (sym (ap (entry_at n) place) ∙ h ∙ ap (entry_at m) place)

      at_place : place_of e ≡ s.2 → (entry_at n s.2 ≡ Some e) ⊎ (entry_at n s.2 ≡ entry_at m s.2) → is_held m s ≡ true
      at_place place (inl h) =
          absurd (never _ (one_schema (schema_of e) s (schema_here e s place (sym (ap (λ o. has_it o s) h) ∙ is))) apart)
      at_place place (inr h) = sym (ap (λ o. has_it o s) h) ∙ is

  -- the schema that m has and n has not is the old one
  pub was_old : (s : Schema) → is_held n s ≡ false → is_held m s ≡ true → is_that old s ≡ true
  was_old s isnt is =
      by_bool (eq_by_cmp place_cmp (place_of e) s.2)
      (λ h. let place : place_of e ≡ s.2 = same_place _ _ h in
      ap (λ o. is_that o s) (old_is ∙ ap (λ p. option_map schema_of (entry_at m p)) place) ∙ found (entry_at m s.2) refl is)
      (λ h. absurd (never _ is (sym (ap (λ o. has_it o s) (else s.2 h)) ∙ isnt)))
    where
      found : (o : Option Entry) → entry_at m s.2 ≡ o → has_it o s ≡ true → is_that (option_map schema_of o) s ≡ true
      found None at h = absurd (false≢true h)
      found (Some f) at h = one_schema (schema_of f) s (schema_here f s (own_place m placed s.2 f at) h)

  -- where a schema is put, and then each of two goes unless it is one of an entry
  pub listed_refreshed : (before added one two : BTreeSet Schema) → AreListed m before
      → ((s : Schema) → contains schema_cmp added s ≡ cond (eq_by_cmp schema_cmp (schema_of e) s) true (contains schema_cmp before s))
      → ((s : Schema)
      → contains schema_cmp one s ≡ (contains schema_cmp added s && (not (eq_by_cmp schema_cmp (schema_of e) s) || is_held n s)))
      → ((s : Schema) → contains schema_cmp two s ≡ (contains schema_cmp one s && (not (is_that old s) || is_held n s)))
      → AreListed n two
  listed_refreshed before added one two listed adds refreshes ends s =
      by_bool (is_held n s) is_one is_none
    where
      is_one : is_held n s ≡ true → contains schema_cmp two s ≡ is_held n s
      is_one is =
          ends s
          ∙ ap (λ b. contains schema_cmp one s && (not (is_that old s) || b)) is
          ∙ kept (contains schema_cmp one s) (not (is_that old s))
          ∙ refreshes s
          ∙ ap (λ b. contains schema_cmp added s && (not (eq_by_cmp schema_cmp (schema_of e) s) || b)) is
          ∙ kept (contains schema_cmp added s) (not (eq_by_cmp schema_cmp (schema_of e) s))
          ∙ adds s ∙ by_bool (eq_by_cmp schema_cmp (schema_of e) s)
          (λ h. ap (λ b. cond b true (contains schema_cmp before s)) h ∙ sym is)
          (λ h. ap (λ b. cond b true (contains schema_cmp before s)) h ∙ listed s ∙ same_entry s h is ∙ sym is)

      is_none : is_held n s ≡ false → contains schema_cmp two s ≡ is_held n s
      is_none isnt =
          ends s ∙ by_bool (eq_by_cmp schema_cmp (schema_of e) s) of_new of_other ∙ sym isnt
        where
          of_new : eq_by_cmp schema_cmp (schema_of e) s ≡ true → (contains schema_cmp one s && (not (is_that old s) || is_held n s)) ≡ false
          of_new h =
              ap (λ b. b && (not (is_that old s) || is_held n s))
              (refreshes s
              ∙ ap (λ b. contains schema_cmp added s && (not b || is_held n s)) h
              ∙ ap (λ b. contains schema_cmp added s && b) isnt
              ∙ gone (contains schema_cmp added s))

          of_other : eq_by_cmp schema_cmp (schema_of e) s ≡ false
              → (contains schema_cmp one s && (not (is_that old s) || is_held n s)) ≡ false
          of_other h =
              by_bool (is_held m s)
              (λ is.
              ap (λ b. contains schema_cmp one s && (not b || is_held n s)) (was_old s isnt is)
              ∙ ap (λ b. contains schema_cmp one s && b) isnt
              ∙ gone (contains schema_cmp one s))
              (λ isnt_m.
              ap (λ b. b && (not (is_that old s) || is_held n s))
              (refreshes s
              ∙ ap (λ b. b && (not (eq_by_cmp schema_cmp (schema_of e) s) || is_held n s))
              (adds s ∙ ap (λ b. cond b true (contains schema_cmp before s)) h ∙ listed s ∙ isnt_m)))

-- where the entry at a place goes, and its schema
pub listed_gone : (m n : BTreeMap Place Entry) (before after : BTreeSet Schema) (p : Place) (e : Entry)
    → ArePlaced m → AreListed m before → HasAt m n p None → entry_at m p ≡ Some e
    → ((s : Schema) → contains schema_cmp after s ≡ cond (eq_by_cmp schema_cmp (schema_of e) s) false (contains schema_cmp before s))
    → AreListed n after
listed_gone m n before after p e placed listed at was goes s =
    by_bool (eq_by_cmp schema_cmp (schema_of e) s) this other
  where
    own : place_of e ≡ p
    own = own_place m placed p e was

    none : eq_by_cmp place_cmp p s.2 ≡ true → is_held n s ≡ false
    none h = ap (λ o. has_it o s) (at s.2 ∙ ap (λ b. cond b None (entry_at m s.2)) h)

    this : eq_by_cmp schema_cmp (schema_of e) s ≡ true → contains schema_cmp after s ≡ is_held n s
    this h =
        let place : p ≡ s.2 = sym own ∙ ap (λ (t : Schema). t.2) (same_schema (schema_of e) s h) in
        goes s ∙ ap (λ b. cond b false (contains schema_cmp before s)) h
        ∙ sym (none (ap (λ q. eq_by_cmp place_cmp p q) (sym place) ∙ ap is_eq (tied_itself place_cmp-total p)))

    other : eq_by_cmp schema_cmp (schema_of e) s ≡ false → contains schema_cmp after s ≡ is_held n s
    other h =
        goes s ∙ ap (λ b. cond b false (contains schema_cmp before s)) h ∙ listed s
        ∙ by_bool (eq_by_cmp place_cmp p s.2)
        (λ k. by_bool (is_held m s)
        (λ is. let place : place_of e ≡ s.2 = own ∙ same_place p s.2 k in
        let found : entry_at m s.2 ≡ Some e = sym (ap (entry_at m) (same_place p s.2 k)) ∙ was in
        absurd (never _ (one_schema (schema_of e) s (schema_here e s place (sym (ap (λ o. has_it o s) found) ∙ is))) h))
        (λ isnt. isnt ∙ sym (none k)))
        (λ k. sym (ap (λ o. has_it o s) (at s.2 ∙ ap (λ b. cond b None (entry_at m s.2)) k)))

-- what follows where a call succeeds, and where it fails
pub on_ok : {X Y P Q : Type 0} (r : Result X Y) → (P → Q) → OnOk r P → OnOk r Q
on_ok (Ok x) f p = f p
on_ok (Err y) f p = p

pub on_err : {X Y P Q : Type 0} (r : Result X Y) → (P → Q) → OnErr r P → OnErr r Q
on_err (Ok x) f p = p
on_err (Err y) f p = f p
