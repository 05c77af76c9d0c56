-- The place of a subject's greatest version, where entries and room come and go.
use Rattle.std.proofs.Common.{◌≡◌, ℕ, ◌<◌, ◌≤◌, ◌^◌, true, false, cond, ◌⊎◌, inl, inr, List}
use Rattle.std.proofs.Common.{Option, Some, None, option_map, refl, sym, ap, subst, ◌∙◌, arith}
use Rattle.std.proofs.lemmas.Bool.{false≢true}
use Rattle.std.proofs.lemmas.Bool.Decides.{nat_tests}
use Rattle.std.proofs.lemmas.Cmp.{tied_itself, nat_list_cmp_total}
use Rattle.std.proofs.lemmas.Map.Text.{is_eq-slice_cmp}
use Rattle.std.proofs.lemmas.Slice.Eq.{bytes_eq-Decides}
use Rattle.std.specs.BTreeMap.{BTreeMap, get_by_text, is_at}
use Rattle.std.specs.Cmp.Lexicographic.{slice_cmp}
use Rattle.std.specs.FinMap.{nat_cmp-IsAntisymmetric, slice_cmp-IsAntisymmetric}
use Rattle.std.specs.Map.{lookup}
use Rattle.std.specs.Ordering.{nat_cmp, is_gt, is_lt, ordering_then}
use Rattle.std.specs.Prelude.{bytes_eq, is_some, IfSome, IsSome}
use Rattle.std.specs.declared.cmp.Ordering.{Ordering}
use Rattle.std.specs.declared.cmp.Ordering.TheVariants.{Less, Equal, Greater}
use Rattle.std.specs.declared.string.String.{String}
use Rattle.reg_entries.specs.EntryOrder.{Place, place_cmp}
use Rattle.reg_entries.specs.Index.{entry_at, HasAt, IsAt, ArePlaced, IsGreatestUpTo, IsTop}
use Rattle.reg_entries.specs.declared.entry.Entry.{Entry}
use Rattle.reg_entries.proofs.Listed.{by_bool}
use Rattle.reg_entries.proofs.Places.{apart_first}

pub not_some : {X : Type 0} (o : Option X) → ¬ (IsSome o) → o ≡ None
not_some None h = refl
not_some (Some x) h = absurd (h refl)

pub is_some_none : {X : Type 0} (o : Option X) → o ≡ None → ¬ (IsSome o)
is_some_none o none some = false≢true (sym (ap is_some none) ∙ some)

not_greater : (a b : ℕ) → a ≤ b → is_gt (nat_cmp a b) ≡ false
not_greater a b h = grind (arith, nat_tests)

not_less : (a b : ℕ) → is_lt (nat_cmp a b) ≡ false → b ≤ a
not_less a b h = grind (arith, nat_tests)

-- of two versions of a subject the order is that of the versions
one_subject : (s : List ℕ) (v w : ℕ) → place_cmp (s, v) (s, w) ≡ nat_cmp v w
one_subject s v w = ap (λ o. ordering_then o (nat_cmp v w)) (tied_itself nat_list_cmp_total s)

pub up_to : (p : Place) (w : ℕ) → w ≤ p.1 → is_gt (place_cmp (p.0, w) p) ≡ false
up_to p w h = ap is_gt (one_subject p.0 w p.1) ∙ not_greater w p.1 h

module _ (m : BTreeMap Place Entry) (p q : Place)
    (upper : (x : Place) → is_gt (place_cmp x p) ≡ false → IsSome (entry_at m x) → is_lt (place_cmp q x) ≡ false) where
  -- where q is the last place up to p and is of its subject
  pub greatest_up_to : q.0 ≡ p.0 → IsSome (entry_at m q) → IsGreatestUpTo m p (Some q.1)
  greatest_up_to same some = (
    subst (λ x. IsSome (entry_at m x)) place some,
    λ w h found.
        not_less q.1 w (
        ap is_lt (sym (one_subject p.0 q.1 w)) ∙ ap (λ x. is_lt (place_cmp x (p.0, w))) (sym place) ∙ upper (p.0, w) (up_to p w h) found),
  )
    where
      place : q ≡ (p.0, q.1)
      place = λ i. (same i, q.1)

  -- and where it is of another
  pub none_up_to : ¬ (q.0 ≡ p.0) → is_gt (place_cmp q p) ≡ false → IsGreatestUpTo m p None
  none_up_to apart before =
      λ w h. not_some _ (λ found. decided w (slice_cmp nat_cmp q.0 p.0) refl before (upper (p.0, w) (up_to p w h) found))
    where
      decided : (w : ℕ) (o : Ordering) → slice_cmp nat_cmp q.0 p.0 ≡ o → is_gt (ordering_then o (nat_cmp q.1 p.1)) ≡ false
          → is_lt (ordering_then (slice_cmp nat_cmp q.0 p.0) (nat_cmp q.1 w)) ≡ false → ⊥
      decided w Less is b f = false≢true (sym f ∙ ap (λ o. is_lt (ordering_then o (nat_cmp q.1 w))) is)
      decided w Equal is b f = apart (slice_cmp-IsAntisymmetric nat_cmp-IsAntisymmetric q.0 p.0 is)
      decided w Greater is b f = false≢true (sym b)

-- the greatest version up to the last that there can be is the greatest
pub top_is : (m : BTreeMap Place Entry) → ArePlaced m → (s : List ℕ) (o : Option ℕ)
    → IsGreatestUpTo m (s, 4294967295) o → IsTop m s (option_map (λ v. (s, v)) o)
top_is m placed s o h = each o h
  where
    fits : (w : ℕ) → IsSome (entry_at m (s, w)) → w ≤ 4294967295
    fits w some = of_entry (entry_at m (s, w)) some (placed (s, w))
      where
        small : (a : ℕ) → a < 2 ^ 32 → a ≤ 4294967295
        small a h = omega arith

        of_entry : (e : Option Entry) → IsSome e → IfSome e (IsAt (s, w)) → w ≤ 4294967295
        of_entry None some at = absurd (false≢true some)
        of_entry (Some e) some at = small w at.1

    each : (o : Option ℕ) → IsGreatestUpTo m (s, 4294967295) o → IsTop m s (option_map (λ v. (s, v)) o)
    each None h = λ w. not_some _ (λ some. is_some_none _ (h w (fits w some)) some)
    each (Some v) h = (refl, h.0, λ w some. h.1 w (fits w some) some)

-- where the entries that a subject has stay, so does the greatest of them
pub top_stays : (m n : BTreeMap Place Entry) (s : List ℕ)
    → ((w : ℕ) → entry_at n (s, w) ≡ entry_at m (s, w)) → (o : Option Place) → IsTop m s o → IsTop n s o
top_stays m n s same None h = λ w. same w ∙ h w
top_stays m n s same (Some p) h = (h.0, ap is_some (at p h.0) ∙ h.1, λ w some. h.2 w (sym (ap is_some (same w)) ∙ some))
  where
    at : (p : Place) → p.0 ≡ s → entry_at n p ≡ entry_at m p
    at p is = subst (λ t. entry_at n (t, p.1) ≡ entry_at m (t, p.1)) (sym is) (same p.1)

-- where an entry is found, its subject has a greatest version
pub has_top : (m : BTreeMap Place Entry) (p : Place) (o : Option Place) → IsSome (entry_at m p) → IsTop m p.0 o → IsSome o
has_top m p None some h = absurd (is_some_none _ (h p.1) some)
has_top m p (Some q) some h = refl

-- another subject's entries stay where one place changes, or none
other_subject : (m n : BTreeMap Place Entry) (p : Place) (o : Option Entry) → HasAt m n p o ⊎ (n.entries ≡ m.entries)
    → (s : List ℕ) → bytes_eq p.0 s ≡ false → (w : ℕ) → entry_at n (s, w) ≡ entry_at m (s, w)
other_subject m n p o (inl at) s apart w =
    at (s, w)
    ∙ ap (λ b. cond b o (entry_at m (s, w))) (apart_first (slice_cmp nat_cmp p.0 s) (nat_cmp p.1 w) (is_eq-slice_cmp p.0 s ∙ apart))
other_subject m n p o (inr same) s apart w = ap (λ (es : List (Place × Entry)). lookup (is_at (place_cmp (s, w))) es) same

-- all greatest versions after one place changed, or none, and its subject's was refreshed
pub tops_refreshed : (m n : BTreeMap Place Entry) (p : Place) (o : Option Entry) → HasAt m n p o ⊎ (n.entries ≡ m.entries)
    → (before after : List ℕ → Option Place) → ((s : List ℕ) → IsTop m s (before s))
    → IsTop n p.0 (after p.0) → ((s : List ℕ) → bytes_eq p.0 s ≡ false → after s ≡ before s)
    → (s : List ℕ) → IsTop n s (after s)
tops_refreshed m n p o ends before after was refreshed others s =
    by_bool (bytes_eq p.0 s)
    (λ h. subst (λ t. IsTop n t (after t)) ((bytes_eq-Decides p.0 s).0 h) refreshed)
    (λ h. subst (IsTop n s) (sym (others s h)) (top_stays m n s (other_subject m n p o ends s h) (before s) (was s)))

module _ {X Y : Type 0} (old new : BTreeMap (String Y) X) (key : List ℕ) (o : Option X)
    (after : (s : List ℕ) → get_by_text new s ≡ cond (bytes_eq key s) o (get_by_text old s)) where
  -- what is kept under a text that was written, and under the others
  pub at_text : get_by_text new key ≡ o
  at_text = after key ∙ ap (λ b. cond b o (get_by_text old key)) ((bytes_eq-Decides key key).1 refl)

  pub other_text : (s : List ℕ) → bytes_eq key s ≡ false → get_by_text new s ≡ get_by_text old s
  other_text s apart = after s ∙ ap (λ b. cond b o (get_by_text old s)) apart
