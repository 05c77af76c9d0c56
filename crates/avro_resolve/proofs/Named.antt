-- A field that is found anywhere is the one of its name, where names are distinct; and what the place of a name says.
use Rattle.std.proofs.Common.{◌≡◌, ℕ, zero, suc, ◌<◌, ◌≤◌, inl, inr, List, [], ◌∷◌, length, Bool, true, false, ◌||◌, nat_lt, cond}
use Rattle.std.proofs.Common.{Some, None, is_some, find, filter_map, position, slice_get, bytes_eq, refl, sym, ◌∙◌, ap, arith}
use Rattle.std.specs.Cmp.Lexicographic.{nat_list_eq_equiv}
use Rattle.std.specs.List.{cons_option, list_any, position_or_len}
use Rattle.std.proofs.lemmas.Bool.{ltb-true, ltb-false}
use Rattle.std.proofs.lemmas.List.Folds.{find_at, list_any_at, list_any_none}
use Rattle.std.proofs.lemmas.List.Sums.{passes_at_first, fails_before_first}
use Rattle.std.proofs.lemmas.Option.{cond_some, slice_get_cases, slice_get_past}
use Rattle.std.proofs.lemmas.Slice.Eq.{bytes_eq-Decides}
use Rattle.avro_schema.specs.declared.node.Field.{Field}
use Rattle.avro_schema.specs.Names.{has_text}
use Rattle.avro_schema.specs.Sound.{HaveDistinctNames}
use Rattle.avro_schema.specs.Defaults.{field_named}
use Rattle.avro_resolve.specs.Pairing.{partner}

HaveDistinctNames-rest : (f : Field) (fs : List Field) → HaveDistinctNames (f ∷ fs) → HaveDistinctNames fs
HaveDistinctNames-rest f fs distinct a b g h at_a at_b same = let more : suc a ≡ suc b = distinct (suc a) (suc b) g h at_a at_b same in cc

pub named_at : (fs : List Field) → HaveDistinctNames fs → (k : ℕ) (g : Field) (s : List ℕ)
    → slice_get fs k ≡ Some g → g.name ≡ s → field_named fs s ≡ Some g
named_at [] distinct k g s at same = cc
named_at (f ∷ fs) distinct zero g s at same =
    let one : f ≡ g = cc in
    let matches : bytes_eq f.name s ≡ true = (bytes_eq-Decides f.name s).1 (ap (λ (h : Field). h.name) one ∙ same) in
    here matches one
  where
    here : bytes_eq f.name s ≡ true → f ≡ g → field_named (f ∷ fs) s ≡ Some g
    here matches one = rw matches (ap Some one)
named_at (f ∷ fs) distinct (suc k) g s at same =
    go (bytes_eq f.name s) refl (named_at fs (HaveDistinctNames-rest f fs distinct) k g s at same)
  where
    go : (b : Bool) → bytes_eq f.name s ≡ b → field_named fs s ≡ Some g → field_named (f ∷ fs) s ≡ Some g
    go true is rest = let no : 0 ≡ suc k = distinct 0 (suc k) f g refl at ((bytes_eq-Decides f.name s).0 is ∙ sym same) in cc
    go false is rest = rw is rest

-- it is the partner of a field of that name
pub partner_at : (fs : List Field) (f : Field) → HaveDistinctNames fs → (k : ℕ) (g : Field)
    → slice_get fs k ≡ Some g → bytes_eq g.name f.name ≡ true → Some g ≡ partner fs f
partner_at fs f distinct k g at same =
    sym (
    ap (λ o. slice_get (cons_option o (filter_map (field_named fs) f.aliases)) 0)
    (named_at fs distinct k g f.name at ((bytes_eq-Decides g.name f.name).0 same)))

-- a text at a place is one of the texts
pub text_at : (ts : List (List ℕ)) (k : ℕ) (t s : List ℕ) → slice_get ts k ≡ Some t → bytes_eq s t ≡ true → true ≡ has_text ts s
text_at [] k t s at same = cc
text_at (u ∷ ts) zero t s at same =
    let one : u ≡ t = cc in
    sym (ap (λ b. b || has_text ts s) (ap (bytes_eq s) one ∙ same))
text_at (u ∷ ts) (suc k) t s at same = sym (ap (λ b. bytes_eq s u || b) (sym (text_at ts k t s at same)) ∙ or_true (bytes_eq s u))
  where
    or_true : (b : Bool) → (b || true) ≡ true
    or_true true = refl
    or_true false = refl

-- ---- what the place of a name says

module _ {X : Type 0} (p : X → Bool) (xs : List X) where
  pub found_at : (k : ℕ) → position p xs ≡ Some k → (k < length xs) × (slice_get xs k ≡ find p xs)
  found_at k e =
      let (below, same) = cond_some (nat_lt (position_or_len p xs) (length xs)) (position_or_len p xs) k e in
      let inside : position_or_len p xs < length xs = ltb-true (position_or_len p xs) (length xs) below in
      (omega arith, ap (slice_get xs) (sym same) ∙ sym (find_at p xs))

  no_place : (b : Bool) → cond b (Some (position_or_len p xs)) None ≡ None → b ≡ false
  no_place true e = cc
  no_place false e = refl

  pub found_nowhere : position p xs ≡ None → find p xs ≡ None
  found_nowhere e =
      let past = no_place (nat_lt (position_or_len p xs) (length xs)) e in
      find_at p xs ∙ slice_get_past xs (position_or_len p xs) (ltb-false (position_or_len p xs) (length xs) past)

  known_if : (d : X) (b : Bool) → nat_lt (position_or_len p xs) (length xs) ≡ b
      → is_some (cond b (Some (position_or_len p xs)) None) ≡ list_any p xs
  known_if d true e =
      let inside = ltb-true (position_or_len p xs) (length xs) e in
      sym (list_any_at p xs (position_or_len p xs) d inside (passes_at_first p xs d inside))
  known_if d false e =
      let past : length xs ≤ position_or_len p xs = ltb-false (position_or_len p xs) (length xs) e in
      sym (list_any_none p xs (λ k c h. fails_before_first p xs k c (omega arith)))

  known_by_place : X → is_some (position p xs) ≡ list_any p xs
  known_by_place d = let lt = nat_lt (position_or_len p xs) (length xs) in known_if d lt refl

-- the field of a field's own name is its partner
pub partner_of_place : (fs : List Field) (f : Field) (k : ℕ)
    → position (λ g. bytes_eq g.name f.name) fs ≡ Some k → slice_get fs k ≡ partner fs f
partner_of_place fs f k e =
    let (inside, there) = found_at (λ (g : Field). bytes_eq g.name f.name) fs k e in
    elim ((slice_get_cases fs k).1) [
      | inl here ↦ here.2 ∙ ap (λ o. slice_get (cons_option o (filter_map (field_named fs) f.aliases)) 0) (sym here.2 ∙ there)
      | inr past ↦ absurd (omega (arith, past.0, inside))
    ]

-- where there is none, it is that of the first alias with one
pub partner_of_aliases : (fs : List Field) (f : Field) → position (λ g. bytes_eq g.name f.name) fs ≡ None
    → slice_get (filter_map (field_named fs) f.aliases) 0 ≡ partner fs f
partner_of_aliases fs f e =
    sym (
    ap (λ o. slice_get (cons_option o (filter_map (field_named fs) f.aliases)) 0)
    (found_nowhere (λ (g : Field). bytes_eq g.name f.name) fs e))

-- a text is one of the texts exactly where it has a place among them
pub known_text : (ts : List (List ℕ)) (s : List ℕ) → is_some (position (λ t. bytes_eq t s) ts) ≡ has_text ts s
known_text ts s = (λ i. is_some (position (λ t. nat_list_eq_equiv.symm t s i) ts)) ∙ known_by_place (bytes_eq s) ts []
