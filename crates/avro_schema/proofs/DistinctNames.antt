-- Fields that a fold of tests finds distinct have distinct names at any two places.
use Rattle.std.proofs.Common.{◌≡◌, ℕ, zero, suc, List, [], ◌∷◌, map, Bool, true, false, not}
use Rattle.std.proofs.Common.{Some, slice_get, bytes_eq, refl, sym, ◌∙◌, ap, arith}
use Rattle.std.specs.List.{list_any}
use Rattle.std.proofs.lemmas.Slice.Eq.{bytes_eq-Decides}
use Rattle.avro_schema.specs.declared.node.Field.{Field}
use Rattle.avro_schema.specs.Names.{all_distinct}
use Rattle.avro_schema.specs.Sound.{HaveDistinctNames}
use Rattle.avro_schema.proofs.TextLemmas.{neither}
use Rattle.avro_schema.proofs.Types.{and_parts}

pub is_false : (b : Bool) → not b ≡ true → b ≡ false
is_false true e = cc
is_false false e = refl

-- a name that is not among those of the fields is that of none
name_not_among : (s : List ℕ) (fs : List Field) (k : ℕ) (g : Field)
    → list_any (bytes_eq s) (map (λ (f : Field). f.name) fs) ≡ false → slice_get fs k ≡ Some g → s ≡ g.name → ⊥
name_not_among s [] k g e at same = cc
name_not_among s (f ∷ fs) zero g e at same =
    let one : f ≡ g = cc in
    let equal : bytes_eq s f.name ≡ true = (bytes_eq-Decides s f.name).1 (same ∙ ap (λ (h : Field). h.name) (sym one)) in
    let apart : bytes_eq s f.name ≡ false = (neither (bytes_eq s f.name) _ e).0 in
    cc
name_not_among s (f ∷ fs) (suc k) g e at same = name_not_among s fs k g (neither (bytes_eq s f.name) _ e).1 at same

pub distinct_by_place : (fs : List Field) → all_distinct bytes_eq (map (λ (f : Field). f.name) fs) ≡ true → HaveDistinctNames fs
distinct_by_place [] e a b f g p q same = cc
distinct_by_place (h ∷ fs) e zero zero f g p q same = refl
distinct_by_place (h ∷ fs) e zero (suc b) f g p q same =
    let one : h ≡ f = cc in
    absurd (
    name_not_among h.name fs b g (is_false _ (and_parts _ (all_distinct bytes_eq (map (λ (f : Field). f.name) fs)) e).0) q
    (ap (λ (k : Field). k.name) one ∙ same))
distinct_by_place (h ∷ fs) e (suc a) zero f g p q same =
    let one : h ≡ g = cc in
    absurd (
    name_not_among h.name fs a f (is_false _ (and_parts _ (all_distinct bytes_eq (map (λ (f : Field). f.name) fs)) e).0) p
    (ap (λ (k : Field). k.name) one ∙ sym same))
distinct_by_place (h ∷ fs) e (suc a) (suc b) f g p q same =
    let below : a ≡ b =
    distinct_by_place fs (and_parts (not (list_any (bytes_eq h.name) (map (λ (f : Field). f.name) fs))) _ e).1 a b f g p q same in
    omega arith

pub no_fields_distinct : HaveDistinctNames []
no_fields_distinct a b f g p q same = cc
