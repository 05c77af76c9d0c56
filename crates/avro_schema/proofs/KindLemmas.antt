-- Kinds of branches, and names that are primitives or uses.
use Rattle.std.proofs.Common.{◌≡◌, ℕ, List, [], ◌∷◌, ◌++◌, Bool, true, false, ◌&&◌, ◌||◌, not, Option, Some, None, refl, sym, ◌∙◌, ap}
use Rattle.std.specs.List.{list_any}
use Rattle.std.proofs.lemmas.List.Folds.{list_any-append}
use Rattle.avro_schema.specs.Kinds.{Kind}
use Rattle.avro_schema.specs.Kinds as kind
use Rattle.avro_schema.specs.declared.node.Primitive.{Primitive}
use Rattle.avro_schema.specs.contracts.node.PrimitivePartialEq.TheImpl.Laws.{laws-law}
use Rattle.avro_schema.specs.Names.{primitive_named, all_distinct}
use Rattle.avro_schema.specs.Form.{plain, by_name, form_of_name}
use Rattle.avro_schema.specs.Faults.{same_primitive, same_kind, is_union_kind, fits_union}
use Rattle.avro_schema.proofs.TextLemmas.{bytes_eq-sym, all_distinct-middle, all_distinct-push}

pub form_plain : (s : List ℕ) (p : Primitive) → Some p ≡ primitive_named s → form_of_name s ≡ plain p
form_plain s p e = ap (λ (o : Option Primitive). elim o [ None ↦ by_name s | Some q ↦ plain q ]) (sym e)

pub form_use : (s : List ℕ) → None ≡ primitive_named s → form_of_name s ≡ by_name s
form_use s e = ap (λ (o : Option Primitive). elim o [ None ↦ by_name s | Some q ↦ plain q ]) (sym e)

-- ---- the kinds that were added

-- whether a kind may stand beside the kinds ks
abbrev pub may_stand : Kind → List Kind → Bool
may_stand k ks = not (is_union_kind k) && not (list_any (same_kind k) ks)

pub same_primitive-sym : (p q : Primitive) → same_primitive p q ≡ same_primitive q p
same_primitive-sym = laws-law.symm

pub same_kind-sym : (a b : Kind) → same_kind a b ≡ same_kind b a
same_kind-sym (kind.Primitive s) (kind.Primitive t) = same_primitive-sym s t
same_kind-sym (kind.Primitive s) kind.Array = refl
same_kind-sym (kind.Primitive s) kind.Map = refl
same_kind-sym (kind.Primitive s) (kind.Named t) = refl
same_kind-sym (kind.Primitive s) kind.Union = refl
same_kind-sym (kind.Primitive s) kind.Unknown = refl
same_kind-sym kind.Array (kind.Primitive t) = refl
same_kind-sym kind.Array kind.Array = refl
same_kind-sym kind.Array kind.Map = refl
same_kind-sym kind.Array (kind.Named t) = refl
same_kind-sym kind.Array kind.Union = refl
same_kind-sym kind.Array kind.Unknown = refl
same_kind-sym kind.Map (kind.Primitive t) = refl
same_kind-sym kind.Map kind.Array = refl
same_kind-sym kind.Map kind.Map = refl
same_kind-sym kind.Map (kind.Named t) = refl
same_kind-sym kind.Map kind.Union = refl
same_kind-sym kind.Map kind.Unknown = refl
same_kind-sym (kind.Named s) (kind.Primitive t) = refl
same_kind-sym (kind.Named s) kind.Array = refl
same_kind-sym (kind.Named s) kind.Map = refl
same_kind-sym (kind.Named s) (kind.Named t) = bytes_eq-sym s t
same_kind-sym (kind.Named s) kind.Union = refl
same_kind-sym (kind.Named s) kind.Unknown = refl
same_kind-sym kind.Union (kind.Primitive t) = refl
same_kind-sym kind.Union kind.Array = refl
same_kind-sym kind.Union kind.Map = refl
same_kind-sym kind.Union (kind.Named t) = refl
same_kind-sym kind.Union kind.Union = refl
same_kind-sym kind.Union kind.Unknown = refl
same_kind-sym kind.Unknown (kind.Primitive t) = refl
same_kind-sym kind.Unknown kind.Array = refl
same_kind-sym kind.Unknown kind.Map = refl
same_kind-sym kind.Unknown (kind.Named t) = refl
same_kind-sym kind.Unknown kind.Union = refl
same_kind-sym kind.Unknown kind.Unknown = refl

both : (a b : Bool) → a && b ≡ true → (a ≡ true) × (b ≡ true)
both true b e = (refl, e)
both false b e = cc

flip : (a : Bool) → not a ≡ true → a ≡ false
flip true e = cc
flip false e = refl

nothing : (a b : Bool) → a ≡ false → b ≡ false → not (a || (b || false)) ≡ true
nothing a b p q = rw (p, q)

-- a kind that may stand beside those before it
pub fits_more : (ks : List Kind) (k : Kind) → fits_union ks ≡ true → may_stand k ks ≡ true → fits_union (ks ++ k ∷ []) ≡ true
fits_more ks k fits stands =
    let old = both _ _ fits in
    let new = both _ _ stands in
    let none : not (list_any is_union_kind (ks ++ k ∷ [])) ≡ true =
    ap not (list_any-append is_union_kind ks (k ∷ []))
    ∙ nothing (list_any is_union_kind ks) (is_union_kind k) (flip _ old.0) (flip _ new.0) in
    let distinct : all_distinct same_kind (ks ++ k ∷ []) ≡ true = all_distinct-push same_kind same_kind-sym ks k old.1 (flip _ new.1) in
    rw (none, distinct)

or_true : (b : Bool) → b || true ≡ true
or_true true = refl
or_true false = refl

and_false : (a : Bool) → a && false ≡ false
and_false true = refl
and_false false = refl

by_which : (u a : Bool) (ks : List Kind) (k : Kind) (more : List Kind) → is_union_kind k ≡ u
    → list_any (same_kind k) ks ≡ a → not u && not a ≡ false → fits_union (ks ++ k ∷ more) ≡ false
by_which true a ks k more e h x =
    let some : list_any is_union_kind (ks ++ k ∷ more) ≡ true =
    list_any-append is_union_kind ks (k ∷ more)
    ∙ ap (λ b. list_any is_union_kind ks || (b || list_any is_union_kind more)) e
    ∙ or_true (list_any is_union_kind ks) in
    rw some
by_which false true ks k more e h x = rw (all_distinct-middle same_kind same_kind-sym ks k more h) (and_false _)
by_which false false ks k more e h x = cc

-- one that may not
pub fits_not : (ks : List Kind) (k : Kind) (more : List Kind) → may_stand k ks ≡ false → fits_union (ks ++ k ∷ more) ≡ false
fits_not ks k more stands = by_which (is_union_kind k) (list_any (same_kind k) ks) ks k more refl refl stands
