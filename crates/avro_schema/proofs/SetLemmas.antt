-- Sets of nodes, beside the lists of the kinds that were put in.
use Rattle.std.proofs.Common.{◌≡◌, ℕ, zero, suc, ◌<◌, List, [], ◌∷◌, ◌++◌, length, get_or, take, drop, Bool, true, false, ◌||◌}
use Rattle.std.proofs.Common.{not, cond, ◌==◌, is_eq, Equal, Less, Greater, ◌⊎◌, inl, inr, refl, sym, ◌∙◌, ap, subst, arith}
use Rattle.std.specs.List.{list_any}
use Rattle.std.specs.Ordering.{nat_cmp}
use Rattle.std.specs.Cmp.{nat_cmp_is}
use Rattle.std.proofs.lemmas.Bool.{cases_order}
use Rattle.std.proofs.lemmas.Bool.Decides.{nat_tests}
use Rattle.std.specs.BTreeSet.{BTreeSet, contains, Updates}
use Rattle.std.proofs.lemmas.List.Folds.{list_any-append}
use Rattle.avro_schema.specs.declared.kinds.BranchKind.{BranchKind}
use Rattle.avro_schema.specs.declared.kinds.BranchKind.TheVariants as branch
use Rattle.avro_schema.specs.declared.kinds.Kinds.{Kinds}
use Rattle.avro_schema.specs.Faults.{same_primitive}
use Rattle.avro_schema.specs.Branches.{HoldsKinds, same_branch, may_stand}

by_cases : (b o : Bool) → cond b true o ≡ o || (b || false)
by_cases true true = refl
by_cases true false = refl
by_cases false true = refl
by_cases false false = refl

pub split_at : {A : Type 0} (xs : List A) (i : ℕ) (d : A) → i < length xs → xs ≡ take i xs ++ get_or xs i d ∷ drop (suc i) xs
split_at [] i d h = absurd (omega arith)
split_at (x ∷ xs) zero d h = refl
split_at (x ∷ xs) (suc i) d h = ap (λ l. x ∷ l) (split_at xs i d (omega arith))

or_false : (a : Bool) → a ≡ a || (false || false)
or_false true = refl
or_false false = refl

-- a kind of another sort changes nothing
pub same_any : {X : Type 0} (p : X → Bool) (xs : List X) (x : X) → p x ≡ false → list_any p (xs ++ x ∷ []) ≡ list_any p xs
same_any p xs x e = list_any-append p xs (x ∷ []) ∙ ap (λ b. list_any p xs || (b || false)) e ∙ sym (or_false (list_any p xs))

-- ---- the kinds that were met, after one more

by_order : (key q : ℕ) → (key ≡ q) ⊎ ((key < q) ⊎ (q < key)) → is_eq (nat_cmp key q) ≡ (q == key)
by_order key q (inl e) = ap is_eq (sym (nat_cmp_is key q Equal e)) ∙ sym (let other : q ≡ key = sym e in grind (arith, nat_tests))
by_order key q (inr (inl lt)) = ap is_eq (sym (nat_cmp_is key q Less lt)) ∙ sym (grind (arith, nat_tests))
by_order key q (inr (inr lt)) = ap is_eq (sym (nat_cmp_is key q Greater lt)) ∙ sym (grind (arith, nat_tests))

same_number : (key q : ℕ) → is_eq (nat_cmp key q) ≡ (q == key)
same_number key q = by_order key q (cases_order key q)

put_named : (s n : BTreeSet ℕ) (key : ℕ) (ks : List BranchKind)
    → ((q : ℕ) → contains nat_cmp s q ≡ list_any (same_branch (branch.Named q)) ks)
    → Updates nat_cmp s n key true → (q : ℕ) → contains nat_cmp n q ≡ list_any (same_branch (branch.Named q)) (ks ++ branch.Named key ∷ [])
put_named s n key ks has updates q =
    updates.0 q ∙ ap (λ b. cond b true (contains nat_cmp s q)) (same_number key q) ∙ ap (λ o. cond (q == key) true o) (has q)
    ∙ by_cases (q == key) (list_any (same_branch (branch.Named q)) ks)
    ∙ sym (list_any-append (same_branch (branch.Named q)) ks (branch.Named key ∷ []))

kept : (test : BranchKind → Bool) (b : Bool) (ks : List BranchKind) (k : BranchKind)
    → b ≡ list_any test ks → test k ≡ false → b ≡ list_any test (ks ++ k ∷ [])
kept test b ks k is apart = is ∙ sym (same_any test ks k apart)

-- a branch of kind k was added, and fits says whether it may stand
abbrev Added : Kinds → BranchKind → List BranchKind → Bool → Type 0
Added n k ks fits = HoldsKinds n (ks ++ k ∷ []) × (fits ≡ may_stand k ks)

pub as_kind : (n : Kinds) (k j : BranchKind) (ks : List BranchKind) (fits : Bool) → k ≡ j
    → HoldsKinds n (ks ++ j ∷ []) × (fits ≡ may_stand j ks) → HoldsKinds n (ks ++ k ∷ []) × (fits ≡ may_stand k ks)
as_kind n k j ks fits is added = subst (λ (i : BranchKind). Added n i ks fits) (sym is) added

pub added_named : (s n : Kinds) (key : ℕ) (ks : List BranchKind) (fits : Bool) → HoldsKinds s ks → n.primitives.items ≡ s.primitives.items
    → n.has_array ≡ s.has_array → n.has_map ≡ s.has_map → Updates nat_cmp s.named n.named key true
    → fits ≡ not (contains nat_cmp s.named key) → HoldsKinds n (ks ++ branch.Named key ∷ []) × (fits ≡ may_stand (branch.Named key) ks)
added_named s n key ks fits holds primitives arrays maps updates is = (
  record {
    primitives = λ p.
        kept (same_branch (branch.Primitive p)) _ ks (branch.Named key)
        (ap (list_any (λ q. same_primitive q p)) primitives ∙ holds.primitives p) refl;
    array = kept (same_branch branch.Array) _ ks (branch.Named key) (arrays ∙ holds.array) refl;
    map = kept (same_branch branch.Map) _ ks (branch.Named key) (maps ∙ holds.map) refl;
    named = put_named s.named n.named key ks holds.named updates;
  },
  is ∙ ap not (holds.named key),
)
