-- Two schemas have one verdict, and what is compatible is so pair by pair.
use Rattle.std.proofs.Common.{◌≡◌, ℕ, List, [], ◌∷◌, Option, Some, None, IsSome, option_map, option_and_then, slice_get, refl, sym, ◌∙◌, ap}
use Rattle.avro_schema.specs.declared.node.Node.{Node}
use Rattle.avro_resolve.specs.declared.trail.Trail.{Trail}
use Rattle.avro_resolve.specs.declared.resolving.Verdict.TheVariants.{Compatible, Clash}
use Rattle.avro_resolve.specs.declared.obligations.Pair.{Pair}
use Rattle.avro_resolve.specs.declared.obligations.Obligation.{Obligation}
use Rattle.avro_resolve.specs.Table.{clash_of, obligations}
use Rattle.avro_resolve.specs.Trails.{trail_from, trail_along, AreCompatibleAt, AreCompatibleByObligations, IsShown}
use Rattle.avro_resolve.specs.Verdict.{HaveOneVerdict}
use Rattle.avro_resolve.proofs.Hops.{end_at, after_hop}
use Rattle.avro_resolve.proofs.Order.{ComesFirst_both}

some_is : {A : Type 0} (o : Option A) (x : A) → o ≡ Some x → IsSome o
some_is None x e = cc
some_is (Some y) x e = refl

-- no two trails are shown
abbrev ShowsOne : List Node → List Node → Type 0
ShowsOne r w = (t u : Trail) → IsShown r w t → IsShown r w u → t ≡ u

shows_one : (r w : List Node) → ShowsOne r w
shows_one r w t u (ks, leads_t, first_t) (ls, leads_u, first_u) =
    let same : ks ≡ ls =
    ComesFirst_both ks ls (first_t ls (some_is (trail_along r w ls) u leads_u)) (first_u ks (some_is (trail_along r w ks) t leads_t)) in
    let two : Some t ≡ Some u = sym leads_t ∙ ap (trail_along r w) same ∙ leads_u in
    cc

pub one_verdict : (r w : List Node) → HaveOneVerdict r w
one_verdict r w Compatible Compatible p q = refl
one_verdict r w Compatible (Clash u) p (ls, leads, first) = let no : None ≡ Some u = sym (p ls) ∙ leads in cc
one_verdict r w (Clash t) Compatible (ks, leads, first) q = let no : None ≡ Some t = sym (q ks) ∙ leads in cc
one_verdict r w (Clash t) (Clash u) p q = ap Clash (shows_one r w t u p q)

-- ---- compatible pairs

none_of_map : {A B : Type 0} (f : A → B) (o : Option A) → option_map f o ≡ None → o ≡ None
none_of_map f None e = refl
none_of_map f (Some x) e = cc

module _ (r w : List Node) where
  -- the trails that go on from the obligation that was found
  onward : List ℕ → Option Obligation → Option Trail
  onward ks o = option_and_then (λ x. option_map (after_hop x.hop) (trail_from r w x.pair ks)) o

  along : (p : Pair) (k : ℕ) (ks : List ℕ) (found : Option Obligation) → slice_get (obligations r w p) k ≡ found
      → ((l : ℕ) (o : Obligation) → slice_get (obligations r w p) l ≡ Some o → AreCompatibleAt r w o.pair)
      → onward ks found ≡ None
  unfolding onward
  along p k ks None is each = refl
  along p k ks (Some o) is each = ap (option_map (after_hop o.hop)) (each k o is ks)

  each_obligation : (p : Pair) → AreCompatibleAt r w p → (k : ℕ) (o : Obligation)
      → slice_get (obligations r w p) k ≡ Some o → AreCompatibleAt r w o.pair
  unfolding onward
  each_obligation p all k o is ks = none_of_map (after_hop o.hop) (trail_from r w o.pair ks) (sym (ap (onward ks) is) ∙ all (k ∷ ks))

  from_obligations : (p : Pair) → clash_of r w p ≡ None
      → ((k : ℕ) (o : Obligation) → slice_get (obligations r w p) k ≡ Some o → AreCompatibleAt r w o.pair) → AreCompatibleAt r w p
  unfolding onward
  from_obligations p peaceful each [] = ap (option_map end_at) peaceful
  from_obligations p peaceful each (k ∷ ks) = along p k ks (slice_get (obligations r w p) k) refl each

  pub compatible_by_obligations : AreCompatibleByObligations r w
  compatible_by_obligations p =
      ((λ all. (none_of_map end_at (clash_of r w p) (all []), each_obligation p all)), (λ parts. from_obligations p parts.0 parts.1))
