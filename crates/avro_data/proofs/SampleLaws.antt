-- What a sample says of its type's values, and its outline of its size.
use Rattle.std.proofs.Common.{◌≡◌, ℕ, ◌+◌, min, List, Bool, true, false, ◌||◌, nat_lt, Option, Some}
use Rattle.std.proofs.Common.{None, IfSome, IfNone, is_some, option_map, refl, sym, ◌∙◌, ap, arith}
use Rattle.std.specs.Option.{option_map_or}
use Rattle.std.proofs.lemmas.Bool.Decides.{nat_tests}
use Rattle.avro_schema.specs.declared.node.NodeId.{NodeId}
use Rattle.avro_schema.specs.declared.node.Node.{Node}
use Rattle.avro_data.specs.declared.limits.TheConstants.{PARTS_LIMIT, LEVELS_LIMIT}
use Rattle.avro_data.specs.declared.data.Data.{Data}
use Rattle.avro_data.specs.declared.outline.Given.{Given}
use Rattle.avro_data.specs.Value.{Value}
use Rattle.avro_data.specs.View.{view}
use Rattle.avro_data.specs.Size.{parts, depth, is_too_large}
use Rattle.avro_data.specs.Fits.{fits}
use Rattle.avro_data.specs.Sample.{IsSample}
use Rattle.avro_data.specs.Outlines.{outline_of, is_over}
use Rattle.avro_data.specs.Rounds.{given_at, sample_in, sample_by, AreAllRounds}
use Rattle.avro_data.proofs.Samples.{after_are, have}
use Rattle.avro_data.proofs.RoundLaws.{outline_is}

over : (c n : ℕ) → nat_lt c (min n (c + 1)) ≡ nat_lt c n
over c n = go (nat_lt c (min n (c + 1))) (nat_lt c n) refl refl
  where
    go : (a b : Bool) → nat_lt c (min n (c + 1)) ≡ a → nat_lt c n ≡ b → a ≡ b
    go true true p q = refl
    go false false p q = refl
    go true false p q = grind (arith, nat_tests)
    go false true p q = grind (arith, nat_tests)

over_is : (v : Value) → is_over (outline_of v) ≡ is_too_large v
over_is v =
    ap (λ b. b || nat_lt LEVELS_LIMIT (min (depth v) (LEVELS_LIMIT + 1))) (over PARTS_LIMIT (parts v))
    ∙ ap (λ b. nat_lt PARTS_LIMIT (parts v) || b) (over LEVELS_LIMIT (depth v))

module _ (nodes : List Node) where
  pub sample_fits : (i : NodeId) (found : Option Data) → IsSample nodes i (option_map view found)
      → IfSome found (λ d. fits nodes i (view d) ≡ true)
  sample_fits i None h = tt
  sample_fits i (Some d) (n, e) = after_are nodes n i (view d) e

  pub none_fits : (i : NodeId) (found : Option Data) → IsSample nodes i (option_map view found)
      → IfNone found ((v : Value) → fits nodes i v ≡ false)
  none_fits i (Some d) h = tt
  none_fits i None h = λ v. go v (fits nodes i v) refl
    where
      go : (v : Value) (b : Bool) → fits nodes i v ≡ b → b ≡ false
      go v false e = refl
      go v true e = let (n, s) = have nodes v i e in let wrong : false ≡ true = ap is_some (sym (h n)) ∙ s in absurd (cc)

  module _ (t : List (Option Given)) (all : AreAllRounds nodes t) (i : NodeId) where
    pub over_sample : option_map_or (λ (g : Given). is_over g.outline) (given_at t i) false ≡ true
        → (v : Value) × IsSample nodes i (Some v) × (is_too_large v ≡ true)
    over_sample is_so = go (given_at t i) refl is_so
      where
        go : (o : Option Given) → given_at t i ≡ o → option_map_or (λ (g : Given). is_over g.outline) o false ≡ true
            → (v : Value) × IsSample nodes i (Some v) × (is_too_large v ≡ true)
        go None e h = absurd (cc)
        go (Some g) e h =
            let (v, at, of) = outline_is nodes t all.last all.are i g e in
            (v, (g.round, at), sym (over_is v) ∙ ap is_over of ∙ h)

    pub within_sample : option_map_or (λ (g : Given). is_over g.outline) (given_at t i) false ≡ false → (found : Option Data)
        → option_map view found ≡ sample_by nodes t i → IfSome found (λ d. is_too_large (view d) ≡ false)
    within_sample is_so None is = tt
    within_sample is_so (Some d) is = go (given_at t i) refl is_so is
      where
        go : (o : Option Given) → given_at t i ≡ o → option_map_or (λ (g : Given). is_over g.outline) o false ≡ false
            → Some (view d) ≡ sample_in nodes i o → is_too_large (view d) ≡ false
        go None e h is = absurd (cc)
        go (Some g) e h is =
            let (v, at, of) = outline_is nodes t all.last all.are i g e in
            let both : Some (view d) ≡ Some v = is ∙ at in
            let same : view d ≡ v = cc in
            ap is_too_large same ∙ sym (over_is v) ∙ ap is_over of ∙ h
