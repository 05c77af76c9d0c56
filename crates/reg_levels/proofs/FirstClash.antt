-- Verdicts on lists of pairs, one after another.
use Rattle.std.proofs.Common.{◌≡◌, true, false, List, [], ◌∷◌, ◌++◌, suc, All, IsTrue, sym, ap, ◌∙◌, inl, inr, arith}
use Rattle.avro_resolve.specs.avro_schema.declared.node.Node.{Node}
use Rattle.avro_resolve.specs.declared.resolving.Verdict.TheVariants.{Compatible, Clash}
use Rattle.avro_resolve.specs.Verdict.{HaveOneVerdict}
use Rattle.std.proofs.lemmas.List.Elements.{All-nil, All-cons}
use Rattle.reg_levels.specs.declared.verdict.LevelVerdict.{LevelVerdict}
use Rattle.reg_levels.specs.RequiredPairs.{Required}
use Rattle.reg_levels.specs.LevelVerdict.{IsCompatible, IsVerdictOn, failed}

-- where the first pairs pass, the others decide
pub first_pass : (ps qs : List Required) (u v : LevelVerdict) → IsVerdictOn ps u → u.ok ≡ true → IsVerdictOn qs v → IsVerdictOn (ps ++ qs) v
first_pass [] qs u v is ok rest = rest
first_pass (p ∷ ps) qs u v (inl (compatible, is)) ok rest = inl (compatible, first_pass ps qs u v is ok rest)
first_pass (p ∷ ps) qs u v (inr (trail, shown, is)) ok rest = let no : false ≡ true = sym (ap (λ w. w.ok) is) ∙ ok in cc

-- where one of the first pairs clashes, it decides
pub first_clash : (ps qs : List Required) (v : LevelVerdict) → IsVerdictOn ps v → v.ok ≡ false → IsVerdictOn (ps ++ qs) v
first_clash [] qs v is ok = let no : true ≡ false = sym (ap (λ w. w.ok) is) ∙ ok in cc
first_clash (p ∷ ps) qs v (inl (compatible, is)) ok = inl (compatible, first_clash ps qs v is ok)
first_clash (p ∷ ps) qs v (inr (trail, shown, is)) ok = inr (trail, shown, is)

module _ (single : (r w : List Node) → HaveOneVerdict r w) where
  pub one_verdict : (ps : List Required) (u v : LevelVerdict) → IsVerdictOn ps u → IsVerdictOn ps v → u ≡ v
  one_verdict [] u v p q = p ∙ sym q
  one_verdict (p ∷ ps) u v (inl (c, is)) (inl (d, was)) = one_verdict ps u v is was
  one_verdict (p ∷ ps) u v (inl (c, is)) (inr (trail, shown, was)) =
      let no : Compatible ≡ Clash trail = single p.reader p.writer Compatible (Clash trail) c shown in cc
  one_verdict (p ∷ ps) u v (inr (trail, shown, is)) (inl (d, was)) =
      let no : Compatible ≡ Clash trail = single p.reader p.writer Compatible (Clash trail) d shown in cc
  one_verdict (p ∷ ps) u v (inr (trail, shown, is)) (inr (other, too, was)) =
      let same : Clash trail ≡ Clash other = single p.reader p.writer (Clash trail) (Clash other) shown too in
      let one : trail ≡ other = cc in
      is ∙ ap (failed p) one ∙ sym was

  -- a verdict is right about whether the pairs are compatible
  pub ok_is_compatible : (ps : List Required) (v : LevelVerdict) → IsVerdictOn ps v → IsTrue v.ok → All IsCompatible ps
  ok_is_compatible [] v is ok = All-nil IsCompatible
  ok_is_compatible (p ∷ ps) v (inl (c, is)) ok = All-cons IsCompatible p ps c (ok_is_compatible ps v is ok)
  ok_is_compatible (p ∷ ps) v (inr (trail, shown, is)) ok = let no : false ≡ true = sym (ap (λ w. w.ok) is) ∙ ok in cc

  pub compatible_is_ok : (ps : List Required) (v : LevelVerdict) → IsVerdictOn ps v → All IsCompatible ps → IsTrue v.ok
  compatible_is_ok [] v is all = ap (λ w. w.ok) is
  compatible_is_ok (p ∷ ps) v (inl (c, is)) all = compatible_is_ok ps v is (λ k d within. all (suc k) d (omega arith))
  compatible_is_ok (p ∷ ps) v (inr (trail, shown, is)) all =
      let c : IsCompatible p = all 0 p (omega arith) in
      let no : Compatible ≡ Clash trail = single p.reader p.writer Compatible (Clash trail) c shown in cc
