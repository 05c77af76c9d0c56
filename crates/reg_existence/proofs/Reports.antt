-- A level has a verdict on a schema and its old versions, and a check of it has a report.
use Rattle.std.proofs.Common.{◌≡◌, ℕ, List, [], ◌∷◌, ◌⊎◌, inl, inr, All, Some, None, refl}
use Rattle.std.proofs.lemmas.List.Elements.{All-nil, All-cons}
use Rattle.avro_resolve.specs.declared.resolving.Verdict.{Verdict}
use Rattle.avro_resolve.specs.declared.resolving.Verdict.TheVariants.{Compatible, Clash}
use Rattle.avro_resolve.specs.Verdict.{IsVerdict}
use Rattle.reg_leader.specs.reg_levels.LevelVerdict.{IsCompatible, IsVerdictOn, failed, passed}
use Rattle.reg_leader.specs.reg_levels.Message.{clash_message, message_of}
use Rattle.reg_leader.specs.reg_levels.RequiredPairs.{Required, required_pairs}
use Rattle.reg_leader.specs.reg_levels.Texts.{nodes_in, versions_in}
use Rattle.reg_leader.specs.reg_levels.declared.verdict.LevelVerdict.{LevelVerdict}
use Rattle.reg_existence.specs.Verdicts.{LevelVerdictsExist, ReportsExist, VerdictsExist}

-- all pairs are compatible, and the verdict says so
abbrev AllPass : List Required → Type 0
AllPass ps = All IsCompatible ps × IsVerdictOn ps passed

-- some pair clashes, and the verdict has a message of it
pub record Clashes (ps : List Required) : Type 0 where
  pub verdict : LevelVerdict
  pub message : List ℕ
  pub is_verdict : IsVerdictOn ps verdict
  pub tells : message_of verdict ≡ Some message

module _ (verdicts : VerdictsExist) where
  after_one : (p : Required) (ps : List Required) → IsCompatible p → AllPass ps ⊎ Clashes ps → AllPass (p ∷ ps) ⊎ Clashes (p ∷ ps)
  after_one p ps is (inl rest) = inl (All-cons IsCompatible p ps is rest.0, inl (is, rest.1))
  after_one p ps is (inr rest) =
      inr (record { verdict = rest.verdict; message = rest.message; is_verdict = inl (is, rest.is_verdict); tells = rest.tells })

  by_verdict : (p : Required) (ps : List Required) (v : Verdict) → IsVerdict p.reader p.writer v
      → AllPass ps ⊎ Clashes ps → AllPass (p ∷ ps) ⊎ Clashes (p ∷ ps)
  by_verdict p ps Compatible is rest = after_one p ps is rest
  by_verdict p ps (Clash trail) is rest = inr (record {
    verdict = failed p trail;
    message = clash_message p.version p.direction trail;
    is_verdict = inr (trail, is, refl);
    tells = refl;
  })

  pub judged : (ps : List Required) → AllPass ps ⊎ Clashes ps
  judged [] = inl (All-nil IsCompatible, refl)
  judged (p ∷ ps) = let (v, is) = verdicts p.reader p.writer in by_verdict p ps v is (judged ps)

  pub level_verdicts_exist : LevelVerdictsExist
  level_verdicts_exist level new olds = elim (judged (required_pairs level new olds)) [
    | inl all ↦ (passed, all.1)
    | inr clash ↦ (clash.verdict, clash.is_verdict)
  ]

  pub reports_exist : ReportsExist
  reports_exist level new olds = elim (judged (required_pairs level (nodes_in new) (versions_in olds))) [
    | inl all ↦ (None, all.0)
    | inr clash ↦ (Some clash.message, (clash.verdict, clash.is_verdict, clash.tells))
  ]
