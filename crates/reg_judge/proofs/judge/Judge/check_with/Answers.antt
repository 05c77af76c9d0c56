use Rattle.std.proofs.Common.{◌≡◌, ◌⊎◌, ℕ, Bor, true, is_some, IfSome, List, ◌∷◌, rules, sym, subst, ap, ◌∙◌, map}
use Rattle.std.proofs.lemmas.Simd.{map-map}
use Rattle.avro_resolve.specs.avro_schema.Schema.{is_schema}
use Rattle.reg_levels.specs.RequiredPairs.{looked_at}
use Rattle.reg_levels.specs.JudgedError.{IsJudgedRefusal}
use Rattle.reg_levels.specs.Texts.{VersionText}
use Rattle.reg_judge.specs.Judge.{Keeping, KeepsInTurn, KeepsSchemas, LosesTexts, UsesInTurn, with_text}
use Rattle.reg_judge.specs.Kept.{IsRun, asked_from, pairs_of, texts_in}
use Rattle.reg_judge.proofs.Refused.{by_old}
use Rattle.reg_judge.proofs.TextsOut.{keeps_schemas, loses_all, loses_more, loses_new, on_err}
use Rattle.reg_judge.proofs.Runs.{is_level_verdict, are_judged, rising_map}
use Rattle.reg_judge.proofs.judge.Judge.check_with.Goals as goal

pub returns-in_default-clause-refused : goal.returns-in_default-clause-refused
returns-in_default-clause-refused c = sym c.in_ok-new.ensures.read ∙ ap is_some c.in_default.is

pub returns-in_err-olds-clause-refused : goal.returns-in_err-olds-clause-refused
returns-in_err-olds-clause-refused c =
    let read : is_schema c.args.new_text.now ≡ true = sym c.in_ok-new.ensures.read ∙ ap is_some c.in-Some.is in
    let told : IsJudgedRefusal c.args.new_text.now (map {B = VersionText}
    (λ old. (old.0, old.1.now)) c.args.olds.now) c.in_err-olds.field-0.0 =
    by_old c.args.new_text.now
    (map {B = VersionText} (λ old. (old.0, old.1.now)) c.args.olds.now) c.in_err-olds.field-0.0 read c.in_err-olds.ensures.refused in
    search rules

-- the versions' texts
abbrev texts : goal.After-self-1 → List VersionText
texts c = map {B = VersionText} (λ old. (old.0, old.1.now)) c.args.olds.now

-- what was judged is asked of the texts
ran : (c : goal.After-self-1)
    → IsRun (asked_from c.args.level c.args.new_text.now (looked_at c.args.level (texts c)))
    (pairs_of c.in_ok-verdict.field-0.used.items) c.in_ok-verdict.field-0.verdict
ran c =
    let new : c.in-Some.new ≡ c.args.new_text.now =
    subst (λ found. IfSome found (λ source. source ≡ c.args.new_text.now)) c.in-Some.is c.in_ok-new.ensures.text in
    let olds : c.looked_at.result.now ≡ looked_at c.args.level (texts c) =
    c.looked_at.ensures ∙ ap (looked_at c.args.level) (c.deref.ensures.value ∙ c.in_ok-olds.ensures.texts) in
    subst (λ n.
    IsRun (asked_from c.args.level n (looked_at c.args.level (texts c)))
    (pairs_of c.in_ok-verdict.field-0.used.items) c.in_ok-verdict.field-0.verdict) new
    (subst (λ os.
    IsRun (asked_from c.args.level c.in-Some.new os)
    (pairs_of c.in_ok-verdict.field-0.used.items) c.in_ok-verdict.field-0.verdict) olds c.in_ok-verdict.ensures.run)

pub returns-clause-verdict : goal.returns-clause-verdict
returns-clause-verdict c = record {
  new_is_read = sym c.in_ok-new.ensures.read ∙ ap is_some c.in-Some.is;
  olds_are_read = c.in_ok-olds.ensures.read;
  versions_rise = rising_map (λ text. text.now) c.args.olds.now c.requires.rising;
  is_verdict = is_level_verdict c.args.level c.args.new_text.now (texts c)
      (pairs_of c.in_ok-verdict.field-0.used.items) c.in_ok-verdict.field-0.verdict (ran c);
}

pub returns-clause-only : goal.returns-clause-only
returns-clause-only c = λ u true_one. c.level_verdicts_are_single.ensures _ u c.in_ok-verdict.field-0.verdict true_one.is_verdict
    (is_level_verdict c.args.level c.args.new_text.now (texts c)
    (pairs_of c.in_ok-verdict.field-0.used.items) c.in_ok-verdict.field-0.verdict (ran c))

pub returns-clause-used : goal.returns-clause-used
returns-clause-used c = (
  pairs_of c.in_ok-verdict.field-0.used.items,
  are_judged c.args.level c.args.new_text.now (texts c)
      (pairs_of c.in_ok-verdict.field-0.used.items) c.in_ok-verdict.field-0.verdict (ran c) c.schemas_have_one_verdict.ensures,
  subst (λ (k : Keeping).
      UsesInTurn k.capacities.verdicts (pairs_of c.in_ok-verdict.field-0.used.items) k.pairs
      (pairs_of c.keep_all-self-inside.new.kept.entries) c.keep_all-self-inside.result)
      c.self.view_is c.keep_all-self-inside.ensures.kept,
)

-- the texts of a judge's schemas are those that it is seen to have
abbrev Loses : Keeping → List ℕ → List (List ℕ) → List (List ℕ) → Type 0
Loses k new olds after = LosesTexts (new ∷ olds) k.texts after

pub returns-in_err-new-clause-taken_out : goal.returns-in_err-new-clause-taken_out
returns-in_err-new-clause-taken_out c =
    on_err _ _ (subst (λ (k : Keeping).
    Loses k c.args.new_text.now (map {B = List ℕ} (λ old. old.1.now) c.args.olds.now) (texts_in c.take_given.new.kept.entries)) c.self.view_is
    (loses_new c.args.new_text.now _ _ _ c.in_err-new.ensures.out))

pub returns-in_default-clause-taken_out : goal.returns-in_default-clause-taken_out
returns-in_default-clause-taken_out c =
    subst (λ (k : Keeping).
    Loses k c.args.new_text.now (map {B = List ℕ} (λ old. old.1.now) c.args.olds.now) (texts_in c.take_given.new.kept.entries)) c.self.view_is
    (loses_new c.args.new_text.now _ _ _ c.in_ok-new.ensures.out)

pub returns-in_err-olds-clause-taken_out : goal.returns-in_err-olds-clause-taken_out
returns-in_err-olds-clause-taken_out c =
    on_err _ _ (subst (λ (k : Keeping).
    Loses k c.args.new_text.now (map {B = List ℕ} (λ old. old.1.now) c.args.olds.now) (texts_in c.take_olds.new.kept.entries)) c.self.view_is
    (loses_more c.args.new_text.now _ _ _ _ c.in_ok-new.ensures.out c.in_err-olds.ensures.out_by_then))

pub returns-in_err-verdict-clause-taken_out : goal.returns-in_err-verdict-clause-taken_out
returns-in_err-verdict-clause-taken_out c =
    on_err _ _ (subst (λ (k : Keeping).
    Loses k c.args.new_text.now (map {B = List ℕ} (λ old. old.1.now) c.args.olds.now) (texts_in c.take_olds.new.kept.entries)) c.self.view_is
    (loses_more c.args.new_text.now _ _ _ _ c.in_ok-new.ensures.out (loses_all _ _ _ c.in_ok-olds.ensures.out)))

pub returns-clause-schemas : goal.returns-clause-schemas
returns-clause-schemas c =
    let new = c.args.new_text.now in
    let olds = map {B = List ℕ} (λ old. old.1.now) c.args.olds.now in
    let most = c.self.inside.schemas.cap in
    let one = texts_in c.take_given.new.kept.entries in
    let two = texts_in c.take_olds.new.kept.entries in
    let three = texts_in c.keep_olds.new.kept.entries in
    let after = texts_in c.keep.new.kept.entries in
    let cap_two : c.take_olds.new.kept.cap ≡ most = c.in_ok-olds.ensures.capacity ∙ c.in_ok-new.ensures.capacity in
    let cap_three : c.keep_olds.new.kept.cap ≡ most = c.keep_olds.ensures.capacity ∙ cap_two in
    let same_olds : map {B = List ℕ} (λ old. old.1) c.in_ok-olds.olds.items ≡ olds =
    ap (map {A = VersionText} {B = List ℕ} (λ old. old.1)) c.in_ok-olds.ensures.texts
    ∙ map-map (λ (old : VersionText). old.1) (λ (old : ℕ × Bor (List ℕ)). (old.0, old.1.now)) c.args.olds.now in
    let same_new : c.in-Some.new ≡ new =
    subst (λ found. IfSome found (λ source. source ≡ new)) c.in-Some.is c.in_ok-new.ensures.text in
    let kept : KeepsInTurn most olds two three =
    subst (λ (ts : List (List ℕ)). KeepsInTurn most ts two three) same_olds
    (subst (λ (n : ℕ). KeepsInTurn n (map {B = List ℕ} (λ old. old.1) c.in_ok-olds.olds.items) two three) cap_two c.keep_olds.ensures.kept) in
    let last : (after ≡ three) ⊎ (after ≡ with_text most new three) =
    subst (λ (t : List ℕ). (after ≡ three) ⊎ (after ≡ with_text most t three)) same_new
    (subst (λ (n : ℕ). (after ≡ three) ⊎ (after ≡ with_text n c.in-Some.new three)) cap_three c.keep.ensures.kept) in
    subst (λ (k : Keeping). KeepsSchemas k.capacities.schemas new olds k.texts after) c.self.view_is
    (keeps_schemas most new olds (texts_in c.self.inside.schemas.entries) one two three after
    c.in_ok-new.ensures.out c.in_ok-olds.ensures.out kept last)
