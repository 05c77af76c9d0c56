use Rattle.std.proofs.Common.{refl, sym, ap, ◌∙◌, ◌∷◌}
use Rattle.std.proofs.lemmas.Bool.{false≢true}
use Rattle.reg_entries.proofs.Meant.{none_of_list, one_of_list, two_of_list}
use Rattle.reg_entries.proofs.meanings.has_two.Goals as goal

pub returns-in_default : goal.returns-in_default
returns-in_default c = (
  λ h. absurd (false≢true h),
  λ two.
      absurd (
      none_of_list c.args.meanings.now c.texts_of-texts.ensures.ordered c.args.id (sym c.texts_of-texts.ensures.texts
      ∙ c.in_default.ensures.steps.0) two),
)

pub returns-in_default-next : goal.returns-in_default-next
returns-in_default-next c = (
  λ h. absurd (false≢true h),
  λ two. absurd (one_of_list c.args.meanings.now c.texts_of-texts.ensures.ordered c.args.id _
      (sym c.texts_of-texts.ensures.texts ∙ c.in-Some.ensures.steps ∙ ap (λ r. c.in-Some.field-0.now ∷ r) c.in_default-next.ensures.steps.0)
      two),
)

pub returns : goal.returns
returns c = (
  λ h.
      two_of_list c.args.meanings.now c.texts_of-texts.ensures.ordered c.args.id _ _ _ (
      sym c.texts_of-texts.ensures.texts ∙ c.in-Some.ensures.steps ∙ ap (λ r. c.in-Some.field-0.now ∷ r) c.in-Some-next.ensures.steps),
  λ two. refl,
)
