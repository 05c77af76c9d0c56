-- Sets of last records that give the same are judged over alike.
use Rattle.std.proofs.Common.{◌≡◌, inl, inr, ℕ, List, Option, None, Some, IsSome, IfSome, IfOk, Result, ap, subst, ◌∙◌}
use Rattle.std.proofs.lemmas.Result.{IfOk-weaker}
use Rattle.std.specs.Option.{option_or}
use Rattle.std.specs.Prelude.{unwrap_or}
use Rattle.reg_entries.specs.Sought as sought
use Rattle.reg_entries.specs.Sought.{texts_of}
use Rattle.reg_fold.specs.GiveAlike.{GiveAlike}
use Rattle.reg_fold.specs.InForce.{Scope, level}
use Rattle.reg_leader.specs.declared.command.Command.{Command}
use Rattle.reg_leader.specs.declared.command.Command.TheVariants as commands
use Rattle.reg_level_names.specs.declared.level.Level.TheVariants.{Backward}
use Rattle.reg_levels.specs.Judgement.{Judgement, first_unread}
use Rattle.reg_levels.specs.RequiredPairs.{looked_at}
use Rattle.reg_set.specs.Records.{Records}
use Rattle.reg_view.specs.Judging.{HasNoJudgement, IsJudgementOf, IsMatterOf, Matter, Standing, against}
use Rattle.reg_view.specs.Alike.{AlikeJudgesAlike}

some_weaker : {X : Type 0} (o : Option X) (P Q : X → Type 0) → ((x : X) → P x → Q x) → IfSome o P → IfSome o Q
some_weaker None P Q f h = tt
some_weaker (Some x) P Q f h = f x h

module _ (rs ss : Records) (alike : GiveAlike rs ss) where
  open alike use {entries_alike, levels_alike}

  same_level : (scope : Scope) → level rs scope ≡ level ss scope
  same_level scope = λ i. unwrap_or (option_or (levels_alike scope i) (levels_alike None i)) Backward

  same_against : (subject : List ℕ) → against rs subject ≡ against ss subject
  same_against subject = λ i. record {
    level = same_level (Some subject) i;
    olds = looked_at (same_level (Some subject) i) (texts_of (sought.live_of (entries_alike i) subject));
  }

  same_matter : (c : Command) (m : Matter) → IsMatterOf rs c m → IsMatterOf ss c m
  same_matter (commands.Register subject text) m h = (
    h.0,
    h.1,
    h.2 ∙ ap (λ (a : Standing). let n : Matter = record { subject = subject; new_text = h.0.normal_text; standing = a } in n) (same_against subject),
  )
  same_matter c m h = h

  same_judgement : (c : Command) (j : Judgement) → IsJudgementOf rs c j → IsJudgementOf ss c j
  same_judgement c j h = (h.0, same_matter c h.0 h.1, h.2)

  none_either : (c : Command) → HasNoJudgement rs c → HasNoJudgement ss c
  none_either (commands.Register subject text) (inl h) = inl h
  none_either (commands.Register subject text) (inr h) =
      inr (subst (λ (a : Standing). IsSome (first_unread a.olds)) (same_against subject) h)
  none_either c h = h

pub judges_alike : AlikeJudgesAlike
judges_alike rs ss alike c = (same_matter rs ss alike c, same_judgement rs ss alike c, none_either rs ss alike c)

-- what is said of a matter that is found
pub matters_weaker : {E : Type 0} (r : Result (Option Matter) E) (P Q : Matter → Type 0) → ((m : Matter) → P m → Q m)
    → IfOk r (λ found. IfSome found P) → IfOk r (λ found. IfSome found Q)
matters_weaker r P Q f h = IfOk-weaker r _ _ (λ found. some_weaker found P Q f) h
