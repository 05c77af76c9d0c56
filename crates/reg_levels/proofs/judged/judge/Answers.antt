use Rattle.std.proofs.Common.{[], Result, Ok, Err, map, ap, sym, subst, ◌∙◌, rules}
use Rattle.std.specs.Option.{option_map_or}
use Rattle.std.specs.Prelude.{IfOk, OnOk}
use Rattle.reg_levels.specs.LevelVerdict.{IsLevelVerdict}
use Rattle.reg_levels.specs.Texts.{VersionText, versions_in}
use Rattle.reg_levels.proofs.Rising.{rising-map}
use Rattle.reg_levels.proofs.judged.judge.Goals as goal

-- what holds once there is a value, and what holds of it
with_both : {X E P : Type 0} (r : Result X E) (Q R : X → Type 0) → (P → (x : X) → Q x → R x) → OnOk r P → IfOk r Q → IfOk r R
with_both (Ok x) Q R f p q = f p x q
with_both (Err e) Q R f p q = q

pub returns-clause-judged : goal.returns-clause-judged
returns-clause-judged c = with_both c.check_texts.result _ _ (λ read verdict is. record {
  new_is_read = search rules;
  olds_are_read = read;
  versions_rise = rising-map c.args.olds.now (λ text. text.now) c.requires;
  is_verdict =
      subst (λ nodes.
      IsLevelVerdict c.args.level nodes (versions_in (map {B = VersionText} (λ old. (old.0, old.1.now)) c.args.olds.now)) verdict)
      (ap (λ schema. option_map_or (λ m. m.nodes) schema []) (sym c.in-Some.is ∙ c.in_ok-new.ensures)) is;
}) c.check_texts.ensures.read c.check_texts.ensures.verdict
