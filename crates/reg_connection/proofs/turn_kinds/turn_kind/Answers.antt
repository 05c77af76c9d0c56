use Rattle.std.proofs.Common.{◌≡◌, List, ℕ, ap, ◌∙◌}
use Rattle.std.specs.List.{after_first, before_first}
use Rattle.reg_messages.specs.Head.{within_limit}
use Rattle.reg_connection.specs.TurnKinds.{is_space, kind_of, skip_blank}
use Rattle.reg_connection.proofs.turn_kinds.turn_kind.Goals as goal

pub returns : goal.returns
returns c =
    let line : List ℕ = skip_blank (within_limit c.args.bytes.now) in
    let here : c.skip_blank.result.now ≡ line = c.skip_blank.ensures ∙ ap skip_blank c.within_limit.ensures in
    let method : c.split_once.result.0.now ≡ before_first is_space line = c.split_once.ensures.before ∙ ap (before_first is_space) here in
    let rest : c.split_once.result.1.now ≡ after_first is_space line = c.split_once.ensures.after ∙ ap (after_first is_space) here in
    let target : c.split_once-2.result.0.now ≡ before_first is_space (after_first is_space line) =
    c.split_once-2.ensures.before ∙ ap (before_first is_space) rest in
    c.kind_of.ensures
    ∙ ap (λ m. kind_of m c.split_once-2.result.0.now) method
    ∙ ap (λ t. kind_of (before_first is_space line) t) target
