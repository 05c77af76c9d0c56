use Rattle.std.proofs.Common.{◌++◌, [], ◌∷◌, sym, ap, ◌∙◌, arith}
use Rattle.std.proofs.lemmas.Grind.{common_steps}
use Rattle.reg_rules.specs.Writings.{numbered, written_at}
use Rattle.reg_rules.proofs.Numbering.{numbered_push}
use Rattle.reg_rules.proofs.writing.numbered.Goals as goal

pub loop-writing-preserved : goal.loop-writing-preserved
loop-writing-preserved c =
    let n = c.args.next in
    let seen = c.loop-writing.yielded in
    let w = c.in-Some.writing in
    let made = c.in_ok-at.field-0 in
    record {
      at_offset = grind (arith, common_steps);
      so_far =
          c.in_ok-push.ensures.items
          ∙ ap (λ rs. rs ++ made ∷ []) c.loop-writing.invariant.so_far
          ∙ ap (λ r. numbered n seen ++ r ∷ []) (c.in_ok-at.ensures ∙ ap (λ o. written_at o w) c.loop-writing.invariant.at_offset)
          ∙ sym (numbered_push n seen w);
    }
