use Rattle.std.proofs.Common.{◌≡◌, ◌∙◌, sym, subst, ap, option_copied, IfOk, ◌&&◌, string_bytes}
use Rattle.std.specs.Prelude.{string_eq}
use Rattle.avro_resolve.specs.Verdict.{IsVerdict}
use Rattle.reg_levels.specs.Texts.{nodes_in}
use Rattle.reg_judge.specs.Kept.{IsVerdictOf}
use Rattle.reg_judge.proofs.Keeping.{found_value, of_copy}
use Rattle.reg_judge.proofs.Texts.{nodes_of, of_same, same_pair}
use Rattle.reg_judge.proofs.verdicts.verdict_on.Goals as goal

pub returns-in-Some : goal.returns-in-Some
returns-in-Some c =
    let kept = found_value IsVerdictOf (λ j. string_eq c.args.pair.now.0 j.0 && string_eq c.args.pair.now.1 j.1)
    c.args.kept.now.entries c.in-Some.verdict.now c.requires.kept (sym c.peek.ensures ∙ ap option_copied c.in-Some.is) in
    of_copy c.clone.result (λ v. IsVerdictOf (c.args.pair.now, v)) _ c.in-Some.verdict.now c.clone.ensures.cases
    (of_same kept.0 c.args.pair.now c.in-Some.verdict.now (sym (same_pair c.args.pair.now kept.0 kept.2)) kept.1)

pub returns-in-None : goal.returns-in-None
unfolding IsVerdictOf
returns-in-None c =
    let reader : c.reader.inside.schema.nodes ≡ nodes_in (string_bytes c.args.pair.now.0) =
    sym (
    ap (λ p. nodes_in p.0) (c.requires.pair ∙ sym (ap (λ t. (t, c.args.writer.now)) c.reader.view_is))
    ∙ nodes_of (string_bytes c.reader.inside.text) c.reader.inside.schema c.reader.invariant) in
    let writer : c.writer.inside.schema.nodes ≡ nodes_in (string_bytes c.args.pair.now.1) =
    sym (
    ap (λ p. nodes_in p.1) (c.requires.pair ∙ sym (ap (λ t. (c.args.reader.now, t)) c.writer.view_is))
    ∙ nodes_of (string_bytes c.writer.inside.text) c.writer.inside.schema c.writer.invariant) in
    subst (λ ns. IfOk c.resolve.result (IsVerdict ns (nodes_in (string_bytes c.args.pair.now.1)))) reader
    (subst (λ ns. IfOk c.resolve.result (IsVerdict c.reader.inside.schema.nodes ns)) writer c.resolve.ensures.verdict)
