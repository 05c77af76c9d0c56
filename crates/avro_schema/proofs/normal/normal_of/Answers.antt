-- The normal text reads back as the same JSON, and is no longer than the text.
use Rattle.std.proofs.Common.{◌≡◌, ◌≤◌, length, Some, sym, ap, ◌∙◌, subst, arith, rules}
use Rattle.std.proofs.lemmas.Result.{IfOk-weaker}
use Rattle.serde_json.specs.Read.{read}
use Rattle.serde_json.specs.Written.{compact_text}
use Rattle.json_tree.specs.View.{view}
use Rattle.avro_schema.proofs.NormalLemmas.{same_meaning}
use Rattle.avro_schema.proofs.ReadsBack.{compact_text_reads_back}
use Rattle.avro_schema.proofs.normal.normal_of.Goals as goal

pub returns-clause-same : goal.returns-clause-same
returns-clause-same c =
    let text = c.args.text.now in
    let d = view c.args.value.now in
    IfOk-weaker c.of_string.result _ _ (λ normal same.
    let written : normal ≡ compact_text d = same ∙ search rules in
    let back : read normal ≡ Some d = ap read written ∙ compact_text_reads_back text d c.requires.of_text c.requires.whole in
    let short : length normal ≤ length text =
    subst (λ s. length s ≤ length text) (sym written) (c.compact_texts_are_no_longer.ensures text d c.requires.of_text) in
    same_meaning normal text d back c.requires.of_text (omega arith) c.requires.within) c.of_string.ensures
