use Rattle.std.proofs.Common.{sym, ◌∙◌}
use Rattle.reg_set.specs.LastRecords.{last_records}
use Rattle.reg_view.proofs.Matters.{matter_is}
use Rattle.reg_view.proofs.view.copy_case.Goals as goal

pub returns-clause-case : goal.returns-clause-case
returns-clause-case g c = (
  c.in-Some.schema,
  sym (sym c.in-Some.is ∙ c.in_ok-schema.ensures),
  matter_is (last_records (g.V.ShowsRegistry.comes_to g.N.FeedName.first c.copy_against.new.reader)) c.of.result c.in_ok-subject.subject
      c.args.subject.now c.in_ok-new_text.new_text c.in-Some.schema.normal_text
      c.in_ok-against.against c.of.ensures c.in_ok-subject.ensures.cases
      (c.in_ok-new_text.ensures.cases ∙ c.normal.ensures.text) c.in_ok-against.ensures.against,
)
