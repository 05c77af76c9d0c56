use Rattle.std.proofs.Common.{ℕ, List, Option, subst, sym}
use Rattle.reg_records.specs.Written.{HasLine}
use Rattle.reg_records.specs.declared.key.Key.TheVariants as keys
use Rattle.reg_records.specs.declared.value.Value.TheVariants as values
use Rattle.reg_compaction.proofs.lacking.mark_at.Goals as goal

pub returns-clause-line : goal.returns-clause-line
returns-clause-line c =
    subst (λ (v : Option (List ℕ)). HasLine (record { offset = c.args.offset; key = keys.IdMark; value = v })) (sym c.in_ok-value.ensures)
    (c.values_have_lines.ensures c.args.offset keys.IdMark (values.IdMark c.args.id) c.requires.place tt (c.requires.some, c.requires.within))
