use Rattle.std.proofs.Common.{◌≡◌, ◌+◌, ℕ, Option, Some, length, sym, ap, subst, ◌∙◌}
use Rattle.reg_records.specs.declared.record.Read.{Read}
use Rattle.reg_compaction.specs.Walk.{Steps}
use Rattle.reg_compaction.proofs.Walked.{line_of, of_pairs}
use Rattle.reg_compaction.proofs.walk.Walk.take_front.Goals as goal

pub returns-in_default-clause-taken : goal.returns-in_default-clause-taken
returns-in_default-clause-taken c f =
    absurd (c.in_default.not-Some _ (c.in_ok-len.ensures.line f.line f.behind f.read f.parts f.free f.says))

pub returns-clause-taken : goal.returns-clause-taken
returns-clause-taken c f =
    let is : ◌≡◌ {A = Option (ℕ × Read)} (Some (c.in-Some.len, c.in-Some.read)) (Some (length f.line + 1, f.read)) =
    sym c.in-Some.is ∙ c.in_ok-len.ensures.line f.line f.behind f.read f.parts f.free f.says in
    let parts = of_pairs c.in-Some.len (length f.line + 1) c.in-Some.read f.read is in (
      ap Some parts.0,
      subst (λ (r : Read). Steps c.args.top f.line r c.args.self.now c.take_line.new.self) parts.1
          (c.in_ok-take_line.ensures f.line (line_of f.line f.behind c.args.text.now c.in-Some.len f.parts parts.0)),
    )
