use Rattle.std.proofs.Common.{◌≡◌, ◌+◌, ◌++◌, ◌∷◌, [], ℕ, List, Option, Ok, Some, length, sym, ap, ◌∙◌}
use Rattle.reg_fold.specs.reg_records.Line.{reading}
use Rattle.reg_fold.specs.reg_records.declared.record.Read.{Read}
use Rattle.reg_inspection.specs.Foreign.{foreign_keytypes}
use Rattle.reg_inspection.proofs.Lines.{line_of, of_pairs}
use Rattle.reg_inspection.proofs.foreign.push_front.Goals as goal

pub returns-in_default-clause-pushed : goal.returns-in_default-clause-pushed
returns-in_default-clause-pushed c f =
    absurd (c.in_default.not-Some _ (c.in_ok-len.ensures.line f.line f.behind f.read f.parts f.free f.says))

pub returns-clause-pushed : goal.returns-clause-pushed
returns-clause-pushed c f =
    let is : ◌≡◌ {A = Option (ℕ × Read)} (Some (c.in-Some.len, c.in-Some.read)) (Some (length f.line + 1, f.read)) =
    sym c.in-Some.is ∙ c.in_ok-len.ensures.line f.line f.behind f.read f.parts f.free f.says in
    let parts = of_pairs c.in-Some.len (length f.line + 1) c.in-Some.read f.read is in
    let line = line_of f.line f.behind c.args.text.now c.in-Some.len f.parts parts.0 in (
      ap Some parts.0,
      c.in_ok-push_keytype.ensures (ap reading line ∙ f.says ∙ ap Ok (sym parts.1))
          ∙ ap (λ (l : List ℕ). c.args.found.now.items ++ foreign_keytypes (l ∷ [])) line,
    )
