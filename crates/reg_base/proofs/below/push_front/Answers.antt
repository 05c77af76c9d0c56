use Rattle.std.proofs.Common.{◌≡◌, ◌+◌, ◌++◌, ◌∷◌, [], ℕ, Bool, true, false, List, Option, Some, cond, append-nil, length, sym, ap, ◌∙◌}
use Rattle.reg_journal.specs.Lines.{text_of}
use Rattle.reg_fold.specs.reg_records.declared.record.Read.{Read}
use Rattle.reg_base.specs.Base.{is_below, lines_below}
use Rattle.reg_base.proofs.Lines.{line_of, of_pairs}
use Rattle.reg_base.proofs.below.push_front.Goals.{then-is_below+in_ok-extend_from_slice, else-is_below}
use Rattle.reg_base.proofs.below.push_front.Goals as goal

pub returns-in_default-clause-pushed : goal.returns-in_default-clause-pushed
returns-in_default-clause-pushed c f =
    absurd (c.in_default.not-Some _ (c.in_ok-len.ensures.line f.line f.behind f.read f.parts f.free f.says))

at_line : (b : Bool) (is : Bool) (line : List ℕ) → is ≡ b → text_of (cond is (line ∷ []) []) ≡ text_of (cond b (line ∷ []) [])
at_line b is line same = ap (λ (x : Bool). text_of (cond x (line ∷ []) [])) same

pub returns-clause-pushed : goal.returns-clause-pushed
returns-clause-pushed c f =
    let is : ◌≡◌ {A = Option (ℕ × Read)} (Some (c.in-Some.len, c.in-Some.read)) (Some (length f.line + 1, f.read)) =
    sym c.in-Some.is ∙ c.in_ok-len.ensures.line f.line f.behind f.read f.parts f.free f.says in
    let parts = of_pairs c.in-Some.len (length f.line + 1) c.in-Some.read f.read is in
    let old = c.args.part.now.items in
    let line = line_of f.line f.behind c.args.text.now c.in-Some.len f.parts parts.0 in
    let told : c.is_below.result ≡ is_below c.args.below f.read = c.is_below.ensures ∙ ap (is_below c.args.below) parts.1 in
    let added : c.if-is_below.part.items ≡ old ++ text_of (lines_below c.args.below (f.line ∷ []) (f.read ∷ [])) =
    elim c.if-is_below.branch as (λ _. c.if-is_below.part.items ≡ old ++ text_of (lines_below c.args.below (f.line ∷ []) (f.read ∷ []))) [
      | then-is_below+in_ok-extend_from_slice w ↦
          ap (λ v. v.items) w.part-is
          ∙ w.in_ok-extend_from_slice.ensures.items
          ∙ ap (λ (l : List ℕ). old ++ l) (line ∙ at_line (is_below c.args.below f.read) true f.line (sym w.if-is_below.true ∙ told))
      | else-is_below w ↦
          ap (λ v. v.items) w.part-is
          ∙ sym (append-nil old)
          ∙ ap (λ (l : List ℕ). old ++ l) (at_line (is_below c.args.below f.read) false f.line (sym w.if-is_below.false ∙ told))
    ] in (ap Some parts.0, added)
