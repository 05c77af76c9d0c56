use Rattle.std.proofs.Common.{◌≡◌, ◌++◌, ◌∷◌, [], cond, List, ℕ, Option, sym, ap, ◌∙◌, append-nil}
use Rattle.reg_fold.specs.reg_records.Log.{is_foreign}
use Rattle.reg_fold.specs.reg_records.declared.record.Read.{Read}
use Rattle.reg_inspection.specs.Foreign.{foreign_keytypes, keytype_in}
use Rattle.reg_inspection.proofs.Lines.{keytype_of_line}
use Rattle.reg_inspection.proofs.foreign.push_keytype.Goals as goal

pub returns-in-Record : goal.returns-in-Record
returns-in-Record c says =
    let found = c.args.found.now.items in
    let line = c.args.line.now in
    let none : foreign_keytypes (line ∷ []) ≡ [] =
    keytype_of_line line c.args.read.now says ∙ ap (λ (r : Read). cond (is_foreign r) (keytype_in line ∷ []) []) c.in-Record.is in
    sym (ap (λ (l : List (Option (List ℕ))). found ++ l) none ∙ append-nil found)

pub returns-in_ok-push-in-Foreign : goal.returns-in_ok-push-in-Foreign
returns-in_ok-push-in-Foreign c says =
    let found = c.args.found.now.items in
    let line = c.args.line.now in
    let one : foreign_keytypes (line ∷ []) ≡ keytype_in line ∷ [] =
    keytype_of_line line c.args.read.now says ∙ ap (λ (r : Read). cond (is_foreign r) (keytype_in line ∷ []) []) c.in-Foreign.is in
    c.in_ok-push-in-Foreign.ensures.items
    ∙ ap (λ (k : Option (List ℕ)). found ++ k ∷ []) (c.in_ok-keytype_in-in-Foreign.ensures c.args.read.now says)
    ∙ ap (λ (l : List (Option (List ℕ))). found ++ l) (sym one)
