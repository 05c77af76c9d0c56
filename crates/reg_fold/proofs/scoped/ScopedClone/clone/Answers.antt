use Rattle.std.proofs.Common.{◌≡◌, Some, None}
use Rattle.reg_fold.specs.Scopes.{kept_own}
use Rattle.reg_fold.specs.declared.scoped.Scoped.{Scoped}
use Rattle.reg_fold.proofs.Owned.{lookup-copied, option-copied}
use Rattle.reg_fold.proofs.scoped.ScopedClone.clone.Goals as goal

pub returns : goal.returns
returns g c =
    let owns = c.args.self.now in
    let copy : Scoped g.row.T.Denot = record { of_all = c.in_ok-clone.field-0; of_subjects = c.in_ok-clone-2.field-0 } in
    record {
      cases = λ same q.
          elim q as (λ q. kept_own copy q ≡ kept_own owns q) [
            | None ↦ option-copied g.T.Clone.is_clone same owns.of_all copy.of_all c.in_ok-clone.ensures.cases
            | Some s ↦ lookup-copied g.T.Clone.is_clone same s owns.of_subjects.entries
                copy.of_subjects.entries c.in_ok-clone-2.ensures.cases
          ];
    }
