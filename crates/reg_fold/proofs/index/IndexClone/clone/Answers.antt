use Rattle.std.proofs.Common.{refl}
use Rattle.reg_fold.specs.declared.index.Index.{Index}
use Rattle.reg_fold.proofs.Keeping.{IsKept-same, spots-copied}
use Rattle.reg_fold.proofs.index.IndexClone.clone.Goals as goal

pub returns : goal.returns
returns c =
    let old = c.args.self.now in
    let copy : Index = record {
      alloc = old.alloc;
      last = c.in_ok-clone.field-0;
      entries = c.in_ok-clone-2.field-0;
      unread = c.in_ok-clone-3.field-0;
      deletes = c.in_ok-clone-4.field-0;
      levels = c.in_ok-clone-5.field-0;
      modes = c.in_ok-clone-6.field-0;
      id_mark = old.id_mark;
    } in
    record {
      cases = (
        c.in_ok-clone.ensures.cases,
        IsKept-same old copy c.in_ok-clone.ensures.cases c.in_ok-clone-2.ensures.cases
            (spots-copied old.unread.keys copy.unread.keys c.in_ok-clone-3.ensures.cases)
            (c.in_ok-clone-4.ensures.cases (λ a b same. same))
            (c.in_ok-clone-5.ensures.cases (λ a b same. same))
            (c.in_ok-clone-6.ensures.cases (λ a b same. same)) refl,
      );
    }
