use Rattle.std.proofs.Common.{sym, subst}
use Rattle.reg_fold.specs.Entries.{covered_in}
use Rattle.reg_fold.specs.Opaque.{is_opaque}
use Rattle.reg_fold.specs.Own.{AreOwnEntries}
use Rattle.reg_fold.specs.Spots.{Forgets}
use Rattle.reg_fold.proofs.Own.{own-put, own_some}
use Rattle.reg_fold.proofs.Keeping.{IsKept-version}
use Rattle.reg_fold.proofs.Spotted.{readable, spots-forgotten}
use Rattle.reg_fold.proofs.index.Index.put_entry.Goals as goal

pub returns : goal.returns
returns c =
    let old = c.args.self.now in
    let kept = c.requires.news.kept in
    let after = c.put_with.new.lasts in
    let r = c.args.given.now in
    let place = c.args.place in
    let e = c.args.entry in
    let last = c.in_ok-before.ensures in
    record {
      kept = IsKept-version old kept after r last.step place c.requires.of_key _
          (subst (AreOwnEntries after) (sym last.put)
          (own-put old.last after r last.step old.entries kept.all_entries place c.requires.of_key e c.requires.gives))
          _
          (spots-forgotten is_opaque old.last after r last.step place c.requires.of_key c.in_ok-before.before last.before old.unread
          kept.all_unread (readable old.last r (covered_in old.last e) (own_some old.last r e c.requires.gives)) c.forget.new.spots
          (subst (λ o. Forgets o old.unread c.forget.new.spots) c.spot_of-spot.ensures c.forget.ensures));
      added = last.added;
      refused = tt;
    }
