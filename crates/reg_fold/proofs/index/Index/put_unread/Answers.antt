use Rattle.std.proofs.Common.{sym, subst, true, ℕ, List}
use Rattle.std.specs.BTreeSet.{Updates}
use Rattle.reg_fold.specs.Opaque.{is_opaque}
use Rattle.reg_fold.specs.Own.{AreOwnEntries}
use Rattle.reg_fold.specs.Spots.{Forgets, elsewhere, spot_cmp}
use Rattle.reg_fold.proofs.Own.{own-removed, own_none}
use Rattle.reg_fold.proofs.Keeping.{IsKept-version}
use Rattle.reg_fold.proofs.Spotted.{spots-put, unreadable}
use Rattle.reg_fold.proofs.index.Index.put_unread.Goals as goal

pub returns : goal.returns
returns c =
    let old = c.args.self.now in
    let kept = c.requires.news.kept in
    let after = c.put_last.new.lasts in
    let r = c.args.given.now in
    let place = c.args.place in
    let last = c.in_ok-before.ensures in
    let put : Updates spot_cmp old.unread c.insert.new.self (r.offset, place) true =
    subst (λ (s : List ℕ). Updates spot_cmp old.unread c.insert.new.self (r.offset, (s, place.1)) true)
    c.in_ok-clone.ensures.cases c.in_default.ensures.updates in
    record {
      kept = IsKept-version old kept after r last.step place c.requires.of_key _
          (subst (AreOwnEntries after) (sym c.remove.ensures)
          (own-removed old.last after r last.step old.entries kept.all_entries place c.requires.of_key c.requires.gives))
          _
          (spots-put is_opaque old.last after r last.step place c.requires.of_key
          c.in_ok-before.before last.before old.unread kept.all_unread
          (unreadable old.last r place c.requires.of_key c.requires.has_text (own_none old.last r c.requires.gives))
          c.insert.new.self c.forget_elsewhere.new.spots put
          (subst (λ o. Forgets (elsewhere o r.offset) c.insert.new.self c.forget_elsewhere.new.spots)
          c.spot_of-spot.ensures c.forget_elsewhere.ensures));
      added = last.added;
      refused = tt;
    }
