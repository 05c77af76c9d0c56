use Rattle.std.proofs.Common.{◌≡◌, Some, subst, ap, sym, ◌∙◌}
use Rattle.reg_values.specs.reg_records.declared.key.Key.TheVariants as keys
use Rattle.reg_fold.specs.Opaque.{is_opaque, is_version}
use Rattle.reg_fold.specs.Own.{AreOwnEntries}
use Rattle.reg_fold.proofs.Own.{own-removed}
use Rattle.reg_fold.proofs.Keeping.{IsKept-version}
use Rattle.reg_fold.proofs.Spotted.{spots-forgotten, without_text}
use Rattle.reg_fold.proofs.Tombstones.{gives_none, has_last, has_no_value, is_of_version}
use Rattle.reg_fold.proofs.index.Index.bury_news.Goals as goal

pub put_over-before-requires-clause-there : goal.put_over-before-requires-clause-there
put_over-before-requires-clause-there c = has_last c.args.self.now.last c.args.given c.requires.tombstone

pub place_in-place-requires : goal.place_in-place-requires
place_in-place-requires c =
    ap is_version c.put_over-before.ensures.of_key ∙ is_of_version c.args.self.now.last c.args.given c.requires.tombstone

pub returns-clause-kept : goal.returns-clause-kept
returns-clause-kept c =
    let old = c.args.self.now in
    let kept = c.requires.news.kept in
    let after = c.put_over-before.new.lasts in
    let r = c.args.given in
    let place = c.place_in-place.result in
    let last = c.put_over-before.ensures in
    let of_key : r.key ≡ keys.Schema place.0 place.1 = sym last.of_key ∙ c.place_in-place.ensures in
    IsKept-version old kept after r last.step place of_key _
    (subst (AreOwnEntries after) (sym c.remove.ensures)
    (own-removed old.last after r last.step old.entries kept.all_entries place of_key (gives_none old.last r c.requires.tombstone)))
    _
    (spots-forgotten is_opaque old.last after r last.step place of_key (Some c.put_over-before.result) (sym last.before) old.unread
    kept.all_unread (without_text r (has_no_value old.last r c.requires.tombstone)) c.forget.new.spots c.forget.ensures)
