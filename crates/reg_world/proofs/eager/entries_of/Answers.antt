use Rattle.std.proofs.Common.{Bor, map, sym, ap, subst, ◌∙◌}
use Rattle.reg_alike.specs.reg_entries.declared.entry.Entry.{Entry}
use Rattle.reg_alike.specs.reg_fold.Entries.{entries}
use Rattle.reg_world.proofs.EagerMaps.{AreAlone, are_alone}
use Rattle.reg_world.proofs.eager.entries_of.Goals as goal

pub put_all-requires : goal.put_all-requires
put_all-requires c =
    let all =
    ap (map (λ (e : Bor Entry). e.now)) c.deref.ensures.value ∙ c.in_ok-found.ensures.all ∙ ap entries c.in_ok-registry.ensures.lasts in
    subst AreAlone (sym all) (are_alone c.entries_are_of_places.ensures.stand c.args.log.now)
