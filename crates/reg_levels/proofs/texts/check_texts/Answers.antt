use Rattle.std.proofs.Common.{◌≡◌, map, ap, sym, subst, ◌∙◌}
use Rattle.reg_levels.specs.RequiredPairs.{HasRisingVersions, Version}
use Rattle.reg_levels.specs.Texts.{VersionText, nodes_in, versions_in}
use Rattle.reg_levels.proofs.Rising.{rising-map, rising-unmap}
use Rattle.reg_levels.proofs.texts.check_texts.Goals as goal

-- the versions that are checked are those of the texts
pub check-requires : goal.check-requires
check-requires c =
    let same : map {B = Version} (λ old. (old.0, old.1.now.nodes)) c.in_ok-versions.versions.items
    ≡ versions_in (map {B = VersionText} (λ old. (old.0, old.1.now)) c.args.olds.now) =
    c.in_ok-versions.ensures
    ∙ ap (map {B = Version} (λ old. (old.0, old.1.nodes))) c.deref.ensures.value
    ∙ c.in_ok-schemas.ensures.versions in
    subst HasRisingVersions (sym c.deref-2.ensures.value)
    (rising-unmap c.in_ok-versions.versions.items (λ schema. schema.now.nodes)
    (subst HasRisingVersions (sym same)
    (rising-map (map {B = VersionText} (λ old. (old.0, old.1.now)) c.args.olds.now) nodes_in
    (rising-map c.args.olds.now (λ text. text.now) c.requires))))
