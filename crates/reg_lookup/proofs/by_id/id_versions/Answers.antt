use Rattle.std.proofs.Common.{◌==◌, ◌∙◌, sym, ap, map}
use Rattle.reg_lookup.specs.Bodies.{list_body, place_data}
use Rattle.reg_lookup.specs.ById.{places_among}
use Rattle.reg_lookup.proofs.Places.{places_among-kept}
use Rattle.reg_lookup.proofs.by_id.id_versions.Goals as goal

pub returns-clause-found : goal.returns-clause-found
returns-clause-found c =
    let some = ap (λ n. n == 0) (sym c.in_ok-found.found.ok.0) ∙ sym c.is_empty.ensures ∙ c.if-is_empty.false in
    let told = c.in_ok-places_body.ensures ∙ ap (λ es. list_body place_data (map (λ e. e.now) es)) c.deref.ensures.value in
    ap (λ es. places_among es c.args.deleted) (sym c.in_ok-found.ensures)
    ∙ places_among-kept c.in_ok-found.found.items _ c.args.deleted _ some c.keep_counting.ensures told
