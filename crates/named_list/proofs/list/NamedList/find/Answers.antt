use Rattle.std.proofs.Common.{option_and_then, bytes_eq, ap, sym, ◌∙◌}
use Rattle.std.specs.List.{slice_get}
use Rattle.named_list.proofs.Places.{find-position}
use Rattle.named_list.proofs.list.NamedList.find.Goals as goal

pub returns-in-Some : goal.returns-in-Some
returns-in-Some g c =
    let items = c.args.self.now in
    let is_named = λ (item : g.row.T.Denot). bytes_eq (g.T.Named.name item) c.args.name.now in
    c.item_at.ensures ∙ ap (λ xs. slice_get xs c.in-Some.place) (c.as_slice.ensures.value ∙ c.self.view_is)
    ∙ sym (find-position is_named items ∙ ap (option_and_then (slice_get items)) (sym c.place_of.ensures ∙ c.in-Some.is))

pub returns-in-None : goal.returns-in-None
returns-in-None g c =
    let items = c.args.self.now in
    let is_named = λ (item : g.row.T.Denot). bytes_eq (g.T.Named.name item) c.args.name.now in
    sym (find-position is_named items ∙ ap (option_and_then (slice_get items)) (sym c.place_of.ensures ∙ c.in-None.is))
