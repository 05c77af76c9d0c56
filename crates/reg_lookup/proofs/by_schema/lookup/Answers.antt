use Rattle.std.proofs.Common.{Ok, ap, map, sym, ◌∙◌}
use Rattle.std.proofs.lemmas.List.{length-map}
use Rattle.reg_modes.specs.reg_fold.Entries.{entries}
use Rattle.reg_lookup.proofs.Looked.{looked_found, looked_none}
use Rattle.reg_lookup.proofs.by_schema.lookup.Goals as goal

pub returns-in-Some-latest_with-clause-found : goal.returns-in-Some-latest_with-clause-found
returns-in-Some-latest_with-clause-found c =
    looked_found (entries c.args.registry.now) c.args.subject.now c.args.text.now c.args.deleted c.in-Some.schema c.as_str.result.now
    (sym c.in_ok-schema.ensures ∙ c.in-Some.is) (c.as_str.ensures ∙ c.normal.ensures.text)
    (map (λ e. e.now) c.deref.result.now) c.in-Some-latest_with.entry.now
    (sym c.in_ok-found.ensures.all ∙ ap (map (λ e. e.now)) (sym c.deref.ensures.value))
    c.in-Some-latest_with.ensures
    ∙ ap Ok (sym c.in_ok-entry_body-in-Some-latest_with.ensures)

pub returns-clause-refused : goal.returns-clause-refused
returns-clause-refused c =
    looked_none (entries c.args.registry.now) c.args.subject.now c.args.text.now c.args.deleted c.in-Some.schema c.as_str.result.now
    (sym c.in_ok-schema.ensures ∙ c.in-Some.is) (c.as_str.ensures ∙ c.normal.ensures.text)
    (map (λ e. e.now) c.deref.result.now)
    (sym c.in_ok-found.ensures.all ∙ ap (map (λ e. e.now)) (sym c.deref.ensures.value))
    _ (length-map c.deref.result.now (λ e. e.now) ∙ c.deref.ensures.len) (sym c.is_empty.ensures ∙ c.if-is_empty.false)
    c.in-None.ensures
