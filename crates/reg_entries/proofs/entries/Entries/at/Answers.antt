use Rattle.std.proofs.Common.{Some, sym, ap, ◌∙◌}
use Rattle.std.specs.FinMap as finmap
use Rattle.std.specs.Option.{option_copied}
use Rattle.reg_entries.proofs.Views.{get-view}
use Rattle.reg_entries.proofs.entries.Entries.at.Goals as goal

pub returns-in_err-get : goal.returns-in_err-get
returns-in_err-get c =
    ap option_copied c.from_residual.ensures
    ∙ c.in_err-get.ensures.value
    ∙ sym (get-view c.self.inside.entries c.args.place.now)
    ∙ ap (λ m. finmap.get m c.args.place.now) c.self.view_is

pub returns : goal.returns
returns c =
    ap Some c.own.ensures
    ∙ c.in_ok-get.ensures.value
    ∙ sym (get-view c.self.inside.entries c.args.place.now)
    ∙ ap (λ m. finmap.get m c.args.place.now) c.self.view_is
