use Rattle.std.proofs.Common.{Some, option_map, ap, ◌∙◌}
use Rattle.std.specs.FinMap as finmap
use Rattle.std.specs.Option.{option_copied}
use Rattle.reg_entries.specs.Covered.{shown}
use Rattle.reg_entries.proofs.Shown.{shown_named}
use Rattle.reg_entries.proofs.entries.Entries.named.Goals as goal

pub returns-in_err-stored_entry_named : goal.returns-in_err-stored_entry_named
returns-in_err-stored_entry_named c =
    let deletes = c.args.deletes.now in
    ap option_copied c.from_residual.ensures
    ∙ ap (option_map (shown deletes)) c.in_err-stored_entry_named.ensures
    ∙ shown_named deletes c.args.id (finmap.values c.args.self.now)

pub returns : goal.returns
returns c =
    let deletes = c.args.deletes.now in
    ap Some c.shown.ensures
    ∙ ap (option_map (shown deletes)) c.in_ok-stored_entry_named.ensures
    ∙ shown_named deletes c.args.id (finmap.values c.args.self.now)
