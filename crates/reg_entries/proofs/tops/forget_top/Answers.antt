use Rattle.std.proofs.lemmas.Map.Text.{btree_map_updates_text}
use Rattle.std.specs.Prelude.{None}
use Rattle.reg_entries.proofs.Topmost.{at_text, other_text}
use Rattle.reg_entries.proofs.tops.forget_top.Goals as goal

pub returns-clause-gone : goal.returns-clause-gone
returns-clause-gone c =
    let key = c.args.subject.now in
    at_text c.args.tops.now c.remove.new.self key None (
    btree_map_updates_text key c.args.tops.now c.remove.new.self None c.remove.ensures.updates)

pub returns-clause-others : goal.returns-clause-others
returns-clause-others c =
    let key = c.args.subject.now in
    other_text c.args.tops.now c.remove.new.self key None (
    btree_map_updates_text key c.args.tops.now c.remove.new.self None c.remove.ensures.updates)
