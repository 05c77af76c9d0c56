use Rattle.std.proofs.Common.{◌≡◌, sym, ap, ◌∙◌, rules}
use Rattle.std.proofs.lemmas.Map.Text.{btree_map_updates_text}
use Rattle.std.specs.Prelude.{string_bytes, bytes_eq}
use Rattle.reg_entries.proofs.Topmost.{other_text}
use Rattle.reg_entries.proofs.tops.leave_room.Goals as goal

pub returns-in_ok-insert-clause-others : goal.returns-in_ok-insert-clause-others
returns-in_ok-insert-clause-others c = λ s apart.
    let key = string_bytes c.in_ok-from_str.field-0 in
    let same : key ≡ c.args.place.now.0 = search rules in
    other_text c.args.tops.now c.insert.new.self key _
    (btree_map_updates_text key c.args.tops.now c.insert.new.self _ c.in_ok-insert.ensures.updates) s
    (ap (λ k. bytes_eq k s) same ∙ apart)
