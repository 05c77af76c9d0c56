use Rattle.std.proofs.Common.{◌≡◌}
use Rattle.std.specs.List.{list_any}
use Rattle.form_urlencoded.specs.Parse.{pairs_left}
use Rattle.reg_routes.specs.Query.{has_switch, switches}
use Rattle.reg_routes.proofs.switch.has_switch.Given as goal

-- no pair so far is the switch
abbrev pub invariant-loop-pair : goal.invariant-loop-pair
invariant-loop-pair l =
    (goal.iterator-loop-pair).can_next l.pair-iterator
    × (goal.iterator-loop-pair).is_finite l.pair-iterator
    × (has_switch l.name l.query ≡ list_any (switches l.name) (pairs_left l.pair-iterator))
