use Rattle.std.proofs.Common.{◌≡◌, ◌||◌, nat_le, take, map}
use Rattle.reg_world.proofs.eager.flags_of.Given as goal

abbrev pub invariant-loop-entry : goal.invariant-loop-entry
invariant-loop-entry l =
    l.flags.items
    ≡ map (λ e. record { version = e.version; soft = e.soft || nat_le e.version l.greatest })
    (map (λ e. e.now) (take l.entry-index l.entries))
