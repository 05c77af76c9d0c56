use Rattle.std.proofs.Common.{◌≡◌, take, map}
use Rattle.reg_view.proofs.against.are_texts_of.Given as goal

abbrev pub invariant-loop-place : goal.invariant-loop-place
invariant-loop-place l = take l.place l.olds ≡ take l.place (map (λ e. (e.now.version, e.now.text)) l.entries)
