use Rattle.std.proofs.Common.{◌≡◌, is_none, take}
use Rattle.std.specs.FinSet as set
use Rattle.std.specs.List.{filter}
use Rattle.reg_fold.specs.GiveAlike.{GiveAlike}
use Rattle.reg_fold.proofs.registry.Registry.forget_all.Given as goal

abbrev pub invariant-loop-record : goal.invariant-loop-record
invariant-loop-record l = record {
  left : l.self ≡ set.difference l.fn.self (set.from_list (filter (λ r. is_none r.value) (take l.record-index l.given)));
  alike : GiveAlike l.fn.self l.self;
}
