use Rattle.std.proofs.Common.{sym, arith}
use Rattle.std.proofs.lemmas.List.{length-take-le, take_all}
use Rattle.reg_messages.specs.declared.limits.TheConstants.{HEAD_LIMIT}
use Rattle.reg_connection.proofs.turn_kinds.within_limit.Goals as goal

pub slice_bounds-result-end : goal.slice_bounds-result-end
slice_bounds-result-end c = sym (length-take-le HEAD_LIMIT c.args.bytes.now (omega arith))

pub returns-else-bytes-gt-HEAD_LIMIT : goal.returns-else-bytes-gt-HEAD_LIMIT
returns-else-bytes-gt-HEAD_LIMIT c = sym (take_all HEAD_LIMIT c.args.bytes.now (omega arith))
