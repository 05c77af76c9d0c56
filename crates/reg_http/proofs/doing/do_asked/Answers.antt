use Rattle.std.proofs.Common.{inl}
use Rattle.reg_http.proofs.doing.do_asked.Goals as goal

pub returns-in-Query : goal.returns-in-Query
returns-in-Query g c = inl (c.in-Query.query, c.in-Err.field-0, c.in-Query.is, c.in-Err.ensures)
