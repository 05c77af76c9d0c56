use Rattle.std.proofs.Common.{◌≡◌, Ok, sym, ap, ◌∙◌, rules}
use Rattle.reg_fold.specs.reg_records.Log.{log_of}
use Rattle.reg_inspection.proofs.inspection.inspected.Goals as goal

pub returns-clause-inspected : goal.returns-clause-inspected
returns-clause-inspected c =
    let found = c.in_ok-log.ensures.read in
    let given : c.new.result.inner ≡ c.args.text = search rules in
    let is : log_of c.args.text.now ≡ Ok found.0 = ap (λ r. log_of r.now) (sym given) ∙ found.1 in (
      found.0,
      is,
      c.in_ok-inspection_of.ensures c.args.text.now found.0.floor found.0.reads found.2 (c.in_ok-foreign.ensures found.0 is found.2),
    )
