use Rattle.std.proofs.lemmas.Result.{err_from_is_err_and}
use Rattle.reg_records.proofs.Logs.{BeginsLog-line, IsFirstRefusal-line}
use Rattle.reg_records.proofs.log_reader.begin.Goals as goal

pub returns-in_err-read_numbered-in-None-clause-refused : goal.returns-in_err-read_numbered-in-None-clause-refused
returns-in_err-read_numbered-in-None-clause-refused c = λ bytes held.
    let p = err_from_is_err_and c.from_residual.result c.from_residual.ensures.1 in
    rw (p.1, p.2) (IsFirstRefusal-line bytes _ (c.in-None.ensures bytes held) (c.in_err-read_numbered-in-None.ensures.refused bytes held))

pub returns-in_ok-add-in-None-clause-said : goal.returns-in_ok-add-in-None-clause-said
returns-in_ok-add-in-None-clause-said c = λ bytes held.
    let (within, says) = c.in_ok-read_numbered-in-None.ensures.read bytes held in
    BeginsLog-line bytes c.args.log.now c.in_ok-read_numbered-in-None.field-0 c.add.new.self
    (c.in-None.ensures bytes held) c.requires c.in_ok-add-in-None.ensures says
