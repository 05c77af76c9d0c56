use Rattle.reg_fold.proofs.index.Index.apply_version.Goals as goal

pub put_unread-requires-clause-has_text : goal.put_unread-requires-clause-has_text
put_unread-requires-clause-has_text c = cc
