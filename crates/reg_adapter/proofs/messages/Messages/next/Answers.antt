use Rattle.reg_adapter.proofs.messages.Messages.next.Goals as goal

pub lines-smaller : goal.lines-smaller
lines-smaller c = rw c.in-Within.is at c.in_ok-told.ensures.less
