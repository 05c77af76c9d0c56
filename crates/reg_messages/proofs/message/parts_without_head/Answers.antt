use Rattle.std.proofs.Common.{None, inl, sym}
use Rattle.reg_messages.specs.Head.{front_of}
use Rattle.reg_messages.proofs.FrontsRead.{is-over, lacks-cut, never-over}
use Rattle.reg_messages.proofs.message.parts_without_head.Goals as goal

pub returns-then-are_skipped : goal.returns-then-are_skipped
returns-then-are_skipped c = (None, is-over c.args.bytes.now (sym c.if-are_skipped.ensures))

pub returns-else-are_skipped : goal.returns-else-are_skipped
returns-else-are_skipped c =
    let text = c.args.bytes.now in
    (None, inl (lacks-cut (front_of text) c.requires.lacks (never-over text (sym c.if-are_skipped.ensures))))
