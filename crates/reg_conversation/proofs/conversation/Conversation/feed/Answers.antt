use Rattle.reg_conversation.proofs.Needs.{known-fed}
use Rattle.reg_conversation.proofs.conversation.Conversation.feed.Goals as goal

pub invariant_of-self : goal.invariant_of-self
invariant_of-self c =
    known-fed c.self.inside.front c.self.inside.held.items c.extend_from_slice.new.self.items
    c.args.bytes.now _ c.extend_from_slice.ensures.items c.self.invariant
