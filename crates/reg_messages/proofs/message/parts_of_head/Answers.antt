use Rattle.reg_messages.proofs.FrontsRead.{gets-head, text-method, text-target}
use Rattle.reg_messages.proofs.message.parts_of_head.Goals as goal

pub text_at-method-requires-clause-within : goal.text_at-method-requires-clause-within
text_at-method-requires-clause-within c = let (h, is, says) = c.requires.said in says.method_within

pub text_at-method-requires-clause-text : goal.text_at-method-requires-clause-text
text_at-method-requires-clause-text c = let (h, is, says) = c.requires.said in text-method c.args.bytes.now c.args.read.now h is says

pub text_at-target-requires-clause-within : goal.text_at-target-requires-clause-within
text_at-target-requires-clause-within c = let (h, is, says) = c.requires.said in says.target_within

pub text_at-target-requires-clause-text : goal.text_at-target-requires-clause-text
text_at-target-requires-clause-text c = let (h, is, says) = c.requires.said in text-target c.args.bytes.now c.args.read.now h is says

pub returns : goal.returns
returns c = λ text front.
    let (h, is, says) = c.requires.said in
    gets-head text c.args.bytes.now c.args.after.now c.args.read.now h c.new.result _ _ c.unwrap_or.result _ front is says
    c.text_at-method.ensures c.text_at-target.ensures c.unwrap_or.ensures c.body_in-body.ensures c.new.ensures
