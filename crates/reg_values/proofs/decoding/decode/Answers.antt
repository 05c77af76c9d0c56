use Rattle.std.proofs.Common.{◌≡◌, Some, rules}
use Rattle.reg_values.specs.Value.{value_of, value_of_text}
use Rattle.reg_values.proofs.WithNormal.{value_of-text, value_in-decoded, normal_in-decoded}
use Rattle.reg_values.proofs.decoding.decode.Goals as goal

pub returns-in-Some-clause-value : goal.returns-in-Some-clause-value
returns-in-Some-clause-value c =
    let given = c.args.given.now in
    let text = c.in-Some.text in
    let valued : given.value ≡ Some text = search rules in
    value_in-decoded c.decode_text.result (value_of_text given.key text)
    (value_of given) c.decode_text.ensures (value_of-text given text valued)

pub returns-in-Some-clause-normal : goal.returns-in-Some-clause-normal
returns-in-Some-clause-normal c =
    normal_in-decoded c.decode_text.result (value_of_text c.args.given.now.key c.in-Some.text) c.decode_text.ensures
