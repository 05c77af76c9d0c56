use Rattle.std.proofs.Common.{◌≡◌, ◌∙◌, ◌/◌, ◌%◌, ◌==◌, ◌||◌, ap, sym, rules}
use Rattle.std.specs.Int.{bit_at}
use Rattle.avro_resolve.specs.Seen.{same_numbers, word_at}
use Rattle.avro_resolve.proofs.SeenLaws.{bit_added}
use Rattle.avro_resolve.proofs.grid.Grid.insert.Goals as goal

pub returns-in-Some-clause-added : goal.returns-in-Some-clause-added
returns-in-Some-clause-added c =
    let after = c.get_mut.follows.lender c.with_bit.result in
    let word : c.in-Some.bits.now ≡ word_at c.args.self.now.words c.args.i (c.args.j / 64) = search rules in
    bit_added c.args.i c.args.j c.with_bit.result c.args.self.now.words after c.with_bit.ensures.set
    (λ n apart. c.with_bit.ensures.others n apart ∙ ap (λ w. bit_at w n) word)
    ((c.get_mut.follows.holds c.with_bit.result).3 (search rules)).0

pub returns-in_ok-insert-in-None-clause-added : goal.returns-in_ok-insert-in-None-clause-added
returns-in_ok-insert-in-None-clause-added c = λ k l.
    let old = c.get_mut.follows.lender-at-none in
    let kept : old ≡ c.args.self.now.words = c.get_mut.follows.holds-at-none in
    let empty : 0 ≡ word_at c.args.self.now.words c.args.i (c.args.j / 64) = search rules in
    let word : 0 ≡ word_at old c.args.i (c.args.j / 64) = empty ∙ ap (λ m. word_at m c.args.i (c.args.j / 64)) (sym kept) in
    bit_added c.args.i c.args.j c.with_bit-in-None.result old c.insert.new.self c.with_bit-in-None.ensures.set (λ n apart.
    c.with_bit-in-None.ensures.others n apart ∙ ap (λ w. bit_at w n) word) c.in_ok-insert-in-None.ensures.updates.0 k l
    ∙ ap (λ m. same_numbers c.args.i c.args.j k l || (bit_at (word_at m k (l / 64)) (l % 64) == 1)) kept
