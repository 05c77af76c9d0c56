use Rattle.std.proofs.Common.{◌∙◌, ◌++◌, ap, refl}
use Rattle.std.specs.Option.{option_to_list}
use Rattle.avro_resolve.specs.declared.worklist.Worklist.{Worklist}
use Rattle.avro_resolve.proofs.Worklists.{takes_waits, takes_orderly}
use Rattle.avro_resolve.proofs.worklist.Worklist.take_up.Goals as goal

pub words-preserved : goal.words-preserved
words-preserved c =
    let now : Worklist = record {
      met = c.words.self.met;
      waiting = c.take_word-self.new.self;
      places = c.pop.new.self;
      bits = c.take_word-self.result;
      place = c.in-Some.place;
    } in
    let places = c.pop.ensures.items ∙ ap (λ o. c.pop.new.self.items ++ option_to_list o) c.in-Some.is in
    let word = c.take_word-self.ensures in
    record {
      waits = λ k.
          takes_waits c.words.self now c.in-Some.place c.words.invariant.orderly c.words-test.true refl places refl word.word word.words k
          ∙ c.words.invariant.waits k;
      met = c.words.invariant.met;
      orderly =
          takes_orderly c.words.self now c.in-Some.place c.words.invariant.orderly c.words-test.true refl places refl word.word word.words;
    }
