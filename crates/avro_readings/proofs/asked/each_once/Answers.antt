use Rattle.std.proofs.Common.{◌≡◌, eqb, rules, ap, ◌∙◌}
use Rattle.std.specs.List.{list_all}
use Rattle.std.proofs.lemmas.List.Filters.{dedup_is}
use Rattle.avro_readings.proofs.ReadableLaws.{each_once}
use Rattle.avro_readings.proofs.asked.each_once.Goals as goal

pub returns : goal.returns
returns c = λ test.
    let same : c.in_ok-found.found.items ≡ c.args.numbers.now = search rules in
    ap (list_all test) (dedup_is eqb c.sort_unstable.new.self.items c.dedup.new.self.items c.dedup.ensures.filtered)
    ∙ each_once test c.in_ok-found.found.items c.sort_unstable.new.self.items c.sort_unstable.ensures.permutation
    ∙ ap (list_all test) same
