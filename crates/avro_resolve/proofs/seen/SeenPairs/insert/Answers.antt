use Rattle.avro_resolve.specs.Seen.{are_further}
use Rattle.avro_resolve.proofs.SeenLaws.{joined_new, joined_same, joined_other}
use Rattle.avro_resolve.proofs.seen.SeenPairs.insert.Goals as goal

pub returns-in-New-clause-new : goal.returns-in-New-clause-new
returns-in-New-clause-new c =
    (joined_new c.args.self.now.first.of.items c.join.new.self.of.items c.args.pair.reader.index c.args.pair.writer.index
    (are_further c.args.self.now.further) c.join.result c.join.ensures.known c.join.ensures.firsts c.requires.first c.in-New.is).is_new

pub returns-in-New-clause-seen : goal.returns-in-New-clause-seen
returns-in-New-clause-seen c =
    λ p.
    (joined_new c.args.self.now.first.of.items c.join.new.self.of.items c.args.pair.reader.index c.args.pair.writer.index
    (are_further c.args.self.now.further) c.join.result c.join.ensures.known
    c.join.ensures.firsts c.requires.first c.in-New.is).added
    p.reader.index p.writer.index

pub returns-in-New-clause-fair : goal.returns-in-New-clause-fair
returns-in-New-clause-fair c = record {
  first =
      (joined_new c.args.self.now.first.of.items c.join.new.self.of.items c.args.pair.reader.index c.args.pair.writer.index
      (are_further c.args.self.now.further) c.join.result c.join.ensures.known c.join.ensures.firsts c.requires.first c.in-New.is).fair;
  further = c.requires.further;
}

pub returns-in-Same-clause-new : goal.returns-in-Same-clause-new
returns-in-Same-clause-new c =
    (joined_same c.args.self.now.first.of.items c.join.new.self.of.items c.args.pair.reader.index c.args.pair.writer.index
    (are_further c.args.self.now.further) c.join.result c.join.ensures.known c.join.ensures.firsts c.requires.first c.in-Same.is).is_new

pub returns-in-Same-clause-seen : goal.returns-in-Same-clause-seen
returns-in-Same-clause-seen c =
    λ p. (joined_same c.args.self.now.first.of.items c.join.new.self.of.items c.args.pair.reader.index c.args.pair.writer.index
    (are_further c.args.self.now.further) c.join.result c.join.ensures.known c.join.ensures.firsts c.requires.first c.in-Same.is).added
    p.reader.index p.writer.index

pub returns-in-Same-clause-fair : goal.returns-in-Same-clause-fair
returns-in-Same-clause-fair c = record {
  first = (
      joined_same c.args.self.now.first.of.items c.join.new.self.of.items c.args.pair.reader.index c.args.pair.writer.index
      (are_further c.args.self.now.further) c.join.result c.join.ensures.known c.join.ensures.firsts c.requires.first c.in-Same.is).fair;
  further = c.requires.further;
}

pub returns-in_ok-insert_further-in-Other-clause-new : goal.returns-in_ok-insert_further-in-Other-clause-new
returns-in_ok-insert_further-in-Other-clause-new c =
    (joined_other c.args.self.now.first.of.items c.join.new.self.of.items c.args.pair.reader.index c.args.pair.writer.index
    (are_further c.args.self.now.further) c.join.result c.join.ensures.known c.join.ensures.firsts c.requires.first c.in-Other.is
    (are_further c.insert_further.new.further) c.in_ok-insert_further-in-Other.field-0
    c.in_ok-insert_further-in-Other.ensures.new c.in_ok-insert_further-in-Other.ensures.added).is_new

pub returns-in_ok-insert_further-in-Other-clause-seen : goal.returns-in_ok-insert_further-in-Other-clause-seen
returns-in_ok-insert_further-in-Other-clause-seen c =
    λ p.
    (joined_other c.args.self.now.first.of.items c.join.new.self.of.items c.args.pair.reader.index c.args.pair.writer.index
    (are_further c.args.self.now.further) c.join.result c.join.ensures.known c.join.ensures.firsts c.requires.first c.in-Other.is
    (are_further c.insert_further.new.further) c.in_ok-insert_further-in-Other.field-0
    c.in_ok-insert_further-in-Other.ensures.new c.in_ok-insert_further-in-Other.ensures.added).added
    p.reader.index p.writer.index

pub returns-in_ok-insert_further-in-Other-clause-fair : goal.returns-in_ok-insert_further-in-Other-clause-fair
returns-in_ok-insert_further-in-Other-clause-fair c = record {
  first =
      (joined_other c.args.self.now.first.of.items c.join.new.self.of.items c.args.pair.reader.index c.args.pair.writer.index
      (are_further c.args.self.now.further) c.join.result c.join.ensures.known c.join.ensures.firsts c.requires.first c.in-Other.is
      (are_further c.insert_further.new.further) c.in_ok-insert_further-in-Other.field-0
      c.in_ok-insert_further-in-Other.ensures.new c.in_ok-insert_further-in-Other.ensures.added).fair;
  further = c.in_ok-insert_further-in-Other.ensures.fair;
}
