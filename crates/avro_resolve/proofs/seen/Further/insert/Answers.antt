use Rattle.avro_resolve.specs.Seen.{in_grid}
use Rattle.avro_resolve.proofs.SeenLaws.{Adds-turned, joined_new, joined_same, joined_other}
use Rattle.avro_resolve.proofs.seen.Further.insert.Goals as goal

pub returns-in-New-clause-new : goal.returns-in-New-clause-new
returns-in-New-clause-new c =
    (joined_new c.args.self.now.first.of.items c.join.new.self.of.items c.args.j c.args.i
    (λ b a. in_grid c.args.self.now.others a b) c.join.result c.join.ensures.known c.join.ensures.firsts c.requires c.in-New.is).is_new

pub returns-in-New-clause-added : goal.returns-in-New-clause-added
returns-in-New-clause-added c =
    Adds-turned c.args.j c.args.i _ _ (
    joined_new c.args.self.now.first.of.items c.join.new.self.of.items c.args.j c.args.i
    (λ b a. in_grid c.args.self.now.others a b) c.join.result c.join.ensures.known c.join.ensures.firsts c.requires c.in-New.is).added

pub returns-in-New-clause-fair : goal.returns-in-New-clause-fair
returns-in-New-clause-fair c =
    (joined_new c.args.self.now.first.of.items c.join.new.self.of.items c.args.j c.args.i
    (λ b a. in_grid c.args.self.now.others a b) c.join.result c.join.ensures.known c.join.ensures.firsts c.requires c.in-New.is).fair

pub returns-in-Same-clause-new : goal.returns-in-Same-clause-new
returns-in-Same-clause-new c =
    (joined_same c.args.self.now.first.of.items c.join.new.self.of.items c.args.j c.args.i
    (λ b a. in_grid c.args.self.now.others a b) c.join.result c.join.ensures.known c.join.ensures.firsts c.requires c.in-Same.is).is_new

pub returns-in-Same-clause-added : goal.returns-in-Same-clause-added
returns-in-Same-clause-added c =
    Adds-turned c.args.j c.args.i _ _ (
    joined_same c.args.self.now.first.of.items c.join.new.self.of.items c.args.j c.args.i (λ b a. in_grid c.args.self.now.others a b)
    c.join.result c.join.ensures.known c.join.ensures.firsts c.requires c.in-Same.is).added

pub returns-in-Same-clause-fair : goal.returns-in-Same-clause-fair
returns-in-Same-clause-fair c =
    (joined_same c.args.self.now.first.of.items c.join.new.self.of.items c.args.j c.args.i
    (λ b a. in_grid c.args.self.now.others a b) c.join.result c.join.ensures.known c.join.ensures.firsts c.requires c.in-Same.is).fair

pub returns-in_ok-insert-in-Other-clause-new : goal.returns-in_ok-insert-in-Other-clause-new
returns-in_ok-insert-in-Other-clause-new c =
    (joined_other c.args.self.now.first.of.items c.join.new.self.of.items c.args.j c.args.i
    (λ b a. in_grid c.args.self.now.others a b) c.join.result c.join.ensures.known c.join.ensures.firsts c.requires c.in-Other.is
    (λ b a. in_grid c.insert.new.self a b) c.in_ok-insert-in-Other.field-0 c.in_ok-insert-in-Other.ensures.new
    (Adds-turned c.args.i c.args.j _ _ c.in_ok-insert-in-Other.ensures.added)).is_new

pub returns-in_ok-insert-in-Other-clause-added : goal.returns-in_ok-insert-in-Other-clause-added
returns-in_ok-insert-in-Other-clause-added c =
    Adds-turned c.args.j c.args.i _ _ (
    joined_other c.args.self.now.first.of.items c.join.new.self.of.items c.args.j c.args.i
    (λ b a. in_grid c.args.self.now.others a b) c.join.result c.join.ensures.known c.join.ensures.firsts c.requires c.in-Other.is
    (λ b a. in_grid c.insert.new.self a b) c.in_ok-insert-in-Other.field-0 c.in_ok-insert-in-Other.ensures.new
    (Adds-turned c.args.i c.args.j _ _ c.in_ok-insert-in-Other.ensures.added)).added

pub returns-in_ok-insert-in-Other-clause-fair : goal.returns-in_ok-insert-in-Other-clause-fair
returns-in_ok-insert-in-Other-clause-fair c =
    (joined_other c.args.self.now.first.of.items c.join.new.self.of.items c.args.j c.args.i
    (λ b a. in_grid c.args.self.now.others a b) c.join.result c.join.ensures.known c.join.ensures.firsts c.requires c.in-Other.is
    (λ b a. in_grid c.insert.new.self a b) c.in_ok-insert-in-Other.field-0 c.in_ok-insert-in-Other.ensures.new
    (Adds-turned c.args.i c.args.j _ _ c.in_ok-insert-in-Other.ensures.added)).fair
