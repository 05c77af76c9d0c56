use Rattle.std.proofs.Common.{rules, ◌≡◌, ◌∷◌, [], ◌++◌, true, false, inl, inr, refl}
use Rattle.reg_topic.specs.declared.published.Item.TheVariants as items
use Rattle.reg_pen.specs.declared.keep.Kept.TheVariants.{Taken, Lost}
use Rattle.reg_pen.proofs.pen.Pen.lend.Goals as goal

pub returns-in-Lost-clause-lent : goal.returns-in-Lost-clause-lent
returns-in-Lost-clause-lent g c =
    let s = c.args.self.now in
    let lent : g.K.Keep.keeps s.keep c.args.commit.batch Lost c.keep.new.self = search rules in
    let after : c.hold.new.self
    ≡ record { published = s.published; pending = items.Commit c.args.commit ∷ []; lost = true; keep = c.keep.new.self } =
    search rules in
    (Lost, c.keep.new.self, lent, (refl, after))

pub returns-then-not-settle-clause-lent : goal.returns-then-not-settle-clause-lent
returns-then-not-settle-clause-lent g c =
    let s = c.args.self.now in
    let lent : g.K.Keep.keeps s.keep c.args.commit.batch Taken c.keep.new.self = search rules in
    let after : c.settle.new.self
    ≡ record { published = s.published; pending = items.Commit c.args.commit ∷ []; lost = false; keep = c.keep.new.self } =
    search rules in
    (Taken, c.keep.new.self, lent, inr (refl, after))

pub returns-else-not-settle-clause-lent : goal.returns-else-not-settle-clause-lent
returns-else-not-settle-clause-lent g c =
    let s = c.args.self.now in
    let lent : g.K.Keep.keeps s.keep c.args.commit.batch Taken c.keep.new.self = search rules in
    let after : c.settle.new.self
    ≡ record { published = s.published ++ items.Commit c.args.commit ∷ []; pending = []; lost = false; keep = c.keep.new.self } =
    search rules in
    (Taken, c.keep.new.self, lent, inl (refl, after))
