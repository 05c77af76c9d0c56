use Rattle.std.proofs.Common.{◌≡◌, Some, option_copied, sym, ap, ◌∙◌}
use Rattle.reg_entries.specs.declared.entry.Entry.{Entry}
use Rattle.reg_fold.proofs.Keeping.{own_at}
use Rattle.reg_fold.proofs.index.Index.entry_at.Goals as goal

-- entries whose parts are the same
same_entry : (a b : Entry)
    → (a.subject ≡ b.subject) × ((a.version ≡ b.version) × ((a.id ≡ b.id) × ((a.text ≡ b.text) × ((a.normal ≡ b.normal)
    × ((a.offset ≡ b.offset) × (a.soft ≡ b.soft)))))) → a ≡ b
same_entry a b (subject, (version, (id, (text, (normal, (offset, soft)))))) = λ i. record {
  subject = subject i;
  version = version i;
  id = id i;
  text = text i;
  normal = normal i;
  offset = offset i;
  soft = soft i;
}

pub returns-in_ok-clone-in-Some : goal.returns-in_ok-clone-in-Some
returns-in_ok-clone-in-Some c =
    let order = c.records_are_ordered.ensures in
    ap Some (same_entry c.in_ok-clone-in-Some.field-0 c.in-Some.entry.now c.in_ok-clone-in-Some.ensures.cases)
    ∙ sym (ap option_copied c.in-Some.is)
    ∙ c.at.ensures
    ∙ own_at c.args.self.now c.requires.kept order.all order.apart c.is_compact.ensures
    c.args.place.now c.args.given.now c.requires.of_key c.requires.last

pub returns-in-None : goal.returns-in-None
returns-in-None c =
    let order = c.records_are_ordered.ensures in
    sym (ap option_copied c.in-None.is)
    ∙ c.at.ensures
    ∙ own_at c.args.self.now c.requires.kept order.all order.apart c.is_compact.ensures
    c.args.place.now c.args.given.now c.requires.of_key c.requires.last
