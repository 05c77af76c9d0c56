use Rattle.std.proofs.Common.{[], refl, sym, ap}
use Rattle.std.proofs.lemmas.List.Elements.{All-nil}
use Rattle.reg_records.specs.Pieces.{HasNoLineFeed}
use Rattle.reg_adapter.specs.Lines.{Unread}
use Rattle.reg_adapter.proofs.messages.Messages.new.Goals as goal

pub returns : goal.returns
returns c = record {
  lines = [];
  parts = sym (ap (λ (u : Unread). u.bytes) c.new.ensures);
  free = All-nil HasNoLineFeed;
  heard = refl;
  counts = ap (λ (u : Unread). u.count) c.new.ensures;
}
