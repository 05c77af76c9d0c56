use Rattle.std.proofs.Common.{◌≡◌, ◌++◌, drop, false}
use Rattle.json.specs.Tree.{json_tokens, items_tokens, members_tokens}
use Rattle.serde_json.specs.Data.{array, object}
use Rattle.serde_json.specs.Written.{outline, items_outline, members_outline, items_have_float, members_have_float}
use Rattle.json_tree.specs.View.{items_view, members_view}
use Rattle.json_tree.proofs.write.+write.Given as goal

-- the tokens of the items that are left are what is missing
abbrev pub invariant-write_items-loop-item : goal.invariant-write_items-loop-item
invariant-write_items-loop-item l =
    let left = items_view (drop l.item-index l.items) in
    record {
      whole : items_have_float left ≡ false;
      before : l.out.before ≡ l.fn.out.before;
      tokens : l.out.tokens ++ items_tokens (items_outline left) ≡ l.fn.out.tokens ++ json_tokens (outline (array (items_view l.items)));
    }

abbrev pub invariant-write_members-loop-member : goal.invariant-write_members-loop-member
invariant-write_members-loop-member l =
    let left = members_view (drop l.member-index l.members) in
    record {
      whole : members_have_float left ≡ false;
      before : l.out.before ≡ l.fn.out.before;
      tokens : l.out.tokens ++ members_tokens (members_outline left)
          ≡ l.fn.out.tokens ++ json_tokens (outline (object (members_view l.members)));
    }
