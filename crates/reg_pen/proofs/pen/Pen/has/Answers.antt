use Rattle.std.proofs.Common.{◌≡◌, ◌<◌, Bool, true, false, List, MatchBool, Option, Some, length, rules, subst, sym}
use Rattle.std.specs.Borrow.{Bor}
use mathlib.Core.List.{IsPrefix}
use Rattle.reg_topic.specs.declared.published.Item.{Item}
use Rattle.reg_pen.specs.Pen.{IsAhead, IsBehind}
use Rattle.reg_pen.proofs.pen.Pen.has.Goals as goal

-- what was seen begins what was told, or goes beyond it
begun : (is : Bool) (since : Option (Bor (List Item))) (seen : Bor (List Item)) (told published : List Item)
    → since ≡ Some seen → told ≡ published
    → MatchBool is (IsPrefix seen.now told) ((length told < length seen.now) × IsPrefix told seen.now)
    → MatchBool is (IsBehind since published) (IsAhead since published)
begun true since seen told published here same begins =
    subst (λ (s : Option (Bor (List Item))). IsBehind s published) (sym here) (subst (λ (l : List Item). IsPrefix seen.now l) same begins)
begun false since seen told published here same begins =
    subst (λ (s : Option (Bor (List Item))). IsAhead s published) (sym here)
    (subst (λ (l : List Item). length l < length seen.now) same begins.0)

pub returns-in-Some : goal.returns-in-Some
returns-in-Some g c =
    begun c.begins-in-Some.result c.args.since c.in-Some.since c.tell.result c.args.self.now.published c.in-Some.is
    (search rules) c.begins-in-Some.ensures
