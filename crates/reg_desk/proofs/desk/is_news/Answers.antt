use Rattle.std.proofs.Common.{◌≡◌, ◌<◌, Bool, true, false, List, MatchBool, Option, Some, length, not, rules, subst, sym}
use mathlib.Core.List.{IsPrefix}
use Rattle.reg_topic.specs.declared.published.Item.{Item}
use Rattle.reg_desk.specs.Desk.{front_of}
use Rattle.reg_desk.proofs.Learnt.{nothing_begins}
use Rattle.reg_desk.proofs.desk.is_news.Goals as goal

pub returns-in-None : goal.returns-in-None
returns-in-None g c = nothing_begins c.args.known.now c.args.told.now c.in-None.is

-- what was told begins what is known, or goes beyond it
goes_beyond : (begins : Bool) (known : Option (List Item)) (front told : List Item) → known ≡ Some front
    → MatchBool begins (IsPrefix told front) ((length front < length told) × IsPrefix front told)
    → MatchBool (not begins) (IsPrefix (front_of known) told) (IsPrefix told (front_of known))
goes_beyond true known front told is h = subst (λ (k : Option (List Item)). IsPrefix told (front_of k)) (sym is) h
goes_beyond false known front told is h = subst (λ (k : Option (List Item)). IsPrefix (front_of k) told) (sym is) h.1

pub returns-in-Some : goal.returns-in-Some
returns-in-Some g c = goes_beyond c.begins.result c.args.known.now _ c.args.told.now (search rules) c.begins.ensures
