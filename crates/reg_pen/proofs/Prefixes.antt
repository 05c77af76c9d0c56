-- Beginnings of lists.
use Rattle.std.proofs.Common.{◌≡◌, List, [], ◌++◌, Option, Some, None, sym, ap, ◌∙◌, append_assoc, Bor}
use Rattle.std.proofs.lemmas.List.{append-nil}
use mathlib.Core.List.{IsPrefix}
use Rattle.reg_topic.specs.declared.published.Item.{Item}
use Rattle.reg_pen.specs.Pen.{IsBehind}

pub prefix_self : {A : Type 0} (xs : List A) → IsPrefix xs xs
prefix_self xs = ([], append-nil xs)

pub prefix_trans : {A : Type 0} (xs ys zs : List A) → IsPrefix xs ys → IsPrefix ys zs → IsPrefix xs zs
prefix_trans xs ys zs p q = (p.0 ++ q.0, sym (append_assoc xs p.0 q.0) ∙ (ap (λ w. w ++ q.0) p.1 ∙ q.1))

pub grown : {A : Type 0} (xs ys zs : List A) → zs ≡ xs ++ ys → IsPrefix xs zs
grown xs ys zs e = (ys, sym e)

-- what began with a front goes on to
pub since_still : (o : Option (Bor (List Item))) (is js : List Item) → IsBehind o is → IsPrefix is js → IsBehind o js
since_still (Some s) is js h p = prefix_trans s.now is js h p
since_still None is js h p = tt
