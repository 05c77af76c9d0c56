use Rattle.std.proofs.Common.{◌≡◌, ◌<◌, false, true, List, [], ◌∷◌, length, refl, ◌∙◌, arith}
use Rattle.std.proofs.lemmas.Bool.{false≢true}
use Rattle.reg_fold.specs.Spots.{Spot}
use Rattle.reg_fold.proofs.Least.{opaque-least, opaque-none}
use Rattle.reg_fold.proofs.index.Index.opaque.Goals as goal

no_spot : (spots : List Spot) → (0 < length spots → false ≡ true) → spots ≡ []
no_spot [] none = refl
no_spot (s ∷ ss) none = absurd (false≢true (none (omega arith)))

pub returns-in_err-first : goal.returns-in_err-first
returns-in_err-first c =
    let order = c.records_are_ordered.ensures in
    let unread = c.args.self.now.unread in
    c.from_residual.ensures
    ∙ opaque-none order.all order.apart c.last_is_greatest.ensures.greatest c.args.self.now.last
    c.is_compact.ensures unread c.requires.all_unread (no_spot unread.keys c.in_err-first.ensures.variant.1)

pub returns : goal.returns
returns c =
    let order = c.records_are_ordered.ensures in
    let unread = c.args.self.now.unread in
    let least = c.in_ok-first.ensures in
    opaque-least order.all order.apart c.last_is_greatest.ensures.greatest c.args.self.now.last
    c.is_compact.ensures unread c.requires.all_unread c.in_ok-first.first.now least.member least.least
