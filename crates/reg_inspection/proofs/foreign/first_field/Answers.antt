use Rattle.std.proofs.Common.{◌≡◌, ◌<◌, ◌∙◌, Some, List, ℕ, length, ap, sym, arith}
use Rattle.std.proofs.lemmas.List.Splits.{slice_split_first, slice_split_none}
use Rattle.std.proofs.lemmas.List.Sums.{fails_before_first}
use Rattle.std.proofs.lemmas.Str.Pattern.{split_once_first}
use Rattle.std.specs.List.{after_first, before_first, position_or_len, slice_get}
use Rattle.reg_fold.specs.reg_records.Line.{is_tab}
use Rattle.reg_inspection.proofs.foreign.first_field.Goals as goal

pub returns-in-Some : goal.returns-in-Some
returns-in-Some c =
    let text = c.args.text.now in
    let at : (position_or_len is_tab text < length text) × (c.in-Some.field.now ≡ before_first is_tab text)
    × (c.in-Some.field-0-1.now ≡ after_first is_tab text) =
    rw c.in-Some.is at (split_once_first 9 text c.split_once.result c.split_once.ensures.cases (omega arith)) in
    ap (λ (l : List (List ℕ)). slice_get l 0) (slice_split_first is_tab text 0 at.0) ∙ ap Some (sym at.1)

pub returns-in-None : goal.returns-in-None
returns-in-None c =
    let text = c.args.text.now in
    let none : position_or_len is_tab text ≡ length text =
    rw c.in-None.is at (split_once_first 9 text c.split_once.result c.split_once.ensures.cases (omega arith)) in
    ap (λ (l : List (List ℕ)). slice_get l 0)
    (slice_split_none is_tab text (λ k d below. fails_before_first is_tab text k d (omega (arith, none, below))))
