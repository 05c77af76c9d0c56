use Rattle.std.proofs.Common.{◌≡◌, ◌<◌, ◌∙◌, [], ◌∷◌, List, ℕ, length, refl, ap, sym, arith}
use Rattle.std.proofs.lemmas.List.Splits.{slice_split_first, slice_split_none}
use Rattle.std.proofs.lemmas.List.Sums.{fails_before_first}
use Rattle.std.proofs.lemmas.Str.Pattern.{split_once_first}
use Rattle.std.specs.List.{after_first, before_first, position_or_len, slice_get, slice_split}
use Rattle.reg_fold.specs.reg_records.Line.{is_tab}
use Rattle.reg_inspection.proofs.foreign.key_in.Goals as goal

second : (x : List ℕ) (xs : List (List ℕ)) → slice_get xs 0 ≡ slice_get (x ∷ xs) 1
second x [] = refl
second x (y ∷ ys) = refl

pub returns-in-Some : goal.returns-in-Some
returns-in-Some c =
    let line = c.args.line.now in
    let at : (position_or_len is_tab line < length line) × (c.in-Some.field-0-0.now ≡ before_first is_tab line)
    × (c.in-Some.rest.now ≡ after_first is_tab line) =
    rw c.in-Some.is at (split_once_first 9 line c.split_once.result c.split_once.ensures.cases (omega arith)) in
    sym c.first_field.ensures
    ∙ ap (λ (r : List ℕ). slice_get (slice_split is_tab r) 0) at.2
    ∙ second (before_first is_tab line) (slice_split is_tab (after_first is_tab line))
    ∙ ap (λ (l : List (List ℕ)). slice_get l 1) (sym (slice_split_first is_tab line 0 at.0))

pub returns-in-None : goal.returns-in-None
returns-in-None c =
    let line = c.args.line.now in
    let none : position_or_len is_tab line ≡ length line =
    rw c.in-None.is at (split_once_first 9 line c.split_once.result c.split_once.ensures.cases (omega arith)) in
    ap (λ (l : List (List ℕ)). slice_get l 1)
    (sym (slice_split_none is_tab line (λ k d below. fails_before_first is_tab line k d (omega (arith, none, below)))))
