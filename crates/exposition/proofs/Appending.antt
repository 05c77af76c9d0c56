-- A loop's step: what is appended, and what is known of what was read.
use Rattle.std.proofs.Common.{◌≡◌, ◌<◌, ◌+◌, ◌^◌, ◌++◌, ◌∷◌, [], ℕ, List, get_or, length, map, take, sym, ap, subst, ◌∙◌, arith}
use Rattle.std.specs.Prelude.{All, IsTrue, codes, flat_map, sum}
use Rattle.std.proofs.lemmas.Grind.{flat_map-append}
use Rattle.std.proofs.lemmas.List.{append_assoc, append-nil, map_more, take_more}
use Rattle.exposition.specs.declared.label.LabelPair.{LabelPair}
use Rattle.exposition.specs.Lawful.{IsSeries, IsShort, have_names}
use Rattle.exposition.specs.Lines.{Line, line_text, lines_text}
use Rattle.exposition.specs.Measured.{Measured, rises}

-- one line more
line_more : (lines : List Line) (l : Line) → lines_text (lines ++ (l ∷ [])) ≡ lines_text lines ++ (line_text l ++ codes "\n")
line_more lines l =
    flat_map-append (λ line. line_text line ++ codes "\n") lines (l ∷ [])
    ∙ ap (λ t. lines_text lines ++ t) (append-nil (line_text l ++ codes "\n"))

pub mapped_more : {X : Type 0} (g : X → Line) (xs : List X) (i : ℕ) (x : X) (old now after : List ℕ) → i < length xs → x ≡ get_or xs i x
    → now ≡ old ++ lines_text (map g (take i xs)) → after ≡ now ++ (line_text (g x) ++ codes "\n")
    → after ≡ old ++ lines_text (map g (take (i + 1) xs))
mapped_more g xs i x old now after here is before more =
    let whole = map_more g xs i x here ∙ ap (λ l. map g (take i xs) ++ (l ∷ [])) (sym (ap g is)) in
    more
    ∙ ap (λ t. t ++ (line_text (g x) ++ codes "\n")) before
    ∙ append_assoc old (lines_text (map g (take i xs))) (line_text (g x) ++ codes "\n")
    ∙ ap (λ t. old ++ t) (sym (ap lines_text whole ∙ line_more (map g (take i xs)) (g x)))

pub joined_more : {X : Type 0} (f : X → List Line) (xs : List X) (i : ℕ) (x : X) (old now after : List ℕ) → i < length xs
    → x ≡ get_or xs i x → now ≡ old ++ lines_text (flat_map f (take i xs)) → after ≡ now ++ lines_text (f x)
    → after ≡ old ++ lines_text (flat_map f (take (i + 1) xs))
joined_more f xs i x old now after here is before more =
    let whole = ap (flat_map f) (take_more xs i x here)
    ∙ flat_map-append f (take i xs) (get_or xs i x ∷ [])
    ∙ ap (λ t. flat_map f (take i xs) ++ t) (append-nil (f (get_or xs i x)) ∙ sym (ap f is)) in
    more
    ∙ ap (λ t. t ++ lines_text (f x)) before
    ∙ append_assoc old (lines_text (flat_map f (take i xs))) (lines_text (f x))
    ∙ ap (λ t. old ++ t) (sym (ap lines_text whole
    ∙ flat_map-append (λ line. line_text line ++ codes "\n") (flat_map f (take i xs)) (f x)))

pub series_is : (s : Measured) (labels : List LabelPair) (bounds counts : List ℕ) (all total : ℕ) → labels ≡ s.labels → bounds ≡ s.bounds
    → counts ≡ s.counts → all ≡ s.sum → IsTrue (rises s.bounds) → length s.counts ≡ length s.bounds + 1 → All IsShort bounds
    → total ≡ sum counts → total < 2 ^ 128 → IsTrue (have_names labels) × IsShort all → IsSeries s
series_is s labels bounds counts all total of_labels of_bounds of_counts of_sum rising counted short is_total below names =
    let same : total ≡ sum s.counts = is_total ∙ ap sum of_counts in
    record {
      labels = subst (λ ls. IsTrue (have_names ls)) of_labels names.0;
      rising = rising;
      counted = counted;
      bounds = subst (All IsShort) of_bounds short;
      count = omega arith;
      sum = subst IsShort of_sum names.1;
    }
