-- The labels of a bucket, of which the last one is its bound.
use Rattle.std.proofs.Common.{◌≡◌, ◌++◌, ◌∷◌, [], ℕ, List, true, refl, sym, ap, ◌∙◌}
use Rattle.std.specs.Prelude.{codes, flat_map}
use Rattle.std.proofs.lemmas.List.{append_assoc, append-nil}
use Rattle.exposition.specs.declared.label.LabelPair.{LabelPair}
use Rattle.exposition.specs.Escapes.{escaped}
use Rattle.exposition.specs.Lines.{label_text, labels_text}
use Rattle.exposition.specs.Page.{bound_label}

-- with a comma before each, or behind each but the last
more_last : {X : Type 0} (f : X → List ℕ) (ms : List X) (l : X) (rest : List ℕ)
    → flat_map (λ x. 44 ∷ f x) (ms ++ (l ∷ [])) ++ rest ≡ 44 ∷ (flat_map (λ x. f x ++ (44 ∷ [])) ms ++ (f l ++ rest))
more_last f [] l rest = ap (λ t. 44 ∷ (t ++ rest)) (append-nil (f l))
more_last f (m ∷ ms) l rest =
    ap (λ t. 44 ∷ t) (append_assoc (f m) (flat_map (λ x. 44 ∷ f x) (ms ++ (l ∷ []))) rest
    ∙ ap (λ t. f m ++ t) (more_last f ms l rest)
    ∙ sym (append_assoc (f m ++ (44 ∷ [])) (flat_map (λ x. f x ++ (44 ∷ [])) ms) (f l ++ rest)
    ∙ append_assoc (f m) (44 ∷ []) (flat_map (λ x. f x ++ (44 ∷ [])) ms ++ (f l ++ rest))))

labels_last : (ms : List LabelPair) (l : LabelPair)
    → labels_text (ms ++ (l ∷ [])) ≡ codes "{" ++ (flat_map (λ x. label_text x ++ (44 ∷ [])) ms ++ (label_text l ++ codes "}"))
labels_last [] l = refl
labels_last (m ∷ ms) l =
    ap (λ t. 123 ∷ t) (ap (λ t. label_text m ++ t) (more_last label_text ms l (codes "}"))
    ∙ sym (append_assoc (label_text m ++ (44 ∷ [])) (flat_map (λ x. label_text x ++ (44 ∷ [])) ms) (label_text l ++ codes "}")
    ∙ append_assoc (label_text m) (44 ∷ []) (flat_map (λ x. label_text x ++ (44 ∷ [])) ms ++ (label_text l ++ codes "}"))))

pub bucket_labels_text : (ms : List LabelPair) (bound : List ℕ)
    → labels_text (ms ++ (bound_label bound ∷ []))
    ≡ codes "{" ++ (flat_map (λ x. label_text x ++ (44 ∷ [])) ms ++ (codes "le=\"" ++ (escaped true bound ++ codes "\"}")))
bucket_labels_text ms bound =
    labels_last ms (bound_label bound)
    ∙ ap (λ t. codes "{" ++ (flat_map (λ x. label_text x ++ (44 ∷ [])) ms ++ (codes "le=\"" ++ t)))
    (append_assoc (escaped true bound) (codes "\"") (codes "}"))
