-- A list of numbers, in pieces.
use Rattle.std.proofs.Common.{◌≡◌, ◌++◌, ◌∷◌, ◌∙◌, [], List, ℕ, map, true, refl, sym, ap}
use Rattle.std.specs.Prelude.{codes, decimal}
use Rattle.std.proofs.lemmas.List.{append_assoc}
use Rattle.serde_json.specs.View.{items_of}
use Rattle.serde_json.specs.Written.{items_text}
use Rattle.reg_lookup.specs.Bodies.{list_body, number_data}
use Rattle.reg_responses.specs.Pieces.{listed, listed_more}

items_text-listed_more : (ns : List ℕ) → items_text true (items_of (map number_data ns)) ≡ listed_more ns ++ codes "]"
items_text-listed_more [] = refl
items_text-listed_more (n ∷ ns) =
    ap (λ rest. 44 ∷ (decimal n ++ rest)) (items_text-listed_more ns)
    ∙ sym (ap (λ rest. 44 ∷ rest) (append_assoc (decimal n) (listed_more ns) (codes "]")))

pub list_in_pieces : (versions : List ℕ) → codes "[" ++ (listed versions ++ codes "]") ≡ list_body number_data versions
list_in_pieces [] = refl
list_in_pieces (n ∷ ns) =
    ap (λ rest. 91 ∷ rest)
    (append_assoc (decimal n) (listed_more ns) (codes "]") ∙ ap (λ rest. decimal n ++ rest) (sym (items_text-listed_more ns)))
