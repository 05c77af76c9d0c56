-- The tokens of a JSON list that is written item by item.
use Rattle.std.proofs.Common.{◌≡◌, ℕ, ◌+◌, ◌<◌, ◌≤◌, List, [], ◌∷◌, ◌++◌, length, take, map, get_or, refl, sym, ap, ◌∙◌, take_all, append_assoc, append-nil}
use Rattle.std.specs.List.{flat_map}
use Rattle.std.proofs.lemmas.Grind.{flat_map-append}
use Rattle.std.proofs.lemmas.List.{take_more}
use Rattle.json.specs.Print.{print}
use Rattle.json.specs.Token.{Token, begin_array, end_array}
use Rattle.json.specs.Tree.{items_tokens, json_tokens}
use Rattle.json.specs.Written.{Written}
use Rattle.serde_json.specs.Data.{Data, array}
use Rattle.serde_json.specs.View.{items_of}
use Rattle.serde_json.specs.Written.{compact_text, items_outline, outline}
use Rattle.serde_json.proofs.Texts.{print-outline}

-- those of the first n items, after the opening bracket
abbrev pub listed : {X : Type 0} → (X → Data) → List X → ℕ → List Token
listed f xs n = begin_array ∷ flat_map (λ x. json_tokens (outline (f x))) (take n xs)

-- nothing but the first n items is written, and the bracket before them
abbrev pub IsListed : {X : Type 0} → (X → Data) → List X → ℕ → Written → Type 0
IsListed f xs n body = (body.before ≡ []) × (body.tokens ≡ listed f xs n)

pub listed-more : {X : Type 0} (f : X → Data) (xs : List X) (n : ℕ) (d : X) (old new : List Token) → n < length xs
    → old ≡ listed f xs n → new ≡ old ++ json_tokens (outline (f (get_or xs n d))) → new ≡ listed f xs (n + 1)
listed-more {X} f xs n d old new h begun written =
    let tokens : X → List Token = λ x. json_tokens (outline (f x)) in
    let x = get_or xs n d in
    let one =
    ap (flat_map tokens) (take_more xs n d h)
    ∙ flat_map-append tokens (take n xs) (x ∷ [])
    ∙ ap (λ ts. flat_map tokens (take n xs) ++ ts) (append-nil (tokens x)) in
    written ∙ ap (λ ts. ts ++ tokens x) begun ∙ ap (λ ts. begin_array ∷ ts) (sym one)

closed : {X Y : Type 0} (f : Y → Data) (v : X → Y) (xs : List X)
    → flat_map (λ x. json_tokens (outline (f (v x)))) xs ++ end_array ∷ [] ≡ items_tokens (items_outline (items_of (map f (map v xs))))
closed f v [] = refl
closed f v (x ∷ xs) =
    let tokens = json_tokens (outline (f (v x))) in
    append_assoc tokens (flat_map (λ y. json_tokens (outline (f (v y)))) xs) (end_array ∷ []) ∙ ap (λ ts. tokens ++ ts) (closed f v xs)

-- all items, and the closing bracket
pub listed-all : {X Y : Type 0} (f : Y → Data) (v : X → Y) (xs : List X) (n : ℕ) (old new : List Token) → length xs ≤ n
    → old ≡ listed (λ x. f (v x)) xs n → new ≡ old ++ end_array ∷ []
    → print new ≡ compact_text (array (items_of (map f (map v xs))))
listed-all f v xs n old new h begun written =
    let all = ap (λ ys. flat_map (λ x. json_tokens (outline (f (v x)))) ys ++ end_array ∷ []) (take_all n xs h) ∙ closed f v xs in
    ap print (written ∙ ap (λ ts. ts ++ end_array ∷ []) begun ∙ ap (λ ts. begin_array ∷ ts) all)
    ∙ print-outline (array (items_of (map f (map v xs))))
