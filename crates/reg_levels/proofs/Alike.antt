-- Lists of which one is made from the other, place by place.
use Rattle.std.proofs.Common.{◌≡◌, ℕ, ◌+◌, ◌<◌, List, length, map, get_or, take, sym, ◌∙◌, arith}
use Rattle.std.proofs.lemmas.List.{take_more_same, get_or-map, length-map}

pub alike_more : {X Y : Type 0} (ys : List Y) (xs : List X) (f : X → Y) (i : ℕ) (y : Y) (x : X) → i < length ys → length ys ≡ length xs
    → y ≡ get_or ys i y → y ≡ f (get_or xs i x) → take i ys ≡ take i (map f xs) → take (i + 1) ys ≡ take (i + 1) (map f xs)
alike_more ys xs f i y x within same_length at same before =
    let n = length-map xs f in
    take_more_same ys (map f xs) i y within (omega arith) before (sym at ∙ same ∙ sym (get_or-map f xs i x y (omega arith)))
