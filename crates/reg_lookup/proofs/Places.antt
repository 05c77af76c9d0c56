-- Of the entries of an id those that count.
use Rattle.std.proofs.Common.{◌≡◌, ◌==◌, ◌∙◌, List, [], ◌∷◌, ℕ, Bool, true, false, cond, Bor, Ok, map, refl, sym, ap, length}
use Rattle.std.specs.List.{filter}
use Rattle.reg_modes.specs.reg_entries.Sought.{counts}
use Rattle.reg_modes.specs.reg_entries.declared.entry.Entry.{Entry}
use Rattle.reg_lookup.specs.Bodies.{list_body, place_data}
use Rattle.reg_lookup.specs.ById.{places_among}

-- what is kept of items is kept of what stands for them
map_filter : {X Y : Type 0} (f : X → Y) (p : Y → Bool) (xs : List X) → map f (filter (λ x. p (f x)) xs) ≡ filter p (map f xs)
map_filter f p [] = refl
map_filter f p (x ∷ xs) =
    let rest = map_filter f p xs in
    elim (p (f x)) as (λ b.
    map f (cond b (x ∷ filter (λ x. p (f x)) xs) (filter (λ x. p (f x)) xs))
    ≡ cond b (f x ∷ filter p (map f xs)) (filter p (map f xs))) [
      | true ↦ ap (λ ys. f x ∷ ys) rest
      | false ↦ rest
    ]

-- the entries are behind references; some were found, and those that count were kept
pub places_among-kept : (found kept : List (Bor Entry)) (deleted : Bool) (body : List ℕ)
    → (length found == 0) ≡ false → kept ≡ filter (λ e. counts deleted e.now) found
    → body ≡ list_body place_data (map (λ e. e.now) kept) → places_among (map (λ e. e.now) found) deleted ≡ Ok body
places_among-kept [] kept deleted body some kept_is body_is = absurd cc
places_among-kept (x ∷ xs) kept deleted body some kept_is body_is =
    let same = ap (map (λ e. e.now)) kept_is ∙ map_filter (λ e. e.now) (counts deleted) (x ∷ xs) in
    sym (ap Ok (body_is ∙ ap (list_body place_data) same))
