-- A loop that keeps the entry of greatest version of those that it has seen and that count.
use Rattle.std.proofs.Common.{◌≡◌, ℕ, ◌+◌, ◌<◌, Bool, true, false, cond, List, [], ◌∷◌, ◌++◌}
use Rattle.std.proofs.Common.{length, get_or, map, take, Some, refl, sym, ap, ◌∙◌, arith}
use Rattle.std.specs.List.{filter, reduce}
use Rattle.std.specs.Option.{option_map_or}
use Rattle.std.proofs.lemmas.List.Elements.{filter_more}
use Rattle.std.proofs.lemmas.List.Sums.{fold_push}
use Rattle.std.proofs.lemmas.List.{append-nil, get_or-map, length-map}
use Rattle.reg_modes.specs.reg_entries.declared.entry.Entry.{Entry}
use Rattle.reg_rules.specs.Better.{better}
use Rattle.reg_modes.specs.reg_entries.Sought.{newest}

reduce_push : {A : Type 0} (f : A → A → A) (xs : List A) (x : A)
    → reduce f (xs ++ x ∷ []) ≡ Some (option_map_or (λ a. f a x) (reduce f xs) x)
reduce_push f [] x = refl
reduce_push f (y ∷ ys) x = ap Some (fold_push f y ys x)

newest_push : (es : List Entry) (b : Bool) (x : Entry) → newest (es ++ cond b (x ∷ []) []) ≡ better b x (newest es)
newest_push es true x = reduce_push _ es x
newest_push es false x = ap newest (append-nil es)

pub newest_more : (p : Entry → Bool) (xs : List Entry) (i : ℕ) (x : Entry) → i < length xs
    → x ≡ get_or xs i x → newest (filter p (take (i + 1) xs)) ≡ better (p x) x (newest (filter p (take i xs)))
newest_more p xs i x within at =
    ap newest (filter_more p xs i x within)
    ∙ (λ j. newest (filter p (take i xs) ++ cond (p (sym at j)) (sym at j ∷ []) []))
    ∙ newest_push (filter p (take i xs)) (p x) x

-- the same of entries that are lent
pub newest_more_of : {R : Type 0} (now : R → Entry) (p : Entry → Bool) (xs : List R) (i : ℕ) (x : R) → i < length xs → x ≡ get_or xs i x
    → newest (filter p (take (i + 1) (map now xs))) ≡ better (p (now x)) (now x) (newest (filter p (take i (map now xs))))
newest_more_of now p xs i x within at =
    let n = length-map xs now in
    newest_more p (map now xs) i (now x) (omega (arith, within, n)) (ap now at ∙ sym (get_or-map now xs i x (now x) within))
