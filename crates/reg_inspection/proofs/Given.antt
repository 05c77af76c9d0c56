-- What some items give, item by item.
use Rattle.std.proofs.Common.{◌≡◌, ◌+◌, ◌<◌, ℕ, Bool, not, ◌||◌, List, [], ◌∷◌, ◌++◌, length, get_or, map}
use Rattle.std.proofs.Common.{take, Option, Some, None, Bor, bytes_eq, refl, sym, ap, subst, ◌∙◌}
use Rattle.std.proofs.lemmas.List.{take_more}
use Rattle.std.proofs.lemmas.List.Elements.{filter_map-append}
use Rattle.std.specs.List.{cons_option, filter_map, list_any, slice_get}
use Rattle.std.specs.Option.{option_to_list}
use Rattle.reg_fold.specs.reg_entries.declared.entry.Entry.{Entry}
use Rattle.reg_inspection.specs.Shared.{are_apart}
use Rattle.reg_inspection.proofs.Apart.{apart_from_first}

given_one : {X Y : Type 0} (f : X → Option Y) (x : X) (o : Option Y) → f x ≡ o → filter_map f (x ∷ []) ≡ option_to_list (f x)
given_one f x None is = ap (λ o. cons_option o []) is ∙ ap option_to_list (sym is)
given_one f x (Some y) is = ap (λ o. cons_option o []) is ∙ ap option_to_list (sym is)

-- one more item
pub given_more : {X Y : Type 0} (f : X → Option Y) (xs : List X) (i : ℕ) (x : X) → i < length xs
    → x ≡ get_or xs i x → filter_map f (take i xs) ++ option_to_list (f x) ≡ filter_map f (take (i + 1) xs)
given_more {X} f xs i x within at =
    ap (λ l. filter_map f (take i xs) ++ l) (sym (given_one f x (f x) refl))
    ∙ sym (filter_map-append f (take i xs) (x ∷ []))
    ∙ ap (filter_map f) (ap (λ (y : X). take i xs ++ y ∷ []) at ∙ sym (take_more xs i x within))

any_lent : (p : Entry → Bool) (es : List (Bor Entry)) → list_any (λ e. p e.now) es ≡ list_any p (map (λ e. e.now) es)
any_lent p [] = refl
any_lent p (e ∷ es) = ap (λ b. p e.now || b) (any_lent p es)

-- whether an entry differs from the first
pub apart_is : (es : List (Bor Entry)) (f : Bor Entry) → Some f ≡ slice_get es 0
    → list_any (λ e. not (bytes_eq e.now.normal f.now.normal)) es ≡ are_apart (map (λ e. e.now) es)
apart_is [] f h = absurd (cc)
apart_is (e ∷ es) f h =
    let same : f ≡ e = cc in
    any_lent (λ e. not (bytes_eq e.normal f.now.normal)) (e ∷ es)
    ∙ subst
    (λ (g : Bor Entry).
    list_any (λ (x : Entry). not (bytes_eq x.normal g.now.normal)) (e.now ∷ map (λ e. e.now) es)
    ≡ are_apart (e.now ∷ map (λ e. e.now) es))
    (sym same) (apart_from_first e.now (map (λ e. e.now) es))
