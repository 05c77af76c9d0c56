-- A list that is found just where a test says so.
use Rattle.std.proofs.Common.{◌≡◌, Bool, true, false, cond, Option, Some, None, Result, Ok, Err, IfOk, MatchOption, refl}

settled : {A : Type 0} (b : Bool) (x : A) (o : Option A) → o ≡ cond b (Some x) None → MatchOption o (b ≡ false) (λ y. (y ≡ x) × (b ≡ true))
settled true x (Some y) e = (cc, refl)
settled true x None e = cc
settled false x (Some y) e = cc
settled false x None e = refl

pub listed_once : {A E : Type 0} (b : Bool) (x : A) (r : Result (Option A) E)
    → IfOk r (λ o. o ≡ cond b (Some x) None) → IfOk r (λ o. MatchOption o (b ≡ false) (λ y. (y ≡ x) × (b ≡ true)))
listed_once b x (Ok o) h = settled b x o h
listed_once b x (Err e) h = h
