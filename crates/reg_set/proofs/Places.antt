-- Where a record stands among records in order.
use Rattle.std.proofs.Common.{◌≡◌, ℕ, suc, zero, ◌+◌, ◌<◌, Bool, true, false, ◌||◌, List, [], ◌∷◌, ◌++◌}
use Rattle.std.proofs.Common.{length, get_or, take, drop, refl, sym, ap, ◌∙◌, add-one, arith}
use Rattle.std.proofs.lemmas.Bool.{false≢true}
use Rattle.std.proofs.lemmas.Cmp.{tied_itself}
use Rattle.std.proofs.lemmas.List.{take-append-drop, drop_more}
use Rattle.std.proofs.lemmas.List.Folds.{list_any-append}
use Rattle.std.specs.List.{list_any, list_all, insert}
use Rattle.std.specs.Ordering.{eq_by_cmp, is_eq, is_lt}
use Rattle.std.specs.declared.cmp.Ordering.{Ordering}
use Rattle.std.specs.declared.cmp.Ordering.TheVariants.{Less, Equal, Greater}
use Rattle.reg_records.specs.declared.record.Record.{Record}
use Rattle.reg_set.specs.LastRecords.{is_of}
use Rattle.reg_set.specs.RecordOrder.{age_cmp, key_cmp, record_cmp}
use Rattle.reg_set.specs.Records.{is_in_order, placed}
use Rattle.reg_set.proofs.Orders.{age_cmp-of_one_key, key_cmp-total, record_cmp-total, record_cmp-ties}
use Rattle.reg_set.proofs.InOrder.{both, first_of, second_of, less, turned, before_all}
use Rattle.reg_set.proofs.InOrder.{none_of_later, any_placed, is_in_order-placed}
use Rattle.reg_set.proofs.InOrder.{one_order, ties_alike}
use Rattle.reg_set.proofs.Lasts.{at_any, equal, is_of-is}

neither_left : (a b : Bool) → (a || b) ≡ false → a ≡ false
neither_left true b e = absurd (false≢true (sym e))
neither_left false b e = refl

all_at : (p : Record → Bool) (xs : List Record) (i : ℕ) (d : Record) → list_all p xs ≡ true → i < length xs → p (get_or xs i d) ≡ true
all_at p [] i d all h = absurd (omega arith)
all_at p (x ∷ xs) zero d all h = first_of _ _ all
all_at p (x ∷ xs) (suc i) d all h = all_at p xs i d (second_of _ _ all) (omega arith)

-- what stands at a place of records of one key is of that key, so that the ages decide
pub by_age : (r : Record) (xs : List Record) (i : ℕ) (q : Record) → list_all (is_of r.key) xs ≡ true → i < length xs
    → q ≡ get_or xs i q → age_cmp q r ≡ record_cmp q r
by_age r xs i q of_key h here =
    let same : q.key ≡ r.key = ap (λ x. x.key) here ∙ is_of-is r.key (get_or xs i q) (all_at (is_of r.key) xs i q of_key h) in
    age_cmp-of_one_key q r (ap (key_cmp q.key) (sym same) ∙ tied_itself key_cmp-total q.key)

abbrev is_before : Record → Record → Bool
is_before r q = is_lt (record_cmp q r)

before_up_to : (r : Record) (xs : List Record) (i : ℕ) (d : Record) → is_in_order xs ≡ true
    → i < length xs → is_before r (get_or xs i d) ≡ true → list_all (is_before r) (take (suc i) xs) ≡ true
before_up_to r [] i d ordered h one = absurd (omega arith)
before_up_to r (x ∷ xs) zero d ordered h one = both one refl
before_up_to r (x ∷ xs) (suc i) d ordered h one =
    let later = less _ (all_at _ xs i d (first_of _ _ ordered) (omega arith)) in
    let first : is_before r x ≡ true = ap is_lt (record_cmp-total.trans x (get_or xs i d) r later (less _ one)) in
    both first (before_up_to r xs i d (second_of _ _ ordered) (omega arith) one)

-- what stands before a record that stands before r does too
pub front_is_before : (r : Record) (xs : List Record) (i : ℕ) (d : Record) → is_in_order xs ≡ true → i < length xs
    → is_lt (record_cmp (get_or xs i d) r) ≡ true → list_all (λ q. is_lt (record_cmp q r)) (take (i + 1) xs) ≡ true
front_is_before r xs i d ordered h one = rw add-one (before_up_to r xs i d ordered h one)

abbrev is_after : Record → Record → Bool
is_after r q = is_lt (record_cmp r q)

abbrev is_same : Record → Record → Bool
is_same r q = eq_by_cmp record_cmp r q

back_in_order : (front back : List Record) → is_in_order (front ++ back) ≡ true → is_in_order back ≡ true
back_in_order [] back h = h
back_in_order (x ∷ front) back h = back_in_order front back (second_of _ _ h)

all_between : (p : Record → Bool) (front back : List Record) (r : Record)
    → list_all p (front ++ back) ≡ true → p r ≡ true → list_all p (front ++ r ∷ back) ≡ true
all_between p [] back r all one = both one all
all_between p (x ∷ front) back r all one = both (first_of _ _ all) (all_between p front back r (second_of _ _ all) one)

any_between : (p : Record → Bool) (front back : List Record) (r : Record)
    → list_any p (front ++ r ∷ back) ≡ (p r || list_any p (front ++ back))
any_between p [] back r = refl
any_between p (x ∷ front) back r = ap (λ b. p x || b) (any_between p front back r) ∙ swapped (p x) (p r) (list_any p (front ++ back))
  where
    swapped : (a b c : Bool) → (a || (b || c)) ≡ (b || (a || c))
    swapped true true c = refl
    swapped true false c = refl
    swapped false b c = refl

-- a record between those that stand before it and those that stand after it
between_in_order : (front back : List Record) (r : Record) → is_in_order (front ++ back) ≡ true
    → list_all (is_before r) front ≡ true → list_all (is_after r) back ≡ true → is_in_order (front ++ r ∷ back) ≡ true
between_in_order [] back r ordered before after = both after ordered
between_in_order (x ∷ front) back r ordered before after =
    both (all_between (is_after x) front back r (first_of _ _ ordered) (first_of _ _ before))
    (between_in_order front back r (second_of _ _ ordered) (second_of _ _ before) after)

none_before : (r : Record) (front : List Record) → list_all (is_before r) front ≡ true → list_any (is_same r) front ≡ false
none_before r [] h = refl
none_before r (x ∷ front) h =
    let apart : is_same r x ≡ false = ap is_eq (turned x r Less (less _ (first_of _ _ h))) in
    ap (λ b. b || list_any (is_same r) front) apart ∙ none_before r front (second_of _ _ h)

-- what does not stand before r, and is not r, stands after it
after_it : (r q : Record) (o : Ordering) → record_cmp r q ≡ o → is_before r q ≡ false → is_eq o ≡ false → o ≡ Less
after_it r q Less e not_before apart = refl
after_it r q Equal e not_before apart = absurd (false≢true (sym apart))
after_it r q Greater e not_before apart = absurd (false≢true (sym not_before ∙ ap is_lt (turned r q Greater e)))

-- r is among those in order that don't stand before it only where it is the first
first_or_none : (r q : Record) (qs : List Record) → is_in_order (q ∷ qs) ≡ true
    → is_before r q ≡ false → list_any (is_same r) (q ∷ qs) ≡ is_same r q
first_or_none r q qs ordered not_before =
    elim (is_same r q) as (λ b. is_same r q ≡ b → (b || list_any (is_same r) qs) ≡ b) [
      | true ↦ λ _. refl
      | false ↦ λ e.
          let after = after_it r q _ refl not_before e in
          none_of_later r r qs (tied_itself record_cmp-total r) (before_all r q qs after (first_of _ _ ordered))
    ] refl

pub all_after : (r : Record) (back : List Record) → is_in_order back ≡ true
    → list_any (is_before r) back ≡ false → list_any (is_same r) back ≡ false → list_all (is_after r) back ≡ true
all_after r [] ordered not_before apart = refl
all_after r (q ∷ qs) ordered not_before apart =
    let after = after_it r q _ refl (neither_left _ _ not_before) (neither_left _ _ apart) in
    both (ap is_lt after) (before_all r q qs after (first_of _ _ ordered))

-- what stands at a place, and what of a list stands before it and from it on
module _ (r : Record) (rs : List Record) (n : ℕ) where
  parted : take n rs ++ drop n rs ≡ rs
  parted = take-append-drop n rs

  pub rest_in_order : is_in_order rs ≡ true → is_in_order (drop n rs) ≡ true
  rest_in_order ordered = back_in_order (take n rs) (drop n rs) (ap is_in_order parted ∙ ordered)

  -- r is in the list where it is what stands from its place on
  pub any_from_place : list_all (is_before r) (take n rs) ≡ true → list_any (is_same r) rs ≡ list_any (is_same r) (drop n rs)
  any_from_place before =
      ap (list_any (is_same r)) (sym parted)
      ∙ list_any-append (is_same r) (take n rs) (drop n rs)
      ∙ ap (λ b. b || list_any (is_same r) (drop n rs)) (none_before r (take n rs) before)

  pub any_at_place : (q : Record) → n < length rs → q ≡ get_or rs n q → is_in_order rs ≡ true
      → list_any (is_before r) (drop n rs) ≡ false → list_any (is_same r) (drop n rs) ≡ is_same r q
  any_at_place q within here ordered not_before =
      let next : drop n rs ≡ q ∷ drop (n + 1) rs = drop_more rs n q within ∙ ap (λ x. x ∷ drop (n + 1) rs) (sym here) in
      let first = neither_left (is_before r q) _ (sym (ap (list_any (is_before r)) next) ∙ not_before) in
      ap (list_any (is_same r)) next ∙ first_or_none r q (drop (n + 1) rs) (sym (ap is_in_order next) ∙ rest_in_order ordered) first

  pub insert_in_order : is_in_order rs ≡ true → list_all (is_before r) (take n rs) ≡ true
      → list_any (is_before r) (drop n rs) ≡ false → list_any (is_same r) rs ≡ false → is_in_order (insert rs n r) ≡ true
  insert_in_order ordered before not_before apart =
      between_in_order (take n rs) (drop n rs) r (ap is_in_order parted ∙ ordered) before
      (all_after r (drop n rs) (rest_in_order ordered) not_before (sym (any_from_place before) ∙ apart))

  -- inserted at its place, it is placed
  pub insert-placed : is_in_order rs ≡ true → list_all (is_before r) (take n rs) ≡ true
      → list_any (is_before r) (drop n rs) ≡ false → list_any (is_same r) rs ≡ false → insert rs n r ≡ placed r rs
  insert-placed ordered before not_before apart =
      one_order (insert rs n r) (placed r rs) (insert_in_order ordered before not_before apart) (is_in_order-placed r rs ordered) (λ q.
      any_between (is_same q) (take n rs) (drop n rs) r ∙ ap (λ b. is_same q r || b) (ap (list_any (is_same q)) parted)
      ∙ sym (any_placed (is_same q) r rs (ties_alike q r)))

  -- one that is among them stays where it is
  pub placed-there : is_in_order rs ≡ true → list_any (is_same r) rs ≡ true → placed r rs ≡ rs
  placed-there ordered there =
      one_order (placed r rs) rs (is_in_order-placed r rs ordered) ordered (λ q.
      any_placed (is_same q) r rs (ties_alike q r)
      ∙ elim (is_same q r) as (λ b. is_same q r ≡ b → (b || list_any (is_same q) rs) ≡ list_any (is_same q) rs) [
        | true ↦ λ e. sym (ap (λ x. list_any (is_same x) rs) (record_cmp-ties q r (equal _ e)) ∙ there)
        | false ↦ λ _. refl
      ] refl)

-- where all stand before r, so do those from a place on
pub some_from : (p : Record → Bool) (xs : List Record) (n : ℕ) → list_all p xs ≡ true → n < length xs → list_any p (drop n xs) ≡ true
some_from p [] n all h = absurd (omega arith)
some_from p (x ∷ xs) zero all h = ap (λ b. b || list_any p xs) (first_of (p x) _ all)
some_from p (x ∷ xs) (suc n) all h = some_from p xs n (second_of (p x) _ all) (omega arith)

-- a record among them does not stand before itself
pub not_all_before : (r : Record) (rs : List Record) → list_any (is_same r) rs ≡ true → list_all (is_before r) rs ≡ true → ⊥
not_all_before r rs there all = false≢true (ap is_lt (sym (tied_itself record_cmp-total r)) ∙ at_any (is_before r) r rs all there)

-- what does not stand before r has none that does after it
none_after : (r x : Record) (xs : List Record) → list_all (λ q. is_lt (record_cmp x q)) xs ≡ true
    → is_before r x ≡ false → list_any (is_before r) xs ≡ false
none_after r x [] later not_before = refl
none_after r x (q ∷ qs) later not_before =
    let one : is_before r q ≡ false =
    elim (is_before r q) as (λ b. is_before r q ≡ b → b ≡ false) [
      | true ↦ λ e. absurd (false≢true (sym not_before ∙ ap is_lt (record_cmp-total.trans x q r (less _ (first_of _ _ later)) (less _ e))))
      | false ↦ λ _. refl
    ] refl in
    ap (λ b. b || list_any (is_before r) qs) one ∙ none_after r x qs (second_of _ _ later) not_before

-- a record that does not stand before r, and what stands after it
pub none_before_from : (r : Record) (xs : List Record) (i : ℕ) (d : Record) → is_in_order xs ≡ true → i < length xs
    → is_lt (record_cmp (get_or xs i d) r) ≡ false → list_any (λ q. is_lt (record_cmp q r)) (drop i xs) ≡ false
none_before_from r [] i d ordered h one = absurd (omega arith)
none_before_from r (x ∷ xs) zero d ordered h one =
    ap (λ b. b || list_any (is_before r) xs) one ∙ none_after r x xs (first_of _ _ ordered) one
none_before_from r (x ∷ xs) (suc i) d ordered h one = none_before_from r xs i d (second_of _ _ ordered) (omega arith) one
