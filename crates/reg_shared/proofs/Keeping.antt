-- The kept records: the last ones, and older ones beside them.
use Rattle.std.proofs.Common.{◌≡◌, ℕ, Bool, true, false, cond, ◌&&◌, ◌||◌, not, List, [], ◌∷◌, ◌++◌, refl, sym, ap, ◌∙◌, arith}
use Rattle.std.specs.Bool.{nat_le, nat_lt}
use Rattle.std.proofs.lemmas.Bool.{false≢true, le-leb}
use Rattle.std.specs.Cmp.{IsTotalOrder}
use Rattle.std.specs.FinSet.{contains, from_list, union, IsAntisymmetric, contains-union, same_set}
use Rattle.std.specs.List.{filter, list_all, list_any}
use Rattle.std.specs.Ordering.{eq_by_cmp}
use Rattle.reg_records.specs.declared.record.Record.{Record}
use Rattle.reg_set.specs.LastRecords.{is_last, last_records}
use Rattle.reg_set.specs.RecordOrder.{record_cmp}
use Rattle.reg_set.specs.Records.{Records}
use Rattle.reg_shared.specs.Held.{IsBelow, IsSince}
use Rattle.reg_shared.specs.Kept.{kept_of}
use Rattle.reg_shared.proofs.Members.{filtered, in_lasts, in_list, itself, joined, right}

-- Tests of one record: whether it is among those by offset, kept, a last one, an older one, gone.
found_kept : (b f k : Bool) → (k ≡ true → b ≡ true) → ((b && f) && k) ≡ (k && f)
found_kept true true true h = refl
found_kept true false true h = refl
found_kept false f true h = absurd (false≢true (h refl))
found_kept true true false h = refl
found_kept true false false h = refl
found_kept false f false h = refl

only_lasts : (l t : Bool) → ((l || t) && not (t && not l)) ≡ l
only_lasts true true = refl
only_lasts true false = refl
only_lasts false true = refl
only_lasts false false = refl

may_go_both : (k il l t : Bool) → k ≡ (l || t) → l ≡ (k && il) → (t && not l) ≡ (k && not il)
may_go_both true true true true e f = refl
may_go_both true true true false e f = refl
may_go_both true true false t e f = absurd (false≢true f)
may_go_both true false true t e f = absurd (false≢true (sym f))
may_go_both true false false true e f = refl
may_go_both true false false false e f = absurd (false≢true (sym e))
may_go_both false il true t e f = absurd (false≢true (sym f))
may_go_both false il false true e f = absurd (false≢true e)
may_go_both false il false false e f = refl

gone_stays_gone : (l t g : Bool) → (g ≡ true → l ≡ false) → (l || (t && (not g && not l))) ≡ ((l || t) && not g)
gone_stays_gone true t true h = absurd (false≢true (sym (h refl)))
gone_stays_gone true t false h = refl
gone_stays_gone false true true h = refl
gone_stays_gone false true false h = refl
gone_stays_gone false false g h = refl

found_below : (b f k : Bool) → (k ≡ true → b ≡ true) → (b && (f && k)) ≡ (k && f)
found_below true true true h = refl
found_below true false true h = refl
found_below false f true h = absurd (false≢true (h refl))
found_below true true false h = refl
found_below true false false h = refl
found_below false f false h = refl

all_there : (l b il : Bool) → l ≡ (b && il) → (l || (b && not l)) ≡ b
all_there true true il e = refl
all_there true false il e = absurd (false≢true (sym e))
all_there false true il e = refl
all_there false false il e = refl

not_false : (b : Bool) → not b ≡ true → b ≡ false
not_false false e = refl
not_false true e = absurd (false≢true e)

pub second_true : (a b : Bool) → (a && b) ≡ true → b ≡ true
second_true true b e = e
second_true false b e = absurd (false≢true e)

all_same : {A : Type 0} (p q : A → Bool) → ((x : A) → p x ≡ q x) → (xs : List A) → list_all p xs ≡ list_all q xs
all_same p q same [] = refl
all_same p q same (x ∷ xs) = ap (λ b. b && list_all p xs) (same x) ∙ ap (λ b. q x && b) (all_same p q same xs)

module _ (order : IsTotalOrder record_cmp) (apart : IsAntisymmetric record_cmp) where
  pub is_kept : (lasts : Records) (older : List Record) (q : Record)
      → contains (kept_of lasts older) q ≡ (contains lasts q || contains (from_list {R = record_cmp} older) q)
  is_kept lasts older q = contains-union order lasts (from_list older) q

  pub since_is : (lasts : Records) (older by_offset found : List Record) (from : ℕ)
      → ((r : Record) → contains (kept_of lasts older) r ≡ true → contains (from_list {R = record_cmp} by_offset) r ≡ true)
      → found
      ≡ filter (λ r. contains lasts r || contains (from_list {R = record_cmp} older) r) (filter (λ q. nat_le from q.offset) by_offset)
      → IsSince (kept_of lasts older) from found
  since_is lasts older by_offset found from among is = λ r.
      ap (λ l. contains (from_list {R = record_cmp} l) r) is
      ∙ filtered order apart (λ q. contains lasts q || contains (from_list {R = record_cmp} older) q)
      (filter (λ q. nat_le from q.offset) by_offset) r
      ∙ ap (λ b. b && (contains lasts r || contains (from_list {R = record_cmp} older) r))
      (filtered order apart (λ q. nat_le from q.offset) by_offset r)
      ∙ ap (λ b. (contains (from_list {R = record_cmp} by_offset) r && nat_le from r.offset) && b) (sym (is_kept lasts older r))
      ∙ found_kept (contains (from_list {R = record_cmp} by_offset) r) (nat_le from r.offset) (contains (kept_of lasts older) r) (among r)

  -- all records pass where each is kept and none is below the offset
  pub all_since : (kept : Record → Bool) (xs : List Record)
      → ((r : Record) → contains (from_list {R = record_cmp} xs) r ≡ true → kept r ≡ true) → xs ≡ filter kept (filter (λ q. nat_le 0 q.offset) xs)
  all_since kept xs all = sym (
      ap (filter kept) (filter_all (λ q. nat_le 0 q.offset) xs (λ r h. le-leb 0 r.offset (omega arith)))
      ∙ filter_all kept xs all)
    where
      filter_all : (p : Record → Bool) (rs : List Record) → ((r : Record) → contains (from_list {R = record_cmp} rs) r ≡ true → p r ≡ true)
          → filter p rs ≡ rs
      filter_all p [] all = refl
      filter_all p (r ∷ rs) all =
          let here : p r ≡ true = all r (in_list order apart (r ∷ rs) r ∙ ap (λ b. b || list_any (eq_by_cmp record_cmp r) rs) (itself order apart r)) in
          let rest = filter_all p rs (λ q h. all q (
          in_list order apart (r ∷ rs) q ∙ right (eq_by_cmp record_cmp q r) _ (sym (in_list order apart rs q) ∙ h))) in
          ap (λ b. cond b (r ∷ filter p rs) (filter p rs)) here ∙ ap (λ qs. r ∷ qs) rest

  pub below_is : (lasts : Records) (older by_offset found : List Record) (upto : ℕ)
      → ((r : Record) → contains (kept_of lasts older) r ≡ true → contains (from_list {R = record_cmp} by_offset) r ≡ true)
      → found ≡ filter (λ r. nat_lt r.offset upto && (contains lasts r || contains (from_list {R = record_cmp} older) r)) by_offset
      → IsBelow (kept_of lasts older) upto found
  below_is lasts older by_offset found upto among is = λ r.
      ap (λ l. contains (from_list {R = record_cmp} l) r) is
      ∙ filtered order apart (λ q. nat_lt q.offset upto && (contains lasts q || contains (from_list {R = record_cmp} older) q)) by_offset r
      ∙ ap (λ b. contains (from_list {R = record_cmp} by_offset) r && (nat_lt r.offset upto && b)) (sym (is_kept lasts older r))
      ∙ found_below (contains (from_list {R = record_cmp} by_offset) r) (nat_lt r.offset upto) (contains (kept_of lasts older) r) (among r)

  -- what is older among some records, beside their last ones
  pub adopted_is : (lasts : Records) (rs : List Record) → lasts ≡ last_records (from_list rs)
      → kept_of lasts (filter (λ r. not (contains lasts r)) rs) ≡ from_list rs
  adopted_is lasts rs same =
      same_set order apart _ (from_list {R = record_cmp} rs) (λ q.
      is_kept lasts (filter (λ r. not (contains lasts r)) rs) q
      ∙ ap (λ b. contains lasts q || b) (filtered order apart (λ r. not (contains lasts r)) rs q)
      ∙ all_there (contains lasts q) (contains (from_list {R = record_cmp} rs) q) (is_last (from_list rs) q)
      (ap (λ (l : Records). contains l q) same ∙ in_lasts order apart (from_list rs) q))

  -- what is kept stands among those by offset, with a batch
  pub among_more : (whole : Records) (xs ys batch : List Record)
      → ((r : Record) → contains whole r ≡ true → contains (from_list {R = record_cmp} xs) r ≡ true) → ys ≡ xs ++ batch
      → (r : Record) → contains (union whole (from_list batch)) r ≡ true → contains (from_list {R = record_cmp} ys) r ≡ true
  among_more whole xs ys batch among is r h =
      ap (λ l. contains (from_list {R = record_cmp} l) r) is
      ∙ (ap (λ s. contains s r) (joined order apart xs batch)
      ∙ (contains-union order (from_list xs) (from_list batch) r
      ∙ either (contains whole r) (contains (from_list {R = record_cmp} xs) r) (contains (from_list {R = record_cmp} batch) r)
      (among r) (sym (contains-union order whole (from_list batch) r) ∙ h)))
    where
      either : (w x b : Bool) → (w ≡ true → x ≡ true) → (w || b) ≡ true → (x || b) ≡ true
      either true x b f e = ap (λ y. y || b) (f refl)
      either false x b f e = right x b e

  -- where all of these are kept, so are all with the batch
  pub all_more : (whole : Records) (xs ys batch : List Record)
      → ((r : Record) → contains (from_list {R = record_cmp} xs) r ≡ true → contains whole r ≡ true) → ys ≡ xs ++ batch
      → (r : Record) → contains (from_list {R = record_cmp} ys) r ≡ true → contains (union whole (from_list batch)) r ≡ true
  all_more whole xs ys batch all is r h =
      contains-union order whole (from_list batch) r
      ∙ either (contains (from_list {R = record_cmp} xs) r) (contains whole r) (contains (from_list {R = record_cmp} batch) r)
      (all r) (
      sym (contains-union order (from_list xs) (from_list batch) r) ∙ ap (λ s. contains s r) (sym (joined order apart xs batch))
      ∙ ap (λ l. contains (from_list {R = record_cmp} l) r) (sym is) ∙ h)
    where
      either : (x w b : Bool) → (x ≡ true → w ≡ true) → (x || b) ≡ true → (w || b) ≡ true
      either true w b f e = ap (λ y. y || b) (f refl)
      either false w b f e = right w b e

  -- and with no older ones, among those that are last ones
  pub among_lasts : (lasts : Records) (older by_offset : List Record) → older ≡ []
      → ((r : Record) → contains (kept_of lasts older) r ≡ true → contains (from_list {R = record_cmp} by_offset) r ≡ true)
      → (r : Record) → contains (kept_of lasts older) r ≡ true
      → contains (from_list {R = record_cmp} (filter (contains lasts) by_offset)) r ≡ true
  among_lasts lasts older by_offset none among r h =
      filtered order apart (contains lasts) by_offset r
      ∙ (ap (λ b. b && contains lasts r) (among r h)
      ∙ left_alone (contains lasts r) (contains (from_list {R = record_cmp} older) r)
      (ap (λ l. contains (from_list {R = record_cmp} l) r) none ∙ in_list order apart [] r) (sym (is_kept lasts older r) ∙ h))
    where
      left_alone : (l t : Bool) → t ≡ false → (l || t) ≡ true → l ≡ true
      left_alone true t e f = refl
      left_alone false t e f = absurd (false≢true (sym e ∙ f))
