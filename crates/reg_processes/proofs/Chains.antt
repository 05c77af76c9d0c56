-- The batches of fronts of lists.
use Rattle.std.proofs.Common.{◌≡◌, ◌⊎◌, inl, inr, ℕ, zero, suc, ◌+◌, ◌-◌, ◌<◌, ◌≤◌, List, [], ◌∷◌, ◌++◌, length, refl, sym}
use Rattle.std.proofs.Common.{ap, subst, ◌∙◌, arith}
use Rattle.std.proofs.lemmas.List.{append-nil, append_assoc, length-append, nil_from_length}
use Rattle.std.specs.List.{flat_map}
use mathlib.Core.List.{IsPrefix}
use Rattle.reg_alike.specs.reg_records.declared.record.Record.{Record}
use Rattle.reg_topic.specs.Laws.{LawfulListsJoin}
use Rattle.reg_topic.specs.Topic.{IsLawful, published_by}
use Rattle.reg_topic.specs.declared.published.Item.{Item}
use Rattle.reg_topic.specs.declared.published.Item.TheVariants as items
use Rattle.reg_processes.specs.Laws.{FrontsTakePart}
use Rattle.reg_processes.specs.Process.{Process, batches_in, taken_by, when}

pub order_of : (m n : ℕ) → (m ≤ n) ⊎ (n < m)
order_of zero n = inl (omega arith)
order_of (suc m) zero = inr (omega arith)
order_of (suc m) (suc n) =
    elim (order_of m n) as (λ _. (suc m ≤ suc n) ⊎ (suc n < suc m)) [ inl h ↦ inl (omega (arith, h)) | inr h ↦ inr (omega (arith, h)) ]

pub batches_join : (is js : List Item) → batches_in (is ++ js) ≡ batches_in is ++ batches_in js
batches_join [] js = refl
batches_join (items.Commit commit ∷ is) js = ap (λ bs. commit.batch ∷ bs) (batches_join is js)
batches_join (items.Compaction c ∷ is) js = batches_join is js

-- the records of the batches are those that were published
pub batches_hold : (is : List Item) → flat_map (λ (batch : List Record). batch) (batches_in is) ≡ published_by is
batches_hold [] = refl
batches_hold (items.Commit commit ∷ is) = ap (λ rs. commit.batch ++ rs) (batches_hold is)
batches_hold (items.Compaction c ∷ is) = batches_hold is

-- there is a front with each number of batches up to that of the list
pub front_with : (n : ℕ) (is : List Item) → n ≤ length (batches_in is)
    → (front rest : List Item) × (front ++ rest ≡ is) × (length (batches_in front) ≡ n)
front_with zero is h = ([], is, refl, refl)
front_with (suc n) [] h = absurd (omega (arith, h))
front_with (suc n) (items.Commit commit ∷ is) h =
    let f = front_with n is (omega (arith, h)) in
    (items.Commit commit ∷ f.0, f.1, ap (λ js. items.Commit commit ∷ js) f.2, ap (λ k. suc k) f.3)
front_with (suc n) (items.Compaction c ∷ is) h =
    let f = front_with (suc n) is h in (items.Compaction c ∷ f.0, f.1, ap (λ js. items.Compaction c ∷ js) f.2, f.3)

-- how many batches were taken
pub count_of : (p : Process) → length (taken_by p) ≡ length p.early + length (batches_in p.items)
count_of p = length-append p.early (batches_in p.items)

count_of_two : (is js : List Item) → length (batches_in (is ++ js)) ≡ length (batches_in is) + length (batches_in js)
count_of_two is js = ap length (batches_join is js) ∙ length-append (batches_in is) (batches_in js)

-- a list, cut where so many batches were taken, and where there was one more
pub record CutAt (p : Process) (k : ℕ) : Type 0 where
  pub front : List Item
  pub on : List Item
  pub is_front : IsPrefix front p.items
  pub is_longer : IsPrefix (front ++ on) p.items
  pub took : length (taken_by (when p front)) ≡ k
  pub took_more : length (taken_by (when p (front ++ on))) ≡ suc k

cut_there : (p : Process) (k : ℕ) (front on more rest : List Item) → front ++ rest ≡ p.items → on ++ more ≡ rest
    → length (batches_in front) ≡ k - length p.early → length (batches_in on) ≡ 1 → length p.early ≤ k → CutAt p k
cut_there p k front on more rest is_p is_rest counted one behind =
    let early_count = count_of (when p front) in
    let longer_count = count_of (when p (front ++ on)) in
    let two = count_of_two front on in
    record {
      front = front;
      on = on;
      is_front = (rest, is_p);
      is_longer = (more, append_assoc front on more ∙ ap (λ js. front ++ js) is_rest ∙ is_p);
      took = omega (arith, early_count, counted, behind);
      took_more = omega (arith, longer_count, two, counted, one, behind);
    }

cut_on : (p : Process) (k : ℕ) (front rest : List Item) → front ++ rest ≡ p.items → length (batches_in front) ≡ k - length p.early
    → length p.early ≤ k → k < length (taken_by p) → CutAt p k
cut_on p k front rest is_p counted behind taken =
    let all_count = count_of p in
    let two : length (batches_in p.items) ≡ length (batches_in front) + length (batches_in rest) =
    ap (λ (js : List Item). length (batches_in js)) (sym is_p) ∙ count_of_two front rest in
    let on = front_with 1 rest (omega (arith, all_count, two, counted, behind, taken)) in
    cut_there p k front on.0 on.1 rest is_p on.2 counted on.3 behind

pub cut_at : (p : Process) (k : ℕ) → length p.early ≤ k → k < length (taken_by p) → CutAt p k
cut_at p k behind taken =
    let all_count = count_of p in
    let cut = front_with (k - length p.early) p.items (omega (arith, all_count, behind, taken)) in
    cut_on p k cut.0 cut.1 cut.2 cut.3 behind taken

-- of two beginnings of one chain the shorter one is a beginning of the longer one
pub longer_begins : (xs ys chain : List (List Record)) → IsPrefix xs chain → IsPrefix ys chain → length xs ≤ length ys → IsPrefix xs ys
longer_begins [] ys chain p q less = (ys, refl)
longer_begins (x ∷ xs) [] chain p q less = absurd (omega (arith, less))
longer_begins (x ∷ xs) (y ∷ ys) [] p q less = let e : x ∷ (xs ++ p.0) ≡ [] = p.1 in absurd (cc)
longer_begins (x ∷ xs) (y ∷ ys) (c ∷ chain) p q less =
    let e : x ∷ (xs ++ p.0) ≡ c ∷ chain = p.1 in
    let f : y ∷ (ys ++ q.0) ≡ c ∷ chain = q.1 in
    let e_rest : xs ++ p.0 ≡ chain = cc in
    let f_rest : ys ++ q.0 ≡ chain = cc in
    let heads : x ≡ y = cc in
    let rest = longer_begins xs ys chain (p.0, e_rest) (q.0, f_rest) (omega (arith, less)) in
    let rests : xs ++ rest.0 ≡ ys = rest.1 in
    (rest.0, cc)

-- those of one length are one
pub same_beginning : (xs ys chain : List (List Record)) → IsPrefix xs chain → IsPrefix ys chain → length xs ≡ length ys → xs ≡ ys
same_beginning xs ys chain p q same =
    let less : length xs ≤ length ys = omega (arith, same) in
    let rest = longer_begins xs ys chain p q less in
    let is : xs ++ rest.0 ≡ ys = rest.1 in
    let counts : length xs + length rest.0 ≡ length ys = sym (length-append xs rest.0) ∙ ap length is in
    let none : rest.0 ≡ [] = nil_from_length rest.0 (omega (arith, counts, same)) in
    sym (append-nil xs) ∙ ap (λ zs. xs ++ zs) (sym none) ∙ is

pub fronts_take_part : LawfulListsJoin → FrontsTakePart
fronts_take_part join chain p part front is_front = record {
  adopted = part.adopted;
  stands = part.stands;
  lawful = ((join p.base front is_front.0).0 (subst (IsLawful p.base) (sym is_front.1) part.lawful)).0;
  begins = (
    batches_in is_front.0 ++ part.begins.0,
    append_assoc p.early (batches_in front) (batches_in is_front.0 ++ part.begins.0)
        ∙ ap (λ bs. p.early ++ bs) (sym (append_assoc (batches_in front) (batches_in is_front.0) part.begins.0))
        ∙ ap (λ bs. p.early ++ (bs ++ part.begins.0)) (sym (batches_join front is_front.0) ∙ ap batches_in is_front.1)
        ∙ sym (append_assoc p.early (batches_in p.items) part.begins.0)
        ∙ part.begins.1,
  );
}
