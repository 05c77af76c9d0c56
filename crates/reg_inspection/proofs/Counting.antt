-- Counts of entries.
use Rattle.std.proofs.Common.{◌≡◌, ◌+◌, ◌-◌, ℕ, Bool, true, false, not, cond, List, [], ◌∷◌, length, map, Bor, refl, ap, ◌∙◌, arith}
use Rattle.std.proofs.lemmas.List.Sums.{sum_by-cons}
use Rattle.std.specs.List.{count_by}
use Rattle.reg_fold.specs.reg_entries.declared.entry.Entry.{Entry}
use Rattle.reg_inspection.specs.declared.counts.Counts.{Counts}

one_of : (b : Bool) → cond (not b) 1 0 + cond b 1 0 ≡ 1
one_of true = refl
one_of false = refl

-- each entry is live or soft
parts : (es : List (Bor Entry))
    → count_by (λ (e : Entry). not e.soft) (map (λ e. e.now) es) + count_by (λ (e : Bor Entry). e.now.soft) es ≡ length es
parts [] = refl
parts (e ∷ es) =
    omega (
      arith,
      parts es,
      one_of e.now.soft,
      sum_by-cons (λ (x : Entry). cond (not x.soft) 1 0) e.now (map (λ (e : Bor Entry). e.now) es),
      sum_by-cons (λ (x : Bor Entry). cond x.now.soft 1 0) e es,
    )

pub live_are : (es : List (Bor Entry))
    → count_by (λ (e : Entry). not e.soft) (map (λ e. e.now) es) ≡ length es - count_by (λ (e : Bor Entry). e.now.soft) es
live_are es = omega (arith, parts es)

pub soft_are : (es : List (Bor Entry))
    → count_by (λ (e : Entry). e.soft) (map (λ e. e.now) es) ≡ count_by (λ (e : Bor Entry). e.now.soft) es
soft_are [] = refl
soft_are (e ∷ es) =
    omega (
      arith,
      soft_are es,
      sum_by-cons (λ (x : Entry). cond x.soft 1 0) e.now (map (λ (e : Bor Entry). e.now) es),
      sum_by-cons (λ (x : Bor Entry). cond x.now.soft 1 0) e es,
    )

abbrev counts : ℕ → ℕ → ℕ → ℕ → ℕ → ℕ → ℕ → ℕ → Counts
counts records foreign floor next subjects live deleted ids = record {
  records = records;
  foreign = foreign;
  floor = floor;
  next = next;
  subjects = subjects;
  live = live;
  deleted = deleted;
  ids = ids;
}

-- counts that are equal one by one
pub same_counts : (foreign floor next : ℕ) {r r' s s' l l' d d' i i' : ℕ} → r ≡ r' → s ≡ s' → l ≡ l'
    → d ≡ d' → i ≡ i' → counts r foreign floor next s l d i ≡ counts r' foreign floor next s' l' d' i'
same_counts foreign floor next {r' = r'} {s = s} {s' = s'} {l = l} {l' = l'} {d = d} {d' = d'} {i = i} a b e f g =
    ap (λ (n : ℕ). counts n foreign floor next s l d i) a
    ∙ ap (λ (n : ℕ). counts r' foreign floor next n l d i) b
    ∙ ap (λ (n : ℕ). counts r' foreign floor next s' n d i) e
    ∙ ap (λ (n : ℕ). counts r' foreign floor next s' l' n i) f ∙ ap (λ (n : ℕ). counts r' foreign floor next s' l' d' n) g
