-- A page is read back from its lines.
use Rattle.std.proofs.Common.{◌≡◌, ◌+◌, ◌++◌, ◌∷◌, [], ℕ, List, Bool, true, false, get_or, length, map, refl, sym, ap, ◌∙◌, arith}
use Rattle.std.specs.Prelude.{bytes_eq, codes, flat_map, sum}
use Rattle.std.specs.List.{list_all, AllByRecursion}
use Rattle.std.proofs.lemmas.List.{append_assoc, append_cancel_left, same_from_push}
use Rattle.std.proofs.lemmas.List.Elements.{recursion_from_All}
use Rattle.std.proofs.lemmas.List.Folds.{list_all-append}
use Rattle.std.proofs.lemmas.List.Sums.{sum_by-cons}
use Rattle.std.proofs.lemmas.Slice.Eq.{bytes_eq-Decides}
use Rattle.exposition.specs.declared.label.LabelPair.{LabelPair}
use Rattle.exposition.specs.declared.page.Family.{Family}
use Rattle.exposition.specs.declared.page.Sample.{Sample}
use Rattle.exposition.specs.declared.page.Samples.{Samples}
use Rattle.exposition.specs.declared.page.Samples.TheVariants.{Counter, Gauge, Histogram}
use Rattle.exposition.specs.Lawful.{AreSamples, IsFamily, IsSeries, IsShort}
use Rattle.exposition.specs.Lines.{Kind, Line, help_of, type_of, sample_of}
use Rattle.exposition.specs.Measured.{Measured}
use Rattle.exposition.specs.Numbers.{number_text, whole}
use Rattle.exposition.specs.Page.{bound_label, bucket_line, bucket_lines, kind_of, page_lines, sample_line, samples_lines, series_lines}
use Rattle.exposition.proofs.NumbersRead.{number_same}
use Rattle.exposition.proofs.Splits.{Stops, cons_same, differ, split_same}

sample_same : {n n' : List ℕ} {ls ls' : List LabelPair} {v v' : ℕ} → sample_of n ls v ≡ sample_of n' ls' v' → (n ≡ n') × (ls ≡ ls') × (v ≡ v')
sample_same e = (cc, cc, cc)

help_same : {n n' t t' : List ℕ} → help_of n t ≡ help_of n' t' → (n ≡ n') × (t ≡ t')
help_same e = (cc, cc)

type_same : {n n' : List ℕ} {k k' : Kind} → type_of n k ≡ type_of n' k' → (n ≡ n') × (k ≡ k')
type_same e = (cc, cc)

-- plain samples

samples_same : (name : List ℕ) (ss ts : List Sample) → map (λ s. sample_line name s) ss ≡ map (λ s. sample_line name s) ts → ss ≡ ts
samples_same name [] [] e = refl
samples_same name [] (t ∷ ts) e = absurd (cc)
samples_same name (s ∷ ss) [] e = absurd (cc)
samples_same name (s ∷ ss) (t ∷ ts) e =
    let (heads, rests) = cons_same e in
    let parts = sample_same heads in
    let first : s ≡ t = λ i. record { labels = parts.1 i; number = parts.2 i } in
    let more = samples_same name ss ts rests in
    λ i. first i ∷ more i

-- histograms

abbrev is_bucket : List ℕ → Line → Bool
is_bucket name (help_of other text) = false
is_bucket name (type_of other kind) = false
is_bucket name (sample_of other labels number) = bytes_eq other (name ++ codes "_bucket")

named : (name : List ℕ) → bytes_eq (name ++ codes "_bucket") (name ++ codes "_bucket") ≡ true
named name = (bytes_eq-Decides (name ++ codes "_bucket") (name ++ codes "_bucket")).1 refl

buckets_pass : (name : List ℕ) (labels : List LabelPair) (below : ℕ) (bounds counts : List ℕ) (last : Line) → is_bucket name last ≡ true
    → list_all (is_bucket name) (bucket_lines name labels below bounds counts ++ (last ∷ [])) ≡ true
buckets_pass name labels below [] counts last h = rw h refl
buckets_pass name labels below (bound ∷ bounds) [] last h = rw h refl
buckets_pass name labels below (bound ∷ bounds) (count ∷ counts) last h =
    rw (named name) (buckets_pass name labels (below + count) bounds counts last h)

sum_stops : (name : List ℕ) → bytes_eq (name ++ codes "_sum") (name ++ codes "_bucket") ≡ false
sum_stops name = go (bytes_eq (name ++ codes "_sum") (name ++ codes "_bucket")) refl
  where
    go : (b : Bool) → bytes_eq (name ++ codes "_sum") (name ++ codes "_bucket") ≡ b → b ≡ false
    go false e = refl
    go true e =
        let same = append_cancel_left name (codes "_sum") (codes "_bucket")
        ((bytes_eq-Decides (name ++ codes "_sum") (name ++ codes "_bucket")).0 e) in
        absurd (differ 115 98 refl (ap (λ t. get_or t 1 0) same))

one_count : (cs : List ℕ) → length cs ≡ 1 → cs ≡ sum cs ∷ []
one_count [] e = absurd (omega arith)
one_count (c ∷ []) e = let same : c ≡ 0 + c = omega arith in ap (λ n. n ∷ []) same
one_count (c ∷ d ∷ cs) e = absurd (omega arith)

pub sum-cons : (c : ℕ) (cs : List ℕ) → sum (c ∷ cs) ≡ c + sum cs
sum-cons c cs = sum_by-cons (λ x. x) c cs

counts_same : (below : ℕ) (cs cs' : List ℕ) → length cs ≡ 0 + 1 → length cs' ≡ 0 + 1 → below + sum cs ≡ below + sum cs' → cs ≡ cs'
counts_same below cs cs' one one' sums =
    let all : sum cs ≡ sum cs' = omega arith in
    one_count cs one ∙ ap (λ n. n ∷ []) all ∙ sym (one_count cs' one')

buckets_same : (name : List ℕ) (ls ls' : List LabelPair) (below : ℕ) (bs bs' cs cs' : List ℕ)
    → AllByRecursion IsShort bs → AllByRecursion IsShort bs' → length cs ≡ length bs + 1 → length cs' ≡ length bs' + 1
    → bucket_lines name ls below bs cs ≡ bucket_lines name ls' below bs' cs' → below + sum cs ≡ below + sum cs' → (bs ≡ bs') × (cs ≡ cs')
buckets_same name ls ls' below [] [] cs cs' p q n n' e sums = (refl, counts_same below cs cs' n n' sums)
buckets_same name ls ls' below [] (b' ∷ bs') cs [] p q n n' e sums = absurd (omega arith)
buckets_same name ls ls' below [] (b' ∷ bs') cs (c' ∷ cs') p q n n' e sums = absurd (cc)
buckets_same name ls ls' below (b ∷ bs) bs' [] cs' p q n n' e sums = absurd (omega arith)
buckets_same name ls ls' below (b ∷ bs) [] (c ∷ cs) cs' p q n n' e sums = absurd (cc)
buckets_same name ls ls' below (b ∷ bs) (b' ∷ bs') (c ∷ cs) [] p q n n' e sums = absurd (omega arith)
buckets_same name ls ls' below (b ∷ bs) (b' ∷ bs') (c ∷ cs) (c' ∷ cs') p q n n' e sums =
    let (heads, tails) = cons_same e in
    let parts = sample_same heads in
    let numbers : whole (below + c) ≡ whole (below + c') = parts.2 in
    let counts : c ≡ c' = omega arith in
    let labels = parts.1 in
    let lasts = same_from_push ls ls' (bound_label (number_text b)) (bound_label (number_text b')) labels in
    let bounds : b ≡ b' = number_same b b' p.0 q.0 (ap (λ l. l.value) lasts.1) in
    let here = tails ∙ ap (λ n. bucket_lines name ls' (below + n) bs' cs') (sym counts) in
    let left = sum-cons c cs in
    let right = sum-cons c' cs' in
    let sums' : (below + c) + sum cs ≡ (below + c) + sum cs' = omega arith in
    let (same_bounds, same_counts) = buckets_same name ls ls' (below + c) bs bs' cs cs' p.1 q.1 (omega arith) (omega arith) here sums' in
    (λ i. bounds i ∷ same_bounds i, λ i. counts i ∷ same_counts i)

abbrev buckets_of : List ℕ → Measured → List Line
buckets_of name s = bucket_lines name s.labels 0 s.bounds s.counts ++ (bucket_line name s.labels (codes "+Inf") (sum s.counts) ∷ [])

series_parts : (name : List ℕ) (s : Measured) (rest : List Line)
    → series_lines name s ++ rest ≡ buckets_of name s
    ++ (sample_of (name ++ codes "_sum") s.labels s.sum ∷ sample_of (name ++ codes "_count") s.labels (whole (sum s.counts)) ∷ rest)
series_parts name s rest =
    let last = bucket_line name s.labels (codes "+Inf") (sum s.counts) in
    let total = sample_of (name ++ codes "_sum") s.labels s.sum in
    let count = sample_of (name ++ codes "_count") s.labels (whole (sum s.counts)) in
    let buckets = bucket_lines name s.labels 0 s.bounds s.counts in
    append_assoc buckets (last ∷ total ∷ count ∷ []) rest ∙ sym (append_assoc buckets (last ∷ []) (total ∷ count ∷ rest))

series_read : (name : List ℕ) (s t : Measured) (x y : List Line) → IsSeries s → IsSeries t
    → series_lines name s ++ x ≡ series_lines name t ++ y → (s ≡ t) × (x ≡ y)
series_read name s t x y p q e =
    let (buckets, ends) = split_same (is_bucket name) (buckets_of name s) (buckets_of name t) _ _
    (buckets_pass name s.labels 0 s.bounds s.counts (bucket_line name s.labels (codes "+Inf") (sum s.counts)) (named name))
    (buckets_pass name t.labels 0 t.bounds t.counts (bucket_line name t.labels (codes "+Inf") (sum t.counts)) (named name))
    (sum_stops name) (sum_stops name) (sym (series_parts name s x) ∙ e ∙ series_parts name t y) in
    let (total, behind) = cons_same ends in
    let (count, rests) = cons_same behind in
    let labels = (sample_same total).1 in
    let sums = (sample_same total).2 in
    let totals : whole (sum s.counts) ≡ whole (sum t.counts) = (sample_same count).2 in
    let all : 0 + sum s.counts ≡ 0 + sum t.counts = omega arith in
    let (front, last) = same_from_push (bucket_lines name s.labels 0 s.bounds s.counts) (bucket_lines name t.labels 0 t.bounds t.counts)
    (bucket_line name s.labels (codes "+Inf") (sum s.counts)) (bucket_line name t.labels (codes "+Inf") (sum t.counts)) buckets in
    let (bounds, counts) = buckets_same name s.labels t.labels 0 s.bounds t.bounds s.counts t.counts
    (recursion_from_All IsShort s.bounds p.bounds) (recursion_from_All IsShort t.bounds q.bounds) p.counted q.counted front all in
    (λ i. record { labels = labels i; bounds = bounds i; counts = counts i; sum = sums i }, rests)

nothing_before : (xs : List Line) (y : Line) (ys : List Line) → [] ≡ xs ++ (y ∷ ys) → ⊥
nothing_before [] y ys e = cc
nothing_before (x ∷ xs) y ys e = cc

all_series_same : (name : List ℕ) (ss ts : List Measured) → AllByRecursion IsSeries ss → AllByRecursion IsSeries ts
    → flat_map (λ s. series_lines name s) ss ≡ flat_map (λ s. series_lines name s) ts → ss ≡ ts
all_series_same name [] [] p q e = refl
all_series_same name [] (t ∷ ts) p q e =
    absurd (nothing_before (buckets_of name t) _ _ (e ∙ series_parts name t (flat_map (λ s. series_lines name s) ts)))
all_series_same name (s ∷ ss) [] p q e =
    absurd (nothing_before (buckets_of name s) _ _ (sym e ∙ series_parts name s (flat_map (λ s. series_lines name s) ss)))
all_series_same name (s ∷ ss) (t ∷ ts) p q e =
    let (first, rests) = series_read name s t _ _ p.0 q.0 e in
    let more = all_series_same name ss ts p.1 q.1 rests in
    λ i. first i ∷ more i

-- families

family_samples_same : (name : List ℕ) (s t : Samples) → AreSamples s → AreSamples t → kind_of s ≡ kind_of t
    → samples_lines name s ≡ samples_lines name t → s ≡ t
family_samples_same name (Counter ss) (Counter ts) p q k e = ap (λ xs. Counter xs) (samples_same name ss ts e)
family_samples_same name (Gauge ss) (Gauge ts) p q k e = ap (λ xs. Gauge xs) (samples_same name ss ts e)
family_samples_same name (Histogram ss) (Histogram ts) p q k e =
    ap (λ xs. Histogram xs) (all_series_same name ss ts (recursion_from_All IsSeries ss p) (recursion_from_All IsSeries ts q) e)
family_samples_same name (Counter ss) (Gauge ts) p q k e = absurd (cc)
family_samples_same name (Counter ss) (Histogram ts) p q k e = absurd (cc)
family_samples_same name (Gauge ss) (Counter ts) p q k e = absurd (cc)
family_samples_same name (Gauge ss) (Histogram ts) p q k e = absurd (cc)
family_samples_same name (Histogram ss) (Counter ts) p q k e = absurd (cc)
family_samples_same name (Histogram ss) (Gauge ts) p q k e = absurd (cc)

abbrev is_sample : Line → Bool
is_sample (help_of name text) = false
is_sample (type_of name kind) = false
is_sample (sample_of name labels number) = true

numbers_are_samples : (name : List ℕ) (ss : List Sample) → list_all is_sample (map (λ s. sample_line name s) ss) ≡ true
numbers_are_samples name [] = refl
numbers_are_samples name (s ∷ ss) = numbers_are_samples name ss

buckets_are_samples : (name : List ℕ) (labels : List LabelPair) (below : ℕ) (bounds counts : List ℕ) (x : List Line)
    → list_all is_sample x ≡ true → list_all is_sample (bucket_lines name labels below bounds counts ++ x) ≡ true
buckets_are_samples name labels below [] counts x h = h
buckets_are_samples name labels below (bound ∷ bounds) [] x h = h
buckets_are_samples name labels below (bound ∷ bounds) (count ∷ counts) x h =
    buckets_are_samples name labels (below + count) bounds counts x h

series_are_samples : (name : List ℕ) (ss : List Measured) → list_all is_sample (flat_map (λ s. series_lines name s) ss) ≡ true
series_are_samples name [] = refl
series_are_samples name (s ∷ ss) =
    list_all-append is_sample (series_lines name s) (flat_map (λ s. series_lines name s) ss)
    ∙ rw (
      series_are_samples name ss,
      buckets_are_samples name s.labels 0 s.bounds s.counts
          (bucket_line name s.labels (codes "+Inf") (sum s.counts) ∷ sample_of (name ++ codes "_sum") s.labels s.sum
          ∷ sample_of (name ++ codes "_count") s.labels (whole (sum s.counts)) ∷ []) refl,
    ) refl

are_samples : (name : List ℕ) (s : Samples) → list_all is_sample (samples_lines name s) ≡ true
are_samples name (Counter ss) = numbers_are_samples name ss
are_samples name (Gauge ss) = numbers_are_samples name ss
are_samples name (Histogram ss) = series_are_samples name ss

page_stops : (page : List Family) → Stops is_sample (page_lines page)
page_stops [] = tt
page_stops (f ∷ fs) = refl

pub pages_same : (a b : List Family) → AllByRecursion IsFamily a → AllByRecursion IsFamily b → page_lines a ≡ page_lines b → a ≡ b
pages_same [] [] p q e = refl
pages_same [] (g ∷ b) p q e = absurd (cc)
pages_same (f ∷ a) [] p q e = absurd (cc)
pages_same (f ∷ a) (g ∷ b) p q e =
    let (first_line, later) = cons_same e in
    let (second_line, behind) = cons_same later in
    let (names, helps) = help_same first_line in
    let kinds = (type_same second_line).1 in
    let (lines, pages) = split_same is_sample (samples_lines f.name f.samples) (samples_lines g.name g.samples) (page_lines a) (page_lines b)
    (are_samples f.name f.samples) (are_samples g.name g.samples) (page_stops a) (page_stops b) behind in
    let here = lines ∙ ap (λ n. samples_lines n g.samples) (sym names) in
    let samples = family_samples_same f.name f.samples g.samples p.0.1 q.0.1 kinds here in
    let first : f ≡ g = λ i. record { name = names i; help = helps i; samples = samples i } in
    let more = pages_same a b p.1 q.1 pages in
    λ i. first i ∷ more i
