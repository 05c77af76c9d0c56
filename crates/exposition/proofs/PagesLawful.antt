-- The lines of a page are of the format.
use Rattle.std.proofs.Common.{◌≡◌, ◌<◌, ◌+◌, ◌^◌, ◌++◌, ◌∷◌, inl, inr, [], ℕ, List, Bool, true, false, ◌&&◌, ◌||◌, cond, map, refl, ap, ◌∙◌, arith}
use Rattle.std.specs.Prelude.{◌==◌, All, bytes_eq, codes, flat_map, sum}
use Rattle.std.specs.List.{list_all, AllByRecursion}
use Rattle.std.proofs.lemmas.List.Elements.{All-from_recursion, recursion_from_All}
use Rattle.std.proofs.lemmas.List.Folds.{list_all-append}
use Rattle.exposition.specs.declared.label.LabelPair.{LabelPair}
use Rattle.exposition.specs.declared.page.Family.{Family}
use Rattle.exposition.specs.declared.page.Sample.{Sample}
use Rattle.exposition.specs.declared.page.Samples.{Samples}
use Rattle.exposition.specs.declared.page.Samples.TheVariants.{Counter, Gauge, Histogram}
use Rattle.exposition.specs.Exposition.{IsSampleOf, IsBlock, IsExposition}
use Rattle.exposition.specs.Lawful.{AreSamples, IsFamily, IsLine, IsPage, IsSample, IsSeries, have_names, have_words}
use Rattle.exposition.specs.Lines.{Kind, counter, gauge, histogram, Line}
use Rattle.exposition.specs.Measured.{Measured}
use Rattle.exposition.specs.Names.{is_digit, is_free_word, is_label_name, is_letter, is_name, is_word}
use Rattle.exposition.specs.Numbers.{number_text, whole}
use Rattle.exposition.specs.Page.{bound_label, bucket_lines, family_lines, kind_of, page_lines, page_text, sample_line, samples_lines, series_lines}
use Rattle.exposition.proofs.PagesRead.{sum-cons}
use Rattle.exposition.proofs.Splits.{both_left, both_right}

abbrev goes_on : ℕ → Bool
goes_on c = is_letter c || is_digit c || (c == 58)

longer_name : (name tail : List ℕ) → is_name name ≡ true → list_all goes_on tail ≡ true → is_name (name ++ tail) ≡ true
longer_name [] tail h more = absurd (cc)
longer_name (b ∷ bs) tail h more =
    rw (
      list_all-append goes_on bs tail,
      both_right (is_letter b || (b == 58)) (list_all goes_on bs) h,
      more,
      both_left (is_letter b || (b == 58)) (list_all goes_on bs) h,
    ) refl

unless : (b x : Bool) → cond b false x ≡ true → x ≡ true
unless true x e = absurd (cc)
unless false x e = e

free_word : (n : List ℕ) → is_free_word n ≡ true → is_word n ≡ true
free_word [] e = e
free_word (a ∷ []) e = e
free_word (a ∷ b ∷ bs) e = unless ((a == 95) && (b == 95)) (is_word (a ∷ b ∷ bs)) e

label_word : (n : List ℕ) → is_label_name n ≡ true → is_word n ≡ true
label_word n e = free_word n (unless (bytes_eq n (codes "le")) (is_free_word n) e)

words_of : (ls : List LabelPair) → have_names ls ≡ true → have_words ls ≡ true
words_of [] h = refl
words_of (l ∷ ls) h =
    rw (label_word l.name (both_left (is_label_name l.name) (have_names ls) h)) (words_of ls (both_right (is_label_name l.name) (have_names ls) h))

bucket_words : (ls : List LabelPair) (bound : List ℕ) → have_words ls ≡ true → have_words (ls ++ (bound_label bound ∷ [])) ≡ true
bucket_words ls bound h = list_all-append (λ l. is_word l.name) ls (bound_label bound ∷ []) ∙ rw h refl

abbrev AreLines : List Line → Type 0
AreLines lines = AllByRecursion IsLine lines

AreLines-append : (xs ys : List Line) → AreLines xs → AreLines ys → AreLines (xs ++ ys)
AreLines-append [] ys p q = q
AreLines-append (x ∷ xs) ys p q = (p.0, AreLines-append xs ys p.1 q)

samples_are_lines : (name : List ℕ) (ss : List Sample) → is_name name ≡ true → AllByRecursion IsSample ss
    → AreLines (map (λ s. sample_line name s) ss)
samples_are_lines name [] n p = tt
samples_are_lines name (s ∷ ss) n p = ((n, words_of s.labels p.0.0, p.0.1), samples_are_lines name ss n p.1)

buckets_are_lines : (name : List ℕ) (ls : List LabelPair) (below : ℕ) (bs cs : List ℕ) (rest : List Line) → is_name name ≡ true
    → have_words ls ≡ true → whole (below + sum cs) < 10 ^ 64 → AreLines rest → AreLines (bucket_lines name ls below bs cs ++ rest)
buckets_are_lines name ls below [] cs rest n h short more = more
buckets_are_lines name ls below (b ∷ bs) [] rest n h short more = more
buckets_are_lines name ls below (b ∷ bs) (c ∷ cs) rest n h short more =
    let all = sum-cons c cs in
    let here : whole (below + c) < 10 ^ 64 = omega arith in
    let later : whole ((below + c) + sum cs) < 10 ^ 64 = omega arith in (
      (longer_name name (codes "_bucket") n refl, bucket_words ls (number_text b) h, here),
      buckets_are_lines name ls (below + c) bs cs rest n h later more,
    )

series_are_lines : (name : List ℕ) (ss : List Measured) → is_name name ≡ true → AllByRecursion IsSeries ss
    → AreLines (flat_map (λ s. series_lines name s) ss)
series_are_lines name [] n p = tt
series_are_lines name (s ∷ ss) n p =
    let words = words_of s.labels p.0.labels in
    let all : whole (0 + sum s.counts) < 10 ^ 64 = omega (arith, p.0.count) in
    AreLines-append (series_lines name s) (flat_map (λ s. series_lines name s) ss)
    (buckets_are_lines name s.labels 0 s.bounds s.counts _ n words all (
      (longer_name name (codes "_bucket") n refl, bucket_words s.labels (codes "+Inf") words, p.0.count),
      ((longer_name name (codes "_sum") n refl, words, p.0.sum), ((longer_name name (codes "_count") n refl, words, p.0.count), tt)),
    ))
    (series_are_lines name ss n p.1)

family_is_lines : (f : Family) → IsFamily f → AreLines (family_lines f)
family_is_lines f (n, p) = (n, (n, go f.samples p))
  where
    go : (s : Samples) → AreSamples s → AreLines (samples_lines f.name s)
    go (Counter ss) q = samples_are_lines f.name ss n (recursion_from_All IsSample ss q)
    go (Gauge ss) q = samples_are_lines f.name ss n (recursion_from_All IsSample ss q)
    go (Histogram ss) q = series_are_lines f.name ss n (recursion_from_All IsSeries ss q)

page_is_lines : (page : List Family) → AllByRecursion IsFamily page → AreLines (page_lines page)
page_is_lines [] p = tt
page_is_lines (f ∷ fs) p = AreLines-append (family_lines f) (page_lines fs) (family_is_lines f p.0) (page_is_lines fs p.1)

pub page_has_lines : (page : List Family) → IsPage page → All IsLine (page_lines page)
page_has_lines page p = All-from_recursion IsLine (page_lines page) (page_is_lines page (recursion_from_All IsFamily page p))

-- blocks

abbrev AreOf : List ℕ → Kind → List Line → Type 0
AreOf name kind lines = AllByRecursion (IsSampleOf name kind) lines

AreOf-append : (name : List ℕ) (kind : Kind) (xs ys : List Line) → AreOf name kind xs → AreOf name kind ys → AreOf name kind (xs ++ ys)
AreOf-append name kind [] ys p q = q
AreOf-append name kind (x ∷ xs) ys p q = (p.0, AreOf-append name kind xs ys p.1 q)

counters_are_of : (name : List ℕ) (ss : List Sample) → AreOf name counter (map (λ s. sample_line name s) ss)
counters_are_of name [] = tt
counters_are_of name (s ∷ ss) = (refl, counters_are_of name ss)

gauges_are_of : (name : List ℕ) (ss : List Sample) → AreOf name gauge (map (λ s. sample_line name s) ss)
gauges_are_of name [] = tt
gauges_are_of name (s ∷ ss) = (refl, gauges_are_of name ss)

buckets_are_of : (name : List ℕ) (ls : List LabelPair) (below : ℕ) (bs cs : List ℕ) (rest : List Line) → AreOf name histogram rest
    → AreOf name histogram (bucket_lines name ls below bs cs ++ rest)
buckets_are_of name ls below [] cs rest p = p
buckets_are_of name ls below (b ∷ bs) [] rest p = p
buckets_are_of name ls below (b ∷ bs) (c ∷ cs) rest p = (inl refl, buckets_are_of name ls (below + c) bs cs rest p)

series_are_of : (name : List ℕ) (ss : List Measured) → AreOf name histogram (flat_map (λ s. series_lines name s) ss)
series_are_of name [] = tt
series_are_of name (s ∷ ss) =
    AreOf-append name histogram (series_lines name s) (flat_map (λ s. series_lines name s) ss)
    (buckets_are_of name s.labels 0 s.bounds s.counts _ (inl refl, (inr (inl refl), (inr (inr refl), tt)))) (series_are_of name ss)

are_of : (name : List ℕ) (s : Samples) → AreOf name (kind_of s) (samples_lines name s)
are_of name (Counter ss) = counters_are_of name ss
are_of name (Gauge ss) = gauges_are_of name ss
are_of name (Histogram ss) = series_are_of name ss

family_is_block : (f : Family) → IsBlock (family_lines f)
family_is_block f = (
  f.name,
  f.help,
  kind_of f.samples,
  samples_lines f.name f.samples,
  refl,
  All-from_recursion (IsSampleOf f.name (kind_of f.samples)) (samples_lines f.name f.samples) (are_of f.name f.samples),
)

families_are_blocks : (page : List Family) → AllByRecursion IsBlock (map family_lines page)
families_are_blocks [] = tt
families_are_blocks (f ∷ fs) = (family_is_block f, families_are_blocks fs)

joined : (page : List Family) → page_lines page ≡ flat_map (λ block. block) (map family_lines page)
joined [] = refl
joined (f ∷ fs) = ap (λ t. family_lines f ++ t) (joined fs)

pub page_is_exposition : (page : List Family) → IsPage page → IsExposition (page_text page)
page_is_exposition page p = (
  page_lines page,
  page_has_lines page p,
  (map family_lines page, All-from_recursion IsBlock (map family_lines page) (families_are_blocks page), joined page),
  refl,
)
