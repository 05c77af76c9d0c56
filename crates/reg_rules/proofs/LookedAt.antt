-- The live versions that a level looks at decide.
use Rattle.std.proofs.Common.{◌≡◌, ℕ, zero, suc, ◌-◌, ◌+◌, ◌<◌, Bool, true, false, not, cond, List, [], ◌∷◌, length, map, fold}
use Rattle.std.proofs.Common.{reverse, drop, flat_map, All, Option, Some, None, option_map, refl, sym, ap, subst, ◌∙◌, arith}
use Rattle.std.proofs.lemmas.Cmp.{nat_cmp_total}
use Rattle.std.proofs.lemmas.List.{drop-map, drop_all, get_or-drop, length-drop, length-map}
use Rattle.std.proofs.lemmas.Map.Keys.{sorted_from_strictly_increasing}
use Rattle.std.specs.List.{find, slice_index}
use Rattle.std.specs.List.Sorted.{IsStrictlyIncreasing, IsStrictlySortedBy}
use Rattle.std.specs.Option.{option_to_list}
use Rattle.std.specs.Ordering.{is_lt, nat_cmp, on, ord_max, ordering_reverse}
use Rattle.std.specs.declared.cmp.Ordering.{Ordering}
use Rattle.std.specs.declared.cmp.Ordering.TheVariants.{Less}
use Rattle.reg_modes.specs.avro_schema.Schema.{is_schema}
use Rattle.reg_modes.specs.avro_schema.declared.node.Node.{Node}
use Rattle.reg_modes.specs.reg_entries.Sought.{AreInVersionOrder, newest, texts_of}
use Rattle.reg_modes.specs.reg_entries.declared.entry.Entry.{Entry}
use Rattle.reg_modes.specs.reg_level_names.declared.level.Level.{Level}
use Rattle.reg_modes.specs.reg_level_names.declared.level.Level.TheVariants as levels
use Rattle.reg_levels.specs.Judgement.{first_unread}
use Rattle.reg_levels.specs.LevelVerdict.{IsCompatible, IsVerdictOn}
use Rattle.reg_levels.specs.RequiredPairs.{looked_at, passed_over, required_of, required_pairs}
use Rattle.reg_levels.specs.Texts.{VersionText, nodes_in, versions_in}
use Rattle.reg_rules.specs.Report.{IsReport}

-- what stands for the versions looked at is looked at among what stands for all
looked_at-map : {X V : Type 0} (f : X → V) (level : Level) (xs : List X) → map f (looked_at level xs) ≡ looked_at level (map f xs)
looked_at-map f level xs =
    sym (drop-map f (passed_over level (length xs)) xs) ∙ ap (λ n. drop (passed_over level n) (map f xs)) (sym (length-map xs f))

-- of the versions looked at a level passes over none
none_passed_over : (level : Level) (n : ℕ) → passed_over level (n - passed_over level n) ≡ 0
none_passed_over levels.None n = omega arith
none_passed_over levels.Backward n = omega arith
none_passed_over levels.BackwardTransitive n = refl
none_passed_over levels.Forward n = omega arith
none_passed_over levels.ForwardTransitive n = refl
none_passed_over levels.Full n = omega arith
none_passed_over levels.FullTransitive n = refl

looked_at-again : {X : Type 0} (level : Level) (xs : List X) → looked_at level (looked_at level xs) ≡ looked_at level xs
looked_at-again level xs =
    ap (λ n. drop n (looked_at level xs))
    (ap (passed_over level) (length-drop (passed_over level (length xs)) xs) ∙ none_passed_over level (length xs))

-- of the versions looked at a level requires the pairs that it requires of all
looked_at-pairs : (level : Level) (new : List Node) (olds : List VersionText)
    → required_pairs level new (versions_in (looked_at level olds)) ≡ required_pairs level new (versions_in olds)
looked_at-pairs level new olds =
    ap (λ vs. flat_map (required_of level new) (reverse vs))
    (ap (looked_at level) (looked_at-map (λ old. (old.0, nodes_in old.1)) level olds) ∙ looked_at-again level (versions_in olds))

-- what a check of these tells is what one of all tells
pub report_on_all : (level : Level) (new : List ℕ) (olds : List VersionText) (told : Option (List ℕ))
    → IsReport level new (looked_at level olds) told → IsReport level new olds told
report_on_all level new olds None met = subst (All IsCompatible) (looked_at-pairs level (nodes_in new) olds) met
report_on_all level new olds (Some message) (v, is, same) =
    (v, subst (λ pairs. IsVerdictOn pairs v) (looked_at-pairs level (nodes_in new) olds) is, same)

-- where all old texts are read, the last ones are
read-drop : (n : ℕ) (olds : List VersionText) → first_unread olds ≡ None → first_unread (drop n olds) ≡ None
read-drop zero olds read = read
read-drop (suc n) [] read = read
read-drop (suc n) (old ∷ olds) read = read-drop n olds (rest (is_schema old.1) read)
  where
    rest : (b : Bool) → option_map (λ o. o.0) (cond (not b) (Some old) (find (λ o. not (is_schema o.1)) olds)) ≡ None
        → first_unread olds ≡ None
    rest true read = read
    rest false read = cc

pub looked_at-read : (level : Level) (olds : List VersionText) → first_unread olds ≡ None → first_unread (looked_at level olds) ≡ None
looked_at-read level olds read = read-drop (passed_over level (length olds)) olds read

-- the last of rising numbers rise
rising-drop : (n : ℕ) (xs : List ℕ) → IsStrictlyIncreasing xs → IsStrictlyIncreasing (drop n xs)
rising-drop n xs rise k within =
    let long : length (drop n xs) ≡ length xs - n = length-drop n xs in
    let here : slice_index (drop n xs) k ≡ slice_index xs (n + k) = get_or-drop n xs k 0 in
    let next : slice_index (drop n xs) (k + 1) ≡ slice_index xs (n + (k + 1)) = get_or-drop n xs (k + 1) 0 in
    let up : slice_index xs (n + k) < slice_index xs ((n + k) + 1) = rise (n + k) (omega arith) in
    let same : (n + k) + 1 ≡ n + (k + 1) = omega arith in
    subst (λ a. a < slice_index (drop n xs) (k + 1)) (sym here)
    (subst (λ b. slice_index xs (n + k) < b) (ap (slice_index xs) same ∙ sym next) up)

pub looked_at-rise : (level : Level) (es : List Entry) → AreInVersionOrder es → AreInVersionOrder (looked_at level es)
looked_at-rise level es rise =
    subst IsStrictlyIncreasing (sym (looked_at-map (λ (e : Entry). e.version) level es))
    (rising-drop (passed_over level (length (map (λ (e : Entry). e.version) es))) (map (λ (e : Entry). e.version) es) rise)

-- the texts of those entries that a level looks at
pub texts_looked_at : (level : Level) (all looked : List Entry) (texts : List VersionText) → looked ≡ looked_at level all
    → texts ≡ texts_of looked → texts ≡ looked_at level (texts_of all)
texts_looked_at level all looked texts at same = same ∙ ap texts_of at ∙ looked_at-map (λ (e : Entry). (e.version, e.text)) level all

-- a level that looks at one version looks at the greatest
abbrev by_version : Entry → Entry → Ordering
by_version = on (λ e. e.version) nat_cmp

later : (x y : Entry) → nat_cmp x.version y.version ≡ Less → ord_max by_version x y ≡ y
later x y below = ap (λ o. cond (is_lt o) x y) (nat_cmp_total.antisymm y.version x.version ∙ ap ordering_reverse below)

last_of_rising : (x : Entry) (ys : List Entry) → IsStrictlySortedBy nat_cmp (map (λ e. e.version) (x ∷ ys))
    → fold (ord_max by_version) x ys ∷ [] ≡ drop (length ys) (x ∷ ys)
unfolding IsStrictlySortedBy
last_of_rising x [] rise = refl
last_of_rising x (y ∷ ys) rise =
    ap (λ z. fold (ord_max by_version) z ys ∷ []) (later x y rise.0.0) ∙ last_of_rising y ys rise.1

pub newest_stands_last : (es : List Entry) → AreInVersionOrder es → option_to_list (newest es) ≡ drop (length es - 1) es
newest_stands_last [] rise = refl
newest_stands_last (x ∷ ys) rise =
    let last : length (x ∷ ys) - 1 ≡ length ys = omega arith in
    last_of_rising x ys (sorted_from_strictly_increasing (map (λ e. e.version) (x ∷ ys)) rise) ∙ ap (λ n. drop n (x ∷ ys)) (sym last)

pub none_looked_at : (es : List Entry) → looked_at levels.None es ≡ []
none_looked_at es = drop_all (length es) es (omega arith)
