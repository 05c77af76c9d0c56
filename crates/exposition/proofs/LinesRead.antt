-- Lines are read back from their text.
use Rattle.std.proofs.Common.{◌≡◌, ◌++◌, ◌∷◌, [], ℕ, List, Bool, true, false, ◌||◌, get_or, refl, sym, ap, subst, ◌∙◌}
use Rattle.std.specs.Prelude.{◌==◌, All, IsTrue, codes}
use Rattle.std.specs.List.{list_all}
use Rattle.std.proofs.lemmas.List.{append_assoc, append_cancel_left}
use Rattle.std.proofs.lemmas.List.Elements.{All-head, All-tail}
use Rattle.exposition.specs.declared.label.LabelPair.{LabelPair}
use Rattle.exposition.specs.Escapes.{escaped}
use Rattle.exposition.specs.Lawful.{IsLine, have_words}
use Rattle.exposition.specs.Lines.{Kind, counter, gauge, histogram, kind_text, Line, help_of, type_of, sample_of, label_text, labels_text, line_text, lines_text}
use Rattle.exposition.specs.Names.{is_digit, is_letter, is_name, is_word}
use Rattle.exposition.specs.Numbers.{number_text}
use Rattle.exposition.proofs.NumbersRead.{number_read}
use Rattle.exposition.proofs.Splits.{Stops, both_left, both_right, braces_read, cons_same, differ, split_same}
use Rattle.exposition.proofs.Unescaped.{escaped_same}

-- what a metric's name has
abbrev in_name : ℕ → Bool
in_name c = is_letter c || is_digit c || (c == 58)

-- what a label's name has
abbrev in_word : ℕ → Bool
in_word c = is_letter c || is_digit c

or_left : (a b : Bool) → a ≡ true → (a || b) ≡ true
or_left true b e = refl
or_left false b e = absurd (cc)

begins : (a d e : Bool) → (a || e) ≡ true → (a || d || e) ≡ true
begins true d e h = refl
begins false true e h = refl
begins false false e h = h

name_passes : (name : List ℕ) → IsTrue (is_name name) → list_all in_name name ≡ true
name_passes [] h = absurd (cc)
name_passes (b ∷ bs) h =
    let first = begins (is_letter b) (is_digit b) (b == 58) (both_left (is_letter b || (b == 58)) (list_all in_name bs) h) in
    rw first (both_right (is_letter b || (b == 58)) (list_all in_name bs) h)

word_passes : (word : List ℕ) → IsTrue (is_word word) → list_all in_word word ≡ true
word_passes [] h = absurd (cc)
word_passes (b ∷ bs) h =
    let first = or_left (is_letter b) (is_digit b) (both_left (is_letter b) (list_all in_word bs) h) in
    rw first (both_right (is_letter b) (list_all in_word bs) h)

-- a name is read back up to a byte that no name has
name_read : (m n x y : List ℕ) → IsTrue (is_name m) → IsTrue (is_name n) → Stops in_name x → Stops in_name y → m ++ x ≡ n ++ y
    → (m ≡ n) × (x ≡ y)
name_read m n x y p q sx sy e = split_same in_name m n x y (name_passes m p) (name_passes n q) sx sy e

label_parts : (l : LabelPair) (x : List ℕ)
    → label_text l ++ x ≡ l.name ++ (61 ∷ 34 ∷ (escaped true l.value ++ (34 ∷ x)))
label_parts l x =
    append_assoc l.name (codes "=\"" ++ (escaped true l.value ++ codes "\"")) x
    ∙ ap (λ t. l.name ++ (61 ∷ 34 ∷ t)) (append_assoc (escaped true l.value) (codes "\"") x)

label_read : (l m : LabelPair) (x y : List ℕ) → IsTrue (is_word l.name) → IsTrue (is_word m.name) → label_text l ++ x ≡ label_text m ++ y
    → (l ≡ m) × (x ≡ y)
label_read l m x y p q e =
    let (names, rest) = split_same in_word l.name m.name _ _ (word_passes l.name p) (word_passes m.name q) refl refl
    (sym (label_parts l x) ∙ e ∙ label_parts m y) in
    let (values, more) = escaped_same true l.value m.value x y (cons_same (cons_same rest).1).1 in
    (same_label l m names values, more)
  where
    same_label : (l m : LabelPair) → l.name ≡ m.name → l.value ≡ m.value → l ≡ m
    same_label l m names values = λ i. record { name = names i; value = values i }

labels_read : (ls ms : List LabelPair) (x y : List ℕ) → IsTrue (have_words ls) → IsTrue (have_words ms)
    → labels_text ls ++ (32 ∷ x) ≡ labels_text ms ++ (32 ∷ y) → (ls ≡ ms) × (x ≡ y)
labels_read [] [] x y p q e = (refl, (cons_same e).1)
labels_read [] (m ∷ ms) x y p q e = absurd (differ 32 123 refl (cons_same e).0)
labels_read (l ∷ ls) [] x y p q e = absurd (differ 123 32 refl (cons_same e).0)
labels_read (l ∷ ls) (m ∷ ms) x y p q e =
    braces_read label_text (λ k. is_word k.name) label_read l m ls ms x y p q (cons_same e).1

-- what stands behind a sample's name doesn't go on with it
labels_stop : (ls : List LabelPair) (x : List ℕ) → Stops in_name (labels_text ls ++ (32 ∷ x))
labels_stop [] x = refl
labels_stop (l ∷ ls) x = refl

kind_read : (k l : Kind) (x y : List ℕ) → kind_text k ++ (10 ∷ x) ≡ kind_text l ++ (10 ∷ y) → (k ≡ l) × (x ≡ y)
kind_read counter counter x y e = (refl, (cons_same (append_cancel_left (codes "counter") (10 ∷ x) (10 ∷ y) e)).1)
kind_read gauge gauge x y e = (refl, (cons_same (append_cancel_left (codes "gauge") (10 ∷ x) (10 ∷ y) e)).1)
kind_read histogram histogram x y e = (refl, (cons_same (append_cancel_left (codes "histogram") (10 ∷ x) (10 ∷ y) e)).1)
kind_read counter gauge x y e = absurd (differ 99 103 refl (ap (λ t. get_or t 0 0) e))
kind_read counter histogram x y e = absurd (differ 99 104 refl (ap (λ t. get_or t 0 0) e))
kind_read gauge counter x y e = absurd (differ 103 99 refl (ap (λ t. get_or t 0 0) e))
kind_read gauge histogram x y e = absurd (differ 103 104 refl (ap (λ t. get_or t 0 0) e))
kind_read histogram counter x y e = absurd (differ 104 99 refl (ap (λ t. get_or t 0 0) e))
kind_read histogram gauge x y e = absurd (differ 104 103 refl (ap (λ t. get_or t 0 0) e))

-- a comment and a sample begin with different bytes
no_comment : (name x y : List ℕ) → IsTrue (is_name name) → 35 ∷ x ≡ name ++ y → ⊥
no_comment [] x y h e = cc
no_comment (b ∷ bs) x y h e =
    let same : b ≡ 35 = cc in
    let named : is_name (35 ∷ bs) ≡ true = subst (λ c. is_name (c ∷ bs) ≡ true) same h in
    cc

help_parts : (name text x : List ℕ)
    → line_text (help_of name text) ++ (10 ∷ x) ≡ codes "# HELP " ++ (name ++ (32 ∷ (escaped false text ++ (10 ∷ x))))
help_parts name text x = ap (λ t. codes "# HELP " ++ t) (append_assoc name (codes " " ++ escaped false text) (10 ∷ x))

type_parts : (name : List ℕ) (kind : Kind) (x : List ℕ)
    → line_text (type_of name kind) ++ (10 ∷ x) ≡ codes "# TYPE " ++ (name ++ (32 ∷ (kind_text kind ++ (10 ∷ x))))
type_parts name kind x = ap (λ t. codes "# TYPE " ++ t) (append_assoc name (codes " " ++ kind_text kind) (10 ∷ x))

sample_parts : (name : List ℕ) (labels : List LabelPair) (number : ℕ) (x : List ℕ)
    → line_text (sample_of name labels number) ++ (10 ∷ x) ≡ name ++ (labels_text labels ++ (32 ∷ (number_text number ++ (10 ∷ x))))
sample_parts name labels number x =
    append_assoc name (labels_text labels ++ (codes " " ++ number_text number)) (10 ∷ x)
    ∙ ap (λ t. name ++ t) (append_assoc (labels_text labels) (codes " " ++ number_text number) (10 ∷ x))

-- a line is read back up to its LF
pub line_read : (l m : Line) (x y : List ℕ) → IsLine l → IsLine m → line_text l ++ (10 ∷ x) ≡ line_text m ++ (10 ∷ y) → (l ≡ m) × (x ≡ y)
line_read (help_of n t) (help_of n' t') x y p q e =
    let whole = sym (help_parts n t x) ∙ e ∙ help_parts n' t' y in
    let behind = append_cancel_left (codes "# HELP ") _ _ whole in
    let (names, rest) = name_read n n' _ _ p q refl refl behind in
    let (same, more) = escaped_same false t t' x y (cons_same rest).1 in
    (λ i. help_of (names i) (same i), more)
line_read (type_of n k) (type_of n' k') x y p q e =
    let whole = sym (type_parts n k x) ∙ e ∙ type_parts n' k' y in
    let behind = append_cancel_left (codes "# TYPE ") _ _ whole in
    let (names, rest) = name_read n n' _ _ p q refl refl behind in
    let (same, more) = kind_read k k' x y (cons_same rest).1 in
    (λ i. type_of (names i) (same i), more)
line_read (sample_of n ls v) (sample_of n' ls' v') x y p q e =
    let whole = sym (sample_parts n ls v x) ∙ e ∙ sample_parts n' ls' v' y in
    let (names, rest) = name_read n n' _ _ p.0 q.0 (labels_stop ls _) (labels_stop ls' _) whole in
    let (labels, numbers) = labels_read ls ls' _ _ p.1 q.1 rest in
    let (same, more) = number_read v v' x y p.2 q.2 numbers in
    (λ i. sample_of (names i) (labels i) (same i), more)
line_read (help_of n t) (type_of n' k') x y p q e = absurd (differ 72 84 refl (ap (λ t. get_or t 2 0) e))
line_read (type_of n k) (help_of n' t') x y p q e = absurd (differ 84 72 refl (ap (λ t. get_or t 2 0) e))
line_read (help_of n t) (sample_of n' ls' v') x y p q e = absurd (no_comment n' _ _ q.0 (e ∙ sample_parts n' ls' v' y))
line_read (type_of n k) (sample_of n' ls' v') x y p q e = absurd (no_comment n' _ _ q.0 (e ∙ sample_parts n' ls' v' y))
line_read (sample_of n ls v) (help_of n' t') x y p q e = absurd (no_comment n _ _ p.0 (sym e ∙ sample_parts n ls v x))
line_read (sample_of n ls v) (type_of n' k') x y p q e = absurd (no_comment n _ _ p.0 (sym e ∙ sample_parts n ls v x))

abbrev pub AreLines : List Line → Type 0
AreLines [] = Unit {0}
AreLines (l ∷ ls) = IsLine l × AreLines ls

line_parts : (l : Line) (ls : List Line) → lines_text (l ∷ ls) ≡ line_text l ++ (10 ∷ lines_text ls)
line_parts l ls = append_assoc (line_text l) (codes "\n") (lines_text ls)

no_line : (l : Line) (ls : List Line) → [] ≡ lines_text (l ∷ ls) → ⊥
no_line l ls e = go (line_text l) (e ∙ line_parts l ls)
  where
    go : (text : List ℕ) → [] ≡ text ++ (10 ∷ lines_text ls) → ⊥
    go [] h = cc
    go (b ∷ bs) h = cc

pub lines_read : (a b : List Line) → AreLines a → AreLines b → lines_text a ≡ lines_text b → a ≡ b
lines_read [] [] p q e = refl
lines_read [] (m ∷ b) p q e = absurd (no_line m b e)
lines_read (l ∷ a) [] p q e = absurd (no_line l a (sym e))
lines_read (l ∷ a) (m ∷ b) p q e =
    let (heads, tails) = line_read l m (lines_text a) (lines_text b) p.0 q.0 (sym (line_parts l a) ∙ e ∙ line_parts m b) in
    let rests = lines_read a b p.1 q.1 tails in
    λ i. heads i ∷ rests i

pub are_lines : (lines : List Line) → All IsLine lines → AreLines lines
are_lines [] p = tt
are_lines (l ∷ ls) p = (All-head IsLine l ls p, are_lines ls (All-tail IsLine l ls p))
