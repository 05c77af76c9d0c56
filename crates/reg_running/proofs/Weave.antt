-- An order of all that was done: after so many items, what the nodes did up to there, and then the next act.
use Rattle.std.proofs.Common.{◌≡◌, ℕ, zero, suc, ◌+◌, ◌<◌, ◌≤◌, ◌==◌, true, false, List, [], ◌∷◌, ◌++◌, length, map}
use Rattle.std.proofs.Common.{get_or, if◌then◌else◌, refl, sym, ap, subst, ◌∙◌, append_assoc, length-append, arith}
use Rattle.std.specs.Bool.{nat_le}
use Rattle.std.proofs.lemmas.List.{append-nil}
use Rattle.std.specs.List.{AllByRecursion}
use mathlib.Core.List.{IsPrefix}
use Rattle.reg_topic.specs.declared.published.Item.{Item}
use Rattle.reg_shared.specs.Held.{Held}
use Rattle.std.specs.FinSet.{empty}
use Rattle.reg_set.specs.Records.{Records}
use Rattle.reg_node.specs.Takes.{AreDrawn, floor_with, with_draw}
use Rattle.reg_running.specs.Running.{Act, Carried, Dropped, Deed, Drew, Told, IsRunningNode, items_of, published, draws}
use Rattle.reg_running.specs.Woven.{ByNode, ByPen, Done, AreInPlace, RunningNodesAreWoven, acts_in, deeds_of, read_of}
use Rattle.reg_running.proofs.Drawn.{AnyDrawn, all_upto, behind, both_parts, drawn_behind, drawn_longer, read_is, upto}
use Rattle.reg_running.proofs.Lists.{at_most, other_deeds, own_deeds, prefix_length}

abbrev deeds_done : ℕ → ℕ → List (List Deed) → List Done
deeds_done read node [] = []
deeds_done read node (ds ∷ lists) = map (ByNode node) (upto read ds) ++ deeds_done read (suc node) lists

abbrev weave : ℕ → List Act → List (List Deed) → List Done
weave read [] lists = deeds_done read 0 lists
weave read (a ∷ acts) lists = deeds_done read 0 lists ++ ByPen a ∷ weave (read + length (items_of a)) acts (map (behind read) lists)

-- The acts in it.
acts_in-append : (xs ys : List Done) → acts_in (xs ++ ys) ≡ acts_in xs ++ acts_in ys
acts_in-append [] ys = refl
acts_in-append (ByPen a ∷ xs) ys = ap (λ l. a ∷ l) (acts_in-append xs ys)
acts_in-append (ByNode i d ∷ xs) ys = acts_in-append xs ys

no_act : (node : ℕ) (ds : List Deed) → acts_in (map (ByNode node) ds) ≡ []
no_act node [] = refl
no_act node (d ∷ ds) = no_act node ds

no_acts : (read node : ℕ) (lists : List (List Deed)) → acts_in (deeds_done read node lists) ≡ []
no_acts read node [] = refl
no_acts read node (ds ∷ lists) =
    acts_in-append (map (ByNode node) (upto read ds)) (deeds_done read (suc node) lists)
    ∙ (ap (λ l. l ++ acts_in (deeds_done read (suc node) lists)) (no_act node (upto read ds)) ∙ no_acts read (suc node) lists)

acts_woven : (read : ℕ) (acts : List Act) (lists : List (List Deed)) → acts_in (weave read acts lists) ≡ acts
acts_woven read [] lists = no_acts read 0 lists
acts_woven read (a ∷ acts) lists =
    let rest : List Done = weave (read + length (items_of a)) acts (map (behind read) lists) in
    acts_in-append (deeds_done read 0 lists) (ByPen a ∷ rest)
    ∙ (
    ap (λ l. l ++ a ∷ acts_in rest) (no_acts read 0 lists)
    ∙ ap (λ l. a ∷ l) (acts_woven (read + length (items_of a)) acts (map (behind read) lists)))

-- The deeds of a node in it.
deeds_of-append : (i : ℕ) (xs ys : List Done) → deeds_of i (xs ++ ys) ≡ deeds_of i xs ++ deeds_of i ys
deeds_of-append i [] ys = refl
deeds_of-append i (ByPen a ∷ xs) ys = deeds_of-append i xs ys
deeds_of-append i (ByNode j d ∷ xs) ys =
    elim (j == i) as (λ b.
    (if b then d ∷ deeds_of i (xs ++ ys) else deeds_of i (xs ++ ys))
    ≡ (if b then d ∷ deeds_of i xs else deeds_of i xs) ++ deeds_of i ys) [
      | true ↦ ap (λ l. d ∷ l) (deeds_of-append i xs ys)
      | false ↦ deeds_of-append i xs ys
    ]

all_own : (j i : ℕ) (ds : List Deed) → j ≡ i → deeds_of i (map (ByNode j) ds) ≡ ds
all_own j i [] e = refl
all_own j i (d ∷ ds) e = own_deeds j i d (map (ByNode j) ds) e ∙ ap (λ l. d ∷ l) (all_own j i ds e)

none_own : (j i : ℕ) (ds : List Deed) → (j ≡ i → ⊥) → deeds_of i (map (ByNode j) ds) ≡ []
none_own j i [] apart = refl
none_own j i (d ∷ ds) apart = other_deeds j i d (map (ByNode j) ds) apart ∙ none_own j i ds apart

below : (read j i : ℕ) (lists : List (List Deed)) → i < j → deeds_of i (deeds_done read j lists) ≡ []
below read j i [] h = refl
below read j i (ds ∷ lists) h =
    deeds_of-append i (map (ByNode j) (upto read ds)) (deeds_done read (suc j) lists)
    ∙ (
    ap (λ l. l ++ deeds_of i (deeds_done read (suc j) lists)) (none_own j i (upto read ds) (λ e. omega (arith, e, h)))
    ∙ below read (suc j) i lists (omega (arith, h)))

at_place : (read j k i : ℕ) (lists : List (List Deed)) → i ≡ j + k → deeds_of i (deeds_done read j lists) ≡ upto read (get_or lists k [])
at_place read j k i [] e = refl
at_place read j zero i (ds ∷ lists) e =
    deeds_of-append i (map (ByNode j) (upto read ds)) (deeds_done read (suc j) lists)
    ∙ (ap (λ l. l ++ deeds_of i (deeds_done read (suc j) lists)) (all_own j i (upto read ds) (omega (arith, e)))
    ∙ (ap (λ l. upto read ds ++ l) (below read (suc j) i lists (omega (arith, e))) ∙ append-nil (upto read ds)))
at_place read j (suc k) i (ds ∷ lists) e =
    deeds_of-append i (map (ByNode j) (upto read ds)) (deeds_done read (suc j) lists)
    ∙ (
    ap (λ l. l ++ deeds_of i (deeds_done read (suc j) lists)) (none_own j i (upto read ds) (λ s. omega (arith, e, s)))
    ∙ at_place read (suc j) k i lists (omega (arith, e)))

behind_at : (read i : ℕ) (lists : List (List Deed)) → get_or (map (behind read) lists) i [] ≡ behind read (get_or lists i [])
behind_at read i [] = refl
behind_at read zero (ds ∷ lists) = refl
behind_at read (suc i) (ds ∷ lists) = behind_at read i lists

one_item : (a : Act) → length (items_of a) ≤ 1
one_item (Carried node command reply []) = omega arith
one_item (Carried node command reply (r ∷ rs)) = omega arith
one_item (Dropped c) = omega arith

module _ (first : Held) (g : List Item) where
  -- what each node has yet to do is drawn behind that front
  abbrev AllDrawn : List Item → List (List Deed) → Type 0
  AllDrawn from lists = AllByRecursion (λ ds. AnyDrawn first from (draws ds) g) lists

  upto_at : (from : List Item) (read i : ℕ) (lists : List (List Deed)) → length g ≤ read
      → AllDrawn from lists → upto read (get_or lists i []) ≡ get_or lists i []
  upto_at from read i [] h all = refl
  upto_at from read zero (ds ∷ lists) h all = all_upto first all.0.0 all.0.1 read from g ds h all.0.2
  upto_at from read (suc i) (ds ∷ lists) h all = upto_at from read i lists h all.1

  all_behind : (from next : List Item) (read : ℕ) (lists : List (List Deed)) → IsPrefix next g
      → length next ≤ suc read → AllDrawn from lists → AllDrawn next (map (behind read) lists)
  all_behind from next read [] p h all = tt
  all_behind from next read (ds ∷ lists) p h all =
      (drawn_behind first all.0.0 all.0.1 read from next g ds p h all.0.2, all_behind from next read lists p h all.1)

  -- the draws up to there are in their place
  deeds_in_place : (s : Records) (floor : ℕ) (from : List Item) (read node : ℕ) (ds : List Deed) (rest : List Done)
      → read ≡ length from → AreDrawn first s floor from (draws ds) g → AreInPlace read rest
      → AreInPlace read (map (ByNode node) (upto read ds) ++ rest)
  deeds_in_place s floor from read node [] rest is d places = places
  deeds_in_place s floor from read node (Told query answer ∷ ds) rest is d places =
      deeds_in_place s floor from read node ds rest is d places
  deeds_in_place s floor from read node (Drew t ∷ ds) rest is d places =
      elim (nat_le (read_of t) read) as (λ b.
      nat_le (read_of t) read ≡ b → AreInPlace read (map (ByNode node) (if b then Drew t ∷ upto read ds else []) ++ rest)) [
        | true ↦ λ low.
            let at = read_is first d.0 s floor t d.2 in
            let place : read_of t ≡ read = omega (arith, at_most (read_of t) read low, at, is, prefix_length from d.0 d.1) in
            (place, deeds_in_place (with_draw s t) (floor_with floor t) d.0 read node ds rest (omega (arith, place, at)) d.3 places)
        | false ↦ λ _. places
      ] refl

  all_in_place : (from : List Item) (read node : ℕ) (lists : List (List Deed)) (rest : List Done) → read ≡ length from
      → AllDrawn from lists → AreInPlace read rest → AreInPlace read (deeds_done read node lists ++ rest)
  all_in_place from read node [] rest is all places = places
  all_in_place from read node (ds ∷ lists) rest is all places =
      subst (AreInPlace read) (sym (append_assoc (map (ByNode node) (upto read ds)) (deeds_done read (suc node) lists) rest))
      (deeds_in_place all.0.0 all.0.1 from read node ds (deeds_done read (suc node) lists ++ rest) is all.0.2
      (all_in_place from read (suc node) lists rest is all.1 places))

  -- all that was done from a front on
  woven_so : (acts : List Act) (from : List Item) (read : ℕ) (lists : List (List Deed))
      → read ≡ length from → g ≡ from ++ published acts → AllDrawn from lists
      → ((i : ℕ) → deeds_of i (weave read acts lists) ≡ get_or lists i []) × AreInPlace read (weave read acts lists)
  woven_so [] from read lists is goes all = (
    (λ i.
        at_place read 0 i i lists (omega arith)
        ∙ upto_at from read i lists (omega (arith, is, ap (λ (l : List Item). length l) goes, length-append from (published []))) all),
    subst (AreInPlace read) (append-nil (deeds_done read 0 lists)) (all_in_place from read 0 lists [] is all tt),
  )
  woven_so (a ∷ acts) from read lists is goes all =
      let next : List Item = from ++ items_of a in
      let on : g ≡ next ++ published acts = goes ∙ sym (append_assoc from (items_of a) (published acts)) in
      let many : read + length (items_of a) ≡ length next = omega (arith, is, length-append from (items_of a)) in
      let few : length next ≤ suc read = omega (arith, many, one_item a) in
      let left : List (List Deed) = map (behind read) lists in
      let rest : List Done = weave (read + length (items_of a)) acts left in
      let there =
      woven_so acts next (read + length (items_of a)) left many on (all_behind from next read lists (published acts, sym on) few all) in (
        (λ i.
            deeds_of-append i (deeds_done read 0 lists) (ByPen a ∷ rest)
            ∙ (ap (λ l. l ++ deeds_of i rest) (at_place read 0 i i lists (omega arith))
            ∙ (ap (λ l. upto read (get_or lists i []) ++ l) (there.0 i ∙ behind_at read i lists) ∙ both_parts read (get_or lists i [])))),
        all_in_place from read 0 lists (ByPen a ∷ rest) is all there.1,
      )

all_drawn : (first : Held) (g : List Item) (lists : List (List Deed))
    → AllByRecursion (IsRunningNode first g) lists → AllDrawn first g [] lists
all_drawn first g [] h = tt
all_drawn first g (ds ∷ lists) h =
    ((empty, 0, drawn_longer first empty 0 [] h.0.front g (draws ds) h.0.drawn h.0.read), all_drawn first g lists h.1)

pub are_woven : RunningNodesAreWoven
are_woven r h =
    let so = woven_so r.first (published r.acts) r.acts [] 0 r.nodes refl refl (all_drawn r.first (published r.acts) r.nodes h.nodes) in (
      weave 0 r.acts r.nodes,
      record { acts = acts_woven 0 r.acts r.nodes; deeds = so.0; places = so.1 },
    )
