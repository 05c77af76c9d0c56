-- What was done, in such an order, is a list of a world's events.
use Rattle.std.proofs.Common.{◌≡◌, ◌⊎◌, inl, inr, ℕ, zero, suc, ◌+◌, ◌<◌, ◌≤◌, true, List, [], ◌∷◌, ◌++◌, None, Some, slice_get}
use Rattle.std.proofs.Common.{length, get_or, replicate, refl, sym, ap, subst, ◌∙◌, append_assoc, length-append, arith}
use Rattle.std.proofs.lemmas.Bool.Decides.{eqb_tells}
use Rattle.std.proofs.lemmas.List.{append-nil}
use Rattle.std.proofs.lemmas.List.Sums.{fold-append}
use Rattle.std.specs.Cmp.{IsTotalOrder}
use Rattle.std.specs.FinSet.{empty, IsAntisymmetric}
use Rattle.std.specs.List.{AllByRecursion}
use mathlib.Core.List.{IsPrefix}
use Rattle.reg_set.specs.RecordOrder.{record_cmp}
use Rattle.reg_topic.specs.Topic.{after_item, after_items}
use Rattle.reg_topic.specs.declared.published.Item.{Item}
use Rattle.reg_shared.specs.Held.{Held, base_of, topic_at}
use Rattle.reg_node.specs.Takes.{AreDrawn, IsDraw, floor_with, with_draw}
use Rattle.reg_node.specs.declared.take.Draw.{Draw}
use Rattle.reg_world.specs.State.{changed, no_records}
use Rattle.reg_world.specs.declared.node.WorldNode.{WorldNode}
use Rattle.reg_running.specs.Running.{Act, AreActs, AreAnswers, Deed, Drew, Told, IsRunningNode, Running, items_of, published, draws}
use Rattle.reg_running.specs.Woven.{ByNode, ByPen, Done, AreInPlace, HappensInTurn}
use Rattle.reg_running.specs.Woven.{IsWoven, RunningNodesAreAWorld, acts_in}
use Rattle.reg_running.specs.Woven.{deeds_of, read_of}
use Rattle.reg_running.proofs.Drawn.{drawn_longer, last_front, read_is}
use Rattle.reg_running.proofs.Lists.{other_deeds, own_deeds, prefix_shorter, prefix_whole}
use Rattle.reg_running.proofs.Steps.{act_happens, answer_happens, changed_count, changed_one}
use Rattle.reg_running.proofs.Steps.{changed_other, draw_happens, drawing, state_of}
use Rattle.reg_running.proofs.Steps.{with_deeds, with_one}

-- what a node has yet to do is drawn from fronts of that list, and its answers are right
pub record Fits (first : Held) (g : List Item) (n : WorldNode) (deeds : List Deed) : Type 0 where
  pub from : List Item
  pub drawn : AreDrawn first n.set.records n.set.floor from (draws deeds) g
  pub answers : AreAnswers n.set.records deeds
  pub same : n.took ≡ n.set.records

-- so does each node
abbrev pub AllFit : Held → List Item → List WorldNode → List Done → Type 0
AllFit first g nodes done = (i : ℕ) (n : WorldNode) → slice_get nodes i ≡ Some n → Fits first g n (deeds_of i done)

-- where some of it leads: the items and the nodes there
pub record Leads (first : Held) (from : List Item) (nodes : List WorldNode) (done : List Done) : Type 0 where
  pub ends : List WorldNode
  pub happens : HappensInTurn (state_of first from nodes) done (state_of first (from ++ published (acts_in done)) ends)
  pub each : (i : ℕ) (n : WorldNode) → slice_get nodes i ≡ Some n → slice_get ends i ≡ Some (with_deeds n (deeds_of i done))

some_same : (a b : WorldNode) → Some a ≡ Some b → a ≡ b
some_same a b e = cc

an_element : (nodes : List WorldNode) (i : ℕ) → i < length nodes → (n : WorldNode) × (slice_get nodes i ≡ Some n)
an_element [] i h = absurd (omega arith)
an_element (n ∷ nodes) zero h = (n, refl)
an_element (n ∷ nodes) (suc i) h = an_element nodes i (omega arith)

module _ (order : IsTotalOrder record_cmp) (apart : IsAntisymmetric record_cmp) (first : Held) (g : List Item) where
  -- a draw in its place is from the front there
  drawn_there : (from : List Item) (n : WorldNode) (t : Draw) (deeds : List Deed) → IsPrefix from g
      → read_of t ≡ length from → Fits first g n (Drew t ∷ deeds) → IsDraw first from n.set.records n.set.floor t
  drawn_there from n t deeds p place fits =
      let d = fits.drawn in
      let at = read_is first d.0 n.set.records n.set.floor t d.2 in
      let q : IsPrefix d.0 g = last_front first (with_draw n.set.records t) (floor_with n.set.floor t) d.0 g (draws deeds) d.3 in
      let same : from ≡ d.0 = prefix_whole from d.0 (prefix_shorter from d.0 g p q (omega (arith, place, at))) (omega (arith, place, at)) in
      subst (λ f. IsDraw first f n.set.records n.set.floor t) (sym same) d.2

  -- the nodes after one of them drew
  still_fit : (nodes : List WorldNode) (i : ℕ) (n : WorldNode) (t : Draw) (done : List Done) (f : WorldNode → WorldNode)
      → f n ≡ with_deeds n (Drew t ∷ []) → slice_get nodes i ≡ Some n
      → AllFit first g nodes (ByNode i (Drew t) ∷ done) → AllFit first g (changed i f nodes) done
  still_fit nodes i n t done f one there fits j m at = elim (eqb_tells i j) [
    | inl same ↦
        let now : slice_get (changed i f nodes) j ≡ Some (with_deeds n (Drew t ∷ [])) =
        subst (λ k. slice_get (changed i f nodes) k ≡ Some (with_deeds n (Drew t ∷ []))) same.1
        (changed_one f nodes i n there ∙ ap (λ x. Some x) one) in
        let is : with_deeds n (Drew t ∷ []) ≡ m = some_same (with_deeds n (Drew t ∷ [])) m (sym now ∙ at) in
        let was : Fits first g n (Drew t ∷ deeds_of j done) = subst (λ ds. Fits first g n ds)
        (own_deeds i j (Drew t) done same.1) (fits j n (subst (λ k. slice_get nodes k ≡ Some n) same.1 there)) in
        subst (λ x. Fits first g x (deeds_of j done)) is
        (record { from = was.drawn.0; drawn = was.drawn.3; answers = was.answers; same = ap (λ s. with_draw s t) was.same })
    | inr other ↦
        subst (λ ds. Fits first g m ds) (other_deeds i j (Drew t) done other.1) (fits j m (sym (changed_other f nodes i j other.1) ∙ at))
  ]

  -- the nodes after one of them told an answer
  fit_after_answer : (nodes : List WorldNode) (i : ℕ) (query : _) (answer : _) (done : List Done)
      → AllFit first g nodes (ByNode i (Told query answer) ∷ done) → AllFit first g nodes done
  fit_after_answer nodes i query answer done fits j m at = elim (eqb_tells i j) [
    | inl same ↦
        let was : Fits first g m (Told query answer ∷ deeds_of j done) =
        subst (λ ds. Fits first g m ds) (own_deeds i j (Told query answer) done same.1) (fits j m at) in
        record { from = was.from; drawn = was.drawn; answers = was.answers.1; same = was.same }
    | inr other ↦ subst (λ ds. Fits first g m ds) (other_deeds i j (Told query answer) done other.1) (fits j m at)
  ]

  each_after_draw : (nodes ends : List WorldNode) (i : ℕ) (n : WorldNode) (t : Draw) (done : List Done) (f : WorldNode → WorldNode)
      → f n ≡ with_deeds n (Drew t ∷ []) → slice_get nodes i ≡ Some n
      → ((j : ℕ) (m : WorldNode) → slice_get (changed i f nodes) j ≡ Some m → slice_get ends j ≡ Some (with_deeds m (deeds_of j done)))
      → (j : ℕ) (m : WorldNode) → slice_get nodes j ≡ Some m → slice_get ends j ≡ Some (with_deeds m (deeds_of j (ByNode i (Drew t) ∷ done)))
  each_after_draw nodes ends i n t done f one there each j m at = elim (eqb_tells i j) [
    | inl same ↦
        let is : n ≡ m = some_same n m (sym (subst (λ k. slice_get nodes k ≡ Some n) same.1 there) ∙ at) in
        let now : slice_get (changed i f nodes) j ≡ Some (with_deeds m (Drew t ∷ [])) =
        subst (λ k. slice_get (changed i f nodes) k ≡ Some (with_deeds m (Drew t ∷ []))) same.1
        (changed_one f nodes i n there ∙ (ap (λ x. Some x) one ∙ ap (λ x. Some (with_deeds x (Drew t ∷ []))) is)) in
        each j (with_deeds m (Drew t ∷ [])) now ∙ ap (λ ds. Some (with_deeds m ds)) (sym (own_deeds i j (Drew t) done same.1))
    | inr other ↦ each j m (changed_other f nodes i j other.1 ∙ at)
        ∙ ap (λ ds. Some (with_deeds m ds)) (sym (other_deeds i j (Drew t) done other.1))
  ]

  each_after_answer : (nodes ends : List WorldNode) (i : ℕ) (query : _) (answer : _) (done : List Done)
      → ((j : ℕ) (m : WorldNode) → slice_get nodes j ≡ Some m → slice_get ends j ≡ Some (with_deeds m (deeds_of j done)))
      → (j : ℕ) (m : WorldNode) → slice_get nodes j ≡ Some m
      → slice_get ends j ≡ Some (with_deeds m (deeds_of j (ByNode i (Told query answer) ∷ done)))
  each_after_answer nodes ends i query answer done each j m at = elim (eqb_tells i j) [
    | inl same ↦ each j m at ∙ ap (λ ds. Some (with_deeds m ds)) (sym (own_deeds i j (Told query answer) done same.1))
    | inr other ↦ each j m at ∙ ap (λ ds. Some (with_deeds m ds)) (sym (other_deeds i j (Told query answer) done other.1))
  ]

  -- what is done from there on
  leads : (done rest : List Done) (from : List Item) (nodes : List WorldNode) (read : ℕ)
      → read ≡ length from → g ≡ from ++ published (acts_in (done ++ rest))
      → AreActs (length nodes) (topic_at first from) (acts_in (done ++ rest)) → AreInPlace read (done ++ rest)
      → ((i : ℕ) (deed : Deed) (before after : List Done) → done ++ rest ≡ before ++ ByNode i deed ∷ after → i < length nodes)
      → AllFit first g nodes (done ++ rest) → Leads first from nodes done
  leads [] rest from nodes read is all are places within fits = record {
    ends = nodes;
    happens = ap (λ l. state_of first l nodes) (append-nil from);
    each = λ i n at. at;
  }
  leads (ByPen a ∷ done) rest from nodes read is all are places within fits =
      let next : List Item = from ++ items_of a in
      let goes : g ≡ next ++ published (acts_in (done ++ rest)) =
      all ∙ sym (append_assoc from (items_of a) (published (acts_in (done ++ rest)))) in
      let many : read + length (items_of a) ≡ length next = omega (arith, is, length-append from (items_of a)) in
      let topic : after_items (topic_at first from) (items_of a) ≡ topic_at first next =
      sym (fold-append after_item (base_of first) from (items_of a)) in
      let there = leads done rest next nodes (read + length (items_of a)) many goes
      (subst (λ t. AreActs (length nodes) t (acts_in (done ++ rest))) topic are.1) places
      (λ i deed before after e. within i deed (ByPen a ∷ before) after (ap (λ l. ByPen a ∷ l) e)) fits in
      record {
        ends = there.ends;
        happens = (
          state_of first next nodes,
          act_happens first from nodes a are.0,
          subst (λ l. HappensInTurn (state_of first next nodes) done (state_of first l there.ends))
              (append_assoc from (items_of a) (published (acts_in done))) there.happens,
        );
        each = there.each;
      }
  leads (ByNode i (Told query answer) ∷ done) rest from nodes read is all are places within fits =
      let n = an_element nodes i (within i (Told query answer) [] (done ++ rest) refl) in
      let fit : Fits first g n.0 (Told query answer ∷ deeds_of i (done ++ rest)) =
      subst (λ ds. Fits first g n.0 ds) (own_deeds i i (Told query answer) (done ++ rest) refl) (fits i n.0 n.1) in
      let there = leads done rest from nodes read is all are places
      (λ j deed before after e.
      within j deed (ByNode i (Told query answer) ∷ before) after (ap (λ l. ByNode i (Told query answer) ∷ l) e))
      (fit_after_answer nodes i query answer (done ++ rest) fits) in
      record {
        ends = there.ends;
        happens = (state_of first from nodes, answer_happens first from nodes i n.0 query answer n.1 fit.answers.0, there.happens);
        each = each_after_answer nodes there.ends i query answer done there.each;
      }
  leads (ByNode i (Drew t) ∷ done) rest from nodes read is all are places within fits =
      let n = an_element nodes i (within i (Drew t) [] (done ++ rest) refl) in
      let fit : Fits first g n.0 (Drew t ∷ deeds_of i (done ++ rest)) =
      subst (λ ds. Fits first g n.0 ds) (own_deeds i i (Drew t) (done ++ rest) refl) (fits i n.0 n.1) in
      let front : IsPrefix from g = (published (acts_in (done ++ rest)), sym all) in
      let is_draw = drawn_there from n.0 t (deeds_of i (done ++ rest)) front (places.0 ∙ is) fit in
      let f : WorldNode → WorldNode = drawing first from nodes t in
      let one : f n.0 ≡ with_deeds n.0 (Drew t ∷ []) = with_one order apart first from nodes n.0 t fit.same is_draw in
      let after : List WorldNode = changed i f nodes in
      let count : length after ≡ length nodes = changed_count f nodes i in
      let there = leads done rest from after read is all (
      subst (λ c. AreActs c (topic_at first from) (acts_in (done ++ rest))) (sym count) are) places.1
      (λ j deed before more e.
      subst (λ c. j < c) (sym count) (within j deed (ByNode i (Drew t) ∷ before) more (ap (λ l. ByNode i (Drew t) ∷ l) e)))
      (still_fit nodes i n.0 t (done ++ rest) f one n.1 fits) in
      record {
        ends = there.ends;
        happens = (state_of first from after, draw_happens first from nodes i n.0 t n.1 is_draw, there.happens);
        each = each_after_draw nodes there.ends i n.0 t done f one n.1 there.each;
      }

-- Nodes begin with nothing.
so_many : (n : ℕ) → length (replicate n no_records) ≡ n
so_many zero = refl
so_many (suc n) = ap suc (so_many n)

begins_so : (count i : ℕ) → i < count → slice_get (replicate count no_records) i ≡ Some no_records
begins_so zero i h = absurd (omega arith)
begins_so (suc n) zero h = refl
begins_so (suc n) (suc i) h = begins_so n i (omega arith)

begins_with : (count i : ℕ) (n : WorldNode) → slice_get (replicate count no_records) i ≡ Some n → (i < count) × (no_records ≡ n)
begins_with zero i n e = let no : None ≡ Some n = e in absurd cc
begins_with (suc c) zero n e = (omega arith, some_same no_records n e)
begins_with (suc c) (suc i) n e = let h = begins_with c i n e in (omega (arith, h.0), h.1)

node_there : (P : List Deed → Type 0) (lists : List (List Deed)) (i : ℕ) → AllByRecursion P lists → i < length lists → P (get_or lists i [])
node_there P [] i all h = absurd (omega arith)
node_there P (ds ∷ lists) zero all h = all.0
node_there P (ds ∷ lists) (suc i) all h = node_there P lists i all.1 (omega arith)

nobody : (lists : List (List Deed)) (i : ℕ) → length lists ≤ i → get_or lists i [] ≡ []
nobody [] i h = refl
nobody (ds ∷ lists) zero h = absurd (omega arith)
nobody (ds ∷ lists) (suc i) h = nobody lists i (omega arith)

-- who did something did it
some_deed : (before after : List Done) (i : ℕ) (deed : Deed) → deeds_of i (before ++ ByNode i deed ∷ after) ≡ [] → ⊥
some_deed [] after i deed none = let one = sym (own_deeds i i deed after refl) ∙ none in cc
some_deed (ByPen a ∷ before) after i deed none = some_deed before after i deed none
some_deed (ByNode j d ∷ before) after i deed none = elim (eqb_tells j i) [
  | inl same ↦ let one = sym (own_deeds j i d (before ++ ByNode i deed ∷ after) same.1) ∙ none in cc
  | inr other ↦ some_deed before after i deed (sym (other_deeds j i d (before ++ ByNode i deed ∷ after) other.1) ∙ none)
]

less_or_not : (m n : ℕ) → (m < n) ⊎ (n ≤ m)
less_or_not m n = grind arith

by_a_node : (r : Running) (done : List Done) → IsWoven r done → (i : ℕ) (deed : Deed) (before after : List Done)
    → done ≡ before ++ ByNode i deed ∷ after → i < length r.nodes
by_a_node r done woven i deed before after e = elim (less_or_not i (length r.nodes)) [
  | inl low ↦ low
  | inr high ↦ absurd (some_deed before after i deed (ap (deeds_of i) (sym e) ∙ (woven.deeds i ∙ nobody r.nodes i high)))
]

pub are_a_world : IsTotalOrder record_cmp → IsAntisymmetric record_cmp → RunningNodesAreAWorld
are_a_world order apart r h done rest woven =
    let count = length r.nodes in
    let nodes : List WorldNode = replicate count no_records in
    let g : List Item = published r.acts in
    let goes : g ≡ published (acts_in (done ++ rest)) = ap published (sym woven.acts) in
    let acts : AreActs (length nodes) (base_of r.first) (acts_in (done ++ rest)) =
    subst (λ c. AreActs c (base_of r.first) (acts_in (done ++ rest))) (sym (so_many count))
    (subst (λ (l : List Act). AreActs count (base_of r.first) l) (sym woven.acts) h.acts) in
    let fits : AllFit r.first g nodes (done ++ rest) = λ i n at.
    let there = begins_with count i n at in
    let node : IsRunningNode r.first g (get_or r.nodes i []) = node_there (IsRunningNode r.first g) r.nodes i h.nodes there.0 in
    subst (λ x. Fits r.first g x (deeds_of i (done ++ rest))) there.1
    (subst (λ ds. Fits r.first g no_records ds) (sym (woven.deeds i))
    (record {
      from = [];
      drawn = drawn_longer r.first empty 0 [] node.front g (draws (get_or r.nodes i [])) node.drawn node.read;
      answers = node.answers;
      same = refl;
    }))
    in
    let there = leads order apart r.first g done rest [] nodes 0 refl goes acts woven.places
    (λ i deed before after e. subst (λ c. i < c) (sym (so_many count)) (by_a_node r (done ++ rest) woven i deed before after e)) fits in (
      state_of r.first (published (acts_in done)) there.ends,
      record {
        happens = there.happens;
        base = refl;
        items = refl;
        settled = refl;
        nodes = λ i low. there.each i no_records (begins_so count i low);
      },
    )
