-- Pens take part in the log of which their chains told beginnings.
use Rattle.std.proofs.Common.{◌≡◌, List, [], ◌∷◌, ◌++◌, refl, sym, ap, subst, ◌∙◌}
use Rattle.std.proofs.lemmas.List.{append-nil, append_assoc}
use mathlib.Core.List.{IsPrefix}
use Rattle.reg_records.specs.declared.record.Record.{Record}
use Rattle.reg_topic.specs.Laws.{LawfulListsGoOn}
use Rattle.reg_topic.specs.Topic.{IsLawful, after_items}
use Rattle.reg_topic.specs.declared.published.Item.{Item}
use Rattle.reg_topic.specs.declared.published.Item.TheVariants as items
use Rattle.reg_topic.specs.declared.topic.Topic.{Topic}
use Rattle.reg_pen.specs.Pen.{Pends}
use Rattle.reg_join.specs.Joined as joined
use Rattle.reg_join.specs.Joining.{AreTakenAt}
use Rattle.reg_join.specs.declared.join_keep.Stand.{Stand}
use Rattle.reg_join.specs.declared.join_keep.Stand.TheVariants.{Level, Due, Stopped}
use Rattle.reg_processes.specs.Laws.{FrontsTakePart}
use Rattle.reg_processes.specs.Process.{batches_in}
use Rattle.reg_joined.specs.Pens.{LevelPensTookAll, NewPensJoin, PensTakePart, ReadersTakePart, process_of}

-- both words for the batches of a list are one
same_batches : (is : List Item) → joined.batches_in is ≡ batches_in is
same_batches [] = refl
same_batches (items.Commit commit ∷ is) = ap (λ (bs : List (List Record)). commit.batch ∷ bs) (same_batches is)
same_batches (items.Compaction c ∷ is) = same_batches is

pends_lawful : LawfulListsGoOn → (base : Topic) (is pending : List Item) → IsLawful base is → Pends (after_items base is) pending
    → IsLawful base (is ++ pending)
pends_lawful go base is [] lawful pends = subst (IsLawful base) (sym (append-nil is)) lawful
pends_lawful go base is (i ∷ []) lawful pends = go base is i lawful pends
pends_lawful go base is (i ∷ j ∷ js) lawful pends = absurd pends

module _ {C : Type 0} (told : C → List (List Record)) where
  -- what was taken is a beginning of what was told
  taken_begins : (stand : Stand) (all taken : List (List Record)) → AreTakenAt told stand all taken → IsPrefix taken all
  taken_begins Level all taken same = ([], append-nil taken ∙ sym same)
  taken_begins (Due batch) all taken same = (batch ∷ [], sym same)
  taken_begins Stopped all taken begins = begins

  pub pens_take_part : LawfulListsGoOn → PensTakePart told
  pens_take_part go log early base l joins =
      let all : List (List Record) = told l.keep.chain in
      let taken : List (List Record) = batches_in (l.published ++ l.pending) in
      let same = same_batches (l.published ++ l.pending) in
      let begins : IsPrefix taken all =
      subst (λ (bs : List (List Record)). IsPrefix bs all) same
      (taken_begins l.keep.stand all (joined.batches_in (l.published ++ l.pending)) joins.joined.taken) in
      record {
        adopted = joins.pen.adopted;
        stands = joins.stands;
        lawful = pends_lawful go base l.published l.pending joins.pen.lawful joins.pen.pends;
        begins = (
          begins.0 ++ joins.begins.0,
          append_assoc early taken (begins.0 ++ joins.begins.0)
              ∙ ap (λ bs. early ++ bs) (sym (append_assoc taken begins.0 joins.begins.0) ∙ ap (λ bs. bs ++ joins.begins.0) begins.1)
              ∙ sym (append_assoc early all joins.begins.0)
              ∙ joins.begins.1,
        );
      }

  pub readers_take_part : FrontsTakePart → PensTakePart told → ReadersTakePart told
  readers_take_part fronts pens log early base l joins =
      fronts log (process_of early base (l.published ++ l.pending)) (pens log early base l joins) l.published (l.pending, refl)

  pub level_pens_took_all : LevelPensTookAll told
  level_pens_took_all log early base l joins level =
      let same : told l.keep.chain ≡ joined.batches_in (l.published ++ l.pending) =
      subst (λ (stand : Stand). AreTakenAt told stand (told l.keep.chain) (joined.batches_in (l.published ++ l.pending))) level joins.joined.taken in
      ap (λ bs. early ++ bs) (sym (same_batches (l.published ++ l.pending)) ∙ sym same)

  pub new_pens_join : NewPensJoin told
  new_pens_join log early base keep adopted stands is_front none level = record {
    pen = record { adopted = adopted; lawful = tt; pends = tt };
    joined = record { kept = refl; taken = subst (λ (stand : Stand). AreTakenAt told stand (told keep.chain) []) (sym level) none };
    stands = stands;
    begins = (
      is_front.0,
      ap (λ bs. (early ++ bs) ++ is_front.0) none ∙ ap (λ bs. bs ++ is_front.0) (append-nil early) ∙ is_front.1,
    );
  }
