-- The desk of a fold does what is said of the topic over its log.
use Rattle.std.proofs.Common.{◌≡◌, List, [], ◌∷◌, ◌++◌, ℕ, ◌+◌, true, Option, length, refl, sym, ap, subst, ◌∙◌, inl, inr, append-nil}
use Rattle.std.specs.Prelude.{IfOk, Result}
use Rattle.std.specs.FinSet.{from_list, union}
use Rattle.std.specs.declared.alloc.AllocError.{AllocError}
use Rattle.reg_leader.specs.Step.{IsStep}
use Rattle.reg_leader.specs.declared.command.Command.{Command}
use Rattle.reg_leader.specs.declared.reply.Reply.{Reply}
use Rattle.reg_lookup.specs.Answers.{IsAnswer}
use Rattle.reg_lookup.specs.declared.answered.Answer.{Answer}
use Rattle.reg_lookup.specs.declared.query.Query.{Query}
use Rattle.reg_records.specs.declared.device.Device.{Device}
use Rattle.reg_records.specs.declared.record.Record.{Record}
use Rattle.reg_set.specs.Join.{LastRecordsOfUnion}
use Rattle.reg_set.specs.LastRecords.{last_records}
use Rattle.reg_set.specs.Records.{Records}
use Rattle.reg_topic.specs.Laws.{CommitsFollow, ItemsAreFoldedInTurn, LawfulListsGoOn}
use Rattle.reg_topic.specs.Topic.{MayCommit, after_batch, after_items, follows, registry_of}
use Rattle.reg_topic.specs.declared.published.Commit.{Commit}
use Rattle.reg_topic.specs.declared.published.Item.{Item}
use Rattle.reg_topic.specs.declared.published.Item.TheVariants as items
use Rattle.reg_topic.specs.declared.topic.Topic.{Topic}
use Rattle.reg_http.specs.Serve.{IsOutput, IsServeRefusal}
use Rattle.reg_http.specs.declared.serving.ServeError.{ServeError}
use Rattle.reg_program.specs.Desk.{IsDeskAt, desk_asks, desk_commands, with_batch}
use Rattle.reg_program.specs.Published.{asks, commands, commits}
use Rattle.reg_program.specs.declared.desk.FoldDesk.{FoldDesk}
use Rattle.reg_program.proofs.Alike.{output, refusal}

-- a batch that has a record
some_record : (r : Record) (rs : List Record) → ◌≡◌ {A = List Record} (r ∷ rs) [] → ⊥
some_record r rs e = absurd (cc)

module _ (of_union : LastRecordsOfUnion) (turn : ItemsAreFoldedInTurn) (go : LawfulListsGoOn) (follow : CommitsFollow) (base : Topic) where
  -- a batch that has a record is one more item
  one_more : (d : FoldDesk) (done : List Item) (c : Command) (reply : Reply) (r : Record) (rs : List Record) → IsDeskAt base done d
      → IsStep (registry_of (after_items base done)) (after_items base done).next c reply (r ∷ rs)
      → IsDeskAt base (done ++ commits c (r ∷ rs)) (with_batch d (r ∷ rs))
  one_more d done c reply r rs at step =
      let t : Topic = after_items base done in
      let commit : Commit = record { command = c; batch = r ∷ rs } in
      let may : MayCommit t commit = record { reply = reply; step = step; writes = some_record r rs } in
      let on : follows t.next (r ∷ rs) ≡ true = follow t commit may in
      let there : after_items base (done ++ items.Commit commit ∷ []) ≡ after_batch true t (r ∷ rs) =
      turn base done (items.Commit commit) ∙ ap (λ b. after_batch b t (r ∷ rs)) on in
      record {
        registry = ap (λ (rs' : Records). last_records (union rs' (from_list (r ∷ rs)))) at.registry
            ∙ of_union t.log (from_list (r ∷ rs))
            ∙ sym (ap registry_of there);
        next = ap (λ n. n + length (r ∷ rs)) at.next ∙ sym (ap (λ (u : Topic). u.next) there);
        lawful = go base done (items.Commit commit) at.lawful may;
      }

  with_step : (d : FoldDesk) (done : List Item) (c : Command) (reply : Reply) (batch : List Record) → IsDeskAt base done d
      → IsStep (registry_of (after_items base done)) (after_items base done).next c reply batch
      → IsDeskAt base (done ++ commits c batch) (with_batch d batch)
  with_step d done c reply [] at step = subst (λ is. IsDeskAt base is d) (sym (append-nil done)) at
  with_step d done c reply (r ∷ rs) at step = one_more d done c reply r rs at step

  ask : (d d' : FoldDesk) (done : List Item) (query : Query) (answered : Result Answer AllocError)
      → IsDeskAt base done d → desk_asks d query answered d'
      → (done' : List Item) × IsDeskAt base done' d' × asks base done query answered done'
  ask d d' done query answered at (same, is) =
      (done, subst (IsDeskAt base done) (sym same) at, (refl, subst (λ rs. IfOk answered (IsAnswer rs query)) at.registry is))

  command : (d d' : FoldDesk) (done : List Item) (c : Command) (reply : Reply) → IsDeskAt base done d → desk_commands d c reply d'
      → (done' : List Item) × IsDeskAt base done' d' × commands base done c reply done'
  command d d' done c reply at (inl (batch, step, is)) =
      let here : IsStep (registry_of (after_items base done)) (after_items base done).next c reply batch =
      subst (λ n. IsStep (registry_of (after_items base done)) n c reply batch) at.next
      (subst (λ rs. IsStep rs d.next c reply batch) at.registry step) in (
        done ++ commits c batch,
        subst (IsDeskAt base (done ++ commits c batch)) (sym is) (with_step d done c reply batch at here),
        inl (batch, here, refl),
      )
  command d d' done c reply at (inr (refused, same)) = (done, subst (IsDeskAt base done) (sym same) at, inr (refused, refl))

  pub outputs : (d d' : FoldDesk) (text : List ℕ) (count : ℕ) (out : List ℕ)
      → IsDeskAt base [] d → IsOutput desk_asks desk_commands d text count out d'
      → (done : List Item) × IsDeskAt base done d' × IsOutput (asks base) (commands base) [] text count out done
  outputs d d' text count out at is =
      output desk_asks desk_commands (asks base) (commands base)
      (λ desk done. IsDeskAt base done desk) ask command d d' [] text count out at is

  pub refusals : {R W : Type 0} (reader reader' : Device R) (writer writer' : Device W)
      (input left before after : Option (List ℕ)) (d d' : FoldDesk) (cause : ServeError)
      → IsDeskAt base [] d → IsServeRefusal desk_asks desk_commands reader reader' writer writer' input left before after d d' cause
      → (d'' : FoldDesk) × (done : List Item) × IsDeskAt base done d''
      × IsServeRefusal (asks base) (commands base) reader reader' writer writer' input left before after [] done cause
  refusals reader reader' writer writer' input left before after d d' cause at is =
      refusal desk_asks desk_commands (asks base) (commands base) (λ desk done. IsDeskAt base done desk) ask command
      reader reader' writer writer' input left before after d d' [] cause at is
