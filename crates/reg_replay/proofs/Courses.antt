-- What a course tells that wrote something.
use Rattle.std.proofs.Common.{◌≡◌, inl, inr, ℕ, suc, ◌+◌, Bool, true, false, nat_le, List, [], ◌∷◌, length}
use Rattle.std.proofs.Common.{Option, Some, None, Ok, Err, refl, sym, ap, subst, ◌∙◌}
use Rattle.reg_leader.specs.reg_levels.Texts.{VersionText, TextsMeet}
use Rattle.reg_leader.specs.reg_level_names.declared.level.Level.{Level}
use Rattle.reg_leader.specs.reg_modes.Permitted.{Permit, granted}
use Rattle.reg_leader.specs.reg_records.declared.limits.TheConstants.{OFFSET_LIMIT}
use Rattle.reg_leader.specs.reg_records.declared.record.Record.{Record}
use Rattle.reg_leader.specs.reg_refusals.declared.refusal.Refusal.{Refusal}
use Rattle.reg_leader.specs.reg_rules.Writings.{numbered}
use Rattle.reg_leader.specs.reg_rules.declared.writing.Writing.{Writing}
use Rattle.reg_leader.specs.Course.{Course, Refused, Does, IfMet, IsOutcome, ◌▸◌, where_found, if_offsets_last}
use Rattle.reg_leader.specs.declared.reply.Reply.{Reply}

module _ (n : ℕ) (r : Record) (more : List Record) where
  abbrev pub batch : List Record
  batch = r ∷ more

  -- the course writes the batch, whatever it replies
  abbrev pub Wrote : Course → Type 0
  Wrote c = (reply : Reply) × IsOutcome n c reply batch

  pub refused : (why : Refusal) → Wrote (Refused why) → ⊥
  refused why (reply, is) = let no : batch ≡ [] = is.1 in cc

  pub passed : (t : Permit) (c : Course) → Wrote (t ▸ c) → (t ≡ granted) × Wrote c
  passed (Ok _) c h = (refl, h)
  passed (Err why) c h = absurd (refused why h)

  pub passes : (t : Permit) (c : Course) → t ≡ granted → Wrote c → Wrote (t ▸ c)
  passes t c is h = subst (λ p. Wrote (p ▸ c)) (sym is) h

  pub found : {A : Type 0} (o : Option A) (f : A → Course) (why : Refusal)
      → Wrote (where_found o f (Refused why)) → (x : A) × (o ≡ Some x) × Wrote (f x)
  found None f why h = absurd (refused why h)
  found (Some x) f why h = (x, refl, h)

  pub finds : {A : Type 0} (o : Option A) (x : A) (f : A → Course) (c : Course) → o ≡ Some x → Wrote (f x) → Wrote (where_found o f c)
  finds o x f c is h = subst (λ p. Wrote (where_found p f c)) (sym is) h

  -- where what is done with the thing writes nothing, none was found
  pub none_found : {A : Type 0} (o : Option A) (f : A → Course) (c : Course)
      → ((x : A) → Wrote (f x) → ⊥) → Wrote (where_found o f c) → (o ≡ None) × Wrote c
  none_found None f c never h = (refl, h)
  none_found (Some x) f c never h = absurd (never x h)

  pub finds_none : {A : Type 0} (o : Option A) (f : A → Course) (c : Course) → o ≡ None → Wrote c → Wrote (where_found o f c)
  finds_none o f c is h = subst (λ p. Wrote (where_found p f c)) (sym is) h

  pub met : (level : Level) (new : List ℕ) (olds : List VersionText) (rest : Course)
      → Wrote (IfMet level new olds rest) → TextsMeet level new olds × Wrote rest
  met level new olds rest (reply, inl (good, is)) = (good, (reply, is))
  met level new olds rest (reply, inr (message, clash, is)) = let no : batch ≡ [] = is.1 in cc

  pub meets : (level : Level) (new : List ℕ) (olds : List VersionText) (rest : Course)
      → TextsMeet level new olds → Wrote rest → Wrote (IfMet level new olds rest)
  meets level new olds rest good (reply, is) = (reply, inl (good, is))

  last_passed : (b : Bool) (does reply : Reply) (some : List Record) → if_offsets_last b does some ≡ (reply, batch)
      → (b ≡ true) × (some ≡ batch)
  last_passed true does reply some is = (refl, ap (λ p. p.1) is)
  last_passed false does reply some is = let no : [] ≡ batch = ap (λ p. p.1) is in cc

  -- the batch is what is written, numbered
  pub did : (does : Reply) (ws : List Writing) → Wrote (Does does ws) → numbered n ws ≡ batch
  did does ws (reply, is) = (last_passed (nat_le (n + length ws) (suc OFFSET_LIMIT)) does reply (numbered n ws) is).1

  -- the same is written with another reply
  pub does_too : (does told : Reply) (ws : List Writing) → Wrote (Does does ws) → Wrote (Does told ws)
  does_too does told ws (reply, is) =
      let last = last_passed (nat_le (n + length ws) (suc OFFSET_LIMIT)) does reply (numbered n ws) is in
      (told, ap (λ b. if_offsets_last b told (numbered n ws)) last.0 ∙ ap (λ some. (told, some)) last.1)

  pub does_nothing : (does : Reply) → Wrote (Does does []) → ⊥
  does_nothing does h = let no : [] ≡ batch = did does [] h in cc
