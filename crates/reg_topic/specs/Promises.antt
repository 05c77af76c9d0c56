-- What every lawful list promises of the log after it.
use Rattle.std.specs.Prelude.{◌≡◌, ℕ, List, ◌∷◌, ◌++◌, false}
use Rattle.std.specs.List.{Contains}
use mathlib.Core.List.{IsPrefix}
use Rattle.reg_leader.specs.reg_entries.declared.entry.Entry.{Entry}
use Rattle.reg_leader.specs.reg_fold.Closed.{is_closed}
use Rattle.reg_leader.specs.reg_fold.Entries.{entries}
use Rattle.reg_leader.specs.reg_records.declared.record.Record.{Record}
use Rattle.reg_leader.specs.OneStep.{RegistersWhatMeets}
use Rattle.reg_leader.specs.declared.command.Command.{Command}
use Rattle.reg_leader.specs.declared.command.Command.TheVariants as commands
use Rattle.reg_topic.specs.Topic.{IsAdopted, IsLawful, after_items, registry_of}
use Rattle.reg_topic.specs.declared.published.Item.{Item}
use Rattle.reg_topic.specs.declared.published.Item.TheVariants as items
use Rattle.reg_topic.specs.declared.topic.Topic.{Topic}

-- over an adopted base the registry isn't closed
abbrev pub LawfulListsStayOpen : Type 0
LawfulListsStayOpen = (base : Topic) (is : List Item)
    → IsAdopted base
    → IsLawful base is
    → is_closed (registry_of (after_items base is)) ≡ false

-- two entries of one id that stood at any two moments since the base have one schema: a moment is after a front of the list
abbrev pub IdsAreForGood : Topic → List Item → Type 0
IdsAreForGood base is = (one other : List Item) → IsPrefix one is → IsPrefix other is → (e f : Entry)
    → Contains (entries (registry_of (after_items base one))) e → Contains (entries (registry_of (after_items base other))) f
    → e.id ≡ f.id → e.normal ≡ f.normal

abbrev pub LawfulListsKeepIds : Type 0
LawfulListsKeepIds = (base : Topic) (is : List Item) → IsAdopted base → IsLawful base is → IdsAreForGood base is

-- the command published that batch, after the items before
abbrev pub WasPublished : List Item → List Item → Command → List Record → Type 0
WasPublished is before c batch = (after : List Item) × (is ≡ before ++ items.Commit (record { command = c; batch = batch }) ∷ after)

-- each version that was registered without an id met the level then in force against the versions then live
abbrev pub MetLevels : Topic → List Item → Type 0
MetLevels base is = (before : List Item) (subject text : List ℕ) (batch : List Record)
    → WasPublished is before (commands.Register subject text) batch
    → RegistersWhatMeets (registry_of (after_items base before)) (after_items base before).next subject text batch

abbrev pub LawfulListsMeetLevels : Type 0
LawfulListsMeetLevels = (base : Topic) (is : List Item) → IsLawful base is → MetLevels base is
