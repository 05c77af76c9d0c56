-- Private: the laws of the crates below that the claims rest on.
use Rattle.std.specs.Cmp.{IsTotalOrder}
use Rattle.std.specs.FinSet.{IsAntisymmetric}
use Rattle.reg_alike.specs.reg_set.Join.{LastIsGreatest, LastOfLastRecords, NoLastIsNoRecord}
use Rattle.reg_alike.specs.reg_set.Join as of_sets
use Rattle.reg_alike.specs.reg_set.RecordOrder.{record_cmp}
use Rattle.reg_alike.specs.reg_floored.Laws.{CompactionsCompose, KeepingLastsUnites, LastOfCompaction, RebasingKeepsLasts}
use Rattle.reg_alike.specs.AnswerAlike.{CompactionsAnswerAlike}
use Rattle.reg_topic.specs.Laws.{AllowedDropsLeaveCompactions, CommitsFollow, FloorsStayBelow}
use Rattle.reg_topic.specs.Laws.{ItemsAreFoldedInTurn, KeptStaysCompaction}
use Rattle.reg_topic.specs.Laws.{LawfulListsGoOn, LogIsWhatWasPublished}

pub record LowerLaws : Type 0 where
  pub order : IsTotalOrder record_cmp
  pub apart : IsAntisymmetric record_cmp
  -- of plain sets
  pub greatest : LastIsGreatest
  pub none : NoLastIsNoRecord
  pub lasts : LastOfLastRecords
  pub keeps_own : of_sets.EachKeepsItsLasts
  pub keeps_across : of_sets.KeepingLastsComposes
  pub keeps_least : of_sets.LastRecordsKeepLasts
  -- of sets with floors
  pub across : CompactionsCompose
  pub last_of : LastOfCompaction
  pub unite : KeepingLastsUnites
  pub rebase : RebasingKeepsLasts
  pub alike : CompactionsAnswerAlike
  -- of topics
  pub kept : KeptStaysCompaction
  pub drops : AllowedDropsLeaveCompactions
  pub below : FloorsStayBelow
  pub in_turn : ItemsAreFoldedInTurn
  pub go_on : LawfulListsGoOn
  pub commits : CommitsFollow
  pub whole : LogIsWhatWasPublished
