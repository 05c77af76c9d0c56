use Rattle.exposition.proofs.Buckets.{all_rise}
use Rattle.exposition.proofs.laws.buckets_rise.Goals as goal

pub returns : goal.returns
returns c = all_rise
