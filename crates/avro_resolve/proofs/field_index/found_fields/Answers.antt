use Rattle.std.proofs.Common.{◌≡◌, ◌≢◌, ◌<◌, arith}
use Rattle.std.proofs.lemmas.List.Sorted.{All-permutation, IsPermutation-sym}
use Rattle.avro_resolve.specs.FieldIndex.{IsFound}
use Rattle.avro_resolve.specs.declared.field_index.FoundField.{FoundField}
use Rattle.avro_resolve.proofs.FieldIndexes.{all_inside, do_rise}
use Rattle.avro_resolve.proofs.field_index.found_fields.Goals as goal

pub returns : goal.returns
returns c =
    let old = c.in_ok-found.found.items in
    let new = c.sort_unstable.new.self.items in
    let moved = c.sort_unstable.ensures.permutation in
    let back = IsPermutation-sym old new moved in
    let upto = c.in_ok-found.ensures in
    record {
      upto = record {
        each = All-permutation (IsFound c.args.«_reader».now c.args.writer.now) old new moved upto.each;
        whole = λ k r q f g at at_q below named none.
            upto.whole k r q f g at at_q below named (
            All-permutation (λ (x : FoundField). x.holder.field ≡ k → r < x.holder.rank) new old back none);
        lacking = λ k f at none. upto.lacking k f at (All-permutation (λ (x : FoundField). x.holder.field ≢ k) new old back none);
      };
      within = all_inside c.args.«_reader».now c.args.writer.now new (
          All-permutation (IsFound c.args.«_reader».now c.args.writer.now) old new moved upto.each);
      rise = do_rise new (λ k d within. c.sort_unstable.ensures.sorted k d (omega arith) within);
    }
