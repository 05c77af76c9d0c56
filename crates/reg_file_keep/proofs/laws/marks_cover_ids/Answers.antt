use Rattle.reg_file_keep.proofs.Covered.{marks_cover}
use Rattle.reg_file_keep.proofs.laws.marks_cover_ids.Goals as goal

pub returns : goal.returns
returns c =
    let o = c.records_are_ordered.ensures in
    marks_cover o.all o.apart o.of_one_key c.last_is_greatest.ensures.greatest c.last_records_are_enough.ensures.last_of_last
    c.written_values_read_back.ensures c.greatest_named_is_greatest.ensures c.batches_add_records.ensures.records
