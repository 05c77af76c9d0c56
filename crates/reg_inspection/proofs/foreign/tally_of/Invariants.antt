use Rattle.std.proofs.Common.{◌≡◌, take}
use Rattle.std.specs.BTreeMap.{get}
use Rattle.std.specs.Prelude.{ℕ, List, Option, unwrap_or}
use Rattle.reg_inspection.specs.Foreign.{count_of, keytype_cmp, tally_of}
use Rattle.reg_inspection.proofs.foreign.tally_of.Given as goal

abbrev pub invariant-loop-keytype : goal.invariant-loop-keytype
invariant-loop-keytype l = record {
  entries : l.tally.entries ≡ tally_of (take l.keytype-index l.keytypes);
  counts : (q : Option (List ℕ)) → unwrap_or (get keytype_cmp l.tally q) 0 ≡ count_of (take l.keytype-index l.keytypes) q;
}
