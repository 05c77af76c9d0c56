use Rattle.std.proofs.Common.{◌++◌, take, flat_map, codes}
use Rattle.std.specs.Fmt.{HasWritten, IsPlainFormatter}
use Rattle.avro_resolve.specs.Texts.{hop_text}
use Rattle.avro_resolve.proofs.trail.TrailDisplay.fmt.Given as goal

-- the hops so far are written
abbrev pub invariant-loop-hop : goal.invariant-loop-hop
invariant-loop-hop g l =
    IsPlainFormatter l.initial.f
    → HasWritten g.W.Write.write_str_gives l.initial.f (flat_map (λ h. codes "/" ++ hop_text h) (take l.hop-index l.hops)) l.f
