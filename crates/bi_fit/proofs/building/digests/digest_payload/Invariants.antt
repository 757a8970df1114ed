use Rattle.std.proofs.Common.{◌≡◌, take}
use Rattle.bi_fit.specs.BuiltNodes.{built_digests}
use Rattle.bi_fit.proofs.building.digests.digest_payload.Given as goal

-- The digests with the algorithms before this one.
abbrev pub invariant-loop-algo : goal.invariant-loop-algo
invariant-loop-algo l = l.digests.items ≡ built_digests (take l.algo-index l.algorithms) l.payload
