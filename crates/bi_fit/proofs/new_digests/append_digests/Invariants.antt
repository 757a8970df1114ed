use Rattle.std.proofs.Common.{◌≡◌, ◌++◌}
use Rattle.std.specs.Option.{option_map}
use Rattle.bi_hash.specs.Regions.{bytes_of_region}
use Rattle.bi_fit.specs.Siblings.{siblings_left}
use Rattle.bi_fit.proofs.NewDigests.{file_digests}
use Rattle.bi_fit.proofs.new_digests.append_digests.Given as goal

abbrev pub invariant-loop-node : goal.invariant-loop-node
invariant-loop-node l =
    let payload = option_map (bytes_of_region l.initial.region_digests) l.payload in
    record {
      same_file : l.region_digests ≡ l.initial.region_digests;
      so_far : l.digests.items ++ file_digests payload (siblings_left l.node-iterator)
          ≡ l.initial.digests.items ++ file_digests payload (siblings_left l.initial.node-iterator);
    }
