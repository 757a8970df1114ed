use Rattle.std.proofs.Common.{◌≡◌, ◌++◌, map}
use Rattle.std.specs.Option.{option_map}
use Rattle.bi_fdt.specs.Views.{node_of}
use Rattle.bi_hash.specs.Regions.{bytes_of_region}
use Rattle.bi_fit.specs.JudgementCalls.{checked_hash_of}
use Rattle.bi_fit.specs.HashNodes.{file_hashes}
use Rattle.bi_fit.specs.Siblings.{siblings_left}
use Rattle.bi_fit.proofs.hashes.check_image.Given as goal

abbrev pub invariant-loop-node : goal.invariant-loop-node
invariant-loop-node l =
    let payload = option_map (bytes_of_region l.initial.digests) l.payload in
    record {
      same_file : l.digests ≡ l.initial.digests;
      so_far : map checked_hash_of l.checked.items ++ file_hashes (node_of l.image).name payload (siblings_left l.node-iterator)
          ≡ map checked_hash_of l.initial.checked.items
          ++ file_hashes (node_of l.image).name payload (siblings_left l.initial.node-iterator);
    }
