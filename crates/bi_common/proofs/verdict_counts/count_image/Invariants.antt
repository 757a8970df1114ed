use Rattle.std.proofs.Common.{◌≡◌, ◌≤◌, ◌+◌, length}
use Rattle.std.specs.Option.{option_map}
use Rattle.bi_blob.specs.Lookups.{siblings, siblings_from}
use Rattle.bi_fdt.specs.Views.{node_of}
use Rattle.bi_fit.specs.HashNodes.{file_hashes}
use Rattle.bi_hash.specs.Regions.{bytes_of_region}
use Rattle.bi_common.specs.VerdictCounts.{plus_hashes, total}
use Rattle.bi_common.proofs.verdict_counts.count_image.Given as goal

-- The verdicts so far and those on the hash nodes that are left are all.
abbrev pub invariant-loop-next : goal.invariant-loop-next
invariant-loop-next l =
    let name = (node_of l.image).name in
    let payload = option_map (bytes_of_region l.initial.digests) l.payload in
    let left = siblings_from (option_map node_of l.next) in
    record {
      same_file : l.digests ≡ l.initial.digests;
      counted : plus_hashes l.counts (file_hashes name payload left)
          ≡ plus_hashes l.initial.counts (file_hashes name payload (siblings (node_of l.image).children));
      few : total l.counts + length left ≤ total l.initial.counts + length (siblings (node_of l.image).children);
    }

abbrev pub decreases-loop-next : goal.decreases-loop-next
decreases-loop-next l = length (siblings_from (option_map node_of l.next))
