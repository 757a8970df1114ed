use Rattle.std.proofs.Common.{◌≡◌, ◌++◌, length}
use Rattle.std.specs.Option.{option_map}
use Rattle.bi_blob.specs.Lookups.{siblings, siblings_from}
use Rattle.bi_fdt.specs.Views.{node_of}
use Rattle.bi_hash.specs.Regions.{bytes_of_region}
use Rattle.bi_c.specs.VerdictElements.{hash_elements_among}
use Rattle.bi_c.proofs.verdicts.push_hashes.Given as goal

-- The elements so far and those of the children that are left are all elements.
abbrev pub invariant-loop-next : goal.invariant-loop-next
invariant-loop-next l =
    let image = node_of l.image in
    let payload = option_map (bytes_of_region l.initial.digests) l.payload in
    record {
      same_file : l.digests ≡ l.initial.digests;
      added : l.elements.items ++ hash_elements_among image payload (siblings_from (option_map node_of l.next))
          ≡ l.initial.elements.items ++ hash_elements_among image payload (siblings image.children);
    }

abbrev pub decreases-loop-next : goal.decreases-loop-next
decreases-loop-next l = length (siblings_from (option_map node_of l.next))
