use Rattle.std.proofs.Common.{◌≡◌, map, take}
use Rattle.bi_base.specs.Slices.{bytes_of}
use Rattle.bi_coverage.specs.Coverage.{signature_with}
use Rattle.bi_coverage.specs.Values.{meaning_of_node, signature_value}
use Rattle.bi_coverage.specs.NeededParts.{part_value}
use Rattle.bi_coverage.proofs.reading.IndexedFit.read_signatures.Given as goal

abbrev pub invariant-loop-signature : goal.invariant-loop-signature
invariant-loop-signature l =
    map signature_value l.signatures.items
    ≡ map (signature_with l.self.content (bytes_of l.needs.references.now) (map part_value l.needs.parts.now))
    (map meaning_of_node (take l.signature-index l.signed))
