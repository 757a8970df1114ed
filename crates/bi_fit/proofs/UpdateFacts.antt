use Rattle.std.proofs.Common.{◌≡◌, List, [], ◌∷◌, ◌++◌, codes, option_and_then, Some, None, ap, ◌∙◌, rules}
use Rattle.std.specs.FinMap.{entries, from_entries}
use Rattle.bi_base.specs.Cells.{cell}
use Rattle.bi_base.specs.Crc.{crc32, crc_after, low_bits}
use Rattle.bi_base.specs.Strings.{text_before_nul}
use Rattle.bi_blob.specs.Tree.{Nodes, none, node, Property}
use Rattle.bi_hash.specs.declared.algo.Algo.TheVariants.{Crc32}
use Rattle.bi_hash.specs.Algos.{find_algorithm}
use Rattle.bi_hash.specs.Digests.{digest_of}
use Rattle.bi_fit.specs.KnownJudgements.{other_crc}
use Rattle.bi_fit.specs.KnownUpdates.{head_to_update, hash_to_update, hash_with_value, UpdatesAreKnown}
use Rattle.bi_fit.specs.Names.{images_name, timestamp_name, algo_name, value_name}
use Rattle.bi_fit.specs.Updating.{known_algorithm, with_digest_by, with_digest}
use Rattle.bi_fit.proofs.BuildFacts.{entries_in_order}
use Rattle.bi_fit.proofs.FileFacts.{no_entries}
use Rattle.bi_fit.proofs.JudgementFacts.{find-properties}

-- A small tree has known updates of its time, of its digests, and of both.

-- The algorithms that its hash nodes name.
known : known_algorithm (from_entries hash_to_update) ≡ Some Crc32
unfolding text_before_nul find_algorithm
known = ap (λ name. option_and_then find_algorithm (option_and_then text_before_nul name)) (find-properties hash_to_update algo_name)

not_known : known_algorithm (from_entries other_crc) ≡ None
unfolding text_before_nul find_algorithm
not_known = ap (λ name. option_and_then find_algorithm (option_and_then text_before_nul name)) (find-properties other_crc algo_name)

-- Their properties with the digest of `abc`.
updated_hash : entries (with_digest (codes "abc") (codes "hash-1") (from_entries hash_to_update))
    ≡ hash_with_value (0x35 ∷ 0x24 ∷ 0x41 ∷ 0xc2 ∷ [])
unfolding digest_of cell crc32 crc_after low_bits
updated_hash =
    ap (λ algo. entries (with_digest_by algo (codes "abc") (from_entries hash_to_update))) known
    ∙ entries_in_order ((value_name, digest_of Crc32 (codes "abc")) ∷ hash_to_update)

other_hash : entries (with_digest (codes "abc") (codes "hash@2") (from_entries other_crc))
    ≡ (algo_name, codes "crc16-ccitt" ++ 0 ∷ []) ∷ (value_name, 0 ∷ 0 ∷ []) ∷ []
other_hash = search (rules, not_known, entries_in_order)

-- Nodes whose properties are these.
abbrev nodes_with : (nothing hash other kept : List Property) → Nodes (List Property)
nodes_with nothing hash other kept =
    node images_name nothing
    (node (codes "a") nothing
    (node (codes "hash-1") hash (node (codes "hash") kept none none)
    (node (codes "hash@2") other none
    (node (codes "other") kept none
    (node (codes "hash-3") hash none none))))
    (node (codes "b") nothing
    (node (codes "hash-1") kept none none)
    none))
    none

pub updates_are_known : UpdatesAreKnown
updates_are_known = record {
  time = λ i. record {
    own = entries_in_order ((timestamp_name, cell 5) ∷ head_to_update) i;
    children = nodes_with (no_entries i) (entries_in_order hash_to_update i) (entries_in_order other_crc i)
        (entries_in_order hash_to_update i);
  };
  hashes = λ i. record {
    own = entries_in_order head_to_update i;
    children = nodes_with (no_entries i) (updated_hash i) (other_hash i) (entries_in_order hash_to_update i);
  };
  both = λ i. record {
    own = entries_in_order ((timestamp_name, cell 0) ∷ head_to_update) i;
    children = nodes_with (no_entries i) (updated_hash i) (other_hash i) (entries_in_order hash_to_update i);
  };
}
