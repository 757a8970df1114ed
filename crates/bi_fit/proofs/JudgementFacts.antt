use Rattle.std.proofs.Common.{◌≡◌, ℕ, List, option_and_then, nat_cmp, rules}
use Rattle.std.specs.Cmp.Lexicographic.{slice_cmp}
use Rattle.std.specs.FinMap.{get, from_entries, find, get-from_entries}
use Rattle.std.proofs.lemmas.Cmp.{nat_list_cmp_total}
use Rattle.bi_base.specs.Cells.{cell}
use Rattle.bi_base.specs.Crc.{crc32, crc_after, low_bits}
use Rattle.bi_base.specs.Strings.{text_before_nul}
use Rattle.bi_blob.specs.Tree.{Property}
use Rattle.bi_hash.specs.Algos.{find_algorithm}
use Rattle.bi_hash.specs.Digests.{digest_of}
use Rattle.bi_hash.specs.Verdicts.{verdict_of}
use Rattle.bi_fit.specs.KnownJudgements.{ListsAreRead}
use Rattle.bi_fit.specs.KnownJudgements.{HashesAreJudged}

-- The configurations of a small tree have known lists, and its hash nodes have known verdicts.

-- A property of a list by its name.
pub find-properties : (properties : List Property) (name : List ℕ) →
    get (from_entries {R = slice_cmp nat_cmp} properties) name ≡ find (slice_cmp nat_cmp) name properties
find-properties properties name = get-from_entries nat_list_cmp_total properties name

pub lists_are_read : ListsAreRead
unfolding text_before_nul
lists_are_read = search (rules, find-properties, option_and_then)

pub hashes_are_judged : HashesAreJudged
unfolding text_before_nul verdict_of find_algorithm digest_of cell crc32 crc_after low_bits
hashes_are_judged = search (rules, find-properties)
