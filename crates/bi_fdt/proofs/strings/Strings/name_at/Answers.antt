use Rattle.std.proofs.Common.{◌≡◌, ℕ, ◌*◌, ◌<◌, ◌≤◌, List, length, slice_index_or}
use Rattle.std.proofs.Common.{rules}
use Rattle.bi_blob.specs.BlobFaults.{HasName}
use Rattle.std.proofs.lemmas.Bool.{false≢true}
use Rattle.bi_fdt.specs.Strings.{end_of, AreEnds}
use Rattle.bi_fdt.proofs.NameEnds.{later_end, name_end_within, name_before_end, end_not_before}
use Rattle.bi_fdt.proofs.FirstZero.{no_zero_in_name}
use Rattle.bi_fdt.proofs.strings.Strings.name_at.Goals as goal

-- The end that is kept is that of the name.
kept_end : (bytes ends : List ℕ) (at index end : ℕ) → AreEnds bytes ends → at ≤ 64 * index → index < length ends →
    ¬ (HasName bytes at (64 * index)) → end ≡ slice_index_or ends index end → end ≡ end_of bytes at
kept_end bytes ends at index end are before within none is = search (rules, later_end, end_not_before)

pub returns-then-end-self-clause-some : goal.returns-then-end-self-clause-some
returns-then-end-self-clause-some c = search (rules, kept_end, false≢true)

pub returns-clause-some : goal.returns-clause-some
returns-clause-some c = search (rules, kept_end, false≢true, name_end_within)

pub returns-clause-value : goal.returns-clause-value
returns-clause-value c = search (rules, kept_end, false≢true, name_before_end)

pub returns-clause-no_zero : goal.returns-clause-no_zero
returns-clause-no_zero c = no_zero_in_name c.args.self.now _ c.args.at (returns-clause-value c)
