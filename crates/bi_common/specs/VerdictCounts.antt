use Rattle.std.specs.Prelude.{ℕ, ◌+◌, ◌==◌, ◌&&◌, Bool, List, true, false, filter, length}
use Rattle.bi_fit.specs.Judgement.{CheckedHash}
use Rattle.bi_hash.specs.declared.verdicts.Verdict.{Verdict}
use Rattle.bi_hash.specs.declared.verdicts.Verdict.TheVariants.{Good, Bad, UnknownAlgo, NoPayload}
use Rattle.bi_hash.specs.declared.verdicts.Verdict.TheVariants.{Malformed}
use Rattle.bi_common.specs.declared.verdict_counts.Counts.{Counts}

-- How verdicts are counted.

-- How many hash nodes have each verdict.
pub record CountsModel : Type 0 where
  pub good : ℕ
  pub bad : ℕ
  pub unknown_algorithm : ℕ
  pub no_payload : ℕ
  pub malformed : ℕ

-- Whether a verdict is the wanted one.
abbrev pub is_verdict : (wanted verdict : Verdict) → Bool
is_verdict Good Good = true
is_verdict Bad Bad = true
is_verdict UnknownAlgo UnknownAlgo = true
is_verdict NoPayload NoPayload = true
is_verdict Malformed Malformed = true
is_verdict wanted verdict = false

-- How many of these hash nodes have a verdict.
abbrev pub count_of : Verdict → List CheckedHash → ℕ
count_of wanted hashes = length (filter (λ hash. is_verdict wanted hash.verdict) hashes)

-- The numbers, as a report has them.
abbrev pub counts_model : Counts → CountsModel
counts_model counts = record {
  good = counts.good;
  bad = counts.bad;
  unknown_algorithm = counts.unknown_algorithm;
  no_payload = counts.no_payload;
  malformed = counts.malformed;
}

-- How many of these hash nodes have each verdict.
abbrev pub hash_counts : List CheckedHash → Counts
hash_counts hashes = record {
  good = count_of Good hashes;
  bad = count_of Bad hashes;
  unknown_algorithm = count_of UnknownAlgo hashes;
  no_payload = count_of NoPayload hashes;
  malformed = count_of Malformed hashes;
}

-- The numbers with one more hash node, which has this verdict.
abbrev pub one_more_verdict : Verdict → Counts → Counts
one_more_verdict Good counts = record counts { good = counts.good + 1 }
one_more_verdict Bad counts = record counts { bad = counts.bad + 1 }
one_more_verdict UnknownAlgo counts =
    record counts { unknown_algorithm = counts.unknown_algorithm + 1 }
one_more_verdict NoPayload counts = record counts { no_payload = counts.no_payload + 1 }
one_more_verdict Malformed counts = record counts { malformed = counts.malformed + 1 }

-- The numbers with these hash nodes.
abbrev pub plus_hashes : Counts → List CheckedHash → Counts
plus_hashes counts hashes = record {
  good = counts.good + count_of Good hashes;
  bad = counts.bad + count_of Bad hashes;
  unknown_algorithm = counts.unknown_algorithm + count_of UnknownAlgo hashes;
  no_payload = counts.no_payload + count_of NoPayload hashes;
  malformed = counts.malformed + count_of Malformed hashes;
}

-- The number of all hash nodes.
abbrev pub total : Counts → ℕ
total counts =
    counts.good + counts.bad + counts.unknown_algorithm + counts.no_payload + counts.malformed

-- Whether no verdict is other than Good.
abbrev pub are_good : Counts → Bool
are_good counts =
    counts.bad == 0 && counts.unknown_algorithm == 0 && counts.no_payload == 0
    && counts.malformed == 0
