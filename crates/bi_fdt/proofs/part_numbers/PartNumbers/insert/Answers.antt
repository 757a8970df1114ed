use Rattle.std.proofs.Common.{rules, ◌≡◌, ◌<◌, length, slice_set, List, Some, refl, ap, ◌∙◌}
use Rattle.std.proofs.lemmas.List.{length-set}
use Rattle.std.proofs.lemmas.Option.{slice_get_read}
use Rattle.std.specs.BTreeMap.{Updates}
use Rattle.bi_blob.specs.NamesByPrefix.{by_prefix}
use Rattle.bi_fdt.specs.PartNumbers.{bucket_of, key_of_part}
use Rattle.bi_fdt.proofs.PartNumbers.{Bucket, part_of_slice, number_from, number_more}
use Rattle.bi_fdt.proofs.part_numbers.PartNumbers.insert.Goals as goal

pub returns-clause-inserted : goal.returns-clause-inserted
returns-clause-inserted c part =
    ap (λ count. number_from (slice_set buckets c.bucket_at-bucket.result c.insert.new.self) (bucket_of count (part_of_slice part)) part)
    (length-set buckets c.bucket_at-bucket.result c.insert.new.self)
    ∙ number_more buckets c.bucket_at-bucket.result c.index_mut.result.now c.insert.new.self (length buckets) (
      c.args.tail,
      c.args.bytes,
    ) c.args.number within
    (slice_get_read buckets (length buckets) c.bucket_at-bucket.result c.index_mut.result.now refl within c.index_mut.ensures.value)
    chosen updated part where
      buckets : List Bucket
      buckets = c.args.self.now.buckets.items

      chosen : c.bucket_at-bucket.result ≡ bucket_of (length c.args.self.now.buckets.items) (part_of_slice (c.args.tail, c.args.bytes))
      chosen = search rules

      within : c.bucket_at-bucket.result < length c.args.self.now.buckets.items
      within = search rules

      updated : Updates by_prefix c.index_mut.result.now c.insert.new.self (key_of_part (c.args.tail, c.args.bytes)) (Some c.args.number)
      updated = search rules
