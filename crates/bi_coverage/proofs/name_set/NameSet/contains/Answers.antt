use Rattle.std.proofs.Common.{◌≡◌, Some, slice_get, rules, ap, ◌∙◌}
use Rattle.std.proofs.lemmas.Option.{slice_get_read}
use Rattle.bi_base.specs.Slices.{bytes_of}
use Rattle.bi_blob.specs.Layout.{is_among}
use Rattle.bi_coverage.proofs.NameBuckets.{has_chosen}
use Rattle.bi_coverage.proofs.name_set.NameSet.contains.Goals as goal

pub returns : goal.returns
returns c =
    let sets = c.self.inside.buckets.items in
    let is : slice_get sets c.bucket_of.result ≡ Some c.index.result.now = search (rules, slice_get_read) in
    c.contains.ensures
    ∙ has_chosen sets (bytes_of c.self.inside.names.items) c.args.name c.bucket_of.result c.index.result.now c.self.invariant
    (search rules) is
    ∙ ap (is_among c.args.name.now) c.self.view_is
