use Rattle.std.proofs.Common.{◌++◌, Some, map, sym, ap, ◌∙◌}
use Rattle.std.specs.Option.{option_map}
use Rattle.bi_base.specs.Slices.{bytes_of}
use Rattle.bi_fdt.specs.Content.{Blob, root_of}
use Rattle.bi_fdt.specs.Views.{node_of}
use Rattle.bi_fit.specs.Judgement.{listed_names}
use Rattle.bi_coverage.specs.Coverage.{recorded_end, concerns_of_paths}
use Rattle.bi_coverage.specs.IndexedFits.{IndexedFit}
use Rattle.bi_coverage.specs.Values.{signature_concern, names_listed_by}
use Rattle.bi_coverage.specs.NeededParts.{part_value}
use Rattle.bi_coverage.proofs.Concerns.{strings_added}
use Rattle.bi_coverage.proofs.reading.IndexedFit.concerns.Goals as goal

pub returns : goal.returns
returns c =
    strings_added c.args.self.now.content (node_of c.args.signature) (bytes_of c.args.needs.references.now)
    (map part_value c.args.needs.parts.now) (listed_names c.in-Some.list.now)
    (option_map (λ value. value.now) c.property-strings.result) c.recorded_end.result
    (map signature_concern c.add_path_concerns.new.concerns.items) _
    (sym c.recorded_list.ensures ∙ ap (option_map names_listed_by) c.in-Some.is)
    c.property-strings.ensures
    (c.recorded_end.ensures
    ∙ ap (λ (blob : Blob). recorded_end blob.file (root_of blob) (listed_names c.in-Some.list.now)) c.self.invariant.same_blob
    ∙ ap (λ (indexed : IndexedFit). recorded_end indexed.content.blob.file (root_of indexed.content.blob) (listed_names c.in-Some.list.now))
    c.self.view_is)
    (c.in_ok-add_path_concerns.ensures
    ∙ ap (λ items. map signature_concern items ++ concerns_of_paths (bytes_of c.args.needs.references.now)
    (map part_value c.args.needs.parts.now) (Some (listed_names c.in-Some.list.now))) c.new-concerns.ensures.items)
    c.in_ok-add_strings_concern.ensures
