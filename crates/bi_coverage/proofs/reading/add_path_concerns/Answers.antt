use Rattle.std.proofs.Common.{◌++◌, map, append-nil, sym, ap, ◌∙◌}
use Rattle.bi_base.specs.Slices.{bytes_of}
use Rattle.bi_fit.specs.Judgement.{listed_names}
use Rattle.bi_coverage.specs.Coverage.{reference_concerns}
use Rattle.bi_coverage.specs.Values.{signature_concern}
use Rattle.bi_coverage.specs.NeededParts.{part_value}
use Rattle.bi_coverage.proofs.Concerns.{same_paths}
use Rattle.bi_coverage.proofs.reading.add_path_concerns.Goals as goal

pub returns-then-lists_parts : goal.returns-then-lists_parts
returns-then-lists_parts c =
    let references = reference_concerns (bytes_of c.args.needs.references.now) in
    let none = same_paths (map part_value c.args.needs.parts.now) (listed_names c.args.list.now)
    (c.lists_parts.ensures c.if-lists_parts.true) in
    c.in_ok-add_image_concern.ensures
    ∙ ap (λ l. map signature_concern c.args.concerns.now.items ++ l)
    (sym (append-nil references) ∙ ap (λ l. references ++ l) (sym none))
