use Rattle.std.proofs.Common.{ap, ◌∙◌}
use Rattle.bi_legacy.specs.Meaning.{image_of}
use Rattle.bi_describe.proofs.DescribedImages.{digests_of_parts_are, legacy_lines_are, legacy_tokens_are}
use Rattle.bi_describe.proofs.describe.legacy.DescribedLegacy.new.Goals as goal

pub returns-clause-image : goal.returns-clause-image
returns-clause-image c = ap (image_of c.fields.result) c.in_ok-parts.ensures ∙ c.fields.ensures

pub returns-clause-lines : goal.returns-clause-lines
returns-clause-lines c =
    let image = c.args.image.now.image in
    legacy_lines_are c.fields.result image _ c.fields.ensures (digests_of_parts_are _ image c.in_ok-parts.ensures)

pub returns-clause-tokens : goal.returns-clause-tokens
returns-clause-tokens c =
    let image = c.args.image.now.image in
    legacy_tokens_are c.fields.result image _ c.fields.ensures (digests_of_parts_are _ image c.in_ok-parts.ensures)
