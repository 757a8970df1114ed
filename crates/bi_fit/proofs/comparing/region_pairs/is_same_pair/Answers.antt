use Rattle.std.proofs.Common.{sym, ◌∙◌}
use Rattle.std.proofs.lemmas.Slice.Eq.{bytes_eq-Decides}
use Rattle.bi_fit.proofs.RegionPairs.{each_byte, same_region, region, other_begin, other_end}
use Rattle.bi_fit.proofs.comparing.region_pairs.is_same_pair.Goals as goal

pub returns : goal.returns
returns c =
    let file = c.args.file.now in
    let other = c.args.other.now in
    let pair = c.args.pair in
    let decides = bytes_eq-Decides (region file pair.begin pair.end)
    (region other (other_begin file other pair c.requires.within) (other_end file other pair c.requires.within)) in (
      (λ true. each_byte file other pair c.requires.within (decides.0 (sym c.eq.ensures ∙ true))),
      (λ same. c.eq.ensures ∙ decides.1 (same_region file other pair c.requires.within same)),
    )
