use Rattle.std.proofs.Common.{length, ap, ◌∙◌, arith, refl, ◌∷◌, []}
use Rattle.std.specs.Option.{option_map}
use Rattle.bi_fdt.specs.Views.{node_of}
use Rattle.bi_fit.specs.HashNodes.{file_hashes}
use Rattle.bi_fit.proofs.Siblings.{from_first, from_next}
use Rattle.bi_hash.specs.Regions.{bytes_of_region}
use Rattle.bi_common.specs.VerdictCounts.{plus_hashes}
use Rattle.bi_common.proofs.VerdictCounts.{one_child_counted}
use Rattle.bi_common.proofs.verdict_counts.count_image.Goals as goal

pub loop-next-init : goal.loop-next-init
loop-next-init c =
    let entry = node_of c.args.image in
    let all = from_first c.first_child-next.result entry.children c.first_child-next.ensures.child in
    record {
      same_file = refl;
      counted = ap (λ left. plus_hashes c.args.counts.now
          (file_hashes entry.name (option_map (bytes_of_region c.args.digests.now) c.args.payload) left)) all;
      few = omega (arith, ap length all);
    }

pub loop-next-preserved : goal.loop-next-preserved
loop-next-preserved c =
    let entry = node_of c.args.image in
    let here = from_next c.loop-next.next c.next_sibling-next.result c.in-Some.child c.in-Some.is c.next_sibling-next.ensures.sibling in
    let same = c.loop-next.invariant.same_file in
    record {
      same_file = c.in_ok-count_child.ensures.same ∙ same;
      counted = one_child_counted entry.name _ (node_of c.in-Some.child) _ _ c.loop-next.counts c.count_child.new.counts _ here
          (c.in_ok-count_child.ensures.counts entry.name
          ∙ ap (λ file. plus_hashes c.loop-next.counts
          (file_hashes entry.name (option_map (bytes_of_region file) c.args.payload) (node_of c.in-Some.child ∷ []))) same)
          c.loop-next.invariant.counted;
      few = omega (arith, c.in_ok-count_child.ensures.few, c.loop-next.invariant.few, ap length here);
    }

pub loop-next-smaller : goal.loop-next-smaller
loop-next-smaller c =
    let here = ap length (from_next c.loop-next.next c.next_sibling-next.result c.in-Some.child c.in-Some.is
    c.next_sibling-next.ensures.sibling) in
    omega (arith, here)
