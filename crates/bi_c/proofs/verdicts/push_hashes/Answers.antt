use Rattle.std.proofs.Common.{◌++◌, ap, refl, ◌∙◌, arith, length, ◌∷◌, []}
use Rattle.std.specs.Option.{option_map}
use Rattle.bi_fdt.specs.Views.{node_of}
use Rattle.bi_fit.proofs.Siblings.{from_first, from_next}
use Rattle.bi_hash.specs.Regions.{bytes_of_region}
use Rattle.bi_c.specs.VerdictElements.{hash_elements_among}
use Rattle.bi_c.proofs.VerdictElements.{one_child_added}
use Rattle.bi_c.proofs.verdicts.push_hashes.Goals as goal

pub loop-next-init : goal.loop-next-init
loop-next-init c =
    let image = node_of c.args.image in
    let payload = option_map (bytes_of_region c.args.digests.now) c.args.payload in
    record {
      same_file = refl;
      added = ap (λ left. c.args.elements.now.items ++ hash_elements_among image payload left)
          (from_first c.first_child-next.result image.children c.first_child-next.ensures.child);
    }

pub loop-next-preserved : goal.loop-next-preserved
loop-next-preserved c =
    let image = node_of c.args.image in
    let here = from_next c.loop-next.next c.next_sibling-next.result c.in-Some.child c.in-Some.is c.next_sibling-next.ensures.sibling in
    let same = c.loop-next.invariant.same_file in
    record {
      same_file = c.in_ok-push_child.ensures.same ∙ same;
      added = one_child_added image _ (node_of c.in-Some.child) _ _ _ _ _ here
          (c.in_ok-push_child.ensures.added
          ∙ ap (λ file. c.loop-next.elements.items
          ++ hash_elements_among image (option_map (bytes_of_region file) c.args.payload) (node_of c.in-Some.child ∷ [])) same)
          c.loop-next.invariant.added;
    }

pub loop-next-smaller : goal.loop-next-smaller
loop-next-smaller c =
    let here = ap length (from_next c.loop-next.next c.next_sibling-next.result c.in-Some.child c.in-Some.is
    c.next_sibling-next.ensures.sibling) in
    omega (arith, here)
