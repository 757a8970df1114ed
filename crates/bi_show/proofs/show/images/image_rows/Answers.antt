use Rattle.std.proofs.Common.{◌++◌, List, ap, ap₂, map, subst, sym, ◌∙◌}
use Rattle.bi_blob.specs.Lookups.{Sibling}
use Rattle.bi_blob.specs.Tree.{FileNode}
use Rattle.bi_fit.specs.Content.{AreAtTheirPlaces, ImageModel, image_model}
use Rattle.bi_show.specs.ReadPages.{read_image_rows}
use Rattle.bi_show.specs.Rows.{cells_of_rows}
use Rattle.bi_show.proofs.ShownRows.{one_more_row}
use Rattle.bi_show.proofs.show.images.image_rows.Goals as goal

pub loop-node-preserved : goal.loop-node-preserved
loop-node-preserved c =
    let rows = c.loop-node.rows.items in
    let steps = c.in-Some.ensures.steps in
    let images = ap (map image_model) steps.images in
    record {
      placed = (subst (AreAtTheirPlaces c.args.digests.now) images c.loop-node.invariant.placed).1;
      so_far = one_more_row rows c.push.new.self.items c.in_ok-image_row.field-0 _ _ _ c.in_ok-push.ensures.items c.in_ok-image_row.ensures
          (ap₂
          (λ (entries : List (Sibling FileNode)) (images : List ImageModel). cells_of_rows rows ++ read_image_rows entries images)
          (sym steps.nodes) (sym images)
          ∙ c.loop-node.invariant.so_far);
    }
