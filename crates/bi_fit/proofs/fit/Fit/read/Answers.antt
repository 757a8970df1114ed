use Rattle.std.proofs.Common.{◌≡◌, ◌≤◌, map, Some, None, sym, ap, subst, ◌∙◌, arith}
use Rattle.std.specs.Option.{option_map}
use Rattle.bi_base.specs.declared.fault.Cause.TheVariants.{NoImages}
use Rattle.bi_base.proofs.Refusals.{error_passed_on}
use Rattle.bi_blob.specs.Tree.{FileNode}
use Rattle.bi_blob.specs.Lookups.{Sibling}
use Rattle.bi_fdt.specs.Content.{root_of}
use Rattle.bi_fdt.specs.Views.{node_of}
use Rattle.bi_fit.specs.ImageTree.{image_nodes}
use Rattle.bi_fit.specs.Content.{image_model, HasIndices}
use Rattle.bi_fit.specs.Reading.{IsOnlyFitFault}
use Rattle.bi_fit.proofs.ReadErrors.{blob_error}
use Rattle.bi_fit.proofs.ReadBlobs.{found_images, images_at, is_images_position, no_images, images_have_data, images_error, is_held}
use Rattle.bi_fit.proofs.ReadBlobs.{is_read}
use Rattle.bi_fit.proofs.fit.Fit.read.Goals as goal
use Rattle.bi_fit.proofs.fit.Fit.read.Goals.{In-Some}

pub returns-in_err-blob-clause-failed : goal.returns-in_err-blob-clause-failed
returns-in_err-blob-clause-failed c =
    error_passed_on _ _ _ c.from_residual.ensures.1
    (blob_error c.args.limits c.args.file.now c.in_err-blob.field-0.0 c.in_err-blob.ensures.failed)

pub returns-in_default-clause-failed : goal.returns-in_default-clause-failed
returns-in_default-clause-failed c =
    let blob = c.in_ok-blob.blob in
    let none : image_nodes (root_of blob) ≡ None =
    found_images c.root-root.result blob c.find_child.result c.root-root.ensures.root c.find_child.ensures.child
    ∙ ap (option_map (λ found. (node_of found.1).children)) c.in_default.is in
    subst (λ place. IsOnlyFitFault c.args.limits c.args.file.now (record { cause = NoImages; offset = place }))
    (sym (c.place.ensures ∙ ap (λ (root : Sibling FileNode). root.own.place) c.root-root.ensures.root))
    (no_images c.args.limits c.args.file.now blob c.in_ok-blob.ensures.read.within c.in_ok-blob.ensures.read.means none)

-- The image nodes of the blob.
images_found : (c : In-Some) → image_nodes (root_of c.in_ok-blob.blob) ≡ Some (node_of c.in-Some.node).children
images_found c =
    found_images c.root-root.result c.in_ok-blob.blob c.find_child.result c.root-root.ensures.root c.find_child.ensures.child
    ∙ ap (option_map (λ found. (node_of found.1).children)) c.in-Some.is

pub read_images-requires-clause-data : goal.read_images-requires-clause-data
read_images-requires-clause-data c =
    images_have_data c.args.limits c.args.file.now c.in_ok-blob.blob c.in_ok-blob.ensures.read.within c.in_ok-blob.ensures.read.means
    (node_of c.in-Some.node).children
    (images_found (goal.at.read_images-requires-clause-data c).In-Some)

pub returns-in_err-images-clause-failed : goal.returns-in_err-images-clause-failed
returns-in_err-images-clause-failed c =
    error_passed_on _ _ _ c.from_residual-in_err-images.ensures.1
    (images_error c.args.limits c.args.file.now c.in_ok-blob.blob c.in_ok-blob.ensures.read.within c.in_ok-blob.ensures.read.means
    (node_of c.in-Some.node).children
    (images_found (goal.at.returns-in_err-images-clause-failed c).In-Some) c.in_err-images.field-0.0 c.in_err-images.ensures.failed)

pub invariant_of-result : goal.invariant_of-result
invariant_of-result c =
    let most : c.args.limits.file ≤ 0x7fffffff = omega arith in
    let deepest : c.args.limits.depth ≤ 64 = omega arith in
    record {
      held =
          is_held c.args.limits c.args.file.now c.in_ok-blob.blob c.in_ok-blob.ensures.read.within c.in_ok-blob.ensures.read.means
          (node_of c.in-Some.node).children
          (images_found (goal.at.invariant_of-result c).In-Some) (map image_model c.in_ok-images.images.items) c.in_ok-images.ensures.images
          c.in_ok-blob.ensures.read.is_file c.in_ok-blob.ensures.read.size most deepest;
      images_at =
          images_at c.in_ok-blob.blob c.root-root.result c.find_child.result c.in-Some.images_position c.in-Some.node
          c.root-root.ensures.root c.find_child.ensures.child c.in-Some.is
          c.index-images_index.result c.root-root.ensures.same_table c.find_child.ensures.same_table c.index-images_index.ensures.there
          c.index-images_index.ensures.node;
      position =
          is_images_position c.in_ok-blob.blob c.root-root.result c.find_child.result c.in-Some.images_position c.in-Some.node
          c.root-root.ensures.root c.find_child.ensures.child c.in-Some.is
          c.find_child.ensures.position;
      indices = subst (λ images. HasIndices c.in_ok-indices.indices (map image_model images)) c.deref.ensures.value c.in_ok-indices.ensures;
    }

pub returns-clause-read : goal.returns-clause-read
returns-clause-read c =
    is_read c.args.limits c.args.file.now c.in_ok-blob.blob c.in_ok-blob.ensures.read.within c.in_ok-blob.ensures.read.means
    (node_of c.in-Some.node).children
    (images_found (goal.at.returns-clause-read c).In-Some) (map image_model c.in_ok-images.images.items) c.in_ok-images.ensures.images
    c.in_ok-blob.ensures.read.is_file (invariant_of-result c).held
