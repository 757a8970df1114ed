use Rattle.std.proofs.Common.{◌≡◌, ℕ, ◌+◌, ◌≤◌, List, [], ◌∷◌, map, length, Option, Some, None, refl, sym, ap, subst, ◌∙◌, inl, inr, arith}
use Rattle.std.proofs.Common.{rules}
use Rattle.std.specs.Prelude.{IfSome, IsSome}
use Rattle.std.specs.List.{AllByRecursion, AllZip}
use Rattle.std.specs.Option.{option_map}
use Rattle.bi_base.specs.declared.fault.Cause.TheVariants.{NoImages}
use Rattle.bi_base.specs.declared.fault.Error.{Error}
use Rattle.bi_base.specs.declared.fault.Error.TheVariants.{Refused, OutOfMemory, ReadFailed, WriteFailed}
use Rattle.bi_base.specs.declared.fault.Fault.{Fault}
use Rattle.bi_base.specs.Checks.{IsFirstFault}
use Rattle.bi_base.specs.Limits.{Limits}
use Rattle.bi_base.specs.Errors.{IsFaultOrNoMemory}
use Rattle.bi_blob.specs.Tree.{Nodes, none, node, FileProperty, FileNode}
use Rattle.bi_blob.specs.Lookups.{siblings, root_node, node_at, node_named, property_named}
use Rattle.bi_blob.specs.Blob.{IsBlob, IsWithin, IsBlobWithin, totalsize}
use Rattle.bi_blob.specs.Layout.{longest_text}
use Rattle.bi_blob.specs.Following.{most_open_nodes}
use Rattle.bi_blob.proofs.Blobs.OneBlob.{one_blob}
use Rattle.bi_blob.proofs.Blobs.Faults.{blob_has_no_fault}
use Rattle.bi_fdt.specs.declared.node.NodeRef.{NodeRef}
use Rattle.bi_fdt.specs.Content.{Blob, root_of}
use Rattle.bi_fdt.specs.Views.{HasNodeAt, node_in, node_of, table_of_node}
use Rattle.bi_fit.specs.Names.{images_name, data_name}
use Rattle.bi_fit.specs.ImageTree.{image_nodes, nodes_or_none, each_own}
use Rattle.bi_fit.specs.Payloads.{HasPayload}
use Rattle.bi_fit.specs.File.{FitMeans}
use Rattle.bi_fit.specs.Faults.{FitPasses, fit_fault, image_checks, images_checks, InTree}
use Rattle.bi_fit.specs.Content.{ImageModel, FitModel, tree_of, IsReadImage, IsHeld, HasImagesAt, IsImagesPosition}
use Rattle.bi_fit.specs.Reading.{IsReadFit, IsFitReadError, IsOnlyFitFault}
use Rattle.bi_fit.specs.Images.{HasDataInFile}
use Rattle.bi_fit.proofs.Faults.{fit_has_no_fault}
use Rattle.bi_fit.proofs.Meanings.{one_fit_meaning}
use Rattle.bi_fit.proofs.FilePayloads.{HaveValues, named_value, image_values}
use Rattle.bi_fit.proofs.ReadErrors.{only_fit_fault, none_before_tree}

-- What is read of the image nodes of a blob is what the file holds, and an error of reading them is one of reading the file.

-- The image nodes of a blob, by its node `images`.
pub found_images : (root : NodeRef) (blob : Blob) (found : Option (ℕ × NodeRef)) → node_of root ≡ root_node (root_of blob) →
    option_map (λ found. node_of found.1) found ≡ node_named (node_of root).children images_name →
    image_nodes (root_of blob) ≡ option_map (λ found. (node_of found.1).children) found
found_images root blob found is_root is_child = search rules

-- The node `images`, which was found at a position among the children of the root.
module _ (blob : Blob) (root : NodeRef) (found : Option (ℕ × NodeRef)) (position : ℕ) (images : NodeRef)
    (is_root : node_of root ≡ root_node (root_of blob))
    (is_child : option_map (λ found. node_of found.1) found ≡ node_named (node_of root).children images_name)
    (is_found : found ≡ Some (position, images)) where
  -- The child of the root.
  named_images : Some (node_of images) ≡ node_named (root_of blob).children images_name
  named_images = search rules

  -- Its index is that of the child of the root.
  pub images_at : (index : ℕ) → table_of_node root ≡ blob.table →
      IfSome found (λ found. table_of_node found.1 ≡ table_of_node root) →
      HasNodeAt (table_of_node images) index → node_in (table_of_node images) index ≡ node_of images → HasImagesAt blob index
  images_at index root_table child_table there is_node = search (rules, named_images)

  -- Its position is that of the child of the root.
  pub is_images_position : IfSome found (λ found. node_at (node_of root).children found.0 ≡ Some (node_of found.1)) →
      IsImagesPosition blob position
  is_images_position at = search (rules, named_images)

-- Nodes that have the values of their properties in the file begin their `data` there.
have_data : (file : List ℕ) (nodes : Nodes FileNode) → HaveValues file nodes →
    AllByRecursion (λ sibling. HasDataInFile file sibling.own) (siblings nodes)
have_data file none values = tt
have_data file (node name own children later) values =
    (by_search (property_named own.properties data_name) refl, have_data file later values.2)
  where
    by_search : (found : Option FileProperty) → property_named own.properties data_name ≡ found →
        IfSome found (λ property. property.place + 12 ≤ length file)
    by_search None is = tt
    by_search (Some property) is =
        let value = named_value file data_name own.properties property values.0 is in
        omega (arith, value.in_file)

-- The payloads of images that are read.
pub read_payloads : (file : List ℕ) (nodes : Nodes FileNode) (images : List ImageModel) →
    AllZip (IsReadImage file) (siblings nodes) images → AllZip (HasPayload file) (each_own nodes) (map (λ image. image.payload) images)
read_payloads file none [] are = tt
read_payloads file none (image ∷ images) are = absurd are
read_payloads file (node name own children later) [] are = absurd are
read_payloads file (node name own children later) (image ∷ images) are =
    (are.0.payload, read_payloads file later images are.1)

module _ (limits : Limits) (file : List ℕ) (blob : Blob) (accepts : IsBlobWithin limits file)
    (is : IsBlob file blob.cpu blob.reservations (root_of blob)) where
  -- The tree of the blob is within the limits.
  within : IsWithin limits file (root_of blob)
  within = subst (IsWithin limits file)
      (one_blob file accepts.cpu blob.cpu accepts.reservations blob.reservations accepts.root
      (root_of blob) accepts.blob is).same_root accepts.within

  -- Memory runs out only after the checks before the tree.
  pub out_of_memory : IsFitReadError limits file OutOfMemory
  out_of_memory = none_before_tree limits file (λ fault. blob_has_no_fault limits file fault accepts)

  -- There is no child `images`.
  pub no_images : image_nodes (root_of blob) ≡ None →
      IsOnlyFitFault limits file (record { cause = NoImages; offset = (root_of blob).own.place })
  no_images has =
      only_fit_fault limits file (record { cause = NoImages; offset = (root_of blob).own.place })
      (InTree blob.cpu blob.reservations (root_of blob) is within (inl (fails, refl)))
    where
      fails : ¬ (IsSome (image_nodes (root_of blob)))
      fails = rw has (λ some. cc)

  module _ (images : Nodes FileNode) (has : image_nodes (root_of blob) ≡ Some images) where
    -- The image nodes begin their `data` in the file.
    pub images_have_data : AllByRecursion (λ sibling. HasDataInFile file sibling.own) (siblings images)
    images_have_data = have_data file images (image_values file blob.cpu blob.reservations (root_of blob) images is has)

    -- A fault of the image nodes is that of the file.
    images_fault : (fault : Fault) → IsFirstFault (FitPasses file) fit_fault (image_checks file images) fault →
        IsOnlyFitFault limits file fault
    images_fault fault first =
        only_fit_fault limits file fault
        (InTree blob.cpu blob.reservations (root_of blob) is within
        (inr (rw has refl, subst (λ nodes. IsFirstFault (FitPasses file) fit_fault (images_checks file nodes) fault) (sym has) first)))

    -- An error of reading the image nodes.
    pub images_error : (error : Error) → IsFaultOrNoMemory (IsFirstFault (FitPasses file) fit_fault (image_checks file images)) error →
        IsFitReadError limits file error
    images_error (Refused fault) refused = images_fault fault refused
    images_error OutOfMemory refused = out_of_memory
    images_error ReadFailed refused = refused
    images_error WriteFailed refused = refused

    module _ (read : List ImageModel) (are : AllZip (IsReadImage file) (siblings images) read) where
      -- What is read.
      abbrev content : FitModel
      content = record { blob = blob; images = read }

      -- The file means it.
      abbrev means : FitMeans limits file (tree_of content)
      means = record {
        is_file = record {
          root = root_of blob;
          blob = is;
          images = images;
          has_images = has;
          payloads = read_payloads file images read are;
          is_root = refl;
        };
        within = within;
      }

      -- Its images are those of the blob.
      pub is_held : blob.file ≡ file → blob.total_size ≡ totalsize file → limits.file ≤ longest_text → limits.depth ≤ most_open_nodes →
          IsHeld content
      is_held same total file_limit depth_limit = record {
        is_blob = subst (λ file. IsBlob file blob.cpu blob.reservations (root_of blob)) (sym same) is;
        total_size = total ∙ ap totalsize (sym same);
        short = subst (λ file. length file ≤ longest_text) (sym same) (omega (arith, within.short));
        shallow = omega (arith, within.shallow);
        has_images = rw has refl;
        images = subst (λ file. AllZip (IsReadImage file) (siblings (nodes_or_none (image_nodes (root_of blob)))) read) (sym same)
            (subst (λ nodes. AllZip (IsReadImage file) (siblings (nodes_or_none nodes)) read) (sym has) are);
      }

      -- It is read from the file.
      pub is_read : blob.file ≡ file → IsHeld content → IsReadFit limits file content
      is_read same held = record {
        is_file = same;
        held = held;
        means = means;
        same_root = refl;
        only = λ other other_means. one_fit_meaning file other (tree_of content) other_means.is_file means.is_file;
        no_fault = λ fault faulty. fit_has_no_fault limits file (tree_of content) fault means faulty;
      }
