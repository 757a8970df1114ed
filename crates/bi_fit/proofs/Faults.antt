use Rattle.std.proofs.Common.{◌≡◌, ◌⊎◌, ℕ, List, [], ◌∷◌, length, Option, Some, None, inl, inr, refl, sym, subst, rules}
use Rattle.std.specs.Prelude.{IsSome}
use Rattle.std.specs.List.{AllZip}
use Rattle.std.proofs.lemmas.Bool.{cases_eq, false≢true}
use Rattle.bi_base.specs.declared.fault.Fault.{Fault}
use Rattle.bi_base.specs.Checks.{IsFirstFault, HasNoFault}
use Rattle.bi_base.specs.Limits.{Limits}
use Rattle.bi_base.proofs.FirstFault as first
use Rattle.bi_base.proofs.ListMembers.{each-append, each-front, each-back}
use Rattle.bi_blob.specs.Tree.{Nodes, none, node, Root, FileProperty, FileNode, tree_without_places, tree_without_order}
use Rattle.bi_blob.specs.Blob.{Reservation, IsBlob, IsWithin, IsBlobWithin}
use Rattle.bi_blob.specs.BlobFaults.{IsBlobFault}
use Rattle.bi_blob.proofs.Blobs.TestedChecks.{le_decided}
use Rattle.bi_blob.proofs.Blobs.OneBlob.{one_blob}
use Rattle.bi_blob.proofs.Blobs.Faults.{blob_has_no_fault, one_blob_fault, blob_or_fault}
use Rattle.bi_fit.specs.ImageTree.{ImageTree, image_nodes, each_own, tree_without_payloads}
use Rattle.bi_fit.specs.Payloads.{PayloadSource, NoSource, Data, DataOffset, DataPosition, source_of, external_base}
use Rattle.bi_fit.specs.Payloads.{IsSizedRegion, IsPayload, HasPayload}
use Rattle.bi_fit.specs.File.{IsFitFile, FitMeans}
use Rattle.bi_fit.specs.Faults.{FitCheck, HasImages, HasBeginCell, HasSize, HasSizeCell, IsInFile, FitPasses, fit_fault, region_checks}
use Rattle.bi_fit.specs.Faults.{source_checks, image_checks, images_checks, fit_checks, IsFitFault, InBlob, InTree}
use Rattle.bi_fit.specs.Laws.{FitHasNoFault, OneFitFault, FitMeaningOrFault, FitMeaningWhereNoFault}

-- A file has a meaning if and only if it has no fault, and at most one fault.

-- Whether an option has a value is decided.
some_or_not : {A : Type 0} (o : Option A) → IsSome o ⊎ ¬ (IsSome o)
some_or_not None = inr (λ e. cc)
some_or_not (Some x) = inl refl

-- Each check passes or fails.
decided : (file : List ℕ) (check : FitCheck) → FitPasses file check ⊎ ¬ (FitPasses file check)
decided file (HasImages images root_place) = some_or_not images
decided file (HasBeginCell begin) = cases_eq (length begin.value) 4
decided file (HasSize size begin_place) = some_or_not size
decided file (HasSizeCell size) = cases_eq (length size.value) 4
decided file (IsInFile end begin_place) = le_decided end (length file)

module _ (file : List ℕ) where
  -- The checks of a region that is a payload pass.
  region_passes : (base : ℕ) (begin : FileProperty) (size : Option FileProperty) (payload : Option (List ℕ)) →
      IsSizedRegion file base begin size payload → HasNoFault (FitPasses file) (region_checks base begin size)
  region_passes base begin None payload is = absurd is
  region_passes base begin (Some size) payload is = (is.begin_cell, (refl, (is.size_cell, (is.in_file, tt))))

  -- The checks of a source that has a payload pass.
  pub source_passes : (source : PayloadSource) (payload : Option (List ℕ)) → IsPayload file source payload →
      HasNoFault (FitPasses file) (source_checks file source)
  source_passes NoSource payload is = tt
  source_passes (Data value) payload is = tt
  source_passes (DataOffset offset size) payload is = region_passes (external_base file) offset size payload is
  source_passes (DataPosition position size) payload is = region_passes 0 position size payload is

  -- The checks of image nodes with payloads pass.
  images_pass : (nodes : Nodes FileNode) (payloads : List (Option (List ℕ))) → AllZip (HasPayload file) (each_own nodes) payloads →
      HasNoFault (FitPasses file) (image_checks file nodes)
  images_pass none payloads have = tt
  images_pass (node name own children later) [] have = absurd have
  images_pass (node name own children later) (payload ∷ payloads) have =
      each-append (FitPasses file) (source_checks file (source_of own)) (image_checks file later)
      (source_passes (source_of own) payload have.0) (images_pass later payloads have.1)

  -- A region is a payload, if its checks pass.
  region_has_payload : (base : ℕ) (begin : FileProperty) (size : Option FileProperty) →
      HasNoFault (FitPasses file) (region_checks base begin size) → (payload : Option (List ℕ)) × IsSizedRegion file base begin size payload
  region_has_payload base begin None fine = absurd (false≢true fine.1.0)
  region_has_payload base begin (Some size) fine = search rules

  -- A source has a payload, or none, if its checks pass.
  source_has_payload : (source : PayloadSource) → HasNoFault (FitPasses file) (source_checks file source) →
      (payload : Option (List ℕ)) × IsPayload file source payload
  source_has_payload NoSource fine = (None, refl)
  source_has_payload (Data value) fine = (Some value.value, refl)
  source_has_payload (DataOffset offset size) fine = region_has_payload (external_base file) offset size fine
  source_has_payload (DataPosition position size) fine = region_has_payload 0 position size fine

  -- Image nodes have payloads, if their checks pass.
  images_have_payloads : (nodes : Nodes FileNode) → HasNoFault (FitPasses file) (image_checks file nodes) →
      (payloads : List (Option (List ℕ))) × AllZip (HasPayload file) (each_own nodes) payloads
  images_have_payloads none fine = ([], tt)
  images_have_payloads (node name own children later) fine =
      let first_payload = source_has_payload (source_of own)
      (each-front (FitPasses file) (source_checks file (source_of own)) (image_checks file later) fine) in
      let rest = images_have_payloads later
      (each-back (FitPasses file) (source_checks file (source_of own)) (image_checks file later) fine) in
      (first_payload.0 ∷ rest.0, (first_payload.1, rest.1))

  -- The checks of the tree of a file with a meaning pass.
  tree_passes : (tree : ImageTree) (is : IsFitFile file tree) → HasNoFault (FitPasses file) (fit_checks file is.root)
  tree_passes tree is =
      (rw is.has_images refl, rw is.has_images (images_pass is.images tree.payloads is.payloads))

  -- A blob has a meaning, if its checks pass.
  tree_has_meaning : (cpu : ℕ) (reservations : List Reservation) (root : Root FileNode) → IsBlob file cpu reservations root →
      (images : Option (Nodes FileNode)) → image_nodes root ≡ images → IsSome images →
      HasNoFault (FitPasses file) (images_checks file images) → (tree : ImageTree) × (is : IsFitFile file tree) × (is.root ≡ root)
  tree_has_meaning cpu reservations root blob None has some fine = absurd cc
  tree_has_meaning cpu reservations root blob (Some images) has some fine =
      let payloads = images_have_payloads images fine in (
        record {
          cpu = cpu;
          reservations = reservations;
          root = tree_without_payloads (tree_without_order (tree_without_places root));
          payloads = payloads.0;
        },
        record { root = root; blob = blob; images = images; has_images = has; payloads = payloads.1; is_root = refl },
        refl,
      )

pub fit_has_no_fault : FitHasNoFault
fit_has_no_fault bounds file tree fault means (InBlob faulty) = search (rules, blob_has_no_fault)
fit_has_no_fault bounds file tree fault means (InTree cpu reservations root blob within faulty) =
    let same = one_blob file tree.cpu cpu tree.reservations reservations means.is_file.root root means.is_file.blob blob in
    first.not_both (FitPasses file) fit_fault (fit_checks file root) fault
    (subst (λ root. HasNoFault (FitPasses file) (fit_checks file root)) same.same_root (tree_passes file tree means.is_file))
    faulty

pub one_fit_fault : OneFitFault
one_fit_fault bounds file one other (InBlob a) (InBlob b) = one_blob_fault bounds file one other a b
one_fit_fault bounds file one other (InBlob a) (InTree cpu reservations root blob within b) =
    absurd (blob_has_no_fault bounds file one
    (record { cpu = cpu; reservations = reservations; root = root; blob = blob; within = within }) a)
one_fit_fault bounds file one other (InTree cpu reservations root blob within a) (InBlob b) =
    absurd (blob_has_no_fault bounds file other
    (record { cpu = cpu; reservations = reservations; root = root; blob = blob; within = within }) b)
one_fit_fault bounds file one other (InTree cpu reservations root blob within a)
    (InTree cpu_too reservations_too root_too blob_too within_too b) =
    let same = one_blob file cpu cpu_too reservations reservations_too root root_too blob blob_too in
    first.one_fault (FitPasses file) fit_fault (fit_checks file root) one other a
    (subst (λ root. IsFirstFault (FitPasses file) fit_fault (fit_checks file root) other) (sym same.same_root) b)

-- A blob within limits has a meaning or a fault.
in_blob : (bounds : Limits) (file : List ℕ) → IsBlobWithin bounds file →
    ((tree : ImageTree) × FitMeans bounds file tree) ⊎ ((fault : Fault) × IsFitFault bounds file fault)
in_blob bounds file is = by_checks (first.fault_or_none (FitPasses file) fit_fault (decided file) (fit_checks file is.root))
  where
    Outcome : Type 0
    Outcome = ((tree : ImageTree) × FitMeans bounds file tree) ⊎ ((fault : Fault) × IsFitFault bounds file fault)

    by_checks : HasNoFault (FitPasses file) (fit_checks file is.root) ⊎
        ((fault : Fault) × IsFirstFault (FitPasses file) fit_fault (fit_checks file is.root) fault) → Outcome
    by_checks (inl fine) =
        let found = tree_has_meaning file is.cpu is.reservations is.root is.blob (image_nodes is.root) refl fine.0 fine.1 in
        inl (found.0, record { is_file = found.1; within = subst (λ root. IsWithin bounds file root) (sym found.2) is.within })
    by_checks (inr faulty) = inr (faulty.0, InTree is.cpu is.reservations is.root is.blob is.within faulty.1)

pub fit_meaning_or_fault : FitMeaningOrFault
fit_meaning_or_fault bounds file bytes = by_blob (blob_or_fault bounds file bytes)
  where
    by_blob : IsBlobWithin bounds file ⊎ ((fault : Fault) × IsBlobFault bounds file fault) →
        ((tree : ImageTree) × FitMeans bounds file tree) ⊎ ((fault : Fault) × IsFitFault bounds file fault)
    by_blob (inl is) = in_blob bounds file is
    by_blob (inr faulty) = inr (faulty.0, InBlob faulty.1)

pub fit_meaning_where_no_fault : FitMeaningWhereNoFault
fit_meaning_where_no_fault bounds file bytes = (
  (λ means fault faulty. fit_has_no_fault bounds file means.0 fault means.1 faulty),
  (λ fine. elim (fit_meaning_or_fault bounds file bytes) [ inl means ↦ means | inr faulty ↦ absurd (fine faulty.0 faulty.1) ]),
)
