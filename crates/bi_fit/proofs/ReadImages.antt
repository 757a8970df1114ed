use Rattle.std.proofs.Common.{◌≡◌, ℕ, List, [], ◌∷◌, ◌++◌, refl, sym, ap, subst, append_assoc, append-nil, rules}
use Rattle.std.specs.List.{AllByRecursion, AllZip}
use Rattle.bi_base.specs.declared.fault.Fault.{Fault}
use Rattle.bi_base.specs.Checks.{IsFirstFault}
use Rattle.bi_blob.specs.Tree.{Nodes, none, node, FileNode}
use Rattle.bi_blob.specs.Lookups.{Sibling, siblings}
use Rattle.bi_fit.specs.Payloads.{source_of}
use Rattle.bi_fit.specs.Faults.{FitCheck, FitPasses, fit_fault, source_checks, image_checks}
use Rattle.bi_fit.specs.Content.{ImageModel, IsReadImage}
use Rattle.bi_fit.specs.Images.{HasDataInFile}
use Rattle.bi_fit.proofs.Faults.{source_passes}
use Rattle.bi_base.proofs.FirstFault.{IsFirstFault-after, IsFirstFault-front}

-- The images that are read one after the other are those of all image nodes when none is left, and a fault of the first node that is left
-- is that of all.

-- The checks of image nodes, by the nodes in order.
abbrev pub sibling_checks : List ℕ → List (Sibling FileNode) → List FitCheck
sibling_checks file [] = []
sibling_checks file (sibling ∷ later) = source_checks file (source_of sibling.own) ++ sibling_checks file later

siblings_have_checks : (file : List ℕ) (nodes : Nodes FileNode) → sibling_checks file (siblings nodes) ≡ image_checks file nodes
siblings_have_checks file none = refl
siblings_have_checks file (node name own children later) =
    ap (λ checks. source_checks file (source_of own) ++ checks) (siblings_have_checks file later)

-- Image nodes. These images were read from some of them, and these nodes are left.
pub record AreReadTo (file : List ℕ) (nodes : Nodes FileNode) (images : List ImageModel) (left : List (Sibling FileNode)) : Type 0 where
  pub have_data : AllByRecursion (λ sibling. HasDataInFile file sibling.own) left
  pub read : (later : List ImageModel) → AllZip (IsReadImage file) left later → AllZip (IsReadImage file) (siblings nodes) (images ++ later)
  pub fault : (fault : Fault) → IsFirstFault (FitPasses file) fit_fault (sibling_checks file left) fault →
      IsFirstFault (FitPasses file) fit_fault (image_checks file nodes) fault

-- All are left at first.
pub none_read : (file : List ℕ) (nodes : Nodes FileNode) (left : List (Sibling FileNode)) → left ≡ siblings nodes →
    AllByRecursion (λ sibling. HasDataInFile file sibling.own) (siblings nodes) → AreReadTo file nodes [] left
none_read file nodes left same have_data = search (rules, siblings_have_checks)

module _ (file : List ℕ) (nodes : Nodes FileNode) (images : List ImageModel) (all left : List (Sibling FileNode)) (child : Sibling FileNode)
    (is_first : all ≡ child ∷ left) (are : AreReadTo file nodes images all) where
  -- A fault of the first of them is that of all.
  pub child_fault : (fault : Fault) → IsFirstFault (FitPasses file) fit_fault (source_checks file (source_of child.own)) fault →
      IsFirstFault (FitPasses file) fit_fault (image_checks file nodes) fault
  child_fault fault first = search (rules, IsFirstFault-front)

  -- The first of them is read.
  pub one_more : (image : ImageModel) → IsReadImage file child image → AreReadTo file nodes (images ++ image ∷ []) left
  one_more image is = record {
    have_data = (subst (AllByRecursion (λ sibling. HasDataInFile file sibling.own)) is_first are.have_data).1;
    read = λ later read.
        subst (AllZip (IsReadImage file) (siblings nodes)) (sym (append_assoc images (image ∷ []) later))
        (are.read (image ∷ later)
        (subst (λ siblings. AllZip (IsReadImage file) siblings (image ∷ later)) (sym is_first) (is, read)));
    fault = λ fault first.
        are.fault fault
        (subst (λ siblings. IsFirstFault (FitPasses file) fit_fault (sibling_checks file siblings) fault) (sym is_first)
        (IsFirstFault-after (FitPasses file) fit_fault (source_checks file (source_of child.own)) (sibling_checks file left) fault
        (source_passes file (source_of child.own) image.payload is.payload) first));
  }

-- None is left at last.
pub all_read : (file : List ℕ) (nodes : Nodes FileNode) (images : List ImageModel) → AreReadTo file nodes images [] →
    AllZip (IsReadImage file) (siblings nodes) images
all_read file nodes images are = subst (AllZip (IsReadImage file) (siblings nodes)) (append-nil images) (are.read [] tt)
