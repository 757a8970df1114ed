use Rattle.std.proofs.Common.{◌≡◌, ℕ, List, [], ◌∷◌, Option, Some, None, refl, sym, ap, ap₂, subst, ◌∙◌}
use Rattle.std.specs.List.{AllZip}
use Rattle.std.specs.Option.{unwrap_or}
use Rattle.bi_blob.specs.Tree.{FileNode, FileProperty, tree_without_places, tree_without_order}
use Rattle.bi_blob.proofs.Blobs.OneBlob.{one_blob}
use Rattle.bi_fit.specs.ImageTree.{image_nodes, each_own, tree_without_payloads}
use Rattle.bi_fit.specs.Payloads.{PayloadSource, NoSource, Data, DataOffset, DataPosition, source_of, external_base, IsSizedRegion}
use Rattle.bi_fit.specs.Payloads.{IsPayload, HasPayload}
use Rattle.bi_fit.specs.Laws.{OneFitMeaning, FitBeginsWithMagic}

-- A file has one meaning.

-- What is in two equal options is equal.
pub same_in_some : {A : Type 0} (x y : A) → Some x ≡ Some y → x ≡ y
same_in_some x y e = ap (λ o. unwrap_or o x) e

-- A region has one payload.
one_region : (file : List ℕ) (base : ℕ) (begin : FileProperty) (size : Option FileProperty) (one other : Option (List ℕ)) →
    IsSizedRegion file base begin size one → IsSizedRegion file base begin size other → one ≡ other
one_region file base begin None one other a b = absurd a
one_region file base begin (Some size) one other a b = a.is_slice ∙ sym b.is_slice

-- A source has one payload.
pub one_payload : (file : List ℕ) (source : PayloadSource) (one other : Option (List ℕ)) → IsPayload file source one →
    IsPayload file source other → one ≡ other
one_payload file NoSource one other a b = a ∙ sym b
one_payload file (Data value) one other a b = a ∙ sym b
one_payload file (DataOffset offset size) one other a b = one_region file (external_base file) offset size one other a b
one_payload file (DataPosition position size) one other a b = one_region file 0 position size one other a b

-- Image nodes have one list of payloads.
one_list : (file : List ℕ) (own : List FileNode) (one other : List (Option (List ℕ))) → AllZip (HasPayload file) own one →
    AllZip (HasPayload file) own other → one ≡ other
one_list file [] [] [] a b = refl
one_list file [] [] (x ∷ xs) a b = absurd b
one_list file [] (x ∷ xs) other a b = absurd a
one_list file (first ∷ own) [] other a b = absurd a
one_list file (first ∷ own) (x ∷ xs) [] a b = absurd b
one_list file (first ∷ own) (x ∷ xs) (y ∷ ys) a b =
    ap₂ (λ h t. h ∷ t) (one_payload file (source_of first) x y a.0 b.0) (one_list file own xs ys a.1 b.1)

pub one_fit_meaning : OneFitMeaning
one_fit_meaning file one other a b =
    let same = one_blob file one.cpu other.cpu one.reservations other.reservations a.root b.root a.blob b.blob in
    let images : a.images ≡ b.images =
    same_in_some a.images b.images (sym a.has_images ∙ ap image_nodes same.same_root ∙ b.has_images) in
    let payloads : one.payloads ≡ other.payloads =
    one_list file (each_own a.images) one.payloads other.payloads a.payloads
    (subst (λ nodes. AllZip (HasPayload file) (each_own nodes) other.payloads) (sym images) b.payloads) in
    let root : one.root ≡ other.root =
    a.is_root ∙ ap (λ root. tree_without_payloads (tree_without_order (tree_without_places root))) same.same_root ∙ sym b.is_root in
    λ i. record { cpu = same.same_cpu i; reservations = same.same_reservations i; root = root i; payloads = payloads i }

pub begins_with_magic : FitBeginsWithMagic
begins_with_magic file tree is = is.blob.header.is_magic
