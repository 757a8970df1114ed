use Rattle.std.proofs.Common.{◌≡◌, ℕ, Bool, true, false, List, [], ◌∷◌, ◌++◌, flat_map}
use Rattle.std.proofs.Common.{refl, ap, ap₂, sym, ◌∙◌, ◌↔◌, IsTrue, not, true≢false}
use Rattle.std.proofs.Common.{append_assoc, if◌then◌else◌, map}
use Rattle.std.specs.Borrow.{Bor}
use Rattle.std.specs.Global.{Vec}
use Rattle.std.proofs.lemmas.List.{map-append}
use Rattle.bi_base.specs.Slices.{bytes_of}
use Rattle.bi_blob.specs.Lookups.{Sibling}
use Rattle.bi_blob.specs.Tree.{FileNode}
use Rattle.bi_common.specs.HashedImages.{FoundHash}
use Rattle.bi_coverage.specs.declared.concern.SignatureConcern.{SignatureConcern}
use Rattle.bi_coverage.specs.Values.{signature_concern}
use Rattle.bi_report.specs.declared.check.Allowed.{Allowed}
use Rattle.bi_coverage.specs.Coverage.{ConfigurationCoverage, SignatureCoverage}
use Rattle.bi_report.specs.CheckedImages.{has_any}
use Rattle.bi_report.specs.Checking.{BadHash, Concern, OfSignature, UnitAddress, allows, is_good, kept_concerns, kind_of}
use Rattle.bi_report.specs.Checking.{signature_concerns}
use Rattle.bi_report.specs.Checking.{skip_concerns}
use Rattle.bi_report.specs.ConcernValues.{name_lists}
use Rattle.bi_report.specs.ConcernsLeft.{found_in_paths, found_in_signature, found_in_signed}
use Rattle.bi_report.specs.FoundConcerns.{FoundConcern, HashOf, NamedNodes, Subject, concerns_about, concerns_in, found_in_hash}
use Rattle.bi_report.specs.FoundConcerns.{judged_found}
use Rattle.bi_report.specs.FoundConcerns.{found_in_addresses, kept_found}
use Rattle.bi_report.specs.SignedTrees.{is_any_signed}

-- Concerns with what they are about: the concerns alone, and those that iterators have left.

-- The concerns alone, of some about one thing,
pub only_concerns : (subject : Subject) (concerns : List Concern) → concerns_in (concerns_about subject concerns) ≡ concerns
only_concerns subject [] = refl
only_concerns subject (concern ∷ later) = ap (λ (l : List Concern). concern ∷ l) (only_concerns subject later)

-- of two lists,
pub concerns_in_both : (some later : List FoundConcern) → concerns_in (some ++ later) ≡ concerns_in some ++ concerns_in later
concerns_in_both some later = map-append (λ (one : FoundConcern). one.concern) some later

-- and of those about each element of a list.
pub concerns_in_each : {X : Type 0} (f : X → List FoundConcern) (g : X → List Concern) → ((x : X) → concerns_in (f x) ≡ g x) →
    (xs : List X) → concerns_in (flat_map f xs) ≡ flat_map g xs
concerns_in_each f g same [] = refl
concerns_in_each f g same (x ∷ xs) =
    concerns_in_both (f x) (flat_map f xs) ∙ ap₂ (λ (a b : List Concern). a ++ b) (same x) (concerns_in_each f g same xs)

-- Those that are kept.
pub kept_in : (allowed : Allowed) (found : List FoundConcern) →
    concerns_in (kept_found allowed found) ≡ kept_concerns allowed (concerns_in found)
kept_in allowed [] = refl
kept_in allowed (one ∷ later) = by (allows allowed (kind_of one.concern)) refl (kept_in allowed later)
  where
    by : (b : Bool) → allows allowed (kind_of one.concern) ≡ b →
        concerns_in (kept_found allowed later) ≡ kept_concerns allowed (concerns_in later) →
        concerns_in (kept_found allowed (one ∷ later)) ≡ kept_concerns allowed (concerns_in (one ∷ later))
    by true is rest = rw is rest
    by false is rest = rw is (ap (λ (l : List Concern). one.concern ∷ l) rest)

-- There is none if and only if no concern is left.
pub none_kept : (found : List FoundConcern) (any : Bool) (concerns : List Concern) → any ≡ has_any found → concerns_in found ≡ concerns →
    IsTrue (not any) ↔ (concerns ≡ [])
none_kept [] any concerns is same = (λ _. sym same, λ _. ap not is)
none_kept (one ∷ later) any concerns is same = (
  λ clean. absurd (true≢false (sym clean ∙ ap not is)),
  λ none. absurd (let no : concerns_in (one ∷ later) ≡ [] = same ∙ none in cc),
)

-- Those about the signed nodes of a configuration, one after another,
about_each_signed : (configuration : List ℕ) (signatures : List SignatureCoverage) →
    concerns_about NamedNodes (flat_map (signature_concerns configuration) signatures)
    ≡ flat_map (found_in_signed configuration) signatures
about_each_signed configuration [] = refl
about_each_signed configuration (first ∷ later) =
    let about : Concern → FoundConcern = λ concern. record { concern = concern; subject = NamedNodes } in
    map-append about (signature_concerns configuration first) (flat_map (signature_concerns configuration) later)
    ∙ ap (λ (l : List FoundConcern). found_in_signed configuration first ++ l) (about_each_signed configuration later)

-- and after some about the configuration.
pub about_signed : (configuration : List ℕ) (some : List Concern) (signatures : List SignatureCoverage) →
    concerns_about NamedNodes some ++ flat_map (found_in_signed configuration) signatures
    ≡ concerns_about NamedNodes (some ++ flat_map (signature_concerns configuration) signatures)
about_signed configuration some signatures =
    let about : Concern → FoundConcern = λ concern. record { concern = concern; subject = NamedNodes } in
    sym (map-append about some (flat_map (signature_concerns configuration) signatures)
    ∙ ap (λ (l : List FoundConcern). concerns_about NamedNodes some ++ l) (about_each_signed configuration signatures))

-- The concerns about a signed node, as the code has them.
pub about_signature : (configuration name : List ℕ) (concerns : List SignatureConcern) →
    map (λ concern. found_in_signature configuration name (signature_concern concern)) concerns
    ≡ concerns_about NamedNodes (map (OfSignature configuration name) (map signature_concern concerns))
about_signature configuration name [] = refl
about_signature configuration name (first ∷ later) =
    ap (λ (l : List FoundConcern). found_in_signature configuration name (signature_concern first) ∷ l)
    (about_signature configuration name later)

-- The concerns about nodes with unit addresses, as the code has them.
pub about_addresses : (coverage : List ConfigurationCoverage) (below : List (List (List ℕ))) (paths : List (Vec (Bor (List ℕ)))) →
    name_lists paths ≡ (if is_any_signed coverage then below else []) → found_in_paths paths ≡ found_in_addresses coverage below
about_addresses coverage below paths is =
    each paths ∙ ap (λ (lists : List (List (List ℕ))). concerns_about NamedNodes (map UnitAddress lists)) is
    ∙ by (is_any_signed coverage) refl
  where
    each : (paths : List (Vec (Bor (List ℕ)))) → found_in_paths paths ≡ concerns_about NamedNodes (map UnitAddress (name_lists paths))
    each [] = refl
    each (first ∷ later) =
        ap (λ (l : List FoundConcern). record { concern = UnitAddress (bytes_of first.items); subject = NamedNodes } ∷ l) (each later)

    by : (b : Bool) → is_any_signed coverage ≡ b →
        concerns_about NamedNodes (map UnitAddress (if is_any_signed coverage then below else [])) ≡ found_in_addresses coverage below
    by true is = rw is refl
    by false is = rw is refl

-- The first concern about hash nodes: that the verdict is not Good,
pub bad_first : (image : Sibling FileNode) (hash : FoundHash) (skipped later payload : List FoundConcern) → is_good hash.checked ≡ false →
    skipped ≡ concerns_about (HashOf image hash.node) (skip_concerns (judged_found hash)) →
    (found_in_hash image hash ++ later) ++ payload
    ≡ record { concern = BadHash hash.checked; subject = HashOf image hash.node } ∷ (skipped ++ (later ++ payload))
bad_first image hash skipped later payload bad is =
    rw (bad, is) (ap (λ (l : List FoundConcern). record { concern = BadHash hash.checked; subject = HashOf image hash.node } ∷ l)
    (append_assoc (concerns_about (HashOf image hash.node) (skip_concerns (judged_found hash))) later payload))

-- or that U-Boot skips the node.
pub skip_first : (image : Sibling FileNode) (hash : FoundHash) (first : FoundConcern) (later payload : List FoundConcern) →
    is_good hash.checked ≡ true → first ∷ [] ≡ concerns_about (HashOf image hash.node) (skip_concerns (judged_found hash)) →
    (found_in_hash image hash ++ later) ++ payload ≡ first ∷ (later ++ payload)
skip_first image hash first later payload good is = rw good (ap (λ (l : List FoundConcern). (l ++ later) ++ payload) (sym is))

-- There is none about a hash node with a Good verdict that U-Boot does not skip.
pub none_first : (image : Sibling FileNode) (hash : FoundHash) (later payload : List FoundConcern) →
    is_good hash.checked ≡ true → [] ≡ concerns_about (HashOf image hash.node) (skip_concerns (judged_found hash)) →
    (found_in_hash image hash ++ later) ++ payload ≡ later ++ payload
none_first image hash later payload good is = rw good (ap (λ (l : List FoundConcern). (l ++ later) ++ payload) (sym is))
