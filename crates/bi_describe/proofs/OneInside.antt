use Rattle.std.proofs.Common.{◌≡◌, ◌⊎◌, ℕ, Bool, true, false, List, [], ◌∷◌, Contains, Option, None, Some, inl, inr, refl, sym, ap}
use Rattle.std.proofs.Common.{subst, ◌∙◌, true≢false}
use Rattle.std.proofs.lemmas.Bool.{eqb-true, eq-eqb}
use Rattle.std.proofs.lemmas.Slice.Eq.{bytes_eq-Decides}
use Rattle.bi_base.specs.Limits.{Limits}
use Rattle.bi_base.proofs.EqualBytes.{same_bytes}
use Rattle.bi_base.proofs.ListMembers.{Contains-cases, Contains-first, Contains-none, Contains-others}
use Rattle.bi_blob.specs.Tree.{tree_without_order, tree_without_places}
use Rattle.bi_blob.proofs.Blobs.OneBlob.{one_blob}
use Rattle.bi_norm.specs.Meaning.{Meaning}
use Rattle.bi_describe.specs.DeepLaws.{OneIsInside}
use Rattle.bi_describe.specs.Devicetrees.{AreInside, Devicetree, HasInside, Insides, IsDevicetree, payloads_at_places}
use Rattle.bi_describe.specs.Ignoring.{OfImageNamed, OfPart, PayloadPlace}
use Rattle.bi_describe.specs.OpenedPayloads.{is_same_payload}

-- One thing is inside each payload.

-- ---- places

-- Two places are the same if the test says so, and only then.
pub same_place : (one other : PayloadPlace) → is_same_payload one other ≡ true → one ≡ other
same_place (OfImageNamed name) (OfImageNamed other) is = ap OfImageNamed (same_bytes name other is)
same_place (OfImageNamed name) (OfPart index) is = absurd (true≢false (sym is))
same_place (OfPart index) (OfImageNamed name) is = absurd (true≢false (sym is))
same_place (OfPart index) (OfPart other) is = ap OfPart (eqb-true index other is)

place_itself : (place : PayloadPlace) → is_same_payload place place ≡ true
place_itself (OfImageNamed name) = (bytes_eq-Decides name name).1 refl
place_itself (OfPart index) = eq-eqb index index refl

pub place_found : (one other : PayloadPlace) → one ≡ other → is_same_payload one other ≡ true
place_found one other is = subst (λ place. is_same_payload one place ≡ true) is (place_itself one)

-- ---- payloads

-- A payload is at a place, or none is.
abbrev pub FoundAt : List (PayloadPlace × List ℕ) → PayloadPlace → Type 0
FoundAt payloads place =
    ((payload : List ℕ) × Contains payloads (place, payload)) ⊎ ((payload : List ℕ) → ¬ (Contains payloads (place, payload)))

pub found_payload : (payloads : List (PayloadPlace × List ℕ)) (place : PayloadPlace) → FoundAt payloads place
found_payload [] place = inr (λ payload has. Contains-none (place, payload) has)
found_payload (first ∷ later) place = by (is_same_payload first.0 place) refl (found_payload later place)
  where
    none_first : is_same_payload first.0 place ≡ false → ((payload : List ℕ) → ¬ (Contains later (place, payload))) →
        (payload : List ℕ) → ((first ≡ (place, payload)) ⊎ Contains later (place, payload)) → ⊥
    none_first is none payload (inl same) =
        true≢false (sym (place_found first.0 place (ap (λ (pair : PayloadPlace × List ℕ). pair.0) same)) ∙ is)
    none_first is none payload (inr has) = none payload has

    by : (b : Bool) → is_same_payload first.0 place ≡ b → FoundAt later place → FoundAt (first ∷ later) place
    by true is rest = inl (
      first.1,
      subst (λ there. Contains (first ∷ later) (there, first.1)) (same_place first.0 place is) (Contains-first first later),
    )
    by false is (inl (payload, has)) = inl (payload, Contains-others first later (place, payload) has)
    by false is (inr none) =
        inr (λ payload has. none_first is none payload (Contains-cases first later (place, payload) has))

-- ---- the law

same_devicetree : (limits : Limits) (payload : List ℕ) (one other : Devicetree) → IsDevicetree limits payload one →
    IsDevicetree limits payload other → one ≡ other
same_devicetree limits payload one other is also =
    let same = one_blob payload one.cpu other.cpu one.reservations other.reservations is.root also.root is.blob also.blob in
    let root : one.root ≡ other.root =
    is.is_root ∙ ap (λ root. tree_without_order (tree_without_places root)) same.same_root ∙ sym also.is_root in
    (λ i. record { cpu = same.same_cpu i; reservations = same.same_reservations i; root = root i })

pub one_inside : (limits : Limits) (payload : List ℕ) (one other : Option Devicetree) → HasInside limits payload one →
    HasInside limits payload other → one ≡ other
one_inside limits payload None None is also = refl
one_inside limits payload None (Some tree) is also = absurd (is tree also)
one_inside limits payload (Some tree) None is also = absurd (also tree is)
one_inside limits payload (Some one) (Some other) is also = ap Some (same_devicetree limits payload one other is also)

pub one_is_inside : OneIsInside
one_is_inside limits meaning insides other is also place = by (found_payload (payloads_at_places meaning) place)
  where
    by : FoundAt (payloads_at_places meaning) place → insides place ≡ other place
    by (inl (payload, has)) =
        one_inside limits payload (insides place) (other place) (is.each place payload has) (also.each place payload has)
    by (inr none) = is.other place none ∙ sym (also.other place none)
