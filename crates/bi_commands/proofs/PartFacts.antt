use Rattle.std.proofs.Common.{◌≡◌, ◌≢◌, ◌∙◌, ◌+◌, ◌⊎◌, ℕ, List, [], ◌∷◌, ◌++◌, length, map, get_or, rules}
use Rattle.std.proofs.Common.{codes, lit≤, inl, inr, refl, sym, ap, subst, subst₂, arith}
use Rattle.std.specs.List.{AllZip, concat}
use Rattle.bi_base.specs.Limits.{Limits}
use Rattle.bi_base.specs.declared.fault.Cause.TheVariants.{BadPart}
use Rattle.bi_base.specs.declared.fault.Fault.{Fault}
use Rattle.bi_fit.specs.declared.building.Head.{Head}
use Rattle.bi_fit.specs.declared.form.Form.{Form}
use Rattle.bi_legacy.specs.declared.fields.Fields.{Fields}
use Rattle.bi_legacy.specs.Meaning.{image_of}
use Rattle.bi_norm.specs.Cutting.{IsCut, IsCutFault, TooLong, TooShort}
use Rattle.bi_norm.specs.FitBuilding.{IsBuiltAs, PlanSpecModel}
use Rattle.bi_norm.specs.LegacyBuilding.{IsBuiltLegacy}
use Rattle.bi_norm.specs.declared.fit_building.ImageSpec.{ImageSpec}
use Rattle.bi_commands.specs.BuildCommands.{AreFilled, ArePartsOf, HavePayloads, ImageFields, IsFitOutput, IsFitOutputFault}
use Rattle.bi_commands.specs.BuildCommands.{IsLegacyOutputFault, IsWhole, NotBuilt, NotCut, NotFilled, image_fields}
use Rattle.bi_commands.specs.KnownParts.{AreKernelAndTree, BuiltPartsAreKnown, FilledPartsAreKnown}
use Rattle.bi_commands.specs.KnownParts.{kernel_and_tree, given_parts, mixed_parts}
use Rattle.bi_commands.specs.Parts.{HasGivenBytes, IsFilled}
use Rattle.bi_commands.proofs.FitOutputs.{sum_of_cut}

-- What small parts and inputs are filled with, and what is built of them.

-- ---- contents

given_contents : (contents : List (List ℕ)) → AllZip HasGivenBytes given_parts contents → contents ≡ codes "ab" ∷ codes "c" ∷ []
given_contents [] given = absurd given
given_contents (one ∷ []) given = absurd given.1
given_contents (one ∷ other ∷ []) given = λ i. given.0 i ∷ given.1.0 i ∷ []
given_contents (one ∷ other ∷ more ∷ later) given = absurd given.1.1

two_bytes : (bytes : List ℕ) → length bytes ≡ 2 → bytes ≡ get_or bytes 0 0 ∷ get_or bytes 1 0 ∷ []
two_bytes [] two = absurd (omega (arith, two))
two_bytes (one ∷ []) two = absurd (omega (arith, two))
two_bytes (one ∷ other ∷ []) two = refl
two_bytes (one ∷ other ∷ more ∷ later) two = absurd (omega (arith, two))

one_byte : (bytes : List ℕ) → length bytes ≡ 1 → bytes ≡ get_or bytes 0 0 ∷ []
one_byte [] is = absurd (omega (arith, is))
one_byte (one ∷ []) is = refl
one_byte (one ∷ more ∷ later) is = absurd (omega (arith, is))

pieces_of_abc : (one other : List ℕ) → IsCut (codes "abc") (2 ∷ 1 ∷ []) (one ∷ other ∷ []) → (one ≡ codes "ab") × (other ≡ codes "c")
pieces_of_abc one other cut =
    let first = two_bytes one (ap (λ l. get_or l 0 0) cut.have_lengths) in
    let second = one_byte other (ap (λ l. get_or l 1 0) cut.have_lengths) in
    let whole : get_or one 0 0 ∷ get_or one 1 0 ∷ get_or other 0 0 ∷ [] ≡ codes "abc" =
    subst₂ (λ a b. concat (a ∷ b ∷ []) ≡ codes "abc") first second cut.are_whole in
    let a : get_or one 0 0 ≡ 97 = ap (λ l. get_or l 0 0) whole in
    let b : get_or one 1 0 ≡ 98 = ap (λ l. get_or l 1 0) whole in
    let c : get_or other 0 0 ≡ 99 = ap (λ l. get_or l 2 0) whole in
    (first ∙ (λ i. a i ∷ b i ∷ []), second ∙ (λ i. c i ∷ []))

mixed_contents : (contents : List (List ℕ)) → IsFilled mixed_parts (codes "abc") contents →
    contents ≡ codes "ab" ∷ codes "xyz" ∷ codes "c" ∷ []
mixed_contents [] filled = absurd filled.given
mixed_contents (one ∷ []) filled = absurd filled.given.1
mixed_contents (one ∷ other ∷ []) filled = absurd filled.given.1.1
mixed_contents (one ∷ other ∷ third ∷ []) filled =
    let pieces = pieces_of_abc one third filled.cut in λ i. pieces.0 i ∷ filled.given.1.0 i ∷ pieces.1 i ∷ []
mixed_contents (one ∷ other ∷ third ∷ more ∷ later) filled = absurd filled.given.1.1.1

some_given : given_parts ≢ []
some_given none = omega (arith, ap length none)

some_mixed : mixed_parts ≢ []
some_mixed none = omega (arith, ap length none)

only_given : (contents : List (List ℕ)) → ArePartsOf given_parts [] contents → contents ≡ codes "ab" ∷ codes "c" ∷ []
only_given contents (IsWhole none is) = absurd (some_given none)
only_given contents (AreFilled some filled) = given_contents contents filled.given

only_mixed : (contents : List (List ℕ)) → ArePartsOf mixed_parts (codes "abc") contents →
    contents ≡ codes "ab" ∷ codes "xyz" ∷ codes "c" ∷ []
only_mixed contents (IsWhole none is) = absurd (some_mixed none)
only_mixed contents (AreFilled some filled) = mixed_contents contents filled

only_whole : (input : List ℕ) (contents : List (List ℕ)) → ArePartsOf [] input contents → contents ≡ input ∷ []
only_whole input contents (IsWhole none is) = is
only_whole input contents (AreFilled some filled) = absurd (some refl)

-- ---- faults

-- Two lengths are cut at the first or at the second.
cut_at : (before : List ℕ) (piece : ℕ) (later : List ℕ) → 2 ∷ 1 ∷ [] ≡ before ++ piece ∷ later →
    ((before ≡ []) × (piece ≡ 2)) ⊎ ((before ≡ 2 ∷ []) × (piece ≡ 1))
cut_at [] piece later is = inl (refl, sym (ap (λ l. get_or l 0 0) is))
cut_at (one ∷ []) piece later is =
    inr (ap (λ n. n ∷ []) (sym (ap (λ l. get_or l 0 0) is)), sym (ap (λ l. get_or l 1 0) is))
cut_at (one ∷ other ∷ []) piece later is = absurd (omega (arith, ap length is))
cut_at (one ∷ other ∷ more ∷ before) piece later is = absurd (omega (arith, ap length is))

long_fault : (fault : Fault) → IsCutFault (codes "abcd") (2 ∷ 1 ∷ []) fault → fault ≡ record { cause = BadPart; offset = 3 }
long_fault fault (TooShort shorter is) = is
long_fault fault (TooLong before piece later is fits longer same) = search (rules, cut_at)

short_fault : (fault : Fault) → IsCutFault (codes "ab") (2 ∷ 1 ∷ []) fault → fault ≡ record { cause = BadPart; offset = 2 }
short_fault fault (TooShort shorter is) = absurd (omega (arith, shorter))
short_fault fault (TooLong before piece later is fits longer same) = search (rules, cut_at)

pub filled_parts_are_known : FilledPartsAreKnown
filled_parts_are_known = record {
  given = record {
    are = AreFilled some_given
        (record { given = (refl, (refl, tt)); cut = record { have_lengths = refl; are_whole = refl } });
    only = only_given;
  };
  mixed = record {
    are = AreFilled some_mixed
        (record { given = (tt, (refl, (tt, tt))); cut = record { have_lengths = refl; are_whole = refl } });
    only = only_mixed;
  };
  no_parts = record { are = IsWhole refl refl; only = only_whole (codes "abc") };
  no_input = record { are = IsWhole refl refl; only = only_whole [] };
  long_input = record {
    is = record { has_parts = some_mixed; is_cut_fault = TooShort (lit≤ tt) refl };
    only = λ fault is. long_fault fault is.is_cut_fault;
  };
  short_input = record {
    is = record {
      has_parts = some_mixed;
      is_cut_fault = TooLong (2 ∷ []) 1 [] refl (lit≤ tt) (lit≤ tt) refl;
    };
    only = λ fault is. short_fault fault is.is_cut_fault;
  };
  no_fault = λ fault is. is.has_parts refl;
  can = λ some. refl;
  can_whole = λ some. absurd (some refl);
  cannot = λ can. let same : 3 ≡ 4 = can some_mixed in omega (arith, same);
}

-- ---- what is built

-- The fields of images.
each_field : {X : Type 0} (get : ImageFields → X) (images : List ImageSpec) →
    map (λ image. get (image_fields image)) images ≡ map get (map image_fields images)
each_field get [] = refl
each_field get (image ∷ images) = ap (λ later. get (image_fields image) ∷ later) (each_field get images)

are_two : (payloads : List (List ℕ)) (images : List ImageSpec) → HavePayloads kernel_and_tree payloads images →
    AreKernelAndTree payloads images
are_two payloads images have = record {
  names = each_field (λ (f : ImageFields). f.name) images ∙ ap (map (λ (f : ImageFields). f.name)) have.same_fields;
  types = each_field (λ (f : ImageFields). f.image_type) images ∙ ap (map (λ (f : ImageFields). f.image_type)) have.same_fields;
  loads = each_field (λ (f : ImageFields). f.load) images ∙ ap (map (λ (f : ImageFields). f.load)) have.same_fields;
  entries = each_field (λ (f : ImageFields). f.entry) images ∙ ap (map (λ (f : ImageFields). f.entry)) have.same_fields;
  payloads_are = have.have_payloads;
}

-- An input of four bytes does not fill three.
not_filled : (contents : List (List ℕ)) → IsFilled mixed_parts (codes "abcd") contents → ⊥
not_filled contents filled = search (rules, sum_of_cut)

not_parts : (contents : List (List ℕ)) → ArePartsOf mixed_parts (codes "abcd") contents → ⊥
not_parts contents (IsWhole none is) = some_mixed none
not_parts contents (AreFilled some filled) = not_filled contents filled

legacy_fault : (fields : Fields) (limits : Limits) (fault : Fault) →
    IsLegacyOutputFault limits fields mixed_parts (codes "abcd") fault → fault ≡ record { cause = BadPart; offset = 3 }
legacy_fault fields limits fault (NotFilled short is) = long_fault fault is.is_cut_fault
legacy_fault fields limits fault (NotBuilt short contents are is) = absurd (not_parts contents are)

fit_fault : (form : Form) (head : Head) (plan : PlanSpecModel) (given : List ImageSpec) (limits : Limits) (fault : Fault) →
    IsFitOutputFault limits form head plan given mixed_parts (codes "abcd") fault →
    fault ≡ record { cause = BadPart; offset = 3 }
fit_fault form head plan given limits fault (NotCut short is) = long_fault fault is
fit_fault form head plan given limits fault (NotBuilt short contents filled images have is) = absurd (not_filled contents filled)

built_images : (form : Form) (head : Head) (plan : PlanSpecModel) (limits : Limits) (output : List ℕ) →
    IsFitOutput limits form head plan kernel_and_tree given_parts [] output →
    (images : List ImageSpec) × AreKernelAndTree (codes "ab" ∷ codes "c" ∷ []) images × IsBuiltAs limits form head plan images output
built_images form head plan limits output is = search (rules, given_contents, are_two)

pub built_parts_are_known : BuiltPartsAreKnown
built_parts_are_known = record {
  images = are_two (codes "ab" ∷ codes "c" ∷ []);
  legacy = λ fields limits output is.
      subst (λ c. IsBuiltLegacy limits (image_of fields c) output) (only_given is.contents is.are_parts) is.built;
  legacy_input = λ fields limits output is.
      subst (λ c. IsBuiltLegacy limits (image_of fields c) output) (only_whole (codes "abc") is.contents is.are_parts) is.built;
  legacy_fault = legacy_fault;
  fit = built_images;
  fit_fault = fit_fault;
}
