use Rattle.std.proofs.Common.{◌≡◌, ◌≢◌, ◌∙◌, ℕ, List, map, Option, MatchOption, Vec, Global, sym, ap, subst}
use Rattle.std.specs.List.{AllByRecursion}
use Rattle.std.proofs.lemmas.List.Sorted.{IsPermutation-sym}
use Rattle.bi_fit.specs.declared.comparing.region_pairs.RegionPair.{RegionPair}
use Rattle.bi_fit.specs.Content.{ImageModel, image_model, payloads_of_models, IsAtItsPlace}
use Rattle.bi_fit.specs.RegionPairs.{AreInFiles, HasSameBytes, ArePairsOfPayloads}
use Rattle.bi_fit.proofs.PlacedImages.{are_placed}
use Rattle.bi_fit.proofs.PairedPayloads.{each_moved}
use Rattle.bi_fit.proofs.comparing.payloads.have_same_payloads.Goals as goal

pub pair_payloads-requires-clause-placed : goal.pair_payloads-requires-clause-placed
pair_payloads-requires-clause-placed c =
    subst (λ (images : List ImageModel). AllByRecursion (IsAtItsPlace c.file-file.result.now) images) (sym c.images.ensures)
    (subst (λ (file : List ℕ). AllByRecursion (IsAtItsPlace file) c.args.fit.now.images)
    (sym (c.file-file.ensures ∙ ap (λ blob. blob.file) c.blob.ensures)) (are_placed c.args.fit.now c.give_invariant.ensures))

pub pair_payloads-requires-clause-others_placed : goal.pair_payloads-requires-clause-others_placed
pair_payloads-requires-clause-others_placed c =
    subst (λ (images : List ImageModel). AllByRecursion (IsAtItsPlace c.file-other_file.result.now) images) (sym c.images-2.ensures)
    (subst (λ (file : List ℕ). AllByRecursion (IsAtItsPlace file) c.args.other.now.images)
    (sym (c.file-other_file.ensures ∙ ap (λ blob. blob.file) c.blob-2.ensures)) (are_placed c.args.other.now c.give_invariant-2.ensures))

pub have_same_bytes-requires-clause-within : goal.have_same_bytes-requires-clause-within
have_same_bytes-requires-clause-within c =
    let file = c.file-file.result.now in
    let other = c.file-other_file.result.now in
    let payloads = payloads_of_models (map image_model c.images.result.now) in
    let other_payloads = payloads_of_models (map image_model c.images-2.result.now) in
    let are : ArePairsOfPayloads file other payloads other_payloads c.in-Some.pairs.items =
    subst (λ (pairs : Option (Vec RegionPair Global)). MatchOption pairs (payloads ≢ other_payloads)
    (λ pairs. ArePairsOfPayloads file other payloads other_payloads pairs.items)) c.in-Some.is c.in_ok-pairs.ensures in
    subst (AllByRecursion (AreInFiles file other)) (sym c.deref.ensures.value)
    (each_moved (AreInFiles file other) c.in-Some.pairs.items c.sort.new.self.items c.in_ok-sort.ensures.permutation are.within)

pub returns : goal.returns
returns c =
    let file = c.file-file.result.now in
    let other = c.file-other_file.result.now in
    let payloads = payloads_of_models (map image_model c.images.result.now) in
    let other_payloads = payloads_of_models (map image_model c.images-2.result.now) in
    let are : ArePairsOfPayloads file other payloads other_payloads c.in-Some.pairs.items =
    subst (λ (pairs : Option (Vec RegionPair Global)). MatchOption pairs (payloads ≢ other_payloads)
    (λ pairs. ArePairsOfPayloads file other payloads other_payloads pairs.items)) c.in-Some.is c.in_ok-pairs.ensures in
    let here : payloads ≡ payloads_of_models c.args.fit.now.images = ap payloads_of_models c.images.ensures in
    let there : other_payloads ≡ payloads_of_models c.args.other.now.images = ap payloads_of_models c.images-2.ensures in (
      (λ true.
          sym here
          ∙ are.same.0 (each_moved (HasSameBytes file other) c.sort.new.self.items c.in-Some.pairs.items
          (IsPermutation-sym c.in-Some.pairs.items c.sort.new.self.items c.in_ok-sort.ensures.permutation)
          (subst (AllByRecursion (HasSameBytes file other)) c.deref.ensures.value (c.have_same_bytes.ensures.0 true)))
          ∙ there),
      (λ same.
          c.have_same_bytes.ensures.1
          (subst (AllByRecursion (HasSameBytes file other)) (sym c.deref.ensures.value)
          (each_moved (HasSameBytes file other) c.in-Some.pairs.items c.sort.new.self.items c.in_ok-sort.ensures.permutation
          (are.same.1 (here ∙ same ∙ sym there))))),
    )
