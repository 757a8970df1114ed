use Rattle.std.proofs.Common.{◌≡◌, map}
use Rattle.std.specs.Slice.Iter.{iter_rest}
use Rattle.bi_fit.specs.Content.{image_model, payloads_of_models}
use Rattle.bi_fit.proofs.PairedPayloads.{IsPairing}
use Rattle.bi_fit.proofs.comparing.payloads.pair_payloads.Given as goal

abbrev pub invariant-loop-image : goal.invariant-loop-image
invariant-loop-image l =
    IsPairing l.file l.other_file l.pairs.items (map image_model (iter_rest l.image-iterator.a))
    (map image_model (iter_rest l.image-iterator.b))
    (payloads_of_models (map image_model l.images) ≡ payloads_of_models (map image_model l.others))
