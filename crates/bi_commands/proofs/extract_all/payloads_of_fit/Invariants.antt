use Rattle.std.proofs.Common.{◌≡◌, ◌++◌, drop, map}
use Rattle.bi_fit.specs.Content.{image_model}
use Rattle.bi_commands.specs.Payloads.{payload_file}
use Rattle.bi_commands.proofs.PayloadFiles.{files_of_models}
use Rattle.bi_commands.proofs.extract_all.payloads_of_fit.Given as goal

-- The files so far and those of the images that are left are all.
abbrev pub invariant-loop-image : goal.invariant-loop-image
invariant-loop-image l =
    map payload_file l.payloads.items ++ files_of_models (map image_model (drop l.image-index l.image-items)) ≡ files_of_models l.fit.images
