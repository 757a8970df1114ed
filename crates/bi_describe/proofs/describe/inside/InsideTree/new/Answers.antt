use Rattle.std.proofs.Common.{◌<◌, ◌≤◌, Some, arith, flat_map, length, rules, subst, sym}
use Rattle.bi_base.specs.Slices.{bytes_of}
use Rattle.bi_fit.specs.LongNames.{name_if_long}
use Rattle.bi_describe.specs.InsideTrees.{devicetree_of, long_names}
use Rattle.bi_describe.proofs.InsideBlobs.{names_of_blob}
use Rattle.bi_describe.proofs.describe.inside.InsideTree.new.Goals as goal

pub returns-in_err-count_names-clause-failed : goal.returns-in_err-count_names-clause-failed
returns-in_err-count_names-clause-failed c =
    let blob = c.args.blob in
    let names = bytes_of c.names.result.now in
    let more : length (flat_map name_if_long names) ≤ long_names (Some (devicetree_of blob)) =
    subst (λ names. length (flat_map name_if_long names) ≤ long_names (Some (devicetree_of blob))) (sym c.names.ensures.names)
    (names_of_blob blob _ c.names.ensures.distinct c.names.ensures.in_tree c.requires.inside.no_images) in
    let longer : c.args.room.now < long_names (Some (devicetree_of blob)) = omega (arith, more, c.in_err-count_names.ensures.fault.1) in
    search (rules, longer)

pub returns-clause-room : goal.returns-clause-room
returns-clause-room c =
    let blob = c.args.blob in
    let names = bytes_of c.names.result.now in
    let more : length (flat_map name_if_long names) ≤ long_names (Some (devicetree_of blob)) =
    subst (λ names. length (flat_map name_if_long names) ≤ long_names (Some (devicetree_of blob))) (sym c.names.ensures.names)
    (names_of_blob blob _ c.names.ensures.distinct c.names.ensures.in_tree c.requires.inside.no_images) in
    omega (arith, more, c.in_ok-count_names.ensures.ok)
