use Rattle.std.proofs.Common.{◌≡◌, ◌<◌, ◌+◌, ◌^◌, length}
use Rattle.bi_fit.specs.ChildNodes.{children_of_each}
use Rattle.bi_fit.specs.Content.{AreAtTheirPlaces, tree_of}
use Rattle.bi_fit.specs.HashNodes.{file_verdicts}
use Rattle.bi_fit.specs.ImagesWithNodes.{models_left, nodes_left}
use Rattle.bi_fit.specs.Judgement.{verdicts_of}
use Rattle.bi_common.specs.VerdictCounts.{hash_counts, plus_hashes, total}
use Rattle.bi_common.proofs.verdict_counts.judge_hashes.Given as goal

-- The verdicts so far and those on the hash nodes of the images that are left are all.
abbrev pub invariant-loop-node : goal.invariant-loop-node
invariant-loop-node l =
    let nodes = nodes_left l.node-iterator in
    let images = models_left l.node-iterator in
    record {
      same_file : l.digests ≡ l.initial.digests;
      placed : AreAtTheirPlaces l.digests images;
      counted : plus_hashes l.counts (file_verdicts nodes images) ≡ hash_counts (verdicts_of (tree_of l.fit));
      few : total l.counts + length (children_of_each nodes) < 2 ^ 31;
    }
