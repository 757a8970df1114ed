use Rattle.std.proofs.Common.{◌≡◌, length, map, vec_len}
use Rattle.bi_fit.specs.Judgement.{listed_names}
use Rattle.bi_fit.specs.JudgementCalls.{listed_image}
use Rattle.bi_fit.specs.HashNodes.{file_list, with_images}
use Rattle.bi_fit.proofs.lists.find_images.Given as goal

abbrev pub invariant-loop-name : goal.invariant-loop-name
invariant-loop-name l =
    file_list l.fit.images 0 (listed_names l.value)
    ≡ with_images (map listed_image l.listed.items) (file_list l.fit.images (vec_len l.listed) (listed_names l.rest))

abbrev pub decreases-loop-name : goal.decreases-loop-name
decreases-loop-name l = length l.rest
