use Rattle.bi_describe.proofs.compare.deep.KeptDeep.new.Goals as goal

pub returns : goal.returns
returns c meaning holds = record {
  is_kept = c.in_ok-image.ensures meaning.meaning holds.holds;
  are_held = c.in_ok-leave_out.ensures meaning.insides holds.are_held;
}
