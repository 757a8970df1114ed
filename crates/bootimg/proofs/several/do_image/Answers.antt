use Rattle.bootimg.proofs.several.do_image.Goals as goal

pub returns-clause-end : goal.returns-clause-end
returns-clause-end g c = record {
  outcome = c.run_on_named-outcome.result;
  done = record { work = c.run_on_named-outcome.ensures.work; end = c.end_image.ensures.end };
  status = c.end_image.ensures.status;
  last = c.end_image.ensures.last;
}
