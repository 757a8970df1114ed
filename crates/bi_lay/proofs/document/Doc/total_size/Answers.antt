use Rattle.std.proofs.Common.{◌∙◌, sym}
use Rattle.bi_lay.proofs.DocTexts.{length-of_sizes}
use Rattle.bi_lay.proofs.document.Doc.total_size.Goals as goal

pub returns-clause-size : goal.returns-clause-size
returns-clause-size c = c.total.ensures ∙ sym (length-of_sizes c.args.self.now c.args.sizes c.requires)
