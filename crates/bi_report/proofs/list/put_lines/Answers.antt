use Rattle.bi_report.proofs.list.put_lines.Goals as goal

pub returns-in-Legacy : goal.returns-in-Legacy
returns-in-Legacy g c = rw c.in-Legacy.is c.put_legacy_lines.ensures
