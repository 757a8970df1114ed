use Rattle.std.proofs.Common.{sym}
use Rattle.bi_show.proofs.TableFacts.{joined_cells}
use Rattle.bi_show.proofs.show.tables.join_cells.Goals as goal

pub returns : goal.returns
returns c = rw (sym (joined_cells c.args.row.now)) c.join.ensures.ok
