use Rattle.bi_describe.proofs.EntryLines.{names_closed}
use Rattle.bi_describe.proofs.describe.lines.open_after.Goals as goal

pub returns-in-End-clause-names : goal.returns-in-End-clause-names
returns-in-End-clause-names c =
    rw (c.in-End.is, c.saturating_sub.ensures) (names_closed c.args.names.now c.args.count c.requires.fits)
