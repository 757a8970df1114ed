use Rattle.bi_report.proofs.list.fit.put_head_lines.Goals as goal

pub returns : goal.returns
returns g c = rw (← c.boot_cpu.ensures, ← c.from.ensures, ← c.total_size.ensures, ← c.from-2.ensures) c.put_lines.ensures
