use Rattle.std.proofs.Common.{sym, subst, true≢false}
use Rattle.std.specs.Prelude.{IsOk}
use Rattle.std.proofs.lemmas.Str.{IsUtf8-from_ascii}
use Rattle.bi_show.proofs.show.cells.string_of.Goals as goal

pub unreachable-requires : goal.unreachable-requires
unreachable-requires c =
    true≢false (sym (subst IsOk c.in-Err.is (c.from_utf8.ensures.succeeds (IsUtf8-from_ascii _ c.requires))))
