use Rattle.std.proofs.Common.{sym, subst}
use Rattle.bi_fdt.specs.Content.{Blob, root_of}
use Rattle.bi_coverage.specs.NodeIndices.{HaveTokens}
use Rattle.bi_coverage.proofs.Tokens.{have_tokens}
use Rattle.bi_coverage.proofs.reading.IndexedFit.new.Goals as goal

pub new-requires-clause-tokens : goal.new-requires-clause-tokens
new-requires-clause-tokens c =
    subst (λ (blob : Blob). HaveTokens blob.file (root_of blob)) (sym c.blob-2.ensures) (have_tokens _ _ _ _ c.requires.held.is_blob)
