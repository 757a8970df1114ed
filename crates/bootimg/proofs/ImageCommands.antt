use Rattle.std.proofs.Common.{◌≡◌, ◌≢◌, ◌∙◌, ℕ, List, bytes_eq, codes, false, inl, inr, sym}
use Rattle.bi_base.proofs.EqualBytes.{other_bytes}
use Rattle.bootimg.specs.CommandLine.{TakesImages}
use Rattle.bootimg.specs.Program.{IsCommandName}

-- The commands that take several images.

pub image_command : (name : List ℕ) → TakesImages name → IsCommandName name
image_command name (inl is) = inr (inr (inl is))
image_command name (inr (inl is)) = inr (inr (inr (inr (inr (inl is)))))
image_command name (inr (inr (inl is))) = inr (inr (inr (inr (inr (inr (inl is))))))
image_command name (inr (inr (inr (inl is)))) = inr (inr (inr (inr (inr (inr (inr (inl is)))))))
image_command name (inr (inr (inr (inr never)))) = absurd never

-- They are no others.
pub other_command : (name other : List ℕ) → bytes_eq (codes "list") other ≡ false → bytes_eq (codes "verify") other ≡ false
    → bytes_eq (codes "check") other ≡ false → bytes_eq (codes "scan") other ≡ false → TakesImages name → name ≢ other
other_command name other a b c d (inl is) same = other_bytes (codes "list") other a (sym is ∙ same)
other_command name other a b c d (inr (inl is)) same = other_bytes (codes "verify") other b (sym is ∙ same)
other_command name other a b c d (inr (inr (inl is))) same = other_bytes (codes "check") other c (sym is ∙ same)
other_command name other a b c d (inr (inr (inr (inl is)))) same = other_bytes (codes "scan") other d (sym is ∙ same)
other_command name other a b c d (inr (inr (inr (inr never)))) same = absurd never
