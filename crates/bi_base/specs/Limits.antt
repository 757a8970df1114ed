use Rattle.std.specs.Prelude.{ℕ, ◌≤◌}

-- The limits of a call: the most bytes of an input, and of an image or payload that is written, and
-- the most nodes of a blob's tree that are open at once, including the root (profile of this
-- project).
pub record Limits : Type 0 where
  pub file : ℕ
  pub depth : ℕ

-- The limits that a call may have: files of at least a legacy header and at most 2 GiB less one
-- byte, and 1 to 64 open nodes (profile of this project).
abbrev pub IsInRange : ℕ → ℕ → Type 0
IsInRange file depth = (64 ≤ file) × (file ≤ 0x7fffffff) × (1 ≤ depth) × (depth ≤ 64)

-- The largest limits that a call may have.
abbrev pub widest : Limits
widest = record { file = 0x7fffffff; depth = 64 }
