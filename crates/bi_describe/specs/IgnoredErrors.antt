use Rattle.std.specs.Prelude.{⊤, ℕ, List}
use Rattle.bi_describe.specs.declared.ignored.IgnoredError.{IgnoredError}
use Rattle.bi_describe.specs.declared.ignored.IgnoredError.TheVariants.{BadValue, OutOfMemory}
use Rattle.bi_describe.specs.IgnoredWords.{IsFirstBadIgnored}

-- The error that reading words for what is ignored can have.
abbrev pub IsParseError : (values : List (List ℕ)) → IgnoredError → Type 0
IsParseError values (BadValue index) = IsFirstBadIgnored values index
IsParseError values OutOfMemory = ⊤
