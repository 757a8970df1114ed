use Rattle.std.proofs.Common.{◌≡◌, ◌+◌, ℕ, List, [], Option, None, Some, Err, refl, arith}
use Rattle.std.proofs.KnownBytes.{Keeps-refl}
use Rattle.bi_base.specs.Commands.{NoMemory, unit_promise}
use Rattle.bi_base.specs.Limits.{Limits}
use Rattle.bi_base.specs.Pipes.{IsPiped}
use Rattle.bi_base.specs.Reading.{IsInput, TakesAtMost}
use Rattle.bi_base.specs.declared.fault.Error.{Error}
use Rattle.bi_base.specs.declared.fault.Error.TheVariants.{OutOfMemory, WriteFailed}

-- A command for which memory runs out before it begins reads and writes nothing.

-- What a reader has, or nothing if that is not known.
abbrev known_or_none : Option (List ℕ) → List ℕ
known_or_none None = []
known_or_none (Some bytes) = bytes

is_its_input : (remaining : Option (List ℕ)) → IsInput remaining (known_or_none remaining)
is_its_input None = tt
is_its_input (Some bytes) = refl

takes_nothing : (remaining : Option (List ℕ)) (most : ℕ) → TakesAtMost remaining remaining most
takes_nothing None most = ([], omega arith, tt)
takes_nothing (Some bytes) most = ([], omega arith, refl)

memory_is_no_write : ¬ (OutOfMemory ≡ WriteFailed)
memory_is_no_write e = absurd cc

-- Nothing was read or written.
pub not_begun : (IsOutput : List ℕ → List ℕ → Type 0) (HasError : List ℕ → Error → Type 0) (limits : Limits)
    (remaining contents : Option (List ℕ))
    → IsPiped (unit_promise IsOutput HasError) limits remaining remaining contents contents (Err OutOfMemory)
not_begun IsOutput HasError limits remaining contents = record {
  done = tt;
  failed = record {
    input = known_or_none remaining;
    is_input = is_its_input remaining;
    has_error = NoMemory refl;
    prefix = λ same. absurd (memory_is_no_write same);
    else_nothing = λ other. Keeps-refl contents;
  };
  takes_at_most_one_byte_more = takes_nothing remaining (limits.file + 1);
}
