use Rattle.std.specs.Prelude.{ℕ, ◌≤◌, List, length}
use Rattle.bi_base.specs.Commands.{CommandPromise, PromiseLaws}
use Rattle.bi_base.specs.Limits.{Limits}
use Rattle.bi_common.specs.Offsets.{input_from}

-- Commands on an image that begins at an offset of their input (profile of this project).

-- The whole input is within the limit, and this holds of the image at an offset of it.
pub record HasImageAt (limits : Limits) (offset : ℕ) (Holds : (image : List ℕ) → Type 0)
    (input : List ℕ) : Type 0 where
  pub within : length input ≤ limits.file
  pub holds : Holds (input_from offset input)

-- What a command promises on the image at an offset of its input. The offset of a fault counts from
-- where the image begins. An input that is longer than the limit has no output, and no error of the
-- command.
abbrev pub promise_at : {V E : Type 0} → (offset : ℕ) → (Limits → CommandPromise V E) → Limits
    → CommandPromise V E
promise_at offset promise limits = record {
  is_output = λ value input output.
      HasImageAt limits offset (λ image. (promise limits).is_output value image output) input;
  is_text = λ input output.
      HasImageAt limits offset (λ image. (promise limits).is_text image output) input;
  has_error = λ input error.
      HasImageAt limits offset (λ image. (promise limits).has_error image error) input;
  wraps = (promise limits).wraps;
}

-- The promise at an offset has the laws of promises, since the promise itself has them.
pub laws_at : {V E : Type 0} (offset : ℕ) (promise : Limits → CommandPromise V E)
    → ((limits : Limits) → PromiseLaws (promise limits)) → (limits : Limits)
    → PromiseLaws (promise_at offset promise limits)
laws_at offset promise laws limits = record {
  is_text = λ value input output is. record {
    within = is.within;
    holds = (laws limits).is_text value (input_from offset input) output is.holds;
  };
  wraps_once = (laws limits).wraps_once;
  no_read_error = λ input is. (laws limits).no_read_error (input_from offset input) is.holds;
  no_write_error = λ input is. (laws limits).no_write_error (input_from offset input) is.holds;
}
