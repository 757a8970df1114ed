use Rattle.std.specs.Prelude.{◌≡◌, ◌⊎◌, ⊤, ℕ, List}
use Rattle.std.proofs.Common.{inl, inr, sym, subst}
use Rattle.bi_base.specs.declared.fault.Error.{Error}
use Rattle.bi_base.specs.declared.fault.Error.TheVariants.{OutOfMemory, ReadFailed, WriteFailed}
use Rattle.bi_base.specs.Commands.{CommandPromise, PromiseLaws}
use Rattle.bi_common.specs.declared.format.Format.{Format}
use Rattle.bi_labels.specs.LabelledTexts.{labelled_text}

-- Commands on one image of several (profile of this project).

-- The output is a text of which this holds, with the label.
pub record IsLabelled (format : Format) (label : List ℕ) (Holds : List ℕ → Type 0)
    (output : List ℕ) : Type 0
  where
    pub text : List ℕ
    pub holds : Holds text
    pub is : output ≡ labelled_text format label text

-- What a command promises whose output has the label. Its errors are those of the command, and that
-- of missing memory.
abbrev pub labelled_promise : {V E : Type 0} → Format → (label : List ℕ) → CommandPromise V E
    → CommandPromise V E
labelled_promise format label promise = record {
  is_output = λ value input output. IsLabelled format label (promise.is_output value input) output;
  is_text = λ input output. IsLabelled format label (promise.is_text input) output;
  has_error = λ input error. promise.has_error input error ⊎ (error ≡ promise.wraps OutOfMemory);
  wraps = promise.wraps;
}

-- Missing memory is not a failed read or write.
abbrev IsNoMemory : Error → Type 0
IsNoMemory OutOfMemory = ⊤
IsNoMemory error = ⊥

-- An error of the command that is not that of missing memory is not one with the label.
no_other : {V E : Type 0} (promise : CommandPromise V E) → PromiseLaws promise
    → (error : Error) → ¬ IsNoMemory error → (input : List ℕ)
    → ¬ promise.has_error input (promise.wraps error)
    → promise.has_error input (promise.wraps error)
    ⊎ (promise.wraps error ≡ promise.wraps OutOfMemory) → ⊥
no_other promise laws error other input not (inl has) = not has
no_other promise laws error other input not (inr same) =
    other (subst IsNoMemory (sym (laws.wraps_once error OutOfMemory same)) tt)

-- The promise with a label has the laws of promises, since the promise itself has them.
pub labelled_laws : {V E : Type 0} (format : Format) (label : List ℕ)
    (promise : CommandPromise V E) → PromiseLaws promise
    → PromiseLaws (labelled_promise format label promise)
labelled_laws format label promise laws = record {
  is_text = λ value input output is. record {
    text = is.text;
    holds = laws.is_text value input is.text is.holds;
    is = is.is;
  };
  wraps_once = laws.wraps_once;
  no_read_error = λ input.
      no_other promise laws ReadFailed (λ no. no) input (laws.no_read_error input);
  no_write_error = λ input.
      no_other promise laws WriteFailed (λ no. no) input (laws.no_write_error input);
}
