use Rattle.std.proofs.Common.{◌≡◌, ◌∙◌, ℕ, suc, List, [], ◌∷◌, ◌++◌, length, map, refl, sym, ap, subst}
use Rattle.std.specs.List.{concat}
use Rattle.bi_base.specs.Limits.{Limits}
use Rattle.bi_base.specs.declared.fault.Error.TheVariants.{OutOfMemory}
use Rattle.bi_norm.specs.Meaning.{Meaning, Means}
use Rattle.bi_values.specs.Getting.{IsFirstReason, IsTextOfResults, IsTextOfValues, IsValueReason, LacksValue}
use Rattle.bi_values.specs.ValueLaws.{ValuesAreOfMeaning}
use Rattle.bi_values.specs.ValueNames.{ValueNameModel}
use Rattle.bi_values.specs.ValueResults.{HasNoNumber, HasNoText, NoSuchProperty, OfOtherKind, ValueBytes, ValueResult, value_results}
use Rattle.bi_values.specs.declared.get_error.GetError.{GetError}
use Rattle.bi_values.specs.declared.get_error.GetError.TheVariants as error
use Rattle.bi_values.specs.declared.value_form.ValueForm.{ValueForm}

-- Results have one text, or one first reason.

-- ---- reasons

-- The error for a result without bytes.
abbrev error_for : (index : ℕ) → ValueResult → GetError
error_for index OfOtherKind = error.WrongKind
error_for index NoSuchProperty = error.NoProperty index
error_for index HasNoText = error.NoText index
error_for index HasNoNumber = error.NoNumber index
error_for index (ValueBytes bytes) = error.Failed OutOfMemory

reason_has_error : (index : ℕ) (result : ValueResult) (given : GetError) → IsValueReason index result given → given ≡ error_for index result
reason_has_error index result (error.Failed failed) is = absurd is
reason_has_error index result error.WrongKind is = sym (ap (error_for index) is)
reason_has_error index result (error.NoProperty at) is = ap error.NoProperty is.1 ∙ sym (ap (error_for index) is.0)
reason_has_error index result (error.NoText at) is = ap error.NoText is.1 ∙ sym (ap (error_for index) is.0)
reason_has_error index result (error.NoNumber at) is = ap error.NoNumber is.1 ∙ sym (ap (error_for index) is.0)

-- Bytes are not a reason.
pub no_reason_in_bytes : (index : ℕ) (bytes : List ℕ) (given : GetError) → ¬ (IsValueReason index (ValueBytes bytes) given)
no_reason_in_bytes index bytes (error.Failed failed) is = is
no_reason_in_bytes index bytes error.WrongKind is = absurd cc
no_reason_in_bytes index bytes (error.NoProperty at) is = let same = is.0 in absurd cc
no_reason_in_bytes index bytes (error.NoText at) is = let same = is.0 in absurd cc
no_reason_in_bytes index bytes (error.NoNumber at) is = let same = is.0 in absurd cc

-- ---- results

-- The pieces are those of the results.
pub same_pieces : (one other : List (List ℕ)) → map ValueBytes one ≡ map ValueBytes other → one ≡ other
same_pieces [] [] same = refl
same_pieces [] (b ∷ other) same = absurd cc
same_pieces (a ∷ one) [] same = absurd cc
same_pieces (a ∷ one) (b ∷ other) same =
    let first : a ≡ b = cc in
    let rest : one ≡ other = same_pieces one other cc in
    cc

pub one_text : (results : List ValueResult) (text other : List ℕ) → IsTextOfResults results text → IsTextOfResults results other →
    other ≡ text
one_text results text other is also =
    also.is_text ∙ ap concat (same_pieces also.pieces is.pieces (sym also.are_bytes ∙ is.are_bytes)) ∙ sym is.is_text

-- A result with a reason has no bytes, and no result before it has a reason.
record IsSameReason (pieces others : List (List ℕ)) (reason other : ValueResult) : Type 0 where
  counts : length pieces ≡ length others
  reasons : reason ≡ other

same_reason : (pieces others : List (List ℕ)) (reason other : ValueResult) (later more : List ValueResult) (given also : GetError)
    (index at : ℕ) → IsValueReason index reason given → IsValueReason at other also →
    map ValueBytes pieces ++ reason ∷ later ≡ map ValueBytes others ++ other ∷ more → IsSameReason pieces others reason other
same_reason [] [] reason other later more given also index at is has same = record { counts = refl; reasons = cc }
same_reason [] (piece ∷ others) reason other later more given also index at is has same =
    let first : reason ≡ ValueBytes piece = cc in
    absurd (no_reason_in_bytes index piece given (subst (λ one. IsValueReason index one given) first is))
same_reason (piece ∷ pieces) [] reason other later more given also index at is has same =
    let first : other ≡ ValueBytes piece = cc in
    absurd (no_reason_in_bytes at piece also (subst (λ one. IsValueReason at one also) first has))
same_reason (piece ∷ pieces) (next ∷ others) reason other later more given also index at is has same =
    let rest = same_reason pieces others reason other later more given also index at is has cc in
    record { counts = ap (λ n. suc n) rest.counts; reasons = rest.reasons }

pub one_reason : (results : List ValueResult) (given also : GetError) → IsFirstReason results given → IsFirstReason results also →
    also ≡ given
one_reason results given also is has =
    let same = same_reason is.pieces has.pieces is.reason has.reason is.later has.later given also (length is.pieces) (length has.pieces)
    is.is_reason has.is_reason (sym is.are_results ∙ has.are_results) in
    reason_has_error (length has.pieces) has.reason also has.is_reason
    ∙ ap (λ index. error_for index has.reason) (sym same.counts)
    ∙ ap (error_for (length is.pieces)) (sym same.reasons)
    ∙ sym (reason_has_error (length is.pieces) is.reason given is.is_reason)

-- Results with a reason have no text.
pub text_or_reason : (results : List ValueResult) (text : List ℕ) (given : GetError) → IsTextOfResults results text →
    ¬ (IsFirstReason results given)
text_or_reason results text given is has =
    by is.pieces has.pieces (length has.pieces) has.is_reason (sym is.are_bytes ∙ has.are_results)
  where
    by : (pieces others : List (List ℕ)) (index : ℕ) → IsValueReason index has.reason given →
        map ValueBytes pieces ≡ map ValueBytes others ++ has.reason ∷ has.later → ⊥
    by [] [] index reason same = absurd cc
    by [] (piece ∷ others) index reason same = absurd cc
    by (piece ∷ pieces) [] index reason same =
        let first : has.reason ≡ ValueBytes piece = cc in
        no_reason_in_bytes index piece given (subst (λ one. IsValueReason index one given) first reason)
    by (piece ∷ pieces) (next ∷ others) index reason same = by pieces others index reason cc

-- ---- files that mean the same

module _ (form : ValueForm) (names : List ValueNameModel) (limits : Limits) (file : List ℕ) (meaning : Meaning)
    (means : Means limits file meaning)
  where
    -- The text of a file is that of its meaning.
    pub text_of_meaning : (text : List ℕ) → IsTextOfValues form names limits file text →
        IsTextOfResults (value_results form meaning names) text
    text_of_meaning text is =
        subst (λ one. IsTextOfResults (value_results form one names) text) (sym (is.means.only meaning means)) is.has_values

    pub reason_of_meaning : (given : GetError) → LacksValue form names limits file given →
        IsFirstReason (value_results form meaning names) given
    reason_of_meaning given is =
        subst (λ one. IsFirstReason (value_results form one names) given) (sym (is.means.only meaning means)) is.is_first

pub values_are_of_meaning : ValuesAreOfMeaning
values_are_of_meaning form names limits other_limits file other_file meaning means other_means = record {
  text = λ text other is also.
      one_text (value_results form meaning names) text other
      (text_of_meaning form names limits file meaning means text is)
      (text_of_meaning form names other_limits other_file meaning other_means other also);
  error = λ given other is also.
      one_reason (value_results form meaning names) given other
      (reason_of_meaning form names limits file meaning means given is)
      (reason_of_meaning form names other_limits other_file meaning other_means other also);
  not_both = λ text given is also.
      text_or_reason (value_results form meaning names) text given
      (text_of_meaning form names limits file meaning means text is)
      (reason_of_meaning form names other_limits other_file meaning other_means given also);
}
