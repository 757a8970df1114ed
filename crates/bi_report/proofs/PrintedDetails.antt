use Rattle.std.proofs.Common.{◌≡◌, ◌≤◌, ℕ, List, [], ◌∷◌, ◌++◌, append-nil, filter, flat_map, length, map, take, take_all, true}
use Rattle.std.proofs.Common.{refl, ap, subst}
use Rattle.std.proofs.Common.{sym, ◌∙◌}
use Rattle.std.proofs.lemmas.Grind.{flat_map-append}
use Rattle.std.proofs.lemmas.List.{map-append}
use Rattle.std.proofs.lemmas.List.Elements.{filter-append}
use Rattle.bi_fit.specs.Judgement.{CheckedHash}
use Rattle.bi_common.specs.JsonTokens.{JsonToken, json_tokens, member_tokens, value_tokens}
use Rattle.bi_common.specs.LineTokens.{one_field}
use Rattle.bi_common.specs.Lines.{name_or_dash}
use Rattle.bi_common.proofs.WrittenTokens.{member_tokens-append, value_tokens-append}
use Rattle.bi_report.specs.Checking.{is_good}
use Rattle.bi_report.specs.declared.details.Detail.{Detail as MadeDetail}
use Rattle.bi_report.specs.Details.{detail_member, name_json}
use Rattle.bi_report.specs.MadeDetails.{algorithm_strings, algorithm_words, details_in, good_algorithms, made_details}

-- What is put for details, one after the other.

-- The members for a detail, and for details of a list.
abbrev pub detail_tokens : MadeDetail → List JsonToken
detail_tokens detail = member_tokens (map detail_member (details_in detail))

each_detail : (details : List MadeDetail) → flat_map detail_tokens details ≡ member_tokens (map detail_member (made_details details))
each_detail [] = refl
each_detail (detail ∷ later) =
    ap (λ (tokens : List JsonToken). detail_tokens detail ++ tokens) (each_detail later)
    ∙ sym (member_tokens-append (map detail_member (details_in detail)) (map detail_member (made_details later)))
    ∙ ap member_tokens (sym (map-append detail_member (details_in detail) (made_details later)))

pub details_put : {S : Type 0} (puts : S → List JsonToken → S → Type 0) (details : List MadeDetail) (n : ℕ) (old new : S) →
    length details ≤ n → puts old (flat_map detail_tokens (take n details)) new →
    puts old (member_tokens (map detail_member (made_details details))) new
details_put puts details n old new all put =
    subst (λ tokens. puts old tokens new) (ap (flat_map detail_tokens) (take_all n details all) ∙ each_detail details) put

-- The Good algorithms of the first hash node and of the others.
algorithms_first : (hash : CheckedHash) (later : List CheckedHash) →
    good_algorithms (hash ∷ later) ≡ good_algorithms (hash ∷ []) ++ good_algorithms later
algorithms_first hash later =
    ap (map (λ hash. hash.algo)) (filter-append is_good (hash ∷ []) later)
    ∙ map-append (λ hash. hash.algo) (filter is_good (hash ∷ [])) (filter is_good later)

pub words_first : (hash : CheckedHash) (later : List CheckedHash) →
    flat_map one_field (algorithm_words (hash ∷ later))
    ≡ flat_map one_field (algorithm_words (hash ∷ [])) ++ flat_map one_field (algorithm_words later)
words_first hash later =
    ap (λ names. flat_map one_field (map name_or_dash names)) (algorithms_first hash later)
    ∙ ap (flat_map one_field) (map-append name_or_dash (good_algorithms (hash ∷ [])) (good_algorithms later))
    ∙ flat_map-append one_field (algorithm_words (hash ∷ [])) (algorithm_words later)

pub strings_first : (hash : CheckedHash) (later : List CheckedHash) →
    value_tokens (algorithm_strings (hash ∷ later))
    ≡ value_tokens (algorithm_strings (hash ∷ [])) ++ value_tokens (algorithm_strings later)
strings_first hash later =
    ap (λ names. value_tokens (map name_json names)) (algorithms_first hash later)
    ∙ ap value_tokens (map-append name_json (good_algorithms (hash ∷ [])) (good_algorithms later))
    ∙ value_tokens-append (algorithm_strings (hash ∷ [])) (algorithm_strings later)

-- That of a hash node with the verdict Good.
pub good_string : (hash : CheckedHash) → is_good hash ≡ true →
    value_tokens (algorithm_strings (hash ∷ [])) ≡ json_tokens (name_json hash.algo)
good_string hash is = rw is (append-nil (json_tokens (name_json hash.algo)))
