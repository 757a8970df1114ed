use Rattle.std.proofs.Common.{cond}
use Rattle.std.proofs.Common.{◌≡◌, ◌≢◌, ◌==◌, ◌∙◌, false, inl, inr, is_some, count_by, true, Bool, ◌+◌, zero, suc, take, get_or, map}
use Rattle.std.proofs.Common.{option_map, slice_get, codes, ◌<◌, ◌++◌, ℕ, Bor, List, [], ◌∷◌, Option, Some, None, Result, Ok}
use Rattle.std.proofs.Common.{Err, IfNone, IfSome, IfErr, MatchOption, length, ap, sym, subst, refl, arith}
use Rattle.std.specs.List.{AllZip, position_or_len, before_first, after_first}
use Rattle.std.specs.Option.{ok_or, option_map_or, UnwrapsOrElse}
use Rattle.std.specs.Result.{IsErrAnd}
use Rattle.std.specs.Prelude.{OnOk}
use Rattle.std.specs.Str.{bytes_eq}
use Rattle.std.proofs.lemmas.List.{take_more, map-append, length-map}
use Rattle.std.proofs.lemmas.List.Elements.{All-from_get_or}
use Rattle.std.proofs.lemmas.List.Splits.{length-slice_split, slice_split_first, slice_split_none}
use Rattle.std.proofs.lemmas.List.Sums.{fails_before_first}
use Rattle.std.specs.Prelude.{if◌then◌else◌}
use Rattle.bi_norm.specs.FitBuilding.{multi}
use Rattle.bi_norm.specs.declared.fit_building.ImageSpec.{ImageSpec}
use Rattle.bi_norm.specs.declared.fit_building.ImageTexts.{ImageTexts}
use Rattle.bootimg.specs.CodeWords.{text_of_code, four_texts, IsCode}
use Rattle.clap.specs.Matches.{raw_values}
use Rattle.clap.specs.declared.parser.matches.MatchedArg.{MatchedArg}
use Rattle.bootimg.specs.CommandLine.{given_count, list_of, option_of, texts_of, AreEscaped, AreGiven, AreImages, ArePartSources}
use Rattle.bootimg.specs.Words.{parts_of}
use Rattle.bootimg.specs.CommandLine.{IsAllFailure, IsAllRequest, IsNoneGiven, IsFailureOutcome, IsEntry, IsFirstBad, IsSelection}
use Rattle.bootimg.specs.CommandLine.{AreImageSources, AreSources, IsImageSource, IsSelectionFailure, is_standard}
use Rattle.bootimg.specs.declared.command_line.source.ImageSource.{ImageSource}
use Rattle.bootimg.specs.declared.command_line.source.ImageSource.TheVariants.{File, Standard}
use Rattle.std.proofs.lemmas.List.Sums.{sum_by-cons}
use Rattle.bootimg.specs.CommandLine.{IsAddress, IsBadValue, IsImage, IsImageText, IsNameOf, IsPartSource, NoneIs, SelectsDefault}
use Rattle.bootimg.specs.Numbers.{IsNumber}
use Rattle.bootimg.specs.declared.codes.CodeField.TheVariants.{Os, Arch, ImageType, Compression}
use Rattle.bootimg.specs.declared.command_line.image.ImageFields.{ImageFields}
use Rattle.bootimg.specs.declared.command_line.image.ImageWord.{ImageWord}
use Rattle.bootimg.specs.declared.command_line.part.PartSource.{PartSource}
use Rattle.bootimg.specs.declared.command_line.part.PartSource.TheVariants as source
use Rattle.bootimg.specs.declared.command_line.NoRequest.{NoRequest}
use Rattle.bootimg.specs.declared.command_line.NoRequest.TheVariants as outcome
use Rattle.bootimg.specs.declared.command_line.extract.Selected.TheVariants.{Part, Image, Config, Default}
use Rattle.clap.specs.declared.parser.matches.ArgMatches.{ArgMatches}
use Rattle.bootimg.specs.declared.failure.Failure.{Failure}
use Rattle.bootimg.specs.declared.failure.Failure.TheVariants.{BadValue, NoSelection}

-- Arguments are the parts, images and selections that are parsed from them one by one, and a text that is none of these is a bad value.

-- A fact holds whether or not an option has a value.
pub if_none : {T : Type 0} (option : Option T) (P : Type 0) → P → IfNone option P
if_none (Some value) P holds = tt
if_none None P holds = holds

-- What follows from a fact, if an option has no value.
pub none_weaker : {T : Type 0} (option : Option T) (P Q : Type 0) → (P → Q) → IfNone option P → IfNone option Q
none_weaker (Some value) P Q weaker holds = tt
none_weaker None P Q weaker holds = weaker holds

-- The failure of a text that has no value.
pub bad_value : {T : Type 0} (Is : T → Type 0) (option : Option T) (result : Result T Failure) → result ≡ ok_or option BadValue →
    ((value : T) → Is value → option ≡ Some value) → IfErr result (IsBadValue Is)
bad_value Is (Some value) result same exactly = subst (λ r. IfErr r (IsBadValue Is)) (sym same) tt
bad_value Is None result same exactly =
    subst (λ r. IfErr r (IsBadValue Is)) (sym same) (refl, λ value is. absurd (let e = exactly value is in cc))

-- The failure of a text that was not parsed.
pub not_parsed : {T : Type 0} (Is : T → Type 0) (option : Option T) (result : Result T Failure) → result ≡ ok_or option BadValue →
    IfNone option (NoneIs Is) → IfErr result (IsBadValue Is)
not_parsed Is (Some value) result same none = subst (λ r. IfErr r (IsBadValue Is)) (sym same) tt
not_parsed Is None result same none = subst (λ r. IfErr r (IsBadValue Is)) (sym same) (refl, none)

-- An argument that is neither `-` nor a number is not an address.
pub no_address : (argument : List ℕ) → (IsAddress argument None → ⊥) → ((number : ℕ) → IsNumber argument number → ⊥) →
    NoneIs (IsAddress argument)
no_address argument differs none None is = differs is
no_address argument differs none (Some number) is = none number is

-- An argument that is neither a number nor begins with `@` is not a part.
pub no_source : (argument : List ℕ) → ((rest : List ℕ) → argument ≡ 64 ∷ rest → ⊥) → ((number : ℕ) → IsNumber argument number → ⊥) →
    NoneIs (IsPartSource argument)
no_source argument no_name none (source.Input size) is = none size is
no_source argument no_name none (source.File name) is = no_name name.now is

-- A text that is split at its first colon.
pub field_split : (argument : List ℕ) (result : Option (Bor (List ℕ) × Bor (List ℕ))) →
    MatchOption result (position_or_len (λ b. b == 58) argument ≡ length argument)
    (λ x. (x.0.now ≡ before_first (λ b. b == 58) argument) × (x.1.now ≡ after_first (λ b. b == 58) argument)
    × (position_or_len (λ b. b == 58) argument < length argument)) →
    IfSome result (λ split. parts_of argument ≡ split.0.now ∷ parts_of split.1.now)
field_split argument None is = tt
field_split argument (Some split) is = rw (is.0, is.1) (slice_split_first (λ b. b == 58) argument 0 is.2)

-- A text without a colon.
pub no_field : (argument : List ℕ) (result : Option (Bor (List ℕ) × Bor (List ℕ))) →
    MatchOption result (position_or_len (λ b. b == 58) argument ≡ length argument)
    (λ x. (x.0.now ≡ before_first (λ b. b == 58) argument) × (x.1.now ≡ after_first (λ b. b == 58) argument)
    × (position_or_len (λ b. b == 58) argument < length argument)) → IfNone result (parts_of argument ≡ argument ∷ [])
no_field argument (Some split) is = tt
no_field argument None is =
    slice_split_none (λ b. b == 58) argument
    (All-from_get_or (λ x. (x == 58) ≡ false) argument 0
    (λ i below. fails_before_first (λ b. b == 58) argument i 0 (omega (arith, is))))

-- A text has at least one part.
pub parts_not_empty : (argument : List ℕ) → parts_of argument ≢ []
parts_not_empty argument empty =
    let counted = length-slice_split (λ b. b == 58) argument in
    let none : length (parts_of argument) ≡ 0 = ap (λ parts. length parts) empty in
    omega arith

-- The texts of the same words.
same_texts : (word : ImageWord) {type1 type2 arch1 arch2 os1 os2 compression1 compression2 : List ℕ} → type1 ≡ type2 → arch1 ≡ arch2 →
    os1 ≡ os2 → compression1 ≡ compression2 →
    (if word.image.image_type == multi then None
    else four_texts (text_of_code ImageType type1 word.image.image_type) (text_of_code Arch arch1 word.image.arch)
    (text_of_code Os os1 word.image.os) (text_of_code Compression compression1 word.image.compression))
    ≡ (if word.image.image_type == multi then None
    else four_texts (text_of_code ImageType type2 word.image.image_type) (text_of_code Arch arch2 word.image.arch)
    (text_of_code Os os2 word.image.os) (text_of_code Compression compression2 word.image.compression))
same_texts word a b c d =
    λ i. if word.image.image_type == multi then None
    else four_texts (text_of_code ImageType (a i) word.image.image_type) (text_of_code Arch (b i) word.image.arch)
    (text_of_code Os (c i) word.image.os) (text_of_code Compression (d i) word.image.compression)

-- The image of the same fields.
pub same_image : (fields others : ImageFields) (word : ImageWord) → list_of fields ≡ list_of others → IsImage others word →
    IsImage fields word
same_image fields others word same is =
    let name : others.name.now ≡ fields.name.now = cc in
    let image_type : others.image_type.now ≡ fields.image_type.now = cc in
    let arch : others.arch.now ≡ fields.arch.now = cc in
    let os : others.os.now ≡ fields.os.now = cc in
    let compression : others.compression.now ≡ fields.compression.now = cc in
    let load : others.load.now ≡ fields.load.now = cc in
    let entry : others.entry.now ≡ fields.entry.now = cc in
    let last : others.length.now ≡ fields.length.now = cc in
    record {
      name = subst (λ text. word.image.name.now ≡ text) name is.name;
      image_type = subst (λ text. IsCode ImageType text word.image.image_type) image_type is.image_type;
      arch = subst (λ text. IsCode Arch text word.image.arch) arch is.arch;
      os = subst (λ text. IsCode Os text word.image.os) os is.os;
      compression = subst (λ text. IsCode Compression text word.image.compression) compression is.compression;
      texts = is.texts ∙ same_texts word image_type arch os compression;
      load = subst (λ text. IsAddress text word.image.load) load is.load;
      entry = subst (λ text. IsAddress text word.image.entry) entry is.entry;
      payload = is.payload;
      source = subst (λ text. IsPartSource text word.payload) last is.source;
    }

-- A text is not an image if its fields are none.
pub no_image_text : (argument : List ℕ) (fields : ImageFields) → parts_of argument ≡ list_of fields → NoneIs (IsImage fields) →
    NoneIs (IsImageText argument)
no_image_text argument fields same none word is = none word (same_image fields is.0 word (sym same ∙ is.1) is.2)

-- Two lists, place by place, and one more of each.
pub zip_push : {A B : Type 0} (R : A → B → Type 0) (xs : List A) (ys : List B) (x : A) (y : B) → AllZip R xs ys → R x y →
    AllZip R (xs ++ x ∷ []) (ys ++ y ∷ [])
zip_push R [] [] x y all one = (one, tt)
zip_push R [] (b ∷ ys) x y all one = absurd all
zip_push R (a ∷ xs) [] x y all one = absurd all
zip_push R (a ∷ xs) (b ∷ ys) x y all one = (all.0, zip_push R xs ys x y all.1 one)

-- A text with eight colons does not have eight fields.
pub nine_fields : (argument a b1 b c1 c d1 d e1 e f1 f g1 g h1 h i1 : List ℕ) (fields : ImageFields) → parts_of argument ≡ a ∷ parts_of b1 →
    parts_of b1 ≡ b ∷ parts_of c1 → parts_of c1 ≡ c ∷ parts_of d1 → parts_of d1 ≡ d ∷ parts_of e1 → parts_of e1 ≡ e ∷ parts_of f1 →
    parts_of f1 ≡ f ∷ parts_of g1 → parts_of g1 ≡ g ∷ parts_of h1 → parts_of h1 ≡ h ∷ parts_of i1 → parts_of argument ≢ list_of fields
nine_fields argument a b1 b c1 c d1 d e1 e f1 f g1 g h1 h i1 texts e0 e2 e3 e4 e5 e6 e7 e8 same =
    let empty : parts_of i1 ≡ [] = cc in
    parts_not_empty i1 empty

-- An argument that differs from `-` in the code differs from it.
pub not_dash : (argument : List ℕ) (result : Bool) → result ≡ bytes_eq argument (codes "-") → result ≡ false → argument ≡ codes "-" → ⊥
not_dash argument result is not same =
    let yes : bytes_eq argument (codes "-") ≡ true = rw (same) refl in
    absurd (let e : true ≡ false = sym yes ∙ sym is ∙ not in cc)

-- The arguments of an argument are none if it has no entry.
pub words_are : (found : Option (Bor (List (Bor (List ℕ))))) (entry : Option MatchedArg) (result : Bor (List (Bor (List ℕ)))) →
    option_map (λ s. map (λ v. v.now) s.now) found ≡ option_map raw_values entry →
    UnwrapsOrElse found (λ words. words.now ≡ []) result → texts_of result.now ≡ option_map_or raw_values entry []
words_are None None result same is = rw (is) refl
words_are None (Some entry) result same is = absurd cc
words_are (Some arguments) None result same is = absurd cc
words_are (Some arguments) (Some entry) result same is = rw (is) (cc)

-- One more argument of a list.
pub texts_push : (arguments : List (Bor (List ℕ))) (index : ℕ) (d : Bor (List ℕ)) → index < length arguments →
    texts_of (take (index + 1) arguments) ≡ texts_of (take index arguments) ++ (get_or arguments index d).now ∷ []
texts_push arguments index d within =
    ap texts_of (take_more arguments index d within)
    ∙ map-append (λ (argument : Bor (List ℕ)). argument.now) (take index arguments) (get_or arguments index d ∷ [])

-- An argument that is not a part is in no list of parts.
pub no_parts : (arguments : List (Bor (List ℕ))) (index : ℕ) (d : Bor (List ℕ)) → index < length arguments →
    NoneIs (IsPartSource (get_or arguments index d).now) → NoneIs (ArePartSources (texts_of arguments))
no_parts [] index d within none parts are = absurd (omega (arith, within))
no_parts (argument ∷ arguments) index d within none [] are = absurd are
no_parts (argument ∷ arguments) zero d within none (part ∷ parts) are = none part are.0
no_parts (argument ∷ arguments) (suc index) d within none (part ∷ parts) are =
    no_parts arguments index d (omega (arith, within)) none parts are.1

-- No images.
pub no_image_words : AreImages [] [] [] []
no_image_words = record { words = []; each = tt; images_are = refl; texts_are = refl; payloads_are = refl }

-- One more image.
pub images_push : (arguments : List (List ℕ)) (images : List ImageSpec) (texts : List (Option ImageTexts)) (payloads : List PartSource)
    (argument : List ℕ) (word : ImageWord) → AreImages arguments images texts payloads → IsImageText argument word →
    AreImages (arguments ++ argument ∷ []) (images ++ word.image ∷ []) (texts ++ word.texts ∷ []) (payloads ++ word.payload ∷ [])
images_push arguments images texts payloads argument word are is = record {
  words = are.words ++ word ∷ [];
  each = zip_push IsImageText arguments are.words argument word are.each is;
  images_are = ap (λ l. l ++ word.image ∷ []) are.images_are ∙ sym (map-append (λ (w : ImageWord). w.image) are.words (word ∷ []));
  texts_are = ap (λ l. l ++ word.texts ∷ []) are.texts_are ∙ sym (map-append (λ (w : ImageWord). w.texts) are.words (word ∷ []));
  payloads_are = ap (λ l. l ++ word.payload ∷ []) are.payloads_are
      ∙ sym (map-append (λ (w : ImageWord). w.payload) are.words (word ∷ []));
}

-- Each of arguments that are images is one.
word_at : (arguments : List (List ℕ)) (words : List ImageWord) (index : ℕ) (argument : List ℕ) → AllZip IsImageText arguments words →
    slice_get arguments index ≡ Some argument → (word : ImageWord) × IsImageText argument word
word_at [] words index argument are is = absurd cc
word_at (a ∷ arguments) [] index argument are is = absurd are
word_at (a ∷ arguments) (w ∷ words) zero argument are is =
    let same : a ≡ argument = cc in (w, subst (λ text. IsImageText text w) same are.0)
word_at (a ∷ arguments) (w ∷ words) (suc index) argument are is = word_at arguments words index argument are.1 is

-- As many images as payloads.
pub images_long : (arguments : List (List ℕ)) (images : List ImageSpec) (texts : List (Option ImageTexts)) (payloads : List PartSource) →
    AreImages arguments images texts payloads → length payloads ≡ length images
images_long arguments images texts payloads are =
    ap length are.payloads_are ∙ length-map are.words (λ (w : ImageWord). w.payload)
    ∙ sym (ap length are.images_are ∙ length-map are.words (λ (w : ImageWord). w.image))

-- What is known of the value that was taken out of an option.
pub ok_or_is : {T E : Type 0} (P : T → Type 0) (option : Option T) (error : E) (result : Result T E) (value : T) →
    result ≡ ok_or option error → result ≡ Ok value → IfSome option P → P value
ok_or_is P None error result value is was holds = absurd (let e : Err error ≡ Ok value = sym is ∙ was in cc)
ok_or_is P (Some other) error result value is was holds =
    let e : Ok other ≡ Ok value = sym is ∙ was in
    let same : other ≡ value = cc in
    subst P same holds

-- An option without a value, and its failure.
pub ok_or_failed : {T E : Type 0} (option : Option T) (error failed : E) (result : Result T E) → result ≡ ok_or option error →
    result ≡ Err failed → (option ≡ None) × (failed ≡ error)
ok_or_failed None error failed result is was = (refl, let e : Err error ≡ Err failed = sym is ∙ was in cc)
ok_or_failed (Some value) error failed result is was = absurd (let e : Ok value ≡ Err failed = sym is ∙ was in cc)

-- An option with a value.
pub ok_or_some : {T E : Type 0} (option : Option T) (error : E) (value : T) (result : Result T E) → result ≡ ok_or option error →
    result ≡ Ok value → option ≡ Some value
ok_or_some None error value result is was = absurd (let e : Err error ≡ Ok value = sym is ∙ was in cc)
ok_or_some (Some other) error value result is was =
    let e : Ok other ≡ Ok value = sym is ∙ was in
    let same : other ≡ value = cc in
    ap (λ v. Some v) same

-- What is known of an option without a value.
pub none_given : {T : Type 0} (option : Option T) (P : Type 0) → IfNone option P → option ≡ None → P
none_given None P holds none = holds
none_given (Some value) P holds none = absurd cc

-- The outcome of a failure.
pub fails_with : {T : Type 0} (Is : Failure → Type 0) (result : Result T NoRequest) (failure : Failure) →
    IsErrAnd result (λ given. given ≡ outcome.Failure failure) → Is failure → IfErr result (IsFailureOutcome Is)
fails_with Is (Ok value) failure is holds = tt
fails_with Is (Err given) failure is holds = subst (λ o. IsFailureOutcome Is o) (sym is) (inl holds)

-- The failure of a value that another one is made of.
pub bad_part : {T U V : Type 0} (IsPart : T → Type 0) (IsWhole : U → Type 0) (result : Result V Failure) (failure : Failure) →
    IsErrAnd result (λ given. given ≡ failure) → IsBadValue IsPart failure → ((whole : U) → IsWhole whole → (part : T) × IsPart part) →
    IfErr result (IsBadValue IsWhole)
bad_part IsPart IsWhole (Ok value) failure is bad part = tt
bad_part IsPart IsWhole (Err given) failure is bad part =
    (is ∙ bad.0, λ whole holds. let p = part whole holds in bad.1 p.0 p.1)

-- The outcome of an outcome.
pub outcome_weaker : {T : Type 0} (P Q : Failure → Type 0) (result : Result T NoRequest) (failed : NoRequest) →
    IsErrAnd result (λ given. given ≡ failed) → IsFailureOutcome P failed → ((failure : Failure) → P failure → Q failure) →
    IfErr result (IsFailureOutcome Q)
outcome_weaker P Q (Ok value) failed is fails weaker = tt
outcome_weaker P Q (Err given) (outcome.Text text) is fails weaker = absurd fails
outcome_weaker P Q (Err given) (outcome.Failure failure) is fails weaker =
    subst (λ o. IsFailureOutcome Q o) (sym is) (elim fails [
      | inl holds ↦ inl (weaker failure holds)
      | inr memory ↦ inr memory
    ])

-- The parts so far, and one more.
pub parts_next : (arguments : List (Bor (List ℕ))) (index : ℕ) (d : Bor (List ℕ)) (parts next : List PartSource) (part : PartSource) →
    index < length arguments → ArePartSources (texts_of (take index arguments)) parts → next ≡ parts ++ part ∷ [] →
    IsPartSource (get_or arguments index d).now part → ArePartSources (texts_of (take (index + 1) arguments)) next
parts_next arguments index d parts next part within are is one =
    rw (texts_push arguments index d within, is)
    (zip_push IsPartSource (texts_of (take index arguments)) parts (get_or arguments index d).now part are one)

-- The images of `list` and others so far, and one more.
pub sources_next : (arguments : List (Bor (List ℕ))) (index : ℕ) (d : Bor (List ℕ)) (sources next : List ImageSource)
    (source : ImageSource) → index < length arguments → AreImageSources (texts_of (take index arguments)) sources
    → next ≡ sources ++ source ∷ [] → IsImageSource (Some (get_or arguments index d).now) source
    → AreImageSources (texts_of (take (index + 1) arguments)) next
sources_next arguments index d sources next source within are is one =
    rw (texts_push arguments index d within, is)
    (zip_push (λ argument. IsImageSource (Some argument)) (texts_of (take index arguments)) sources (get_or arguments index d).now source
    are one)

-- However arguments name images, as many are standard input.
pub same_inputs : (arguments : List (List ℕ)) (one other : List ImageSource) → AreImageSources arguments one
    → AreImageSources arguments other → count_by is_standard one ≡ count_by is_standard other
same_inputs [] [] [] are also = refl
same_inputs [] [] (source ∷ other) are also = absurd also
same_inputs [] (source ∷ one) other are also = absurd are
same_inputs (argument ∷ arguments) [] other are also = absurd are
same_inputs (argument ∷ arguments) (source ∷ one) [] are also = absurd also
same_inputs (argument ∷ arguments) (Standard ∷ one) (Standard ∷ other) are also =
    sum_by-cons (λ source. cond (is_standard source) 1 0) Standard one ∙ ap (λ n. 1 + n) (same_inputs arguments one other are.1 also.1)
    ∙ sym (sum_by-cons (λ source. cond (is_standard source) 1 0) Standard other)
same_inputs (argument ∷ arguments) (File name ∷ one) (File another ∷ other) are also =
    sum_by-cons (λ source. cond (is_standard source) 1 0) (File name) one ∙ ap (λ n. 0 + n) (same_inputs arguments one other are.1 also.1)
    ∙ sym (sum_by-cons (λ source. cond (is_standard source) 1 0) (File another) other)
same_inputs (argument ∷ arguments) (Standard ∷ one) (File name ∷ other) are also = absurd (also.0.1 are.0)
same_inputs (argument ∷ arguments) (File name ∷ one) (Standard ∷ other) are also = absurd (are.0.1 also.0)

-- No images are named by arguments of which two are standard input.
pub two_inputs : (arguments : List (List ℕ)) (sources : List ImageSource) → AreImageSources arguments sources
    → 1 < count_by is_standard sources → NoneIs (AreSources arguments)
two_inputs arguments sources are two value named =
    let same = same_inputs arguments value sources named.each are in
    let most = named.one_input in
    absurd (omega (arith, same, most, two))

-- The images so far, and one more.
pub images_next : (arguments : List (Bor (List ℕ))) (index : ℕ) (d : Bor (List ℕ)) (images more : List ImageSpec)
    (texts longer : List (Option ImageTexts)) (payloads last : List PartSource) (word : ImageWord) → index < length arguments →
    AreImages (texts_of (take index arguments)) images texts payloads → more ≡ images ++ word.image ∷ [] →
    longer ≡ texts ++ word.texts ∷ [] → last ≡ payloads ++ word.payload ∷ [] → IsImageText (get_or arguments index d).now word →
    AreImages (texts_of (take (index + 1) arguments)) more longer last
images_next arguments index d images more texts longer payloads last word within are is_images is_texts is_payloads one =
    rw (texts_push arguments index d within, is_images, is_texts, is_payloads)
    (images_push (texts_of (take index arguments)) images texts payloads (get_or arguments index d).now word are one)

-- The text of an argument.
text_at : (arguments : List (Bor (List ℕ))) (index : ℕ) (d : Bor (List ℕ)) → index < length arguments →
    slice_get (texts_of arguments) index ≡ Some (get_or arguments index d).now
text_at [] index d within = absurd (omega (arith, within))
text_at (argument ∷ arguments) zero d within = refl
text_at (argument ∷ arguments) (suc index) d within = text_at arguments index d (omega (arith, within))

-- An argument before an index is among the first arguments.
before_taken : (arguments : List (Bor (List ℕ))) (index other : ℕ) (text : List ℕ) → other < index →
    slice_get (texts_of arguments) other ≡ Some text → slice_get (texts_of (take index arguments)) other ≡ Some text
before_taken [] index other text before is = absurd cc
before_taken (argument ∷ arguments) zero other text before is = absurd (omega (arith, before))
before_taken (argument ∷ arguments) (suc index) zero text before is = is
before_taken (argument ∷ arguments) (suc index) (suc other) text before is =
    before_taken arguments index other text (omega (arith, before)) is

-- The first argument that is not an image.
pub first_bad : (arguments : List (Bor (List ℕ))) (index : ℕ) (d : Bor (List ℕ)) (images : List ImageSpec)
    (texts : List (Option ImageTexts)) (payloads : List PartSource) → index < length arguments →
    AreImages (texts_of (take index arguments)) images texts payloads → NoneIs (IsImageText (get_or arguments index d).now) →
    IsFirstBad (texts_of arguments) index
first_bad arguments index d images texts payloads within are none = record {
  argument = (get_or arguments index d).now;
  is = text_at arguments index d within;
  bad = none;
  before = λ other text before is. word_at (texts_of (take index arguments)) are.words other text are.each
      (before_taken arguments index other text before is);
}

-- The selections that are given, from the results of the calls.
pub given_by : (options : ArgMatches) (part image config p i c : Option (Bor (List ℕ))) (default : Bool) →
    option_map (λ s. s.now) part ≡ option_of options (codes "part") → option_map (λ s. s.now) image ≡ option_of options (codes "image") →
    option_map (λ s. s.now) config ≡ option_of options (codes "config") → SelectsDefault options default → part ≡ p → image ≡ i →
    config ≡ c → AreGiven options (option_map (λ s. s.now) p) (option_map (λ s. s.now) i) (option_map (λ s. s.now) c) default
given_by options part image config p i c default parts images configs flag is_part is_image is_config = record {
  part_is = sym parts ∙ ap (option_map (λ s. s.now)) is_part;
  image_is = sym images ∙ ap (option_map (λ s. s.now)) is_image;
  config_is = sym configs ∙ ap (option_map (λ s. s.now)) is_config;
  default_is = flag;
}

-- How many of these are given.
abbrev pub number_given : (part image config : Option (List ℕ)) → Bool → ℕ
number_given part image config default = count_by (λ given. given) (is_some part ∷ is_some image ∷ is_some config ∷ default ∷ [])

-- How many are given.
pub count_given : (options : ArgMatches) (part image config : Option (List ℕ)) (default : Bool) →
    AreGiven options part image config default → given_count options default ≡ number_given part image config default
count_given options part image config default given =
    ap (λ p. number_given p (option_of options (codes "image")) (option_of options (codes "config")) default) given.part_is
    ∙ ap (λ i. number_given part i (option_of options (codes "config")) default) given.image_is
    ∙ ap (λ c. number_given part image c default) given.config_is

-- More or fewer than one is given.
pub no_one : (options : ArgMatches) (part image config : Option (List ℕ)) (default : Bool) → AreGiven options part image config default →
    number_given part image config default ≢ 1 → IsSelectionFailure options NoSelection
no_one options part image config default given other =
    (default, given.default_is, λ one. other (sym (count_given options part image config default given) ∙ one))

-- None is given, and so is nothing beside `--all`; or one at least is.
pub none_is_given : (options : ArgMatches) → AreGiven options None None None false → IsNoneGiven options
none_is_given options given =
    record { default = false; default_is = given.default_is; none = count_given options None None None false given }

-- A bad value of `extract --all`.
pub bad_all_request : {T : Type 0} (options : ArgMatches) (result : Result T Failure) → IsNoneGiven options →
    IfErr result (IsBadValue (IsAllRequest options)) → IfErr result (IsAllFailure options)
bad_all_request options (Ok request) none bad = tt
bad_all_request options (Err failure) none bad = subst (IsAllFailure options) (sym bad.0) (none, bad.1)

-- Two names that are given as one option.
same_word : {A : Type 0} {one other : A} (option : Option A) → option ≡ Some one → option ≡ Some other → one ≡ other
same_word option is also = let e = sym is ∙ also in cc

-- An option that is given and is not given.
not_both : {A : Type 0} {one : A} {P : Type 0} (option : Option A) → option ≡ None → option ≡ Some one → P
not_both option is also = absurd (let e = sym is ∙ also in cc)

-- The index of a part is not a number.
pub no_part : (options : ArgMatches) (escaped : Bool) (argument : List ℕ) → AreGiven options (Some argument) None None false →
    AreEscaped options escaped → NoneIs (IsNumber argument) → IsSelectionFailure options BadValue
no_part options escaped argument given flag none = record {
  default = false;
  default_is = given.default_is;
  escaped = escaped;
  escaped_is = flag;
  one = count_given options (Some argument) None None false given;
  none = no_select;
}
  where
    no_select : NoneIs (IsSelection options escaped)
    no_select (Part index) is =
        let other = is.1 in
        none index (subst (λ text. IsNumber text index) (same_word (option_of options (codes "part")) other.part_is given.part_is) is.3)
    no_select (Image name) is = let other = is.1 in not_both (option_of options (codes "part")) other.part_is given.part_is
    no_select (Config name key index) is = let other = is.1 in not_both (option_of options (codes "part")) other.part_is given.part_is
    no_select (Default key index) is = let other = is.0 in not_both (option_of options (codes "part")) other.part_is given.part_is

-- The name of an image is not the one of any bytes.
pub no_image_name : (options : ArgMatches) (escaped : Bool) (argument : List ℕ) → AreGiven options None (Some argument) None false →
    AreEscaped options escaped → NoneIs (IsNameOf escaped argument) → IsSelectionFailure options BadValue
no_image_name options escaped argument given flag none = record {
  default = false;
  default_is = given.default_is;
  escaped = escaped;
  escaped_is = flag;
  one = count_given options None (Some argument) None false given;
  none = no_select;
}
  where
    no_select : NoneIs (IsSelection options escaped)
    no_select (Part index) is = let other = is.1 in not_both (option_of options (codes "image")) other.image_is given.image_is
    no_select (Image name) is =
        let other = is.1 in
        none name.items (subst (λ text. IsNameOf escaped text name.items)
        (same_word (option_of options (codes "image")) other.image_is given.image_is) is.3)
    no_select (Config name key index) is = let other = is.1 in not_both (option_of options (codes "image")) other.image_is given.image_is
    no_select (Default key index) is = let other = is.0 in not_both (option_of options (codes "image")) other.image_is given.image_is

-- So is the name of a configuration.
pub no_config_name : (options : ArgMatches) (escaped : Bool) (argument : List ℕ) → AreGiven options None None (Some argument) false →
    AreEscaped options escaped → NoneIs (IsNameOf escaped argument) → IsSelectionFailure options BadValue
no_config_name options escaped argument given flag none = record {
  default = false;
  default_is = given.default_is;
  escaped = escaped;
  escaped_is = flag;
  one = count_given options None None (Some argument) false given;
  none = no_select;
}
  where
    no_select : NoneIs (IsSelection options escaped)
    no_select (Part index) is = let other = is.1 in not_both (option_of options (codes "config")) other.config_is given.config_is
    no_select (Image name) is = let other = is.1 in not_both (option_of options (codes "config")) other.config_is given.config_is
    no_select (Config name key index) is =
        let other = is.1 in
        none name.items (subst (λ text. IsNameOf escaped text name.items)
        (same_word (option_of options (codes "config")) other.config_is given.config_is) is.3)
    no_select (Default key index) is = let other = is.0 in not_both (option_of options (codes "config")) other.config_is given.config_is

-- The key or the index is bad.
pub no_selected_entry : (options : ArgMatches) (escaped : Bool) (part image config : Option (List ℕ)) (default : Bool) →
    AreGiven options part image config default → AreEscaped options escaped → number_given part image config default ≡ 1 →
    NoneIs (IsEntry options) → IsSelectionFailure options BadValue
no_selected_entry options escaped part image config default given flag one none = record {
  default = default;
  default_is = given.default_is;
  escaped = escaped;
  escaped_is = flag;
  one = count_given options part image config default given ∙ one;
  none = no_select;
}
  where
    no_select : NoneIs (IsSelection options escaped)
    no_select (Part index) is = let entry = is.2 in none entry.0 entry.1
    no_select (Image name) is = let entry = is.2 in none entry.0 entry.1
    no_select (Config name key index) is = none (key, index) is.2
    no_select (Default key index) is = none (key, index) is.1

-- What is known of a failure.
pub err_if : {T E : Type 0} (P : E → Type 0) (result : Result T E) {Q : E → Type 0} → IsErrAnd result Q →
    ((error : E) → Q error → P error) → IfErr result P
err_if P (Ok value) is gives = tt
err_if P (Err error) is gives = gives error is

-- An option that was found has this text.
pub text_given : (options : ArgMatches) (id : List ℕ) (found : Option (Bor (List ℕ))) (text : Bor (List ℕ)) →
    option_map (λ s. s.now) found ≡ option_of options id → found ≡ Some text → option_of options id ≡ Some text.now
text_given options id found text is was = sym is ∙ ap (option_map (λ s. s.now)) was

-- An option that has to be given has this text.
pub text_required : {E : Type 0} (options : ArgMatches) (id : List ℕ) (found : Option (Bor (List ℕ))) (error : E)
    (result : Result (Bor (List ℕ)) E) (text : Bor (List ℕ)) → option_map (λ s. s.now) found ≡ option_of options id →
    result ≡ ok_or found error → result ≡ Ok text → option_of options id ≡ Some text.now
text_required options id None error result text is same was = absurd (let e : Err error ≡ Ok text = sym same ∙ was in cc)
text_required options id (Some other) error result text is same was =
    let e : Ok other ≡ Ok text = sym same ∙ was in
    let equal : other ≡ text = cc in
    sym is ∙ ap (λ (b : Bor (List ℕ)). Some b.now) equal

-- A fact holds whether or not there is an error.
pub if_ok : {T E : Type 0} {P : Type 0} (result : Result T E) → P → OnOk result P
if_ok (Ok value) holds = holds
if_ok (Err error) holds = tt
