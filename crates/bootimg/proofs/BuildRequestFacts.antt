use Rattle.std.proofs.Common.{◌≡◌, ◌∙◌, ℕ, suc, zero, true, false, List, [], ◌∷◌, Option, None, Some}
use Rattle.std.proofs.Common.{codes, map, take, drop, length, bytes_eq, get_or, is_some, lit<, lit≤, inl, inr}
use Rattle.std.proofs.Common.{ap, refl, sym, subst, subst₂, arith, true≢false}
use Rattle.std.specs.Prelude.{if◌then◌else◌, ◌==◌, IsTrue, option_map}
use Rattle.std.specs.Global.{Vec}
use Rattle.std.specs.List.{AllZip, AllByRecursion, after_first, before_first, list_all}
use Rattle.std.specs.Ptr.{null_ptr}
use Rattle.bi_base.specs.Slices.{bytes_of}
use Rattle.bi_base.proofs.ByteLists.{bytes_by_test}
use Rattle.bi_base.proofs.EqualBytes.{other_bytes}
use Rattle.bi_blob.specs.Layout.{is_among}
use Rattle.bi_blob.specs.Tree.{AreDistinct}
use Rattle.bi_commands.specs.KnownChoices.{lent}
use Rattle.bootimg.specs.KnownWords.{words_of_line}
use Rattle.bi_fit.specs.Building.{ConfigurationSpecModel, IsConfigurationSpec, configuration_names}
use Rattle.bi_fit.specs.Names.{key_name}
use Rattle.bi_fit.specs.declared.key.Key.{Key}
use Rattle.bi_fit.specs.declared.key.Key.TheVariants.{Kernel, Fdt, Ramdisk, Firmware, Loadables, Script}
use Rattle.bi_hash.specs.Algos.{algorithm_name, find_algorithm}
use Rattle.bi_hash.specs.declared.algo.Algo.{Algo}
use Rattle.bi_hash.specs.declared.algo.Algo.TheVariants.{Crc32, Sha1, Sha256}
use Rattle.bi_hash.proofs.AlgorithmNames.{find_algorithm-algorithm_name}
use Rattle.bi_norm.specs.FitBuilding.{ImageTextsModel, image_texts_model, multi}
use Rattle.clap.specs.Simple.{subcommand_of}
use Rattle.clap.specs.Walk.{first_of}
use Rattle.clap.proofs.OnLiterals.{clap_on_literals}
use Rattle.bootimg.specs.CodeWords.{four_texts, text_of_code}
use Rattle.bootimg.specs.CommandLine.{IsImageText, NoneIs, list_of, option_of}
use Rattle.bootimg.specs.CommandLine.{values_of}
use Rattle.bootimg.specs.ConfigurationWords.{AreAlgorithms, AreConfigurations, AreHashes, AreHashesOf, IsConfigurationWord, IsDefault}
use Rattle.bootimg.specs.ConfigurationWords.{IsFirstBadConfiguration, IsListText, configuration_model, configuration_models, names_under}
use Rattle.bootimg.specs.KnownArguments.{IsOnlyCode}
use Rattle.bootimg.specs.KnownBuildRequests.{ConfigurationsAreKnown, GivesConfigurations, GivesDefault, GivesHashes, HasBadConfiguration}
use Rattle.bootimg.specs.KnownBuildRequests.{HasBadHashes, HashOptionsAreKnown, IsTheOne, NodeTextsAreKnown, line_of_two}
use Rattle.bootimg.specs.KnownBuildRequests.{listed_by, three_names}
use Rattle.bootimg.specs.Program.{program_app}
use Rattle.bootimg.specs.Words.{listed_words, parts_of}
use Rattle.bootimg.specs.declared.codes.CodeField.TheVariants.{Os, Arch, ImageType, Compression}
use Rattle.bootimg.specs.declared.command_line.configurations.ConfigurationWord.{ConfigurationWord}
use Rattle.bootimg.specs.declared.command_line.configurations.KeyList.{KeyList}
use Rattle.bootimg.specs.declared.command_line.image.ImageWord.{ImageWord}
use Rattle.bootimg.proofs.ArgumentFacts.{code_with_name, decimal_digits, numbered_code}
use Rattle.bootimg.proofs.ConfigurationFacts.{equal_models}
use Rattle.bootimg.proofs.KeyLists.{list_key_before, list_names_after}
use Rattle.bootimg.proofs.OptionFacts.{found_values, values_in}
use Rattle.bootimg.proofs.RequestFacts.{code_given, field_at, no_key_is, option_is, rows_given}

-- What small command lines of `build-fit` request is known.

-- ---- hash nodes

-- Names are found if they are those of algorithms.
found_all : (algorithms : List Algo) → map find_algorithm (map algorithm_name algorithms) ≡ map Some algorithms
found_all [] = refl
found_all (algorithm ∷ algorithms) = λ i. find_algorithm-algorithm_name algorithm i ∷ found_all algorithms i

-- The algorithms among these.
abbrev known : List (Option Algo) → List Algo
known [] = []
known (None ∷ later) = known later
known (Some algorithm ∷ later) = algorithm ∷ known later

known_some : (algorithms : List Algo) → known (map Some algorithms) ≡ algorithms
known_some [] = refl
known_some (algorithm ∷ algorithms) = ap (λ later. algorithm ∷ later) (known_some algorithms)

all_some : (algorithms : List Algo) → list_all is_some (map Some algorithms) ≡ true
all_some [] = refl
all_some (algorithm ∷ algorithms) = all_some algorithms

-- Names are the algorithms that are found by them.
names_found : (names : List (List ℕ)) (algorithms : List Algo) → AreAlgorithms names algorithms →
    map find_algorithm names ≡ map Some algorithms
names_found names algorithms are = sym (ap (map find_algorithm) are.named) ∙ found_all algorithms

algorithms_are : (names : List (List ℕ)) (algorithms : List Algo) → AreAlgorithms names algorithms →
    algorithms ≡ known (map find_algorithm names)
algorithms_are names algorithms are = sym (ap known (names_found names algorithms are) ∙ known_some algorithms)

unknown_name : (names : List (List ℕ)) → list_all is_some (map find_algorithm names) ≡ false → NoneIs (AreAlgorithms names)
unknown_name names unknown algorithms are =
    true≢false (sym (ap (list_all is_some) (names_found names algorithms are) ∙ all_some algorithms) ∙ unknown)

-- A text other than `none` is the algorithms that it lists.
listed_hashes : (text : List ℕ) (wanted : List Algo) → bytes_eq text (codes "none") ≡ false → AreAlgorithms (listed_words text) wanted →
    IsTheOne (AreHashesOf text) wanted
listed_hashes text wanted other are = (inr are, only) where
  only : (given : List Algo) → AreHashesOf text given → given ≡ wanted
  only given (inl is) = absurd (other_bytes text (codes "none") other is.0)
  only given (inr also) = algorithms_are (listed_words text) given also ∙ sym (algorithms_are (listed_words text) wanted are)

no_listed_hashes : (text : List ℕ) → bytes_eq text (codes "none") ≡ false → NoneIs (AreAlgorithms (listed_words text)) →
    NoneIs (AreHashesOf text)
no_listed_hashes text other none algorithms (inl is) = other_bytes text (codes "none") other is.0
no_listed_hashes text other none algorithms (inr are) = none algorithms are

no_hash_nodes : IsTheOne (AreHashesOf (codes "none")) []
unfolding find_algorithm
no_hash_nodes = (inl (refl, refl), only) where
  only : (given : List Algo) → AreHashesOf (codes "none") given → given ≡ []
  only given (inl is) = is.1
  only given (inr are) = absurd (unknown_name (listed_words (codes "none")) refl given are)

-- The same of an option with this value.
hashes_given : (line : List ℕ) (value : Option (List ℕ)) (algorithms : List Algo) → first_of (codes "hash") (rows_given line) ≡ value →
    IsTheOne (AreHashes value) algorithms → GivesHashes line algorithms
hashes_given line value algorithms given one options is =
    subst (λ v. IsTheOne (AreHashes v) algorithms)
    (sym (option_is line (codes "build-fit") options is (codes "hash") ∙ given)) one

bad_hashes_given : (line text : List ℕ) → first_of (codes "hash") (rows_given line) ≡ Some text → NoneIs (AreHashesOf text) →
    HasBadHashes line
bad_hashes_given line text given none options is =
    subst (λ v. NoneIs (AreHashes v)) (sym (option_is line (codes "build-fit") options is (codes "hash") ∙ given)) none

pub unknown_md4 : NoneIs (AreHashesOf (codes "md4"))
unfolding find_algorithm
unknown_md4 = no_listed_hashes (codes "md4") refl (unknown_name (listed_words (codes "md4")) refl)

pub hash_options_are_known : HashOptionsAreKnown
unfolding program_app clap_on_literals find_algorithm
hash_options_are_known = record {
  no_option = hashes_given (codes "build-fit") None (Sha256 ∷ []) refl (refl, λ given is. is);
  none = hashes_given (codes "build-fit --hash none") (Some (codes "none")) [] refl no_hash_nodes;
  one = hashes_given (codes "build-fit --hash sha256") (Some (codes "sha256")) (Sha256 ∷ []) refl
      (listed_hashes (codes "sha256") (Sha256 ∷ []) refl (record { named = refl; distinct = (tt, tt) }));
  two = hashes_given (codes "build-fit --hash sha1,crc32") (Some (codes "sha1,crc32")) (Sha1 ∷ Crc32 ∷ []) refl
      (listed_hashes (codes "sha1,crc32") (Sha1 ∷ Crc32 ∷ []) refl
      (record { named = refl; distinct = ((other_bytes (codes "crc32") (codes "sha1") refl, tt), (tt, tt)) }));
  twice = bad_hashes_given (codes "build-fit --hash md5,md5") (codes "md5,md5") refl
      (no_listed_hashes (codes "md5,md5") refl (λ algorithms are. are.distinct.0.0 refl));
  unknown = bad_hashes_given (codes "build-fit --hash md4") (codes "md4") refl unknown_md4;
  empty = bad_hashes_given (codes "build-fit --hash sha1,") (codes "sha1,") refl
      (no_listed_hashes (codes "sha1,") refl (unknown_name (listed_words (codes "sha1,")) refl));
  none_and_one = bad_hashes_given (codes "build-fit --hash none,sha1") (codes "none,sha1") refl
      (no_listed_hashes (codes "none,sha1") refl (unknown_name (listed_words (codes "none,sha1")) refl));
}

-- ---- configurations

-- The key of a list, and the names after it.
abbrev key_of_text : List ℕ → List ℕ
key_of_text text = before_first (λ byte. byte == 61) text

abbrev names_of_text : List ℕ → List (List ℕ)
names_of_text text = listed_words (after_first (λ byte. byte == 61) text)

-- What lists have under a key.
abbrev listed_under : List (List ℕ) → Key → List (List ℕ)
listed_under [] key = []
listed_under (text ∷ later) key =
    if bytes_eq (key_of_text text) (key_name key) then names_of_text text else listed_under later key

read_list : (text : List ℕ) (list : KeyList) → IsListText text list →
    (key_name list.key ≡ key_of_text text) × (bytes_of list.names.items ≡ names_of_text text)
read_list text list is = (
  sym (ap (before_first (λ byte. byte == 61)) is.is ∙ list_key_before list.key is.names_text),
  is.names ∙ sym (ap listed_words (ap (after_first (λ byte. byte == 61)) is.is ∙ list_names_after list.key is.names_text)),
)

read_lists : (texts : List (List ℕ)) (lists : List KeyList) → AllZip IsListText texts lists → (key : Key) →
    names_under lists key ≡ listed_under texts key
read_lists [] [] are key = refl
read_lists [] (list ∷ lists) are key = absurd are
read_lists (text ∷ texts) [] are key = absurd are
read_lists (text ∷ texts) (list ∷ lists) are key =
    let one = read_list text list are.0 in
    let later = read_lists texts lists are.1 key in
    λ i. if bytes_eq (one.0 i) (key_name key) then one.1 i else later i

read_keys : (texts : List (List ℕ)) (lists : List KeyList) → AllZip IsListText texts lists →
    map (λ (list : KeyList). key_name list.key) lists ≡ map key_of_text texts
read_keys [] [] are = refl
read_keys [] (list ∷ lists) are = absurd are
read_keys (text ∷ texts) [] are = absurd are
read_keys (text ∷ texts) (list ∷ lists) are =
    let one = read_list text list are.0 in
    let later = read_keys texts lists are.1 in
    λ i. one.0 i ∷ later i

-- The configuration of a word.
abbrev model_of_word : List ℕ → ConfigurationSpecModel
model_of_word word = record {
  name = get_or (parts_of word) 0 [];
  description = None;
  compatible = [];
  lists = listed_under (drop 1 (parts_of word));
}

read_word : (word : List ℕ) (configuration : ConfigurationWord) → IsConfigurationWord word configuration →
    configuration_model configuration ≡ model_of_word word
read_word word configuration is =
    let name : configuration.name.now ≡ get_or (parts_of word) 0 [] = sym (ap (λ parts. get_or parts 0 []) is.parts) in
    let texts : is.first ∷ is.later ≡ drop 1 (parts_of word) = sym (ap (λ parts. drop 1 parts) is.parts) in
    equal_models configuration.name.now (get_or (parts_of word) 0 []) (names_under configuration.lists.items)
    (listed_under (drop 1 (parts_of word))) name
    (λ key. read_lists (is.first ∷ is.later) configuration.lists.items is.lists.each key ∙ ap (λ t. listed_under t key) texts)

read_words : (words : List (List ℕ)) (configurations : List ConfigurationWord) → AllZip IsConfigurationWord words configurations →
    configuration_models configurations ≡ map model_of_word words
read_words [] [] are = refl
read_words [] (configuration ∷ configurations) are = absurd are
read_words (word ∷ words) [] are = absurd are
read_words (word ∷ words) (configuration ∷ configurations) are =
    let one = read_word word configuration are.0 in
    let later = read_words words configurations are.1 in
    λ i. one i ∷ later i

configurations_given : (line : List ℕ) (image_names words : List (List ℕ)) (listed : List (List ℕ × List (List (List ℕ)))) →
    values_in (codes "config") (subcommand_of program_app (words_of_line line)) ≡ words →
    map listed_by (map model_of_word words) ≡ listed → GivesConfigurations line image_names listed
configurations_given line image_names words listed given are options is configurations hold =
    let words_are = found_values line (codes "build-fit") options is (codes "config") ∙ given in
    ap (map listed_by)
    (read_words words configurations (subst (λ w. AllZip IsConfigurationWord w configurations) words_are hold.each))
    ∙ are

-- ---- bad configurations

bad_given : (line : List ℕ) (image_names words : List (List ℕ)) (index : ℕ) →
    values_in (codes "config") (subcommand_of program_app (words_of_line line)) ≡ words →
    IsTheOne (IsFirstBadConfiguration image_names words) index → HasBadConfiguration line image_names index
bad_given line image_names words index given one options is =
    subst (λ w. IsTheOne (IsFirstBadConfiguration image_names w) index)
    (sym (found_values line (codes "build-fit") options is (codes "config") ∙ given)) one

-- The first of configurations is one alone.
first_alone : (image_names : List (List ℕ)) (word : List ℕ) (words : List (List ℕ)) (configurations : List ConfigurationWord) →
    AreConfigurations image_names (word ∷ words) configurations →
    (one : List ConfigurationWord) × AreConfigurations image_names (word ∷ []) one
first_alone image_names word words [] are = absurd are.each
first_alone image_names word words (one ∷ configurations) are =
    (one ∷ [], record { each = (are.each.0, tt); can = (are.can.0, tt); distinct = (tt, tt) })

-- If the first word is bad, it is the first bad one.
pub first_is_bad : (image_names : List (List ℕ)) (word : List ℕ) (later : List (List ℕ)) →
    NoneIs (AreConfigurations image_names (word ∷ [])) → IsTheOne (IsFirstBadConfiguration image_names (word ∷ later)) 0
first_is_bad image_names word later none =
    (record { configurations = []; before = record { each = tt; can = tt; distinct = tt }; bad = none }, only) where
      only : (index : ℕ) → IsFirstBadConfiguration image_names (word ∷ later) index → index ≡ 0
      only zero is = refl
      only (suc index) is =
          let one = first_alone image_names word (take index later) is.configurations is.before in absurd (none one.0 one.1)

abbrev no_words : List (List ℕ)
no_words = []

take_nothing : (index : ℕ) → take index no_words ≡ no_words
take_nothing zero = refl
take_nothing (suc index) = refl

-- If the first word is good and the second one is bad, that is the first bad one.
second_is_bad : (image_names : List (List ℕ)) (word other : List ℕ) (configuration : ConfigurationWord) →
    AreConfigurations image_names (word ∷ []) (configuration ∷ []) → NoneIs (AreConfigurations image_names (word ∷ other ∷ [])) →
    IsTheOne (IsFirstBadConfiguration image_names (word ∷ other ∷ [])) 1
second_is_bad image_names word other configuration good none =
    (record { configurations = configuration ∷ []; before = good; bad = none }, only) where
      only : (index : ℕ) → IsFirstBadConfiguration image_names (word ∷ other ∷ []) index → index ≡ 1
      only zero is = absurd (is.bad (configuration ∷ []) good)
      only (suc zero) is = refl
      only (suc (suc index)) is =
          absurd (none is.configurations
          (subst (λ l. AreConfigurations image_names (word ∷ other ∷ l) is.configurations) (take_nothing index) is.before))

-- A word that is not a configuration.
pub no_first_word : (image_names : List (List ℕ)) (word : List ℕ) (later : List (List ℕ)) → NoneIs (IsConfigurationWord word) →
    NoneIs (AreConfigurations image_names (word ∷ later))
no_first_word image_names word later none [] are = are.each
no_first_word image_names word later none (configuration ∷ configurations) are = none configuration are.each.0

-- A word without a list.
pub without_list : (word : List ℕ) → length (parts_of word) ≡ 1 → NoneIs (IsConfigurationWord word)
without_list word short configuration is = omega (arith, short, ap (λ parts. length parts) is.parts)

-- The keys of a word.
word_keys : (word : List ℕ) (configuration : ConfigurationWord) → IsConfigurationWord word configuration →
    map (λ (list : KeyList). key_name list.key) configuration.lists.items ≡ map key_of_text (drop 1 (parts_of word))
word_keys word configuration is =
    read_keys (is.first ∷ is.later) configuration.lists.items is.lists.each
    ∙ ap (λ parts. map key_of_text (drop 1 parts)) (sym is.parts)

-- No list has another key.
no_dtb : (lists : List KeyList) → map (λ (list : KeyList). key_name list.key) lists ≡ codes "dtb" ∷ [] → ⊥
no_dtb [] same = absurd cc
no_dtb (list ∷ lists) same = no_key_is list.key (sym (ap (λ keys. get_or keys 0 []) same))

unknown_key : NoneIs (IsConfigurationWord (codes "a:dtb=f"))
unknown_key configuration is = no_dtb configuration.lists.items (word_keys (codes "a:dtb=f") configuration is ∙ refl)

key_twice : NoneIs (IsConfigurationWord (codes "a:fdt=f:fdt=g"))
key_twice configuration is =
    let distinct = subst AreDistinct (word_keys (codes "a:fdt=f:fdt=g") configuration is) is.lists.distinct in
    distinct.0.0 refl

-- The models of configurations.
models_of : (image_names words : List (List ℕ)) (configurations : List ConfigurationWord) →
    AreConfigurations image_names words configurations →
    AllByRecursion (IsConfigurationSpec image_names) (map model_of_word words) ×
    AreDistinct (configuration_names (map model_of_word words))
models_of image_names words configurations are =
    let models = read_words words configurations are.each in (
      subst (AllByRecursion (IsConfigurationSpec image_names)) models are.can,
      subst (λ m. AreDistinct (configuration_names m)) models are.distinct,
    )

-- A configuration that lists the kernel `k`.
abbrev pub vec_of : {X : Type 0} → (items : List X) → length items ≡ 1 → Vec X
vec_of items one = record {
  ptr = null_ptr;
  len = 1;
  cap = 1;
  alloc = record { memory = record { seal = tt } };
  items = items;
  ok = (sym one, lit≤ tt);
  small = lit< tt;
}

abbrev kernel_word : ConfigurationWord
kernel_word = record {
  name = lent (codes "a");
  lists = vec_of (record { key = Kernel; names = vec_of (lent (codes "k") ∷ []) refl } ∷ []) refl;
}

only_kernel : (key : Key) → AllByRecursion (λ name. IsTrue (is_among name three_names)) (names_under kernel_word.lists.items key)
only_kernel Kernel = (refl, tt)
only_kernel Fdt = tt
only_kernel Ramdisk = tt
only_kernel Firmware = tt
only_kernel Loadables = tt
only_kernel Script = tt

kernel_is_good : AreConfigurations three_names (codes "a:kernel=k" ∷ []) (kernel_word ∷ [])
kernel_is_good = record {
  each = (
    record {
      first = codes "kernel=k";
      later = [];
      parts = refl;
      lists = record { each = (record { names_text = codes "k"; is = refl; names = refl }, tt); distinct = (tt, tt) };
    },
    tt,
  );
  can = (
    record {
      is_name = record {
        some = λ none. omega (arith, ap length none);
        no_zero = (λ is. omega (arith, is), tt);
        no_slash = (λ is. omega (arith, is), tt);
      };
      name_bytes = bytes_by_test (codes "a") refl;
      description = tt;
      compatible = tt;
      of_images = only_kernel;
    },
    tt,
  );
  distinct = (tt, tt);
}

no_image_z : NoneIs (AreConfigurations three_names (codes "a:kernel=k" ∷ codes "b:kernel=z" ∷ []))
no_image_z configurations are =
    let models = models_of three_names (codes "a:kernel=k" ∷ codes "b:kernel=z" ∷ []) configurations are in
    true≢false (sym (models.0.1.0.of_images Kernel).0)

two_names : NoneIs (AreConfigurations three_names (codes "a:kernel=k" ∷ codes "a:fdt=f" ∷ []))
two_names configurations are =
    let models = models_of three_names (codes "a:kernel=k" ∷ codes "a:fdt=f" ∷ []) configurations are in
    models.1.0.0 refl

-- ---- the default

default_given : (line : List ℕ) (words : List (List ℕ)) (value default : Option (List ℕ)) →
    values_in (codes "config") (subcommand_of program_app (words_of_line line)) ≡ words →
    first_of (codes "default") (rows_given line) ≡ value → IsTheOne (IsDefault words value) default → GivesDefault line default
default_given line words value default given is_value one options is =
    let words_are = found_values line (codes "build-fit") options is (codes "config") ∙ given in
    let value_is = option_is line (codes "build-fit") options is (codes "default") ∙ is_value in
    subst (λ w. IsTheOne (IsDefault w (option_of options (codes "default"))) default) (sym words_are)
    (subst (λ v. IsTheOne (IsDefault words v) default) (sym value_is) one)

pub configurations_are_known : ConfigurationsAreKnown
unfolding program_app clap_on_literals
configurations_are_known = record {
  two = configurations_given line_of_two three_names
      (codes "a:kernel=k:fdt=f,g" ∷ codes "b=1:firmware=k:loadables=g,g:ramdisk=f" ∷ []) _ refl refl;
  script = configurations_given (codes "build-fit --config a:script=k") three_names (codes "a:script=k" ∷ []) _ refl refl;
  no_list = bad_given (codes "build-fit --config a") three_names (codes "a" ∷ []) 0 refl
      (first_is_bad three_names (codes "a") [] (no_first_word three_names (codes "a") [] (without_list (codes "a") refl)));
  unknown_key = bad_given (codes "build-fit --config a:dtb=f") three_names (codes "a:dtb=f" ∷ []) 0 refl
      (first_is_bad three_names (codes "a:dtb=f") [] (no_first_word three_names (codes "a:dtb=f") [] unknown_key));
  key_twice = bad_given (codes "build-fit --config a:fdt=f:fdt=g") three_names (codes "a:fdt=f:fdt=g" ∷ []) 0 refl
      (first_is_bad three_names (codes "a:fdt=f:fdt=g") [] (no_first_word three_names (codes "a:fdt=f:fdt=g") [] key_twice));
  first_of_two = bad_given (codes "build-fit --config a --config b") three_names (codes "a" ∷ codes "b" ∷ []) 0 refl
      (first_is_bad three_names (codes "a") (codes "b" ∷ [])
      (no_first_word three_names (codes "a") [] (without_list (codes "a") refl)));
  no_image = bad_given (codes "build-fit --config a:kernel=k --config b:kernel=z") three_names
      (codes "a:kernel=k" ∷ codes "b:kernel=z" ∷ []) 1 refl
      (second_is_bad three_names (codes "a:kernel=k") (codes "b:kernel=z") kernel_word kernel_is_good no_image_z);
  name_twice = bad_given (codes "build-fit --config a:kernel=k --config a:fdt=f") three_names
      (codes "a:kernel=k" ∷ codes "a:fdt=f" ∷ []) 1 refl
      (second_is_bad three_names (codes "a:kernel=k") (codes "a:fdt=f") kernel_word kernel_is_good two_names);
  default = default_given line_of_two (codes "a:kernel=k:fdt=f,g" ∷ codes "b=1:firmware=k:loadables=g,g:ramdisk=f" ∷ [])
      (Some (codes "b=1")) (Some (codes "b=1")) refl refl ((refl, refl), λ given is. is.0);
  no_default = default_given (codes "build-fit --config a:kernel=k") (codes "a:kernel=k" ∷ []) None None refl refl
      (refl, λ given is. is);
  bad_default = λ options is given holds.
      let line = codes "build-fit --config a:kernel=k --default b" in
      let words_are : values_of options (codes "config") ≡ codes "a:kernel=k" ∷ [] =
      found_values line (codes "build-fit") options is (codes "config") ∙ refl in
      let value_is : option_of options (codes "default") ≡ Some (codes "b") =
      option_is line (codes "build-fit") options is (codes "default") ∙ refl in
      let bad = subst₂ (λ w v. IsDefault w v given) words_are value_is holds in
      true≢false (sym bad.1);
}

-- ---- texts of image nodes

-- The texts of a word with these codes.
abbrev texts_of : (text : List ℕ) → (image_type arch os compression : ℕ) → Option ImageTextsModel
texts_of text image_type arch os compression =
    if image_type == multi then None
    else four_texts (text_of_code ImageType (field_at (parts_of text) 1) image_type) (text_of_code Arch (field_at (parts_of text) 2) arch)
    (text_of_code Os (field_at (parts_of text) 3) os) (text_of_code Compression (field_at (parts_of text) 4) compression)

node_texts : (text : List ℕ) (image_type arch os compression : ℕ) → IsOnlyCode ImageType (field_at (parts_of text) 1) image_type →
    IsOnlyCode Arch (field_at (parts_of text) 2) arch → IsOnlyCode Os (field_at (parts_of text) 3) os →
    IsOnlyCode Compression (field_at (parts_of text) 4) compression → (word : ImageWord) → IsImageText text word →
    option_map image_texts_model word.texts ≡ texts_of text image_type arch os compression
node_texts text image_type arch os compression is_type is_arch is_os is_compression word is =
    let field : (index : ℕ) → field_at (list_of is.0) index ≡ field_at (parts_of text) index =
    λ index. ap (λ fields. field_at fields index) (sym is.1) in
    let type_is = code_given ImageType _ (field_at (parts_of text) 1) image_type (field 1) is_type word.image.image_type is.2.image_type in
    let arch_is = code_given Arch _ (field_at (parts_of text) 2) arch (field 2) is_arch word.image.arch is.2.arch in
    let os_is = code_given Os _ (field_at (parts_of text) 3) os (field 3) is_os word.image.os is.2.os in
    let compression_is =
    code_given Compression _ (field_at (parts_of text) 4) compression (field 4) is_compression word.image.compression is.2.compression in
    is.2.texts
    ∙ (λ i. if type_is i == multi then None
    else four_texts (text_of_code ImageType (field 1 i) (type_is i)) (text_of_code Arch (field 2 i) (arch_is i))
    (text_of_code Os (field 3 i) (os_is i)) (text_of_code Compression (field 4 i) (compression_is i)))

pub node_texts_are_known : NodeTextsAreKnown
node_texts_are_known = record {
  names = λ word is.
      node_texts (codes "k:kernel:powerpc:linux:gzip:-:-:5") 2 7 5 1 (code_with_name ImageType (codes "kernel") 2 refl)
      (code_with_name Arch (codes "powerpc") 7 refl) (code_with_name Os (codes "linux") 5 refl)
      (code_with_name Compression (codes "gzip") 1 refl) word is
      ∙ refl;
  numbers = λ word is.
      node_texts (codes "k:2:7:5:1:-:-:5") 2 7 5 1
      (numbered_code ImageType (codes "2") 2 refl (decimal_digits (codes "2") refl refl) (lit< tt))
      (numbered_code Arch (codes "7") 7 refl (decimal_digits (codes "7") refl refl) (lit< tt))
      (numbered_code Os (codes "5") 5 refl (decimal_digits (codes "5") refl refl) (lit< tt))
      (numbered_code Compression (codes "1") 1 refl (decimal_digits (codes "1") refl refl) (lit< tt)) word is
      ∙ refl;
  no_name = λ word is.
      node_texts (codes "k:2:255:5:1:-:-:5") 2 255 5 1
      (numbered_code ImageType (codes "2") 2 refl (decimal_digits (codes "2") refl refl) (lit< tt))
      (numbered_code Arch (codes "255") 255 refl (decimal_digits (codes "255") refl refl) (lit< tt))
      (numbered_code Os (codes "5") 5 refl (decimal_digits (codes "5") refl refl) (lit< tt))
      (numbered_code Compression (codes "1") 1 refl (decimal_digits (codes "1") refl refl) (lit< tt)) word is
      ∙ refl;
  multi_file = λ word is.
      node_texts (codes "k:multi:7:5:1:-:-:5") 4 7 5 1 (code_with_name ImageType (codes "multi") 4 refl)
      (numbered_code Arch (codes "7") 7 refl (decimal_digits (codes "7") refl refl) (lit< tt))
      (numbered_code Os (codes "5") 5 refl (decimal_digits (codes "5") refl refl) (lit< tt))
      (numbered_code Compression (codes "1") 1 refl (decimal_digits (codes "1") refl refl) (lit< tt)) word is
      ∙ refl;
}
