use Rattle.std.specs.Prelude.{◌≡◌, ⊤, ℕ, List, [], ◌∷◌, Option, Some, codes, map}
use Rattle.bi_base.specs.Limits.{Limits}
use Rattle.bi_base.specs.declared.align.Align.{Align}
use Rattle.bi_describe.specs.IgnoredWords.{AreWordsOfValues}
use Rattle.bi_describe.specs.Ignoring.{Ignored}
use Rattle.bi_edit.specs.declared.edit.Edit.{Edit}
use Rattle.bi_edit.specs.EditWords.{IsPayloadWord, IsRemovalWord}
use Rattle.bi_fit.specs.Names.{all_keys, key_name}
use Rattle.bi_fit.specs.declared.key.Key.{Key}
use Rattle.bi_hash.specs.Algos.{algorithm_name, all_algorithms}
use Rattle.bi_hash.specs.declared.algo.Algo.{Algo}
use Rattle.bi_report.specs.Checking.{kind_word}
use Rattle.bi_report.specs.declared.check.Allowed.{Allowed}
use Rattle.bi_values.specs.declared.value_form.ValueForm.{ValueForm}
use Rattle.bootimg.specs.CodeWords.{IsCode, names_given_for}
use Rattle.bootimg.specs.CommandLine.{IsAddress, IsAlignOf, IsAllowed, IsLimits, IsPartSource}
use Rattle.bootimg.specs.ConfigurationWords.{AreHashesOf, IsConfigurationWord}
use Rattle.bootimg.specs.EditOptions.{IsSetWord}
use Rattle.bootimg.specs.Explanations.{IsAbout, all_kinds}
use Rattle.bootimg.specs.Numbers.{IsNumber}
use Rattle.bootimg.specs.OwnTexts.{IsNamedText}
use Rattle.bootimg.specs.ValueWords.{form_argument}
use Rattle.bootimg.specs.Words.{listed_words}
use Rattle.bootimg.specs.declared.command_line.configurations.ConfigurationWord.{ConfigurationWord}
use Rattle.bootimg.specs.declared.command_line.part.PartSource.{PartSource}
use Rattle.bootimg.specs.declared.command_line.takes.Takes.{Takes}
use Rattle.bootimg.specs.declared.command_line.takes.Takes.TheVariants as takes
use Rattle.bootimg.specs.declared.command_line.texts.NamedText.{NamedText}
use Rattle.bootimg.specs.declared.explanations.Topic.{Topic}

-- Which words options and arguments take (profile of this project).

-- The word is taken.
abbrev pub IsTaken : Takes → (word : List ℕ) → Type 0
IsTaken takes.Anything word = ⊤
IsTaken takes.Number word = (number : ℕ) × IsNumber word number
IsTaken takes.Limit word = (limits : Limits) × IsLimits word limits
IsTaken takes.Alignment word = (align : Align) × IsAlignOf word align
IsTaken takes.Address word = (address : Option ℕ) × IsAddress word address
IsTaken takes.Part word = (source : PartSource) × IsPartSource word source
IsTaken (takes.Code field) word = (code : ℕ) × IsCode field word code
IsTaken takes.Key word = (given : Key) × (word ≡ key_name given)
IsTaken takes.ValueForm word = (form : ValueForm) × (Some word ≡ form_argument form)
IsTaken takes.Kinds word = (allowed : Allowed) × IsAllowed (listed_words word) allowed
IsTaken takes.Algorithms word = (algorithms : List Algo) × AreHashesOf word algorithms
IsTaken takes.Topic word = (topic : Topic) × IsAbout word topic
IsTaken takes.Removal word = (edit : Edit) × IsRemovalWord word edit
IsTaken takes.NewValue word = (edit : Edit) × IsSetWord word edit
IsTaken takes.NewPayload word = (image : List ℕ) × (file : List ℕ) × IsPayloadWord word image file
IsTaken takes.LeftOut word = (words : List Ignored) × AreWordsOfValues (word ∷ []) words
IsTaken takes.Configuration word =
    (configuration : ConfigurationWord) × IsConfigurationWord word configuration
IsTaken takes.OwnText word = (text : NamedText) × IsNamedText word text

-- The names of the forms of values.
abbrev form_names : List (List ℕ)
form_names = codes "text" ∷ codes "number" ∷ codes "raw" ∷ []

-- The names that are taken, or with a comma between each two.
abbrev pub names_taken : Takes → List (List ℕ)
names_taken (takes.Code field) = names_given_for field
names_taken takes.Key = map key_name all_keys
names_taken takes.ValueForm = form_names
names_taken takes.Kinds = map kind_word all_kinds
names_taken takes.Algorithms = map algorithm_name all_algorithms
names_taken other = []

-- What is said of the words that are taken, before their names and after them.
abbrev pub words_before_names : Takes → List ℕ
words_before_names takes.Anything = codes "any word"
words_before_names takes.Number = codes "a number below 2^32: decimal, or hexadecimal with 0x"
words_before_names takes.Limit = codes "a number from 64 to 2147483647"
words_before_names takes.Alignment = codes "a power of two from 4 to 1048576"
words_before_names takes.Address = codes "an address, or - for none"
words_before_names takes.Part = codes "a length in bytes, and a file is given as @"
words_before_names (takes.Code field) = codes "one of "
words_before_names takes.Key = codes "one of "
words_before_names takes.ValueForm = codes "one of "
words_before_names takes.Kinds = codes "a comma-separated list of "
words_before_names takes.Algorithms = codes "none, or a comma-separated list without repetition of "
words_before_names takes.Topic = codes "a name that bootimg explain prints, or a line of bootimg"
words_before_names takes.Removal = codes "the PATH of a node, or 'PATH NAME' of a property"
words_before_names takes.NewValue = codes "'PATH NAME', 'PATH NAME VALUE' or 'FIELD VALUE'"
words_before_names takes.NewPayload = codes "IMAGE=@FILE"
words_before_names takes.LeftOut = codes "time, signatures, a PATH, or 'PATH NAME' of a property"
words_before_names takes.Configuration =
    codes "NAME:KEY=IMAGE, a new NAME and names of images that are built"
words_before_names takes.OwnText = codes "NAME:TEXT, the NAME of what the TEXT is for"

abbrev pub words_after_names : Takes → List ℕ
words_after_names (takes.Code field) = codes ", or a number of at most 255"
words_after_names other = []
