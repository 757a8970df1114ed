use Rattle.std.specs.Prelude.{ℕ, List, [], ◌∷◌, ◌++◌, codes, option_map}
use Rattle.bi_common.specs.JsonTokens.{JsonToken, member_tokens}
use Rattle.bi_describe.specs.DeepJson.{inside_members}
use Rattle.bi_describe.specs.DescriptionJson.{payload_or_null_with}
use Rattle.bi_describe.specs.Descriptions.{digest_of_payload}
use Rattle.bi_describe.specs.Devicetrees.{Insides}
use Rattle.bi_describe.specs.EntryTokens.{entry_tokens}
use Rattle.bi_describe.specs.Ignoring.{OfImageNamed}
use Rattle.bi_describe.specs.TreeEntries.{EntryModel, NodeBegins, PayloadEntry}

-- The JSON of a tree as a flat list, with what is inside its payloads.

-- The tokens of an entry, if the last node that began has this name.
abbrev pub entry_tokens_with : Insides → (last : List ℕ) → EntryModel → List JsonToken
entry_tokens_with insides last (PayloadEntry payload) =
    member_tokens
    ((
      codes "payload",
      payload_or_null_with (inside_members (insides (OfImageNamed last)))
          (option_map digest_of_payload payload),
    ) ∷ [])
entry_tokens_with insides last entry = entry_tokens entry

-- The name of the last node that began, after an entry.
abbrev pub last_begun : (last : List ℕ) → EntryModel → List ℕ
last_begun last (NodeBegins name) = name
last_begun last entry = last

-- The tokens of entries.
abbrev pub deep_entry_tokens : Insides → (last : List ℕ) → List EntryModel → List JsonToken
deep_entry_tokens insides last [] = []
deep_entry_tokens insides last (entry ∷ later) =
    entry_tokens_with insides last entry
    ++ deep_entry_tokens insides (last_begun last entry) later
