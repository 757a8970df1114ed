use Rattle.std.specs.Prelude.{List, [], ◌∷◌, ◌++◌, codes, flat_map, option_map}
use Rattle.bi_common.specs.CommonLines.{name_member}
use Rattle.bi_common.specs.JsonTokens.{JsonToken, BeginArray, EndArray, BeginObject, EndObject}
use Rattle.bi_common.specs.JsonTokens.{MemberName, json_tokens, member_tokens, one}
use Rattle.bi_describe.specs.DescriptionJson.{payload_or_null, property_object}
use Rattle.bi_describe.specs.Descriptions.{digest_of_payload}
use Rattle.bi_describe.specs.TreeEntries.{EntryModel, NodeBegins, NodeEnds, PayloadEntry}
use Rattle.bi_describe.specs.TreeEntries.{PropertiesBegin, PropertyEntry, ChildrenBegin}

-- The JSON of a tree as a flat list: the tokens of each of its entries.

-- The tokens of an entry.
abbrev pub entry_tokens : EntryModel → List JsonToken
entry_tokens (NodeBegins name) =
    one BeginObject ++ member_tokens (name_member (codes "name") name ∷ [])
entry_tokens NodeEnds = one EndArray ++ one EndObject
entry_tokens (PayloadEntry payload) =
    member_tokens
    ((codes "payload", payload_or_null (option_map digest_of_payload payload)) ∷ [])
entry_tokens PropertiesBegin = one (MemberName (codes "properties")) ++ one BeginArray
entry_tokens (PropertyEntry property) = json_tokens (property_object property)
entry_tokens ChildrenBegin =
    one EndArray ++ (one (MemberName (codes "children")) ++ one BeginArray)

-- The tokens of the root of a tree with these entries.
abbrev pub root_tokens : List EntryModel → List JsonToken
root_tokens entries =
    one (MemberName (codes "root"))
    ++ (one BeginObject ++ (flat_map entry_tokens entries ++ entry_tokens NodeEnds))
