use Rattle.std.specs.Prelude.{ℕ, List, map, Vec}
use Rattle.std.specs.declared.alloc.Global.{Global}
use Rattle.bi_values.specs.ValueNames.{names_of_path}
use Rattle.bi_describe.specs.declared.ignored.Ignored.{Ignored as MadeWord}
use Rattle.bi_describe.specs.declared.ignored.Ignored.TheVariants as word
use Rattle.bi_describe.specs.declared.ignored.NodePlace.{NodePlace as MadePlace}
use Rattle.bi_describe.specs.declared.ignored.PayloadPlace.{PayloadPlace as MadePayload}
use Rattle.bi_describe.specs.declared.ignored.PayloadPlace.TheVariants as payload
use Rattle.bi_describe.specs.declared.ignored.TreePlace.{TreePlace as MadeTree}
use Rattle.bi_describe.specs.declared.ignored.TreePlace.TheVariants as tree
use Rattle.bi_describe.specs.Ignoring.{Ignored, IgnoredTime, IgnoredSignatures, IgnoredNode}
use Rattle.bi_describe.specs.Ignoring.{IgnoredProperty, IgnoredPart, NodePlace, PayloadPlace}
use Rattle.bi_describe.specs.Ignoring.{OfImageNamed, OfPart, TreePlace, Itself, Inside}

-- What is left out, as the code has it.

abbrev pub place_of_payload : MadePayload → PayloadPlace
place_of_payload (payload.Image name) = OfImageNamed name.items
place_of_payload (payload.Part index) = OfPart index

abbrev pub tree_place : MadeTree → TreePlace
tree_place tree.Itself = Itself
tree_place (tree.Inside payload) = Inside (place_of_payload payload)

abbrev pub node_place : MadePlace → NodePlace
node_place place =
    record { tree = tree_place place.tree; names = names_of_path place.names.items }

abbrev pub ignored_word : MadeWord → Ignored
ignored_word word.Time = IgnoredTime
ignored_word word.Signatures = IgnoredSignatures
ignored_word (word.Node place) = IgnoredNode (node_place place)
ignored_word (word.Property place name) = IgnoredProperty (node_place place) name.items
ignored_word (word.Part index) = IgnoredPart index

abbrev pub ignored_words : List MadeWord → List Ignored
ignored_words words = map ignored_word words
