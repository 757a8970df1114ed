use Rattle.std.specs.Prelude.{◌≡◌, ℕ, ◌<◌, ◌≤◌, List, length}
use Rattle.bi_base.specs.declared.fault.Fault.{Fault}
use Rattle.bi_base.specs.Limits.{Limits}
use Rattle.bi_base.specs.Reading.{too_large}
use Rattle.bi_blob.specs.Tree.{Root, PropertyMap, depth_of}
use Rattle.bi_blob.specs.Blob.{Reservation}
use Rattle.bi_blob.specs.Events.{events_of}
use Rattle.bi_blob.specs.Following.{most_open_nodes, stage_of_events}
use Rattle.bi_blob.specs.Layout.{IsContent, in_byte_order, text_of_tree}
use Rattle.bi_blob.specs.Stages.{AfterRoot}
use Rattle.bi_lay.specs.Contents.{Doc}

-- The text of a plain tree (profile of this project).

-- The normal text of a boot processor, memory reservations and a tree.
abbrev pub plain_text : (cpu : ℕ) → List Reservation → Root PropertyMap → List ℕ
plain_text cpu reservations root = text_of_tree 4 cpu reservations (in_byte_order root)

-- They can be laid out, and no more nodes are inside one another than may be open at once.
pub record HasPlainText (cpu : ℕ) (reservations : List Reservation) (root : Root PropertyMap)
    : Type 0 where
  pub is_content : IsContent cpu reservations (in_byte_order root)
  pub shallow : depth_of root ≤ most_open_nodes

-- The fault of a text that is longer than the limit.
abbrev pub IsPlainTextFault : Limits → ℕ → List Reservation → Root PropertyMap → Fault → Type 0
IsPlainTextFault limits cpu reservations root fault =
    (fault ≡ too_large limits.file) × (limits.file < length (plain_text cpu reservations root))

-- The document of these: it holds them, and its root has ended.
pub record IsPlainDoc (boot_cpu : ℕ) (reserved : List Reservation) (root : Root PropertyMap)
    (document : Doc) : Type 0 where
  pub cpu : document.boot_cpu ≡ boot_cpu
  pub reservations : document.reservations ≡ reserved
  pub events : document.events ≡ events_of (in_byte_order root)
  pub closed : stage_of_events document.events ≡ AfterRoot
