use Rattle.std.proofs.Common.{◌≡◌, ℕ, ◌<◌, ◌^◌, false, List, [], ◌∷◌, bytes_eq, codes, flat_map, map, Option, None, Some, refl, sym}
use Rattle.std.proofs.Common.{ap, ap₂, ◌∙◌}
use Rattle.std.proofs.Common.{append-nil, rules}
use Rattle.std.specs.Prelude.{⊤}
use Rattle.std.specs.List.{AllByRecursion}
use Rattle.std.proofs.lemmas.Fmt.{decimal_injective}
use Rattle.bi_base.proofs.EqualBytes.{other_bytes}
use Rattle.bi_blob.specs.Blob.{Reservation, IsReservation}
use Rattle.bi_blob.specs.Tree.{IsChildName, Property}
use Rattle.bi_common.specs.CommonLines.{reservation_line}
use Rattle.bi_common.specs.Lines.{Line, Decimal, Name, Path, Text, Value, field_texts}
use Rattle.bi_common.specs.Shown.{Words}
use Rattle.bi_common.specs.ValueTexts.{value_words}
use Rattle.bi_common.proofs.ReadableWords.Cuts.{first_same, later_same}
use Rattle.bi_common.proofs.ReadableWords.Lines.{CanReadLine}
use Rattle.bi_common.proofs.ReadableWords.Numbers.{same_hexadecimal_64}
use Rattle.bi_common.proofs.ReadableWords.QuotedValues.{same_value}
use Rattle.bi_common.proofs.ReadableWords.ShownNames.{same_digits, same_shown}
use Rattle.bi_describe.specs.Descriptions.{PayloadDigest, digest_words, node_line, payload_words, property_line}
use Rattle.bi_describe.proofs.ReadableDescriptions.Paths.{same_path}

-- What each line of a flattened image tree shows is read back from its words.

pub data Item : Type 0 where
  KindItem : Item
  ProcessorItem : (cpu : ℕ) → Item
  ReservationItem : Reservation → Item
  NodeItem : (names : List (List ℕ)) → Item
  PayloadItem : (names : List (List ℕ)) → Option PayloadDigest → Item
  PropertyItem : (names : List (List ℕ)) → Property → Item

abbrev pub item_line : Item → Line
item_line KindItem = Text (codes "kind") ∷ Text (codes "fit") ∷ []
item_line (ProcessorItem cpu) = Text (codes "boot-cpu") ∷ Decimal cpu ∷ []
item_line (ReservationItem reservation) = reservation_line reservation
item_line (NodeItem names) = node_line names
item_line (PayloadItem names payload) = Text (codes "payload") ∷ Path names ∷ payload_words payload
item_line (PropertyItem names property) = property_line names property

-- Its words can be read back from its text.
pub item_can : (item : Item) → CanReadLine (item_line item)
item_can KindItem = (refl, (refl, tt))
item_can (ProcessorItem cpu) = (refl, (tt, tt))
item_can (ReservationItem reservation) = (refl, (tt, (tt, tt)))
item_can (NodeItem names) = (refl, (tt, tt))
item_can (PayloadItem names None) = (refl, (tt, (refl, tt)))
item_can (PayloadItem names (Some digest)) = (refl, (tt, (refl, (tt, (refl, (tt, tt))))))
item_can (PropertyItem names property) = (refl, (tt, (tt, (tt, tt))))

-- The size of a payload, if there is one, is a number of 64 bits.
abbrev pub IsSmall : Option PayloadDigest → Type 0
IsSmall None = ⊤
IsSmall (Some digest) = digest.size < 2 ^ 64

-- What a file can have.
abbrev pub CanBeRead : Item → Type 0
CanBeRead KindItem = ⊤
CanBeRead (ProcessorItem cpu) = cpu < 2 ^ 64
CanBeRead (ReservationItem reservation) = IsReservation reservation
CanBeRead (NodeItem names) = AllByRecursion IsChildName names
CanBeRead (PayloadItem names payload) = AllByRecursion IsChildName names × IsSmall payload
CanBeRead (PropertyItem names property) = AllByRecursion IsChildName names

abbrev words : Item → Words
words item = flat_map field_texts (item_line item)

-- Lines that begin with different words differ.
apart : (a b : List ℕ) (one other : Words) → bytes_eq a b ≡ false → a ∷ one ≡ b ∷ other → ⊥
apart a b one other differ same = other_bytes a b differ (first_same same)

pub same_digest : (one other : PayloadDigest) → one.size < 2 ^ 64 → other.size < 2 ^ 64 →
    flat_map field_texts (digest_words one) ≡ flat_map field_texts (digest_words other) → one ≡ other
same_digest one other small also same =
    let sizes = decimal_injective one.size other.size small also (first_same (later_same same)) in
    let digests = same_digits false one.sha256 other.sha256 (first_same (later_same (later_same (later_same same)))) in
    ap₂ (λ size sha256. record { size = size; sha256 = sha256 }) sizes digests

same_payload : (one other : Option PayloadDigest) → IsSmall one → IsSmall other →
    flat_map field_texts (payload_words one) ≡ flat_map field_texts (payload_words other) → one ≡ other
same_payload None None small also same = refl
same_payload None (Some digest) small also same = absurd (apart (codes "none") (codes "size") _ _ refl same)
same_payload (Some digest) None small also same = absurd (apart (codes "size") (codes "none") _ _ refl same)
same_payload (Some one) (Some other) small also same = ap Some (same_digest one other small also same)

same_property : (one other : Property) → flat_map field_texts (Name one.0 ∷ Value one.1 ∷ [])
    ≡ flat_map field_texts (Name other.0 ∷ Value other.1 ∷ []) → one ≡ other
same_property one other same =
    let names = same_shown one.0 other.0 (first_same same) in
    let values = same_value one.1 other.1 (sym (append-nil (value_words one.1)) ∙ later_same same ∙ append-nil (value_words other.1)) in
    ap₂ (λ name value. (name, value)) names values

same_reservation : (one other : Reservation) → IsReservation one → IsReservation other →
    words (ReservationItem one) ≡ words (ReservationItem other) →
    one ≡ other
same_reservation one other is also same = search (rules, later_same, same_hexadecimal_64, first_same)

-- The first word of an item.
abbrev first_word : Item → List ℕ
first_word KindItem = codes "kind"
first_word (ProcessorItem cpu) = codes "boot-cpu"
first_word (ReservationItem reservation) = codes "reservation"
first_word (NodeItem names) = codes "node"
first_word (PayloadItem names payload) = codes "payload"
first_word (PropertyItem names property) = codes "property"

-- Items with the same words are the same.
pub same_item : (one other : Item) → CanBeRead one → CanBeRead other → words one ≡ words other → one ≡ other
same_item KindItem KindItem is also same = refl
same_item (ProcessorItem a) (ProcessorItem b) is also same = ap ProcessorItem (decimal_injective a b is also (first_same (later_same same)))
same_item (ReservationItem a) (ReservationItem b) is also same = ap ReservationItem (same_reservation a b is also same)
same_item (NodeItem a) (NodeItem b) is also same = ap NodeItem (same_path a b is also (first_same (later_same same)))
same_item (PayloadItem a p) (PayloadItem b q) is also same =
    ap₂ PayloadItem (same_path a b is.0 also.0 (first_same (later_same same)))
    (same_payload p q is.1 also.1 (later_same (later_same same)))
same_item (PropertyItem a p) (PropertyItem b q) is also same =
    ap₂ PropertyItem (same_path a b is also (first_same (later_same same))) (same_property p q (later_same (later_same same)))
same_item one other is also same = absurd (other_bytes (first_word one) (first_word other) refl (first_same same))

-- So are lists of them.
pub same_items : (one other : List Item) → AllByRecursion CanBeRead one → AllByRecursion CanBeRead other →
    map (flat_map field_texts) (map item_line one) ≡ map (flat_map field_texts) (map item_line other) → one ≡ other
same_items [] [] are also same = refl
same_items [] (b ∷ other) are also same = absurd cc
same_items (a ∷ one) [] are also same = absurd cc
same_items (a ∷ one) (b ∷ other) are also same =
    ap₂ (λ (item : Item) later. item ∷ later) (same_item a b are.0 also.0 (first_same same))
    (same_items one other are.1 also.1 (later_same same))
