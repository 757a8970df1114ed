use Rattle.std.proofs.Common.{◌≡◌, ℕ, List, [], ◌∷◌, map, refl}
use Rattle.std.specs.List.{AllZip}
use Rattle.bi_common.proofs.ReadableWords.ShownNames.{same_shown}
use Rattle.bi_edit.specs.declared.words.PayloadWord.{PayloadWord}
use Rattle.bi_common.specs.Shown.{shown_text}
use Rattle.bi_edit.proofs.PayloadWords.{same_payload_parts}
use Rattle.bootimg.specs.EditOptions.{IsNewPayload}

-- The image that a word gives a payload is the only one.

pub same_payload_image : (word : List ℕ) (one other : PayloadWord) → IsNewPayload word one →
    IsNewPayload word other → one.image ≡ other.image
same_payload_image word one other is also =
    same_shown one.image other.image
    (same_payload_parts word (shown_text other.image) other.file.now also.is also.first one.image one.file.now is).0

pub same_payload_images : (words : List (List ℕ)) (ones others : List PayloadWord) → AllZip IsNewPayload words ones →
    AllZip IsNewPayload words others →
    map (λ (payload : PayloadWord). payload.image) ones ≡ map (λ (payload : PayloadWord). payload.image) others
same_payload_images [] [] [] are also = refl
same_payload_images [] [] (other ∷ others) are also = absurd also
same_payload_images [] (one ∷ ones) others are also = absurd are
same_payload_images (word ∷ words) [] others are also = absurd are
same_payload_images (word ∷ words) (one ∷ ones) [] are also = absurd also
same_payload_images (word ∷ words) (one ∷ ones) (other ∷ others) are also =
    let image = same_payload_image word one other are.0 also.0 in
    let later = same_payload_images words ones others are.1 also.1 in
    (λ i. image i ∷ later i)
