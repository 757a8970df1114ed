use Rattle.std.proofs.Common.{◌≡◌, ℕ, zero, suc, ◌+◌, ◌-◌, ◌*◌, ◌/◌, ◌%◌, ◌<◌, ◌≤◌, List, [], ◌∷◌, ◌++◌, length, take, drop, Some, rules}
use Rattle.std.proofs.Common.{slice_get}
use Rattle.std.proofs.Common.{slice_index_or}
use Rattle.std.proofs.Math.Nat.{eq-or-lt_of_le}
use Rattle.std.proofs.Common.{sym, ap, subst, ◌∙◌, arith}
use Rattle.std.proofs.lemmas.List.{length-drop, take-append-drop, drop_all, get_or_append_left, get_or-append_right}
use Rattle.std.proofs.lemmas.Option.{some_pair_parts, slice_get_within}
use Rattle.bi_blob.specs.Tokens.{name_from}
use Rattle.bi_fdt.specs.NameParts.{NamePart, AreOnce}
use Rattle.bi_fdt.specs.Numbers.{BeginsWith}
use Rattle.bi_fdt.specs.NameTails.{AreBlocksNumbered, AreAllBlocks, IsTail, IsHead, head_length}
use Rattle.bi_fdt.proofs.NameEnds.{drop_again}
use Rattle.bi_fdt.proofs.NameParts.{slice_get-begin}

-- A name is known from its head and the number of its tail, and they are known from it.

-- The number of the last blocks of a name remains when parts are added.
pub AreBlocksNumbered-more : (old new : List NamePart) → BeginsWith new old → (count number : ℕ) (name : List ℕ) →
    AreBlocksNumbered old count number name →
    AreBlocksNumbered new count number name
AreBlocksNumbered-more old new begins zero number name is = is
AreBlocksNumbered-more old new begins (suc count) number name is =
    search (rules, slice_get-begin, AreBlocksNumbered-more old new begins count is.0 name is.3)

pub IsTail-kept : (old new : List NamePart) → BeginsWith new old → (number : ℕ) (name : List ℕ) → IsTail old number name →
    IsTail new number name
IsTail-kept old new begins number name is = AreBlocksNumbered-more old new begins (length name / 64 - 1) number name is

pub AreAllBlocks-kept : (old new : List NamePart) → BeginsWith new old → (number : ℕ) (name : List ℕ) → AreAllBlocks old number name →
    AreAllBlocks new number name
AreAllBlocks-kept old new begins number name is = AreBlocksNumbered-more old new begins (length name / 64) number name is

-- The block that begins this many bytes before the end of a name is that of a later end of it.
block_later : (skipped size : ℕ) (name : List ℕ) → size + skipped ≤ length name →
    take 64 (drop (length (drop skipped name) - size) (drop skipped name)) ≡ take 64 (drop (length name - size) name)
block_later skipped size name within = search (rules, length-drop, drop_again)

-- The last blocks of a name are those of a later end of it.
pub AreBlocksNumbered-later : (tails : List NamePart) (count skipped number : ℕ) (name : List ℕ) → 64 * count + skipped ≤ length name →
    AreBlocksNumbered tails count number (drop skipped name) → AreBlocksNumbered tails count number name
AreBlocksNumbered-later tails zero skipped number name within is = is
AreBlocksNumbered-later tails (suc count) skipped number name within is =
    search (rules, block_later, AreBlocksNumbered-later tails count skipped is.0 name (omega arith) is.3)

-- The number of last blocks is none of a later part.
pub blocks_number_within : (tails : List NamePart) (count number : ℕ) (name : List ℕ) → AreBlocksNumbered tails count number name →
    number ≤ length tails
blocks_number_within tails zero number name is = omega (arith, is)
blocks_number_within tails (suc count) number name is = search (rules, slice_get_within)

-- Some last blocks have one number.
pub one_number : (tails : List NamePart) → AreOnce tails → (count m n : ℕ) (name : List ℕ) → AreBlocksNumbered tails count m name →
    AreBlocksNumbered tails count n name → m ≡ n
one_number tails once zero m n name is other = is ∙ sym other
one_number tails once (suc count) m n name is other = search (rules, one_number tails once count is.0 other.0 name is.3 other.3)

-- The end of a name that is one block longer.
longer_end : (name : List ℕ) (count : ℕ) → 64 * (count + 1) ≤ length name →
    drop (length name - 64 * (count + 1)) name
    ≡ take 64 (drop (length name - 64 * (count + 1)) name) ++ drop (length name - 64 * count) name
longer_end name count within =
    let at : length name - 64 * (count + 1) + 64 ≡ length name - 64 * count = omega arith in
    sym (take-append-drop 64 (drop (length name - 64 * (count + 1)) name))
    ∙ ap (λ l. take 64 (drop (length name - 64 * (count + 1)) name) ++ l)
    (drop_again (length name - 64 * (count + 1)) 64 name ∙ ap (λ k. drop k name) at)

-- Last blocks of two names that have one number are the same.
same_blocks : (tails : List NamePart) (m n number : ℕ) (a b : List ℕ) → 64 * m ≤ length a → 64 * n ≤ length b →
    AreBlocksNumbered tails m number a →
    AreBlocksNumbered tails n number b → drop (length a - 64 * m) a ≡ drop (length b - 64 * n) b
same_blocks tails zero zero number a b m_within n_within is other = search (rules, drop_all)
same_blocks tails zero (suc n) number a b m_within n_within is other = let some : 1 ≤ number = other.1 in absurd (omega arith)
same_blocks tails (suc m) zero number a b m_within n_within is other = let some : 1 ≤ number = is.1 in absurd (omega arith)
same_blocks tails (suc m) (suc n) number a b m_within n_within is other =
    search (rules, some_pair_parts, longer_end, same_blocks tails m n is.0 a b (omega arith) (omega arith) is.3)

-- Names that have one head, and tails of one number, are one name.
pub same_name_of_head : (tails : List NamePart) (part : NamePart) (a b : List ℕ) → IsHead tails part a → IsHead tails part b → a ≡ b
same_name_of_head tails part a b is other =
    let head : take (head_length a) a ≡ take (head_length b) b = sym is.head ∙ other.head in
    let tail : drop (head_length a) a ≡ drop (head_length b) b =
    same_blocks tails (length a / 64 - 1) (length b / 64 - 1) part.0 a b (omega arith) (omega arith) is.tail other.tail in
    sym (take-append-drop (head_length a) a) ∙ (λ i. head i ++ tail i) ∙ take-append-drop (head_length b) b

-- A name has one head, and its tail one number.
pub one_head : (tails : List NamePart) → AreOnce tails → (p q : NamePart) (name : List ℕ) → IsHead tails p name → IsHead tails q name →
    p ≡ q
one_head tails once p q name is other = search (rules, one_number)

-- A name of less than 64 bytes ends with no block.
pub AreAllBlocks-none : (tails : List NamePart) (name : List ℕ) → length name < 64 → AreAllBlocks tails 0 name
AreAllBlocks-none tails name short = search rules

-- The tail of a name of less than 128 bytes is empty.
pub IsTail-short : (tails : List NamePart) (name : List ℕ) → length name < 128 → IsTail tails 0 name
IsTail-short tails name short = search rules

-- The tail of a name is all blocks of an end of it that has a block less.
pub IsTail-later : (tails : List NamePart) (skipped number : ℕ) (name : List ℕ) → skipped ≤ length name →
    (length name - skipped) / 64 ≡ length name / 64 - 1 →
    AreAllBlocks tails number (drop skipped name) → IsTail tails number name
IsTail-later tails skipped number name within less is = search (rules, AreBlocksNumbered-later, length-drop)

-- All blocks of a name are the first, and all blocks of the name 64 bytes later.
pub AreAllBlocks-more : (old new : List NamePart) (begin size later index : ℕ) (name : List ℕ) → 64 ≤ length name →
    begin ≡ length name % 64 → size ≡ 64 → BeginsWith new old →
    slice_get new index ≡ Some (later, take size (drop begin name)) → AreAllBlocks old later (drop 64 name) →
    AreAllBlocks new (index + 1) name
AreAllBlocks-more old new begin size later index name long at whole begins is_at is =
    let count : ℕ = length name / 64 - 1 in
    let one_more : suc count ≡ length name / 64 = omega arith in
    let fewer : (length name - 64) / 64 ≡ count = omega arith in
    let first : begin ≡ length name - 64 * (count + 1) = omega arith in
    let blocks : AreBlocksNumbered old count later name =
    AreBlocksNumbered-later old count 64 later name (omega arith)
    (subst (λ n. AreBlocksNumbered old n later (drop 64 name)) (ap (λ n. n / 64) (length-drop 64 name) ∙ fewer) is) in
    let index_is : index + 1 - 1 ≡ index = omega arith in
    let block : slice_get new (index + 1 - 1) ≡ Some (later, take 64 (drop (length name - 64 * (count + 1)) name)) =
    ap (slice_get new) index_is ∙ is_at ∙ (λ i. Some (later, take (whole i) (drop (first i) name))) in
    subst (λ n. AreBlocksNumbered new n (index + 1) name) one_more
    (later, omega arith, block, AreBlocksNumbered-more old new begins count later name blocks)

-- One more number, of the blocks of the name at a lower multiple of 64.
pub blocks_more : (old new : List NamePart) (strings numbers more : List ℕ) (count n number : ℕ) → BeginsWith new old → length numbers ≡ n
    → ((index : ℕ) (d : ℕ) → index < n → AreAllBlocks old (slice_index_or numbers index d) (name_from strings (64 * (count - 1 - index))))
    → AreAllBlocks new number (name_from strings (64 * (count - 1 - n))) → more ≡ numbers ++ number ∷ []
    → (index : ℕ) (d : ℕ) → index < n + 1 → AreAllBlocks new (slice_index_or more index d) (name_from strings (64 * (count - 1 - index)))
blocks_more old new strings numbers more count n number begins long each is pushed index d within =
    search (rules, eq-or-lt_of_le, get_or-append_right, get_or_append_left, AreAllBlocks-kept)
