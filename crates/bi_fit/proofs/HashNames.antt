use Rattle.std.proofs.Common.{◌≡◌, ℕ, ◌+◌, ◌<◌, ◌≤◌, ◌^◌, ◌%◌, List, [], ◌∷◌, length, codes, arith, rules}
use Rattle.std.specs.Fmt.{decimal}
use Rattle.std.specs.List.{AllByRecursion}
use Rattle.std.proofs.lemmas.Fmt.{decimal_injective, decimal_by_steps}
use Rattle.std.proofs.lemmas.List.{append_cancel_left}
use Rattle.bi_base.specs.Cells.{AreBytes}
use Rattle.bi_base.proofs.ByteLists.{AreBytes-none, AreBytes-cons, AreBytes-append}
use Rattle.bi_base.proofs.ListMembers.{each-append, each-weaker}
use Rattle.bi_blob.specs.Tree.{names, IsChildName, IsNew}
use Rattle.bi_hash.specs.declared.algo.Algo.{Algo}
use Rattle.bi_fit.specs.Building.{hash_node_name, built_hash_nodes}
use Rattle.bi_fit.proofs.TreeContents.{tested_name}

-- The names of hash nodes are names of nodes, and no two of them are the same.

-- A decimal digit.
abbrev IsDecimalDigit : ℕ → Type 0
IsDecimalDigit byte = (48 ≤ byte) × (byte < 58)

-- A number is written in decimal digits.
decimal_digits : (number : ℕ) → number < 2 ^ 64 → AllByRecursion IsDecimalDigit (decimal number)
decimal_digits number fits =
    decimal_by_steps (λ n digits. AllByRecursion IsDecimalDigit digits)
    (λ n small. ((omega arith, omega (arith, small)), tt))
    (λ n digits most are. each-append IsDecimalDigit digits ((48 + n % 10) ∷ []) are ((omega arith, omega arith), tt))
    number fits

-- Digits are bytes.
digits_are_bytes : (digits : List ℕ) → AllByRecursion IsDecimalDigit digits → AreBytes digits
digits_are_bytes [] are = AreBytes-none
digits_are_bytes (digit ∷ later) are = search (rules, AreBytes-cons, digits_are_bytes later are.1)

-- The name of a hash node is bytes,
pub bytes-hash_node_name : (number : ℕ) → number < 2 ^ 64 → AreBytes (hash_node_name number)
bytes-hash_node_name number fits = search (rules, AreBytes-append, tested_name, digits_are_bytes, decimal_digits)

-- and may be that of a child.
pub hash_node_name_is_child : (number : ℕ) → number < 2 ^ 64 → IsChildName (hash_node_name number)
hash_node_name_is_child number fits = search (rules, each-append, tested_name, each-weaker, decimal_digits)

-- Hash nodes with the same name have the same number.
same_number : (one other : ℕ) → one < 2 ^ 64 → other < 2 ^ 64 → hash_node_name one ≡ hash_node_name other → one ≡ other
same_number one other fits also same =
    decimal_injective one other fits also (append_cancel_left (codes "hash-") (decimal one) (decimal other) same)

-- Hash nodes with later numbers have other names.
pub new_hash_node_name : (number start : ℕ) (algorithms : List Algo) (payload : List ℕ) → number < start →
    start + length algorithms ≤ 2 ^ 64 → IsNew (hash_node_name number) (names (built_hash_nodes start algorithms payload))
new_hash_node_name number start [] payload before fits = tt
new_hash_node_name number start (algo ∷ later) payload before fits = (
  λ same. let is = same_number start number (omega arith) (omega arith) same in omega (arith, is),
  new_hash_node_name number (start + 1) later payload (omega arith) (omega arith),
)
