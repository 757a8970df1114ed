use Rattle.std.proofs.Common.{◌≡◌, false}
use Rattle.bi_report.specs.Checking.{nothing_allowed}
use Rattle.bi_report.specs.declared.check.Policy.{Policy}

-- The default policy allows nothing, and does not ask for signatures.

-- What is known of each part of it.
abbrev IsNothing : Policy → Type 0
IsNothing policy =
    ((policy.allowed.bad_hash ≡ false)
    × ((policy.allowed.skipped_hash ≡ false)
    × ((policy.allowed.unhashed ≡ false)
    × ((policy.allowed.weak_hash ≡ false)
    × ((policy.allowed.bad_list ≡ false)
    × ((policy.allowed.missing ≡ false)
    × ((policy.allowed.unsigned ≡ false)
    × ((policy.allowed.no_nodes ≡ false)
    × ((policy.allowed.no_images ≡ false)
    × ((policy.allowed.uncovered ≡ false)
    × ((policy.allowed.foreign ≡ false)
    × ((policy.allowed.strings ≡ false)
    × ((policy.allowed.unit_address ≡ false)
    × ((policy.allowed.bad_default ≡ false)
    × (policy.allowed.trailing ≡ false)))))))))))))))
    × (policy.signed ≡ false)

pub nothing_by_default : (policy : Policy) → IsNothing policy → policy ≡ record { allowed = nothing_allowed; signed = false }
nothing_by_default policy is =
    let none = is.0 in (λ i. record {
      allowed = record {
        bad_hash = none.0 i;
        skipped_hash = none.1.0 i;
        unhashed = none.1.1.0 i;
        weak_hash = none.1.1.1.0 i;
        bad_list = none.1.1.1.1.0 i;
        missing = none.1.1.1.1.1.0 i;
        unsigned = none.1.1.1.1.1.1.0 i;
        no_nodes = none.1.1.1.1.1.1.1.0 i;
        no_images = none.1.1.1.1.1.1.1.1.0 i;
        uncovered = none.1.1.1.1.1.1.1.1.1.0 i;
        foreign = none.1.1.1.1.1.1.1.1.1.1.0 i;
        strings = none.1.1.1.1.1.1.1.1.1.1.1.0 i;
        unit_address = none.1.1.1.1.1.1.1.1.1.1.1.1.0 i;
        bad_default = none.1.1.1.1.1.1.1.1.1.1.1.1.1.0 i;
        trailing = none.1.1.1.1.1.1.1.1.1.1.1.1.1.1 i;
      };
      signed = is.1 i;
    })
