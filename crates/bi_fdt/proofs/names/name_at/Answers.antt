use Rattle.std.proofs.Common.{rules, ◌≡◌, ◌≢◌, tests, subst}
use Rattle.std.proofs.lemmas.Iterator.{IsFirst-from_position, YieldsList-from_slice}
use Rattle.bi_fdt.proofs.FirstZero.{IsFirstZero, name_found, no_name_found, no_zero_in_name}
use Rattle.bi_fdt.proofs.names.name_at.Goals as goal

pub returns-in_err-length-clause-some : goal.returns-in_err-length-clause-some
returns-in_err-length-clause-some c =
    let first = IsFirst-from_position _ _ _ (λ byte. byte ≡ 0) (λ byte. byte ≢ 0) c.position.ensures.ran
    (YieldsList-from_slice c.in_ok-rest.rest.now cc) (λ x q k. search (rules, tests)) (λ x q k. search (rules, tests)) in
    let rest = c.in_ok-rest.ensures.lookup.0 in (
      λ some. search rules,
      λ has. absurd (no_name_found c.args.bytes.now c.in_ok-rest.rest.now c.args.at c.args.end rest.1 rest.0 rest.2
          (subst (IsFirstZero c.in_ok-rest.rest.now) c.in_err-length.was first) has),
    )

pub returns-clause-some : goal.returns-clause-some
returns-clause-some c =
    let first = IsFirst-from_position _ _ _ (λ byte. byte ≡ 0) (λ byte. byte ≢ 0) c.position.ensures.ran
    (YieldsList-from_slice c.in_ok-rest.rest.now cc) (λ x q k. search (rules, tests)) (λ x q k. search (rules, tests)) in
    let rest = c.in_ok-rest.ensures.lookup.0 in (
      λ _. (name_found c.args.bytes.now c.in_ok-rest.rest.now c.args.at c.args.end c.in_ok-length.length rest.1 rest.0 rest.2
          (subst (IsFirstZero c.in_ok-rest.rest.now) c.in_ok-length.was first)).0,
      λ _. search rules,
    )

pub returns-clause-value : goal.returns-clause-value
returns-clause-value c =
    let first = IsFirst-from_position _ _ _ (λ byte. byte ≡ 0) (λ byte. byte ≢ 0) c.position.ensures.ran
    (YieldsList-from_slice c.in_ok-rest.rest.now cc) (λ x q k. search (rules, tests)) (λ x q k. search (rules, tests)) in
    let rest = c.in_ok-rest.ensures.lookup.0 in
    (name_found c.args.bytes.now c.in_ok-rest.rest.now c.args.at c.args.end c.in_ok-length.length rest.1 rest.0 rest.2
    (subst (IsFirstZero c.in_ok-rest.rest.now) c.in_ok-length.was first)).1

pub returns-clause-no_zero : goal.returns-clause-no_zero
returns-clause-no_zero c = no_zero_in_name c.args.bytes.now _ c.args.at (returns-clause-value c)
