use Rattle.std.proofs.Common.{◌≡◌, ◌+◌, ◌-◌, ℕ, List, length, Option, Some, sym, ap, subst}
use Rattle.std.specs.Option.{option_map}
use Rattle.bi_fit.specs.declared.comparing.region_pairs.RegionPair.{RegionPair}
use Rattle.bi_fit.specs.Content.{offset_of_place}
use Rattle.bi_fit.specs.Payloads.{IsAtPlace}
use Rattle.bi_fit.specs.RegionPairs.{IsPairOfPayloads}
use Rattle.bi_fit.proofs.RegionPairs.{pair_of_two, is_at_offset}
use Rattle.bi_fit.proofs.comparing.payloads.pair_of_payloads.Goals as goal

pub returns-else-payload-other_payload : goal.returns-else-payload-other_payload
returns-else-payload-other_payload c =
    let file = c.args.file.now in
    let other = c.args.other_file.now in
    let begin = c.begin_of-begin.result in
    let other_begin = c.begin_of.result in
    let payload = c.in-Some-Some.payload.now in
    let other_payload = c.in-Some-Some.other_payload.now in
    let is_payload : option_map (λ payload. payload.now) c.args.image.now.payload
    ≡ Some payload = ap (option_map (λ payload. payload.now)) c.in-Some-Some.is-0 in
    let is_other : option_map (λ payload. payload.now) c.args.other.now.payload
    ≡ Some other_payload = ap (option_map (λ payload. payload.now)) c.in-Some-Some.is-1 in
    let pair : RegionPair = record { distance = other_begin + length file - begin; begin = begin; end = begin + length payload } in
    let here = is_at_offset file c.args.image.now.place payload begin
    (subst (IsAtPlace file (offset_of_place c.args.image.now.place)) is_payload c.requires.placed) c.begin_of-begin.ensures.offset in
    let there = is_at_offset other c.args.other.now.place other_payload other_begin
    (subst (IsAtPlace other (offset_of_place c.args.other.now.place)) is_other c.requires.other_placed) c.begin_of.ensures.offset in
    subst (λ (one : Option (List ℕ)). IsPairOfPayloads file other one
    (option_map (λ payload. payload.now) c.args.other.now.payload) pair) (sym is_payload)
    (subst (λ (two : Option (List ℕ)). IsPairOfPayloads file other (Some payload) two pair) (sym is_other)
    (pair_of_two file other begin other_begin payload other_payload here there c.if-payload-other_payload.false))
