use Rattle.std.proofs.Common.{◌≡◌, ap, ◌∙◌, arith, length}
use Rattle.bi_fdt.specs.Content.{Blob}
use Rattle.bi_show.proofs.LayoutFacts.{reservations_in_file, size_of_reservations}
use Rattle.bi_show.proofs.show.layout.fit.reservations_size.Goals as goal

pub overflow_add-result : goal.overflow_add-result
overflow_add-result c =
    let reservations = c.args.fit.now.blob.reservations in
    let many : c.reservation_count.result ≡ length reservations =
    c.reservation_count.ensures ∙ ap (λ (blob : Blob). length blob.reservations) c.blob.ensures in
    omega (arith, many, c.requires.held.short, reservations_in_file _ _ reservations _ c.requires.held.is_blob)

pub overflow_mul-result : goal.overflow_mul-result
overflow_mul-result c =
    let reservations = c.args.fit.now.blob.reservations in
    let many : c.reservation_count.result ≡ length reservations =
    c.reservation_count.ensures ∙ ap (λ (blob : Blob). length blob.reservations) c.blob.ensures in
    omega (arith, many, c.requires.held.short, reservations_in_file _ _ reservations _ c.requires.held.is_blob)

pub returns-clause-size : goal.returns-clause-size
returns-clause-size c =
    let reservations = c.args.fit.now.blob.reservations in
    let many : c.reservation_count.result ≡ length reservations =
    c.reservation_count.ensures ∙ ap (λ (blob : Blob). length blob.reservations) c.blob.ensures in
    omega (arith, many, size_of_reservations reservations)

pub returns-clause-small : goal.returns-clause-small
returns-clause-small c =
    let reservations = c.args.fit.now.blob.reservations in
    let many : c.reservation_count.result ≡ length reservations =
    c.reservation_count.ensures ∙ ap (λ (blob : Blob). length blob.reservations) c.blob.ensures in
    omega (arith, many, c.requires.held.short, reservations_in_file _ _ reservations _ c.requires.held.is_blob)
