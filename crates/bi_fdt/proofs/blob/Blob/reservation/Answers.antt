use Rattle.std.proofs.Common.{◌≡◌, ℕ, ◌+◌, ◌*◌, map, slice_get, Some, sym, ap, ◌∙◌, arith}
use Rattle.bi_base.specs.Cells.{u64_at}
use Rattle.bi_blob.specs.Blob.{off_mem_rsvmap}
use Rattle.bi_fdt.proofs.BlobViews.{numbers, reservation_at, no_reservation_at}
use Rattle.bi_fdt.proofs.blob.Blob.reservation.Goals as goal

pub returns-then-index-self : goal.returns-then-index-self
returns-then-index-self c =
    let blob = c.self.inside in
    sym (no_reservation_at blob.file.now (off_mem_rsvmap blob.file.now) blob.reservation_count c.args.index (omega arith))
    ∙ ap (λ content. slice_get (map numbers content.reservations) c.args.index) c.self.view_is

pub returns : goal.returns
returns c =
    let blob = c.self.inside in
    let place : ℕ = off_mem_rsvmap blob.file.now + 16 * c.args.index in
    let at : c.off_mem_rsvmap.result + 16 * c.args.index ≡ place = ap (λ n. n + 16 * c.args.index) c.off_mem_rsvmap.ensures in
    let address : c.two_cells_at.result ≡ u64_at blob.file.now place = c.two_cells_at.ensures ∙ ap (u64_at blob.file.now) at in
    let size : c.two_cells_at-2.result ≡ u64_at blob.file.now (place + 8) = c.two_cells_at-2.ensures
    ∙ ap (λ n. u64_at blob.file.now (n + 8)) at in
    (λ i. Some (address i, size i))
    ∙ sym (reservation_at blob.file.now (off_mem_rsvmap blob.file.now) blob.reservation_count c.args.index (omega arith))
    ∙ ap (λ content. slice_get (map numbers content.reservations) c.args.index) c.self.view_is
