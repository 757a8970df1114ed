use Rattle.std.proofs.Common.{◌≡◌, ◌++◌, List, length, map, sym, ap, ◌∙◌, append-nil, refl}
use Rattle.bi_legacy.specs.PlacedParts.{PartModel}
use Rattle.bi_commands.specs.declared.extract_all.Payload.{Payload}
use Rattle.bi_commands.specs.ExtractingAll.{part_file_name, part_files}
use Rattle.bi_commands.specs.Payloads.{payload_file}
use Rattle.bi_commands.proofs.PayloadFiles.{one_more_part}
use Rattle.bi_commands.proofs.extract_all.payloads_of_legacy.Goals as goal

pub loop-part-init : goal.loop-part-init
loop-part-init c =
    ap (λ (payloads : List Payload). map payload_file payloads
    ++ part_files (length payloads) (map (λ (part : PartModel). part.bytes) c.into_iter-part-iterator.result)) c.new-payloads.ensures.items
    ∙ ap (λ (parts : List PartModel). part_files 0 (map (λ (part : PartModel). part.bytes) parts))
    c.into_iter-part-iterator.ensures.into_iter_gives
    ∙ ap (part_files 0) c.parts-part-items.ensures.bytes

pub loop-part-preserved : goal.loop-part-preserved
loop-part-preserved c =
    let payloads : List Payload = c.loop-part.payloads.items in
    let count : c.len.result ≡ length payloads = c.len.ensures ∙ c.loop-part.payloads.ok.0 in
    one_more_part payloads c.push.new.self.items _ c.in-Some.part.bytes.now (map (λ (part : PartModel). part.bytes) c.next.new.self) _
    c.in_ok-push.ensures.items (c.in_ok-file_name.ensures ∙ ap part_file_name count) refl
    (ap (λ (parts : List PartModel). map payload_file payloads
    ++ part_files (length payloads) (map (λ (part : PartModel). part.bytes) parts)) (sym c.in-Some.ensures.steps)
    ∙ c.loop-part.invariant)

pub returns : goal.returns
returns c =
    let payloads : List Payload = c.loop-part.payloads.items in
    sym (append-nil (map payload_file payloads))
    ∙ ap (λ (parts : List PartModel). map payload_file payloads
    ++ part_files (length payloads) (map (λ (part : PartModel). part.bytes) parts)) (sym c.in-None.ensures.steps.0)
    ∙ c.loop-part.invariant
