use Rattle.std.proofs.Common.{◌≡◌, ◌<◌, ◌^◌, ap, arith, inl, length, refl, rules, ◌∙◌}
use Rattle.std.proofs.lemmas.List.{length-map}
use Rattle.std.specs.Iterator.Adapters.{enumerate_source, enumerate_count}
use Rattle.bi_legacy.specs.PlacedParts.{PartModel, part_model, placed_parts}
use Rattle.bi_common.specs.LineTokens.{line_tokens, tokens_of_lines}
use Rattle.bi_report.specs.Listing.{listed_part_line, listed_part_lines}
use Rattle.bi_report.proofs.PutInTurn.{put_begins, put_ends, put_goes_on}
use Rattle.bi_report.proofs.list.legacy.put_parts_lines.Goals as goal

pub loop-index-init : goal.loop-index-init
loop-index-init g c =
    let gives = c.into_iter-index-iterator.ensures.into_iter_gives in
    let none : enumerate_count c.into_iter-index-iterator.result ≡ 0 = ap enumerate_count gives ∙ c.enumerate-index-items.ensures.count in
    let all : enumerate_source c.into_iter-index-iterator.result ≡ placed_parts c.args.image.now.image =
    ap enumerate_source gives ∙ c.enumerate-index-items.ensures.source ∙ c.parts.ensures.parts in
    let fits : c.part_count.result < 2 ^ 64 = search rules in
    rw (none, all) record {
      can_next = (
        tt,
        tt,
        inl (omega (
          arith,
          length-map c.parts.result (λ (part : PartModel). part.bytes),
          ap length c.parts.ensures.bytes,
          ap length c.parts.ensures.parts,
          c.part_count.ensures,
          fits,
        )),
      );
      is_finite = tt;
      are_put = put_begins g.L.LinePen.puts g.met.L.LinePen.puts_nothing c.put_line.new.pen _ _ refl;
    }

pub loop-index-preserved : goal.loop-index-preserved
loop-index-preserved g c =
    let steps = c.in-Some.ensures.steps in
    record {
      can_next = search rules;
      is_finite = search rules;
      are_put =
          put_goes_on g.L.LinePen.puts g.met.L.LinePen.puts_in_turn c.put_line.new.pen c.loop-index.pen c.put_part_line.new.pen
          (line_tokens (listed_part_line c.in-Some.index (part_model c.in-Some.part)))
          (tokens_of_lines (listed_part_lines (enumerate_count c.next.new.self) (enumerate_source c.next.new.self))) _ _
          c.loop-index.invariant.are_put (rw (steps.0, steps.1, steps.2) refl) c.put_part_line.ensures;
    }

pub returns : goal.returns
returns g c =
    rw (← c.part_count.ensures) (g.met.L.LinePen.puts_in_turn _ _ _ _ _ c.put_line.ensures
    (put_ends g.L.LinePen.puts c.put_line.new.pen c.loop-index.pen _ _ c.loop-index.invariant.are_put
    (ap (λ parts. tokens_of_lines (listed_part_lines (enumerate_count c.loop-index.index-iterator) parts)) c.in-None.ensures.steps.0.0)))
