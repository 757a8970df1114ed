use Rattle.std.proofs.Common.{◌∷◌, List, codes, map, ap, ◌∙◌}
use Rattle.std.proofs.lemmas.List.{take_all}
use Rattle.bi_fit.specs.declared.key.Key.{Key}
use Rattle.bi_fit.specs.Names.{key_name}
use Rattle.bi_show.proofs.ShownRows.{last_cell}
use Rattle.bi_show.proofs.show.configurations.heading.Goals as goal

pub returns : goal.returns
returns c =
    last_cell c.loop-key.row.items c.push-2.new.self.items c.in_ok-from_str-3.field-0 (codes "configuration" ∷ map key_name c.args.keys.now)
    (codes "compatible") c.in_ok-push-2.ensures.items
    (c.loop-key.invariant
    ∙ ap (λ (keys : List Key). codes "configuration" ∷ map key_name keys)
    (take_all c.loop-key.key-index c.args.keys.now c.loop-key-test.false))
    c.in_ok-from_str-3.ensures.ok
