use Rattle.std.proofs.Common.{◌≡◌, ℕ, Bool, true, List, [], ◌∷◌, ◌++◌, Bor, refl, ap, ap₂, sym, ◌∙◌, ◌||◌, map}
use Rattle.std.proofs.lemmas.List.{map_more, take_all}
use Rattle.clap.specs.Words.{with_rule}
use Rattle.clap.specs.Simple.{App, app_of_fields}
use Rattle.bootimg.specs.Program.{command}
use Rattle.bootimg.specs.Table.{rule_of_option}
use Rattle.bootimg.proofs.command_line.table.command.Invariants.{app_of_command}
use Rattle.bootimg.proofs.command_line.table.command.Goals as goal

-- The command with these other names.
abbrev with_aliases : App → List (List ℕ) → App
with_aliases app aliases = record app { top = record app.top { aliases = aliases } }

-- An alias as the code has it, with whether help shows it.
abbrev Alias : Type 0
Alias = Bor (List ℕ) × Bool

-- The names of aliases that are added where there were none.
added_names : (old : List Alias) (names : List (Bor (List ℕ))) → map (λ (alias : Alias). alias.0.now) old ≡ [] →
    map (λ (alias : Alias). alias.0.now) (old ++ map (λ name. (name, true)) names) ≡ map (λ name. name.now) names
added_names [] [] none = refl
added_names [] (name ∷ later) none = ap (λ (l : List (List ℕ)). name.now ∷ l) (added_names [] later refl)
added_names (alias ∷ old) names none = absurd cc

pub loop-option-init : goal.loop-option-init
loop-option-init c =
    let named = ap app_of_fields c.after_help.ensures ∙ ap app_of_fields c.override_usage.ensures ∙ ap app_of_fields c.about.ensures
    ∙ c.new.ensures.app in
    let aliased = c.in_ok-command.ensures in (
      ap app_of_fields aliased.0
          ∙ ap₂ with_aliases named
          (ap (map (λ (alias : Alias). alias.0.now)) aliased.1
          ∙ added_names _ c.args.text.now.aliases.now (ap (λ (app : App). app.top.aliases) named)),
      ap (λ fields. fields.has_globals) aliased.0 ∙ ap (λ fields. fields.has_globals) c.after_help.ensures
          ∙ ap (λ fields. fields.has_globals) c.override_usage.ensures ∙ ap (λ fields. fields.has_globals) c.about.ensures
          ∙ c.new.ensures.local,
    )

pub loop-option-preserved : goal.loop-option-preserved
loop-option-preserved c =
    let added = c.in_ok-command-2.ensures in
    let so_far = c.loop-option.invariant in
    let text = c.args.text.now in (
      added.shape c.argument.ensures.local ∙ ap₂ with_rule so_far.0 c.argument.ensures.rule
          ∙ ap (app_of_command text.name.now (map (λ alias. alias.now) text.aliases.now))
          (sym (map_more rule_of_option text.options.now c.loop-option.option-index _ c.loop-option-test.true)),
      added.globals ∙ ap₂ ◌||◌ so_far.1 c.argument.ensures.local,
    )

pub returns-clause-shape : goal.returns-clause-shape
returns-clause-shape c =
    let text = c.args.text.now in
    ap (λ (app : App). app.top) c.loop-option.invariant.0
    ∙ ap (λ options. record (command text.name.now (map rule_of_option options)) { aliases = map (λ alias. alias.now) text.aliases.now })
    (take_all c.loop-option.option-index text.options.now c.loop-option-test.false)
