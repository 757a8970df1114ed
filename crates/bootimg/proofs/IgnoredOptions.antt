use Rattle.std.proofs.Common.{◌≡◌, ◌∙◌, ℕ, List, [], ◌∷◌, zero, suc, codes, subst, refl, sym, arith, lit<}
use Rattle.bi_describe.specs.IgnoredWords.{AreWordsOfValues, IsFirstBadIgnored}
use Rattle.bi_describe.specs.Ignoring.{Ignored, IgnoredPart, IgnoredTime}
use Rattle.bi_describe.specs.MadeWords.{ignored_words}
use Rattle.bi_describe.proofs.ComparedWithoutFacts.{ignored_values_are_known}
use Rattle.bi_describe.proofs.IgnoredFacts.{ignored_words_are_known}
use Rattle.clap.specs.declared.parser.matches.ArgMatches.{ArgMatches}
use Rattle.clap.proofs.OnLiterals.{clap_on_literals}
use Rattle.bootimg.specs.CommandLine.{IsComparePlan, values_of}
use Rattle.bootimg.specs.KnownRequests.{IgnoredOptionsAreKnown}
use Rattle.bootimg.specs.Program.{program_app}
use Rattle.bootimg.specs.declared.command_line.source.ComparePlan.{ComparePlan}
use Rattle.bootimg.proofs.OptionFacts.{found_values}

-- What the values of `--ignore` give.

-- Values with one that is for no words are for none.
pub no_ignored_words : (values : List (List ℕ)) (index : ℕ) → IsFirstBadIgnored values index → (words : List Ignored) →
    ¬ (AreWordsOfValues values words)
no_ignored_words [] index bad words are = absurd (omega (arith, bad.within))
no_ignored_words (value ∷ later) zero bad words are = bad.is_bad are.first are.is_first
no_ignored_words (value ∷ later) (suc index) bad words are =
    no_ignored_words later index
    (record { within = omega (arith, bad.within); before = bad.is_before.others; is_before = bad.is_before.is_other; is_bad = bad.is_bad })
    are.others are.is_other

-- So no plan has these options.
no_plan : (options : ArgMatches) (values : List (List ℕ)) (index : ℕ) → values_of options (codes "ignore") ≡ values →
    IsFirstBadIgnored values index → (plan : ComparePlan) → ¬ (IsComparePlan options plan)
no_plan options values index given bad plan is =
    no_ignored_words values index bad (ignored_words plan.ignored.items)
    (subst (λ (v : List (List ℕ)). AreWordsOfValues v (ignored_words plan.ignored.items)) given is.ignored)

other_word : IsFirstBadIgnored (codes "nothing" ∷ []) 0
other_word = record { within = lit< tt; before = []; is_before = refl; is_bad = ignored_words_are_known.other_word }

pub ignored_options_are_known : IgnoredOptionsAreKnown
unfolding program_app clap_on_literals
ignored_options_are_known = record {
  nothing = λ options gives words are.
      subst (λ (v : List (List ℕ)). AreWordsOfValues v words)
      (found_values (codes "compare a b") (codes "compare") options gives (codes "ignore") ∙ refl) are;
  two = λ options gives.
      let line = codes "compare --ignore time --ignore part-0 a b" in
      subst (λ (v : List (List ℕ)). AreWordsOfValues v (IgnoredTime ∷ IgnoredPart 0 ∷ []))
      (sym (found_values line (codes "compare") options gives (codes "ignore") ∙ refl)) ignored_values_are_known.two;
  second_empty = λ options gives plan is.
      let line = codes "compare --ignore time --ignore  --ignore x a b" in
      no_plan options (codes "time" ∷ [] ∷ codes "x" ∷ []) 1
      (found_values line (codes "compare") options gives (codes "ignore") ∙ refl) ignored_values_are_known.second plan is;
  other_word = λ options gives plan is.
      no_plan options (codes "nothing" ∷ []) 0
      (found_values (codes "compare --ignore nothing a b") (codes "compare") options gives (codes "ignore") ∙ refl) other_word plan is;
}
