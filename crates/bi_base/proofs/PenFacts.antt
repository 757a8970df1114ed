use Rattle.std.proofs.Common.{◌≡◌, codes, refl, lit≤}
use Rattle.bi_base.specs.Pens.{literal}
use Rattle.bi_base.specs.KnownPens.{PutsAreKnown}

-- What pens may do with a small text is as the known facts say.

is_literal : literal (codes "ab") ≡ codes "ab"
unfolding literal
is_literal = refl

pub puts_are_known : PutsAreKnown
puts_are_known = record {
  appended = refl;
  not_appended = λ put. absurd cc;
  failed = ((1, lit≤ tt, refl), refl);
  other_error = λ put. let is = put.1 in absurd cc;
  after_failure = (refl, refl);
  changed_sink = λ put. let is = put.0 in absurd cc;
  forgotten = λ put. let is = put.1 in absurd cc;
  replaced = λ put. let is = put.1 in absurd cc;
  in_memory = refl;
  not_in_memory = λ put. absurd cc;
  no_memory = tt;
  begun_again = λ put. put;
  literal_text = is_literal;
}
