use Rattle.bi_norm.proofs.NormalFormFacts.{normal_forms_are_known, kept_of_normal_forms_is_known}
use Rattle.bi_norm.proofs.known_files.normal_forms_are_known.Goals as goal

pub returns-clause-forms : goal.returns-clause-forms
returns-clause-forms c = normal_forms_are_known c.one_meaning.ensures

pub returns-clause-kept : goal.returns-clause-kept
returns-clause-kept c = kept_of_normal_forms_is_known c.one_meaning.ensures
