use Rattle.bootimg.proofs.OwnTextFacts.{named_texts_are_known, own_text_options_are_known, texts_of_names_are_known}
use Rattle.bootimg.proofs.known_requests.own_texts_are_known.Goals as goal

pub returns : goal.returns
returns c =
    record { words = named_texts_are_known; options = own_text_options_are_known; names = texts_of_names_are_known }
