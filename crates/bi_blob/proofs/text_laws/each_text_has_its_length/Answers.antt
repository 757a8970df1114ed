use Rattle.bi_blob.proofs.Texts.TextBlob.{has_text_length}
use Rattle.bi_blob.proofs.Texts.EventLengths.{text_of_events_has_length, has_event_widths}
use Rattle.bi_blob.proofs.text_laws.each_text_has_its_length.Goals as goal

pub returns : goal.returns
returns c = record { trees = has_text_length; events = text_of_events_has_length; widths = has_event_widths }
