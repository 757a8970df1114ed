use Rattle.bootimg.proofs.RefusedFacts.{taken_if_known, taken_if_some}
use Rattle.bootimg.proofs.command_line.takes.Takes.takes.Goals as goal

pub returns-in-Number : goal.returns-in-Number
returns-in-Number c =
    rw c.in-Number.is
    (taken_if_known _ c.parse_number.result c.is_some.result c.parse_number.ensures.some c.parse_number.ensures.exactly c.is_some.ensures)

pub returns-in-Limit : goal.returns-in-Limit
returns-in-Limit c =
    rw c.in-Limit.is
    (taken_if_some _ c.parse_limits.result c.is_some-in-Limit.result c.parse_limits.ensures.some c.parse_limits.ensures.none
    c.is_some-in-Limit.ensures)

pub returns-in-Alignment : goal.returns-in-Alignment
returns-in-Alignment c =
    rw c.in-Alignment.is
    (taken_if_some _ c.parse_align.result c.is_some-in-Alignment.result c.parse_align.ensures.some c.parse_align.ensures.none
    c.is_some-in-Alignment.ensures)

pub returns-in-Address : goal.returns-in-Address
returns-in-Address c =
    rw c.in-Address.is
    (taken_if_some _ c.parse_address.result c.is_some-in-Address.result c.parse_address.ensures.some c.parse_address.ensures.none
    c.is_some-in-Address.ensures)

pub returns-in-Part : goal.returns-in-Part
returns-in-Part c =
    rw c.in-Part.is
    (taken_if_some _ c.parse_part.result c.is_some-in-Part.result c.parse_part.ensures.some c.parse_part.ensures.none
    c.is_some-in-Part.ensures)

pub returns-in-Code : goal.returns-in-Code
returns-in-Code c =
    rw c.in-Code.is
    (taken_if_known _ c.parse_code.result c.is_some-in-Code.result c.parse_code.ensures.some c.parse_code.ensures.exactly
    c.is_some-in-Code.ensures)

pub returns-in-Key : goal.returns-in-Key
returns-in-Key c =
    rw c.in-Key.is
    (taken_if_known _ c.parse_key.result c.is_some-in-Key.result c.parse_key.ensures.some c.parse_key.ensures.exactly
    c.is_some-in-Key.ensures)

pub returns-in-ValueForm : goal.returns-in-ValueForm
returns-in-ValueForm c =
    rw c.in-ValueForm.is
    (taken_if_known _ c.parse_form.result c.is_some-in-ValueForm.result c.parse_form.ensures.some c.parse_form.ensures.exactly
    c.is_some-in-ValueForm.ensures)

pub returns-in-Kinds : goal.returns-in-Kinds
returns-in-Kinds c =
    rw c.in-Kinds.is
    (taken_if_some _ c.parse_allowed.result c.is_some-in-Kinds.result c.parse_allowed.ensures.some c.parse_allowed.ensures.none
    c.is_some-in-Kinds.ensures)

pub returns-in-Topic : goal.returns-in-Topic
returns-in-Topic c =
    rw c.in-Topic.is
    (taken_if_some _ c.parse_topic.result c.is_some-in-Topic.result c.parse_topic.ensures.some c.parse_topic.ensures.none
    c.is_some-in-Topic.ensures)

pub returns-in-Algorithms : goal.returns-in-Algorithms
returns-in-Algorithms c = rw c.in-Algorithms.is c.are_algorithms.ensures

pub returns-in-Removal : goal.returns-in-Removal
returns-in-Removal c = rw c.in-Removal.is c.is_removal.ensures

pub returns-in-NewValue : goal.returns-in-NewValue
returns-in-NewValue c = rw c.in-NewValue.is c.is_new_value.ensures

pub returns-in-NewPayload : goal.returns-in-NewPayload
returns-in-NewPayload c = rw c.in-NewPayload.is c.is_new_payload.ensures

pub returns-in-LeftOut : goal.returns-in-LeftOut
returns-in-LeftOut c = rw c.in-LeftOut.is c.is_left_out.ensures

pub returns-in-Configuration : goal.returns-in-Configuration
returns-in-Configuration c = rw c.in-Configuration.is c.is_configuration.ensures

pub returns-in-OwnText : goal.returns-in-OwnText
returns-in-OwnText c =
    rw c.in-OwnText.is
    (taken_if_some _ c.parse_text.result c.is_some-in-OwnText.result c.parse_text.ensures.some c.parse_text.ensures.none
    c.is_some-in-OwnText.ensures)
