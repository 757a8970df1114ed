use Rattle.bi_common.specs.MadeFields.{member_of}
use Rattle.bi_common.proofs.WrittenTokens.{members_put}
use Rattle.bi_common.proofs.json_writer.put_members.Goals as goal

pub returns : goal.returns
returns g c = members_put g.J.JsonPen.puts member_of c.args.members.now _ _ _ c.loop-member-test.false c.loop-member.invariant
