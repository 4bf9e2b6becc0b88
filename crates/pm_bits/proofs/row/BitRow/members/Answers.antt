use Rattle.pm_bits.proofs.Members.{length-bits_below}
use Rattle.pm_bits.proofs.MemberLists.{members_seen}
use Rattle.pm_bits.proofs.row.BitRow.members.Goals as goal
use Rattle.pm_bits.specs.Sets.{members}
use Rattle.pm_bits.specs.Words.{set_bits}
use Rattle.std.proofs.Common.{ap, arith, length, ◌≡◌}
use Rattle.std.proofs.lemmas.Result.{IfOk-weaker}

pub members-requires : goal.members-requires
members-requires c = omega (arith, c.requires, c.self.invariant.tight, c.deref.ensures.len, ap length c.deref.ensures.value, ap length c.self.view_is, length-bits_below c.self.inside.words.items c.self.inside.len)

pub returns : goal.returns
returns c = IfOk-weaker c.members.result (λ list. list.items ≡ set_bits c.deref.result.now) (λ list. list.items ≡ members c.args.self.now) (λ list. members_seen list.items c.deref.result.now c.self.inside.words.items c.self.inside.len c.args.self.now c.deref.ensures.value c.self.view_is c.self.invariant) c.members.ensures
