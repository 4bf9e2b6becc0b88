use Rattle.std.proofs.Common.{arith}
use Rattle.pm_props.proofs.NameBytes.{length-padded, drop-padded, take-padded}
use Rattle.pm_props.proofs.client_name.ClientName.of_bytes.Goals as goal

pub invariant_of-result : goal.invariant_of-result
invariant_of-result c =
    let text = c.args.text.now in rw c.copy_from_slice.ensures.after (
      omega arith,
      length-padded text (omega arith),
      drop-padded text,
      rw (take-padded text) c.if-not-is_ascii.ensures.cases,
    )
