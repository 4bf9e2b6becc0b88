use Rattle.std.proofs.lemmas.Str.{IsUtf8-from_ascii}
use Rattle.pm_props.proofs.NameBytes.{ok_where}
use Rattle.pm_props.proofs.client_name.ClientName.as_str.Goals as goal

pub unwrap-requires : goal.unwrap-requires
unwrap-requires c = ok_where c.from_utf8.result _ _ _ c.from_utf8.ensures.cases (IsUtf8-from_ascii c.as_bytes.result.now c.as_bytes.ensures.ascii)
