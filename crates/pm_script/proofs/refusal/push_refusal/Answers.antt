-- The reason is written after the number and the name.
use Rattle.pm_script.proofs.Written.{written_behind}
use Rattle.pm_script.proofs.refusal.push_refusal.Goals as goal
use Rattle.std.proofs.Common.{ap, refl, ◌++◌, ◌∙◌}
use Rattle.std.specs.Prelude.{string_bytes}

pub returns : goal.returns
returns c =
    written_behind c.push_reason.result _ _ _ _ _ _ (c.in_ok-push_str.ensures.bytes ∙ ap (λ z. string_bytes c.args.text.now ++ z) c.refusal_name.ensures) c.push_reason.ensures refl
