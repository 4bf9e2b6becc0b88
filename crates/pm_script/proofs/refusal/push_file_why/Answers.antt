-- The key of the profile is written after the word.
use Rattle.std.proofs.Common.{ap, sym, ◌++◌, codes, ◌∙◌}
use Rattle.pm_script.specs.Replies.{file_why_text}
use Rattle.pm_script.proofs.Written.{written_twice}
use Rattle.pm_script.proofs.refusal.push_file_why.Goals as goal

pub returns-in_ok-push_str-in-BadProfile : goal.returns-in_ok-push_str-in-BadProfile
returns-in_ok-push_str-in-BadProfile c =
    written_twice c.push_str-in-BadProfile-2.result _ _ _ _ _ _ c.in_ok-push_str-in-BadProfile.ensures.bytes c.push_str-in-BadProfile-2.ensures.bytes
    (ap file_why_text c.in-BadProfile.is ∙ ap (λ z. codes "BadProfile " ++ z) (sym c.as_str-in-BadProfile.ensures.value))
