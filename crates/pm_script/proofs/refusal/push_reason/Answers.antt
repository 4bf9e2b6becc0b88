-- The reason is written after what was written.
use Rattle.std.proofs.Common.{ap, sym, ◌++◌, codes, ◌∙◌}
use Rattle.pm_script.specs.Replies.{reason_text}
use Rattle.pm_script.proofs.Written.{written_behind, written_twice}
use Rattle.pm_script.proofs.refusal.push_reason.Goals as goal

pub returns-in_ok-push_str-in-BadValue : goal.returns-in_ok-push_str-in-BadValue
returns-in_ok-push_str-in-BadValue c =
    written_twice c.push_str-in-BadValue.result _ _ _ _ _ _ c.in_ok-push_str-in-BadValue.ensures.bytes c.push_str-in-BadValue.ensures.bytes
    (ap reason_text c.in-BadValue.is ∙ ap (λ z. codes " " ++ z) (sym c.why_text.ensures))

pub returns-in_ok-push_str-in-BadFile : goal.returns-in_ok-push_str-in-BadFile
returns-in_ok-push_str-in-BadFile c =
    written_behind c.push_file_why.result _ _ _ _ _ _ c.in_ok-push_str-in-BadFile.ensures.bytes c.push_file_why.ensures (ap reason_text c.in-BadFile.is)

pub returns-in_ok-push_str-in-NotFit : goal.returns-in_ok-push_str-in-NotFit
returns-in_ok-push_str-in-NotFit c =
    written_twice c.push_str-in-NotFit-2.result _ _ _ _ _ _ c.in_ok-push_str-in-NotFit.ensures.bytes c.push_str-in-NotFit-2.ensures.bytes
    (ap reason_text c.in-NotFit.is ∙ ap (λ z. codes " " ++ z) (sym c.word.ensures))

pub returns-in_ok-push_str-in-NotMade : goal.returns-in_ok-push_str-in-NotMade
returns-in_ok-push_str-in-NotMade c =
    written_behind c.push_not_made.result _ _ _ _ _ _ c.in_ok-push_str-in-NotMade.ensures.bytes c.push_not_made.ensures (ap reason_text c.in-NotMade.is)
