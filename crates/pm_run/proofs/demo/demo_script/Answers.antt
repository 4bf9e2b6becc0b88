-- Each shape is written behind those before it.
use Rattle.std.proofs.Common.{codes, decimal, ◌+◌, ◌++◌, ◌∙◌, ◌≡◌}
use Rattle.pm_run.proofs.DemoTexts.{four_shown, shown_as, two_numbers}
use Rattle.pm_run.specs.Demo.{shown_shape}
use Rattle.pm_run.proofs.demo.demo_script.Goals as goal

pub returns : goal.returns
returns c =
    let n = c.args.n in
    let cube : c.as_str.result.now ≡ codes "cube " ++ decimal n = c.as_str.ensures.value ∙ c.in_ok-format.ensures.ok in
    let simplex : c.as_str-2.result.now ≡ codes "simplex " ++ decimal n = c.as_str-2.ensures.value ∙ c.in_ok-format-2.ensures.ok in
    let cross : c.as_str-3.result.now ≡ codes "cross " ++ decimal n = c.as_str-3.ensures.value ∙ c.in_ok-format-3.ensures.ok in
    let cyclic : c.as_str-4.result.now ≡ codes "cyclic " ++ decimal n ++ codes " " ++ decimal (n + 3) =
    c.as_str-4.ensures.value ∙ c.in_ok-format-4.ensures.ok ∙ two_numbers n c.from.result c.from.ensures in
    four_shown _ _ _ _ _ (shown_shape (codes "cube " ++ decimal n)) (shown_shape (codes "simplex " ++ decimal n)) (shown_shape (codes "cross " ++ decimal n)) (shown_shape (codes "cyclic " ++ decimal n ++ codes " " ++ decimal (n + 3)))
    c.new-text.ensures.bytes (shown_as _ _ _ _ c.in_ok-push_shape.ensures cube) (shown_as _ _ _ _ c.in_ok-push_shape-2.ensures simplex) (shown_as _ _ _ _ c.in_ok-push_shape-3.ensures cross) (shown_as _ _ _ _ c.in_ok-push_shape-4.ensures cyclic)
