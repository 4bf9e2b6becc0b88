-- The script of the demo, worked by hand: its lines, that each of them is a command, and that it is run in place of
-- the source.
use Rattle.pm_client.specs.Meanings.{unsaid}
use Rattle.std.specs.Prelude.{ℕ, ◌≡◌, ◌++◌, Bool, true, false, List, Option, None, Some, Result, length, codes}
use Rattle.std.specs.List.{list_all}
use Rattle.std.specs.Option.{is_some}
use Rattle.std.specs.Str.{bytes_eq}
use Rattle.pm_command.specs.Commands.{command_of}
use Rattle.pm_command.specs.Lines.{lines_of, text_of}
use Rattle.pm_run.specs.Demo.{demo_text, shown_shape}
use Rattle.pm_run.specs.Ends.{RanBook, RanScript, World}
use Rattle.pm_run.specs.declared.status.RunFail.{RunFail}
use Rattle.pm_words.specs.Words.{WordsSeen}

pub record DemoIsRead : Type 0 where
  pub one_shape : shown_shape (codes "cube 3")
      ≡ codes "make a cube 3\ngive a N_VERTICES\ngive a N_FACETS\ngive a F_VECTOR\ngive a DIAMETER\ndrop a\n"
  pub in_turn : demo_text 3 ≡ shown_shape (codes "cube 3") ++ shown_shape (codes "simplex 3")
      ++ shown_shape (codes "cross 3") ++ shown_shape (codes "cyclic 3 6")
  pub other_numbers : bytes_eq (demo_text 3) (demo_text 4) ≡ false
  pub lines : length (lines_of (demo_text 8)) ≡ 24
  pub commands : list_all (λ line. is_some (command_of (text_of line))) (lines_of (demo_text 8)) ≡ true
  -- with a number the demo's lines are run, and nothing is read of the source; without one the source's are
  pub source_stays : (said : WordsSeen) (w : World) (outcome : Result Bool RunFail)
      → RanScript unsaid (Some 3) said w outcome → w.left ≡ w.script
  pub demo_runs : (said : WordsSeen) (w : World) (outcome : Result Bool RunFail)
      → RanScript unsaid (Some 3) said w outcome
      → (left : Option (List ℕ))
      × RanBook unsaid said (record w { script = Some (demo_text 3); left = left }) outcome
  pub source_runs : (said : WordsSeen) (w : World) (outcome : Result Bool RunFail)
      → RanScript unsaid None said w outcome → RanBook unsaid said w outcome
