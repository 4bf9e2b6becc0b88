-- Texts of small replies, written out.
use Rattle.std.proofs.Common.{◌≡◌, [], ◌∷◌, ap, arith, codes, false, refl}
use Rattle.std.specs.Prelude.{slice_index}
use Rattle.pm_script.specs.Replies.{loaded, reply_text}
use Rattle.std.specs.Fmt.{digits}
use Rattle.serde_json.proofs.OnLiterals.{serde_json_on_literals}
use Rattle.pm_props.specs.Sets.{only, union}
use Rattle.pm_script.specs.Examples.{RepliesAreRead}

-- the byte behind `ok ignored ` is a quote, and not the letter
no_line : reply_text false (loaded (codes "X\nno 1 BadCommand" ∷ [])) ≡ codes "ok ignored X\nno 1 BadCommand\n" → ⊥
unfolding serde_json_on_literals
no_line e = let s = ap (λ t. slice_index t 11) e in omega (arith, s)

pub replies_are_read : RepliesAreRead
unfolding digits union only serde_json_on_literals
replies_are_read = record {
  ended = refl;
  failed = refl;
  found_false = refl;
  excluded = refl;
  barred = refl;
  plain_weight = refl;
  class_weight = refl;
  bits = refl;
  rounds_follow = refl;
  always_told = refl;
  told_if_traced = refl;
  else_untold = refl;
  of_a_plan = λ t names. refl;
  no_rounds_beside_it = λ t names. refl;
  not_always_beside_it = λ t names. refl;
  no_barred_alone = λ names. refl;
  carried_out = refl;
  made_untold = refl;
  made_traced = refl;
  of_object = refl;
  of_objective = refl;
  of_program = refl;
  elsewhere = refl;
  of_cone = refl;
  of_polytope = refl;
  given = refl;
  stored = refl;
  computed = refl;
  all_read = refl;
  read_over = refl;
  forged = refl;
  not_as_it_stands = λ e. absurd (no_line e);
  one_name = refl;
  two_names_read_over = refl;
  no_name = refl;
  marked = refl;
  nothing_held = refl;
  held = refl;
  program_held = refl;
  no_evidence = refl;
  evidence = refl;
  elsewhere_evidence = refl;
  too_long = refl;
  bounded = refl;
  full_dim = refl;
  feasible = refl;
  columns = refl;
  rows = refl;
  another_type = refl;
  no_interior = refl;
  no_sum = refl;
  no_intersection = refl;
  not_json = refl;
}
