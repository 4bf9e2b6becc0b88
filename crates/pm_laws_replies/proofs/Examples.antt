-- Small replies, written out.
use Rattle.std.proofs.Common.{ap, arith, codes, false, refl, ◌≡◌, []}
use Rattle.std.specs.Fmt.{digits}
use Rattle.std.specs.Prelude.{slice_index}
use Rattle.serde_json.proofs.OnLiterals.{serde_json_on_literals}
use Rattle.pm_rules.specs.declared.rule.Rule.{Rule}
use Rattle.std.specs.Prelude.{List, Some, ◌∷◌}
use Rattle.std.proofs.Common.{sym, true≢false}
use Rattle.pm_script.specs.Replies.{loaded, reply_text, undef}
use Rattle.pm_laws_replies.specs.Examples.{RepliesAreTold, counted, empty_with, give_s, pointed}
use Rattle.pm_machine.specs.Run.{replies_text}
use Rattle.pm_laws_replies.specs.Told.{IsReply, is_shown}

other_object : (book : List Rule) → IsReply book give_s (pointed (codes "t")) → ⊥
other_object book (is_shown e l) = let h = ap (λ t. slice_index t 0) e in omega (arith, h)

not_undef : (book : List Rule) → IsReply book give_s undef → ⊥
not_undef book r = elim r [ ]

no_object : reply_text false (pointed (codes "s")) ≡ codes "POINTED true\n" → ⊥
unfolding serde_json_on_literals
no_object e = let h = ap (λ t. slice_index t 0) e in omega (arith, h)

-- the byte behind `program` is a colon, and not a space
no_program : reply_text false (empty_with (codes "N_VERTICES" ∷ [])) ≡ replies_text false (Some (empty_with []) ∷ Some (counted (codes "program") 0) ∷ []) → ⊥
unfolding digits serde_json_on_literals
no_program e = let h = ap (λ t. slice_index t 25) e in omega (arith, h)

-- the byte behind `ok ignored ` is a letter, and not a quote
one_name_more : reply_text false (loaded (codes "A" ∷ codes "B" ∷ [])) ≡ reply_text false (loaded (codes "A B" ∷ [])) → ⊥
unfolding serde_json_on_literals
one_name_more e = let h = ap (λ t. slice_index t 11) e in omega (arith, h)

another_order : reply_text false (loaded (codes "A" ∷ codes "B" ∷ [])) ≡ reply_text false (loaded (codes "B" ∷ codes "A" ∷ [])) → ⊥
unfolding serde_json_on_literals
another_order e = let h = ap (λ t. slice_index t 11) e in omega (arith, h)

pub replies_are_told : RepliesAreTold
unfolding digits serde_json_on_literals
replies_are_told = record {
  small = λ book. ((refl, is_shown refl (record { labels = refl; programs = refl })), ((_, refl, refl), tt));
  small_text = refl;
  no_other_object = other_object;
  not_without_object = no_object;
  never_undef = not_undef;
  no_line_more = λ book r. r.1;
  label_of_two_lines = λ l. true≢false (sym l.labels);
  label_of_one_line = record { labels = refl; programs = refl };
  program_line = refl;
  value_line = refl;
  not_by_a_program = λ e. absurd (no_program e);
  by_lines_alone = refl;
  two_names = λ e. absurd (one_name_more e);
  in_their_order = λ e. absurd (another_order e);
}
