-- Replies read on small ones: which a line may have, and which texts cannot be told apart.
use Rattle.std.specs.Prelude.{◌≡◌, ◌≢◌, List, [], ◌∷◌, ℕ, Some, None, codes, false, pos, true}
use Rattle.pm_command.specs.Commands.{RefSeen, Spoken, give_value}
use Rattle.pm_object_type.specs.declared.object_type.ObjectType.TheVariants.{Polytope}
use Rattle.pm_props.specs.declared.property.PropId.TheVariants.{NVertices, Pointed}
use Rattle.pm_rules.specs.declared.rule.Rule.{Rule}
use Rattle.pm_script.specs.Replies.{NamesSeen, ReplySeen, lists_held, loaded, no_rounds, nothing, refused, reply_text, rule_text, shows, undef}
use Rattle.pm_script.specs.declared.refusal.Refusal.TheVariants.{BadCommand}
use Rattle.pm_types.specs.Values.{truth, whole}
use Rattle.pm_machine.specs.Run.{replies_text}
use Rattle.pm_laws_replies.specs.Told.{NamesAreOneLine, AreReplies, IsReply}

-- the object s
abbrev pub s : RefSeen
s = record { name = codes "s"; sub = None }

-- `give s POINTED`
abbrev pub give_s : Spoken
give_s = give_value s (codes "POINTED")

-- of the object of this name it is shown that it is pointed
abbrev pub pointed : List ℕ → ReplySeen
pointed name = shows name Polytope Pointed (truth true) no_rounds

-- a number of vertices of the object of this name
abbrev pub counted : List ℕ → ℕ → ReplySeen
counted name n = shows name Polytope NVertices (whole (pos n)) no_rounds

-- what an object without values holds, with a program of this name or without one
abbrev pub empty_with : List (List ℕ) → ReplySeen
empty_with [] = lists_held Polytope [] []
empty_with (name ∷ names) = lists_held Polytope [] ((name, []) ∷ [])

-- one rule of this label and the minor weight 5
abbrev pub names_of : List ℕ → NamesSeen
names_of label = record { rules = (label, record { class = 0; minor = 5 }) ∷ []; programs = [] }

pub record RepliesAreTold : Type 0 where
  -- `give s POINTED`, and a line that speaks no command
  pub small : (book : List Rule) → AreReplies book (Some give_s ∷ None ∷ [])
      (Some (pointed (codes "s")) ∷ Some (refused BadCommand nothing) ∷ [])
  pub small_text : replies_text false (Some (pointed (codes "s")) ∷ Some (refused BadCommand nothing) ∷ [])
      ≡ codes "s POINTED true\nno 1 BadCommand\n"
  -- no reply shows a value of another object, nor without its object
  pub no_other_object : (book : List Rule) → IsReply book give_s (pointed (codes "t")) → ⊥
  pub not_without_object : reply_text false (pointed (codes "s")) ≢ codes "POINTED true\n"
  -- `give` has a value or is refused: it is never answered that none is held
  pub never_undef : (book : List Rule) → IsReply book give_s undef → ⊥
  -- no reply goes on to lines of another
  pub no_line_more : (book : List Rule) → AreReplies book (Some give_s ∷ [])
      (Some (pointed (codes "s")) ∷ Some (refused BadCommand nothing) ∷ []) → ⊥
  -- a label or a name with an LF could forge a line
  pub label_of_two_lines : NamesAreOneLine (names_of (codes "a\nb")) → ⊥
  pub label_of_one_line : NamesAreOneLine (names_of (codes "a"))
  -- the line of a program is no value line, whatever its name: `program N_VERTICES 0` shows a value of an object
  pub program_line : reply_text false (empty_with (codes "N_VERTICES" ∷ []))
      ≡ codes "object Polytope 0\nprogram: N_VERTICES 0\n"
  pub value_line : replies_text false (Some (empty_with []) ∷ Some (counted (codes "program") 0) ∷ [])
      ≡ codes "object Polytope 0\nprogram N_VERTICES 0\n"
  pub not_by_a_program : reply_text false (empty_with (codes "N_VERTICES" ∷ []))
      ≢ replies_text false (Some (empty_with []) ∷ Some (counted (codes "program") 0) ∷ [])
  -- Where the lines of the script are not told, lines of replies alone do not tell what they are: this is the line of
  -- a rule of a chain, of the label N_VERTICES, and that of a value of an object of the name `rule`.
  pub by_lines_alone : rule_text (names_of (codes "N_VERTICES")) (record { 0 = 0 })
      ≡ reply_text false (counted (codes "rule") 5)
  -- names that were read over are told apart, as a list
  pub two_names : reply_text false (loaded (codes "A" ∷ codes "B" ∷ []))
      ≢ reply_text false (loaded (codes "A B" ∷ []))
  pub in_their_order : reply_text false (loaded (codes "A" ∷ codes "B" ∷ []))
      ≢ reply_text false (loaded (codes "B" ∷ codes "A" ∷ []))
