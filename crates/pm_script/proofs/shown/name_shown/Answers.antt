-- The first name of a property begins with `LP.` if and only if the property is one of linear programs.
use Rattle.pm_props.proofs.Every.{all_properties}
use Rattle.pm_props.specs.Names.{program_name}
use Rattle.pm_props.specs.Properties.{first_name, has_program, name_in}
use Rattle.pm_props.specs.declared.property.PropId.{PropId}
use Rattle.pm_object_type.specs.declared.object_type.ObjectType.{ObjectType}
use Rattle.pm_script.specs.Replies.{name_shown}
use Rattle.pm_script.proofs.shown.name_shown.Goals as goal
use Rattle.std.proofs.Common.{Bool, List, ap, codes, drop, false, inl, inr, not, refl, sym, take, true, true≢false, ℕ, ◌++◌, ◌||◌, ◌≡◌, ◌∙◌}
use Rattle.std.proofs.lemmas.Bool.{cases_Bool}
use Rattle.std.proofs.lemmas.Slice.Eq.{bytes_eq-Decides}
use Rattle.std.specs.Str.{bytes_eq}

abbrev is_marked : List ℕ → Bool
is_marked name = bytes_eq (take 3 name) (codes "LP.")

abbrev is_program_if_marked : PropId → Bool
is_program_if_marked p = not (is_marked (first_name p)) || has_program p

abbrev is_full : PropId → Bool
is_full p = not (has_program p) || bytes_eq (codes "LP." ++ program_name p) (first_name p)

second : (a b : Bool) → a ≡ true → (not a || b) ≡ true → b ≡ true
second true b h k = k
second false b h k = absurd (true≢false (sym h))

marked : (p : PropId) (rest : List ℕ) → first_name p ≡ codes "LP." ++ rest → has_program p ≡ true
marked p rest e = second (is_marked (first_name p)) (has_program p) (rw e refl) (all_properties is_program_if_marked refl p)

full : (p : PropId) → has_program p ≡ true → codes "LP." ++ program_name p ≡ first_name p
full p h = (bytes_eq-Decides (codes "LP." ++ program_name p) (first_name p)).0 (second (has_program p) (bytes_eq (codes "LP." ++ program_name p) (first_name p)) h (all_properties is_full refl p))

of_program : (of : ObjectType) (p : PropId) (name : List ℕ) → has_program p ≡ true → name ≡ program_name p → name ≡ name_shown of p
of_program of p name h e = rw h e

of_object : (of : ObjectType) (p : PropId) (name : List ℕ) → has_program p ≡ false → name ≡ name_in of p → name ≡ name_shown of p
of_object of p name h e = rw h e

pub returns-in-Some : goal.returns-in-Some
returns-in-Some c =
    let f : c.row-2.inside.first_name.now ≡ first_name c.args.prop = ap (λ r. r.first_name) (c.row-2.view_is ∙ c.row.ensures) in
    let n = c.in-Some.ensures.cases in
    let name : c.in-Some.name.now ≡ program_name c.args.prop = n.2 ∙ rw (n.1.0, f) refl in
    of_program c.args.of c.args.prop c.in-Some.name.now (marked c.args.prop (drop n.0 c.row-2.inside.first_name.now) (sym f ∙ n.1.1)) name

pub returns-in-None : goal.returns-in-None
returns-in-None c =
    let f : c.row-2.inside.first_name.now ≡ first_name c.args.prop = ap (λ r. r.first_name) (c.row-2.view_is ∙ c.row.ensures) in
    let no : has_program c.args.prop ≡ false = elim (cases_Bool (has_program c.args.prop)) [
      | inl h ↦ absurd (c.in-None.ensures.cases (program_name c.args.prop) (f ∙ sym (full c.args.prop h)))
      | inr h ↦ h
    ] in
    of_object c.args.of c.args.prop c.name_in.result.now no c.name_in.ensures
