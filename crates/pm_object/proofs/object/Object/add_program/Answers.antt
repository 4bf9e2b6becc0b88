-- The object with a linear program more: its programs are such.
use Rattle.std.proofs.Common.{None, ap, refl, rules, subst, sym, ◌∙◌, ◌≡◌, ◌++◌, ◌∷◌, []}
use Rattle.pm_object.proofs.Programs.{formed_named}
use Rattle.pm_object.specs.State.{ObjectSeen, program_refusal}
use Rattle.pm_props.specs.NameWords.{is_name}
use Rattle.std.specs.Prelude.{List, string_bytes, true, ℕ}
use Rattle.pm_object.proofs.object.Object.add_program.Goals as goal

pub invariant_of-self-2 : goal.invariant_of-self-2
invariant_of-self-2 c =
    let all : c.push.new.self.items ≡ c.self.inside.programs.items ++ c.in-Ok.copy ∷ [] = search rules in
    let same : string_bytes c.in-Ok.copy ≡ c.args.name.now = search rules in
    formed_named _ string_bytes c.self.inside.programs.items c.push.new.self.items c.in-Ok.copy refl all c.self.invariant (subst (λ z. is_name z ≡ true) (sym same) c.requires.name)
    (subst (λ (z : ObjectSeen). program_refusal z.state (string_bytes c.in-Ok.copy) ≡ None) (sym c.self.view_is) (subst (λ z. program_refusal c.args.self.now.state z ≡ None) (sym same) c.in_ok-may_add_program.ensures.ok))
