-- A take, from what its words are.
use Rattle.std.proofs.Common.{refl, ◌≡◌, ℕ, List, Option, Some, None}
use Rattle.pm_command.specs.Commands.{RefSeen, of_three, take_value}

pub of_three-some : (r : RefSeen) (p j : List ℕ) (obj : Option RefSeen) (prop json : Option (List ℕ)) → obj ≡ Some r → prop ≡ Some p → json ≡ Some j
    → of_three obj prop json ≡ Some (take_value r p j)
of_three-some r p j obj prop json a b c = rw a (rw b (rw c refl))

pub of_three-no_property : (obj : Option RefSeen) (prop json : Option (List ℕ)) → prop ≡ None → of_three obj prop json ≡ None
of_three-no_property None prop json b = refl
of_three-no_property (Some r) prop json b = rw b refl

pub of_three-no_json : (obj : Option RefSeen) (prop json : Option (List ℕ)) → json ≡ None → of_three obj prop json ≡ None
of_three-no_json None prop json c = refl
of_three-no_json (Some r) None json c = refl
of_three-no_json (Some r) (Some p) json c = rw c refl
