-- What a list of indices holds.
use Rattle.pm_geom.proofs.Holds.{among_holds, holds_among}
use Rattle.pm_vector.proofs.Lists.{Contains_among, among_Contains}
use Rattle.pm_geom.specs.Graphs.{holds}
use Rattle.std.proofs.Common.{refl}
use Rattle.std.specs.List.{Contains}
use Rattle.std.specs.Prelude.{Bool, IsTrue, List, false, true, ℕ, ◌≡◌}

pub contains_holds : (xs : List ℕ) (j : ℕ) → Contains xs j → IsTrue (holds xs j)
contains_holds xs j c = among_holds xs j (among_Contains xs c)

pub holds_contains : (xs : List ℕ) (j : ℕ) → IsTrue (holds xs j) → Contains xs j
holds_contains xs j t = Contains_among (holds_among xs j t)

pub same_bool : (a b : Bool) → (IsTrue a → IsTrue b) → (IsTrue b → IsTrue a) → a ≡ b
same_bool true true f g = refl
same_bool true false f g = absurd (let e = f refl in cc)
same_bool false true f g = absurd (let e = g refl in cc)
same_bool false false f g = refl
