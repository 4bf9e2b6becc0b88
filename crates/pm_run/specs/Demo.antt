-- The script of the demo: four families of polytopes, and what is asked of each.
use Rattle.std.specs.Prelude.{ℕ, ◌+◌, ◌++◌, List, codes, decimal}

-- what is asked of each, and then it goes
abbrev pub asked_of_each : List ℕ
asked_of_each = codes "give a N_VERTICES\ngive a N_FACETS\ngive a F_VECTOR\ngive a DIAMETER\ndrop a\n"

-- a polytope of the shape is made, asked, and goes
abbrev pub shown_shape : List ℕ → List ℕ
shown_shape shape = codes "make a " ++ shape ++ codes "\n" ++ asked_of_each

-- the demo of n dimensions: cube, simplex, cross-polytope, and a cyclic polytope with n + 3 vertices
abbrev pub demo_text : ℕ → List ℕ
demo_text n = shown_shape (codes "cube " ++ decimal n) ++ shown_shape (codes "simplex " ++ decimal n)
    ++ shown_shape (codes "cross " ++ decimal n)
    ++ shown_shape (codes "cyclic " ++ decimal n ++ codes " " ++ decimal (n + 3))
