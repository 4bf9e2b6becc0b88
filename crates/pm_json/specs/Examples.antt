-- Texts of values: which value they are, and which they are not.
use Rattle.std.specs.Prelude.{◌≡◌, ℕ, true, false, List, [], ◌∷◌, Option, Some, None, codes}
use Rattle.pm_vector.specs.Numbers.{Ratio}
use Rattle.pm_fraction.specs.Fractions.{ratio_of}
use Rattle.pm_json.specs.Grammar.{IsJsonOf, IsSetOf, are_apart}
use Rattle.pm_props.specs.declared.property.PropId.TheVariants.{Bounded, ConeAmbientDim, FVector, Graph, LinearObjective, Points, VerticesInFacets}
use Rattle.pm_types.specs.Values.{counts, edges, matrix, sets, truth, whole}
use Rattle.serde_json.specs.Data.{Data, null}
use Rattle.serde_json.specs.Read.{read}
use lib.IntN.{pos}

abbrev data_or_null : Option Data → Data
data_or_null None = null
data_or_null (Some d) = d

-- the JSON of a text
abbrev pub json : List ℕ → Data
json text = data_or_null (read text)

abbrev one : Ratio
one = ratio_of (pos 1) (pos 1)

pub record MatricesHaveTexts : Type 0 where
  pub row : IsJsonOf Points (json (codes "[[1,\"2/2\"]]")) (matrix 2 ((one ∷ one ∷ []) ∷ []))
  -- the column count may stand behind
  pub stated : IsJsonOf Points (json (codes "[[1],{\"cols\":1}]")) (matrix 1 ((one ∷ []) ∷ []))
  pub wrongly : ¬ (IsJsonOf Points (json (codes "[[1],{\"cols\":2}]")) (matrix 1 ((one ∷ []) ∷ [])))
  pub columns : IsJsonOf Points (json (codes "[{\"cols\":3}]")) (matrix 3 [])
  pub nothing : IsJsonOf Points (json (codes "[]")) (matrix 0 [])
  pub not_three : ¬ (IsJsonOf Points (json (codes "[]")) (matrix 3 []))
  pub no_columns : ¬ (IsJsonOf Points (json (codes "[{\"cols\":0}]")) (matrix 0 []))
  -- an objective is one row
  pub objective : IsJsonOf LinearObjective (json (codes "[1]")) (matrix 1 ((one ∷ []) ∷ []))
  pub not_in_rows : ¬ (IsJsonOf LinearObjective (json (codes "[[1]]")) (matrix 1 ((one ∷ []) ∷ [])))

pub record SetsHaveTexts : Type 0 where
  -- in any order
  pub turned : IsSetOf (json (codes "[2,0]")) (0 ∷ 2 ∷ [])
  pub missing : ¬ (IsSetOf (json (codes "[2,0]")) (0 ∷ []))
  pub twice : are_apart (1 ∷ 1 ∷ []) ≡ false
  -- with their column count, or the least
  pub stated : IsJsonOf VerticesInFacets (json (codes "[[0],{\"cols\":3}]")) (sets ((0 ∷ []) ∷ []) 3)
  pub least : IsJsonOf VerticesInFacets (json (codes "[[0]]")) (sets ((0 ∷ []) ∷ []) 1)
  pub no_more : ¬ (IsJsonOf VerticesInFacets (json (codes "[[0]]")) (sets ((0 ∷ []) ∷ []) 3))
  -- edges have none
  pub graph : IsJsonOf Graph (json (codes "[[1],[0]]")) (edges ((1 ∷ []) ∷ (0 ∷ []) ∷ []) 2)
  pub no_columns : ¬ (IsJsonOf Graph (json (codes "[[1],[0]]")) (edges ((1 ∷ []) ∷ (0 ∷ []) ∷ []) 0))
  pub not_joined : ¬ (IsJsonOf Graph (json (codes "[[1],[]]")) (edges ((1 ∷ []) ∷ [] ∷ []) 2))

pub record NumbersHaveTexts : Type 0 where
  pub dimension : IsJsonOf ConeAmbientDim (json (codes "3")) (whole (pos 3))
  pub too_many : ¬ (IsJsonOf ConeAmbientDim (json (codes "34")) (whole (pos 34)))
  pub no_text : ¬ (IsJsonOf ConeAmbientDim (json (codes "\"3\"")) (whole (pos 3)))
  pub bounded : IsJsonOf Bounded (json (codes "true")) (truth true)
  pub vector : IsJsonOf FVector (json (codes "[4,\"4\"]")) (counts (pos 4 ∷ pos 4 ∷ []))
