-- The ways in which the client of a rule may fail: what it may show beside want of memory.
use Rattle.std.specs.Prelude.{Bool, true, false, List, [], ◌∷◌, ◌++◌}

-- whether the greatest or the least value of a linear program is sought
pub data Optimum : Type 0 where
  greatest : Optimum
  least : Optimum

-- which lists of rows a client may eliminate: the row list; its first part, the double description list, and the rows
-- of that which enlarge the span; the rows in the lineality, and their basis with a row, by the other description or
-- by linear programs; rows that determine the row of a set; rows that span a maximal cone
pub data Eliminated : Type 0 where
  row_list : Eliminated
  first_part : Eliminated
  double_list : Eliminated
  enlarging_rows : Eliminated
  flat_rows : Eliminated
  flat_basis_and_row : Eliminated
  line_rows : Eliminated
  line_basis_and_row : Eliminated
  determining_rows : Eliminated
  cone_rows : Eliminated

-- a step in the elimination of a list (E1); two rays of a front (E2), or too many (E5); a pivot in a program (E3): of
-- a row over the others, of a point, of an optimum; a product of rows that were read (E4), of a row that a set
-- determines, of a dual, at rays, at a face; too many facets, faces or cells (E5); whatever refuses the cells of
-- lifted sites (E1, E2, E4, E5), at their heights or on the paraboloid
pub data Way : Type 0 where
  eliminates : Eliminated → Way
  doubling : Way
  thinning_programs : Way
  feasibility : Way
  optimum_over_facets : Optimum → Way
  optimum_over_rows : Optimum → Way
  products : Way
  determined_rays : Way
  determined_facets : Way
  dual : Optimum → Way
  at_rays : Optimum → Way
  at_face : Optimum → Way
  facet_count : Way
  face_count : Way
  cell_count : Way
  lifting : Way
  raising : Way

abbrev pub same_optimum : Optimum → Optimum → Bool
same_optimum greatest greatest = true
same_optimum least least = true
same_optimum a b = false

-- the same way, where it is no elimination
abbrev pub is_way : Way → Way → Bool
is_way doubling doubling = true
is_way thinning_programs thinning_programs = true
is_way feasibility feasibility = true
is_way (optimum_over_facets a) (optimum_over_facets b) = same_optimum a b
is_way (optimum_over_rows a) (optimum_over_rows b) = same_optimum a b
is_way products products = true
is_way determined_rays determined_rays = true
is_way determined_facets determined_facets = true
is_way (dual a) (dual b) = same_optimum a b
is_way (at_rays a) (at_rays b) = same_optimum a b
is_way (at_face a) (at_face b) = same_optimum a b
is_way facet_count facet_count = true
is_way face_count face_count = true
is_way cell_count cell_count = true
is_way lifting lifting = true
is_way raising raising = true
is_way a b = false

abbrev pub by_doubling : List Way
by_doubling = eliminates first_part ∷ eliminates double_list ∷ eliminates enlarging_rows ∷ doubling ∷ []

abbrev pub by_placing : List Way
by_placing = by_doubling ++ cell_count ∷ []

abbrev pub by_thinning : List Way
by_thinning = eliminates flat_rows ∷ eliminates flat_basis_and_row ∷ products ∷ []

abbrev pub by_programs : List Way
by_programs = eliminates line_rows ∷ eliminates line_basis_and_row ∷ thinning_programs ∷ products ∷ []

abbrev pub by_sets : List Way
by_sets = eliminates row_list ∷ eliminates determining_rows ∷ []
