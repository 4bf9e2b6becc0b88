-- The limits of the program, each once. What is larger is refused, and never answered in part.
use Rattle.std.specs.Prelude.{ℕ, ◌+◌}

-- the rows of a matrix, the rays and the facets of a cone, the sets of a list, the nodes of a graph, the numbers of a
-- list
abbrev pub most_rows : ℕ
most_rows = 2048

-- an index is the place of a row: it is below this
abbrev pub most_indices : ℕ
most_indices = most_rows

-- the dimensions of a space
abbrev pub most_dimensions : ℕ
most_dimensions = 32

-- the columns of a matrix: a coordinate more than there are dimensions
abbrev pub most_columns : ℕ
most_columns = most_dimensions + 1

-- the columns of sites: a lifted site has one more
abbrev pub most_site_columns : ℕ
most_site_columns = most_dimensions

-- the faces of a lattice
abbrev pub most_faces : ℕ
most_faces = 65536

-- the indices of all faces of a lattice together
abbrev pub most_places : ℕ
most_places = 4000000

-- the bytes of a file
abbrev pub most_file_bytes : ℕ
most_file_bytes = 8388608

-- the bytes of a line of a script
abbrev pub most_line_bytes : ℕ
most_line_bytes = 1048576

-- the bytes of a script
abbrev pub most_script_bytes : ℕ
most_script_bytes = 16777216

-- the objects of a session
abbrev pub most_objects : ℕ
most_objects = 32

-- the linear programs of an object
abbrev pub most_programs : ℕ
most_programs = 4

-- the properties that a command asks for
abbrev pub most_asked : ℕ
most_asked = 4

-- the rules of a book
abbrev pub most_rules : ℕ
most_rules = 256

-- the class and the minor of a rule's weight
abbrev pub most_weight : ℕ
most_weight = 1000000

-- the sets of names that a table of costs has
abbrev pub most_table_rows : ℕ
most_table_rows = 65536

-- the bytes of a printed plan that is checked
abbrev pub most_printed_bytes : ℕ
most_printed_bytes = 16777216
