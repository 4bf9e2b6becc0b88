-- How a client of a kind may fail: as the rule of its name does; where no rule has the name, as each standard rule
-- does that finds the same from the same.
use Rattle.std.specs.Prelude.{ℕ, Bool, Option, None, Some, List, [], ◌∷◌, ◌++◌, ◌&&◌, filter, find, nat_eq}
use Rattle.std.specs.List.{flat_map, list_any}
use Rattle.std.specs.Str.{bytes_eq}
use Rattle.pm_props.specs.declared.kind.Kind.{Kind}
use Rattle.pm_standard.specs.Table.{standard_clients, standard_kind, table_row, wide_clients}
use Rattle.pm_standard.specs.Ways.{Eliminated, Way, eliminates, is_way}
use Rattle.pm_standard.specs.declared.standard.StandardClient.{StandardClient}

-- the first rule of this name, standard or wide
abbrev pub row_named : List ℕ → Option StandardClient
row_named name = find (λ c. bytes_eq (standard_kind c).name name) (standard_clients ++ wide_clients)

-- the rule finds what the kind finds, from the same
abbrev pub does_the_same : Kind → StandardClient → Bool
does_the_same kind c = nat_eq (standard_kind c).targets kind.targets
    && nat_eq (standard_kind c).sources kind.sources

-- the ways of this rule; where there is none, those of all standard rules that find the same from the same
abbrev pub ways_beside : Kind → Option StandardClient → List Way
ways_beside kind (Some c) = (table_row c).ways
ways_beside kind None = flat_map (λ c. (table_row c).ways) (filter (does_the_same kind) standard_clients)

-- the ways of a client of this kind
abbrev pub ways_of : Kind → List Way
ways_of kind = ways_beside kind (row_named kind.name)

-- a client of this kind may fail in this way
abbrev pub has_way : Kind → Way → Bool
has_way kind w = list_any (is_way w) (ways_of kind)

-- the list that is eliminated, where the way is that
abbrev pub lists_in : Way → List Eliminated
lists_in (eliminates l) = l ∷ []
lists_in w = []

-- the lists that a client of this kind may eliminate
abbrev pub eliminated_by : Kind → List Eliminated
eliminated_by kind = flat_map lists_in (ways_of kind)
