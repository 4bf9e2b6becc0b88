-- Clients in order, each seen as its kind with the count of its starts.
use Rattle.std.specs.Prelude.{ℕ, zero, suc, ◌+◌, ◌-◌, ◌^◌, ◌&&◌, min, Bool, nat_eq, if◌then◌else◌, Option, Some, None, List, [], ◌∷◌}
use Rattle.std.specs.Option.{is_some}
use Rattle.std.specs.Str.{bytes_eq}
use Rattle.pm_props.specs.declared.kind.Kind.{Kind}

-- kinds with their counts, in the order of the clients
abbrev pub Clients : Type 0
Clients = List (Kind × ℕ)

-- one more, unless it stands at the greatest number of 64 bits
abbrev pub next_count : ℕ → ℕ
next_count n = min (n + 1) (2 ^ 64 - 1)

-- the kind and the count of a client that was started once more
abbrev pub started_once : Kind × ℕ → Kind × ℕ
started_once tally = (tally.0, next_count tally.1)

-- the two kinds have one name and the same properties in each place
abbrev pub same_kind : Kind → Kind → Bool
same_kind a b =
    bytes_eq a.name b.name
    && (nat_eq a.targets b.targets
    && (nat_eq a.sources b.sources && (nat_eq a.must b.must && nat_eq a.must_not b.must_not)))

-- the place of the first client of the kind, counted from n
abbrev pub place_in : Kind → ℕ → Clients → Option ℕ
place_in kind n [] = None
place_in kind n ((first, starts) ∷ rest) = if same_kind first kind then Some n
    else place_in kind (suc n) rest

-- the kind of the client at the place
abbrev pub kind_at : ℕ → Clients → Option Kind
kind_at place [] = None
kind_at zero ((kind, starts) ∷ rest) = Some kind
kind_at (suc place) (first ∷ rest) = kind_at place rest

-- some client is of the kind
abbrev pub has_client : Kind → Clients → Bool
has_client kind clients = is_some (place_in kind 0 clients)

-- the client at the place was started once more
abbrev pub started_at : ℕ → Clients → Clients
started_at place [] = []
started_at zero ((kind, starts) ∷ rest) = (kind, next_count starts) ∷ rest
started_at (suc place) (first ∷ rest) = first ∷ started_at place rest

-- the same, where there is a place
abbrev pub after_start_at : Option ℕ → Clients → Clients
after_start_at None clients = clients
after_start_at (Some place) clients = started_at place clients

-- the first client of the kind was started once more
abbrev pub after_start : Kind → Clients → Clients
after_start kind clients = after_start_at (place_in kind 0 clients) clients
