-- What holds while sets of names are settled in order.
use Rattle.std.specs.Prelude.{◌≡◌, ◌≢◌, ◌<◌, ◌≤◌, ◌⊎◌, ℕ, length, slice_get, Option, Some, None, IsSome, IfSome, IsSomeAnd, List, [], ◌∷◌, ◌++◌, AllPairs, Contains}
use Rattle.std.specs.declared.cmp.Ordering.{Ordering}
use Rattle.std.specs.Ordering.{nat_cmp, ordering_then}
use Rattle.std.specs.BTreeMap.{BTreeMap, get}
use Rattle.pm_props.specs.declared.set.PropSet.{PropSet}
use Rattle.pm_weights.specs.declared.Cost.{Cost}
use Rattle.pm_props.specs.Sets.{IsSubset}
use Rattle.pm_weights.specs.Weights.{IsBelow, IsAtMost}
use Rattle.pm_rules.specs.declared.table.TableRow.{TableRow}
use Rattle.pm_rules.specs.Steps.{IsOpen}
use Rattle.pm_rules.specs.Certificates.{IsTableRowBefore}
use Rattle.pm_plan.specs.declared.moves.Move.{Move}
use Rattle.pm_plan.specs.declared.track.Link.{Link}
use Rattle.pm_plan.specs.declared.search.Place.{Place}
use Rattle.pm_plan.specs.declared.search.Search.{Search}
use Rattle.pm_plan.specs.Moves.{after}
use Rattle.pm_plan.specs.Tracks.{LinksTo, AreLinked}
use Rattle.pm_limits.specs.Limits.{most_table_rows}

-- the order of places: by cost, and then by the set as a number
abbrev pub place_cmp : Place → Place → Ordering
place_cmp a b =
    ordering_then (ordering_then (nat_cmp a.cost.class b.cost.class) (nat_cmp a.cost.minor b.cost.minor))
    (nat_cmp a.set b.set)

abbrev pub place_of : TableRow → Place
place_of row = record { cost = row.cost; set = row.set }

-- the least cost that is known of a set
abbrev pub cost_known : Search → PropSet → Option Cost
cost_known s set = get nat_cmp s.known set

-- how a waiting row was reached
abbrev pub link_waiting : Search → TableRow → Option (Option Link)
link_waiting s row = get place_cmp s.waiting (place_of row)

-- the goal costs at most so much
abbrev pub HasGoal : Search → Cost → Type 0
HasGoal s cost = IsSomeAnd s.goal (λ g. IsAtMost g.row.cost cost)

-- the set is known at no more than the cost
abbrev pub IsKnownAt : Search → TableRow → Type 0
IsKnownAt s row = IsSomeAnd (cost_known s row.set) (λ cost. IsAtMost cost row.cost)

-- a row that is met is known at no more cost, or the goal is if it has all asked names
abbrev pub Offered : PropSet → Search → TableRow → Type 0
Offered asked s row = (IsSubset asked row.set × HasGoal s row.cost) ⊎ IsKnownAt s row

-- all that is met is reached by moves, the rows are in order, and what waits comes after them
pub record IsSoundSearch (moves : List Move) (start : TableRow) (asked : PropSet) (s : Search) : Type 0 where
  pub linked : AreLinked moves start s.rows.items s.links.items
  pub ordered : AllPairs IsTableRowBefore s.rows.items
  pub rows_known : (row : TableRow) → Contains s.rows.items row → cost_known s row.set ≡ Some row.cost
  pub waiting_known : (row : TableRow) → IsSome (link_waiting s row) → cost_known s row.set ≡ Some row.cost
  pub known_met : (row : TableRow) → cost_known s row.set ≡ Some row.cost → Contains s.rows.items row
      ⊎ IsSome (link_waiting s row)
  pub later : (row wait : TableRow) → Contains s.rows.items row → IsSome (link_waiting s wait)
      → IsTableRowBefore row wait
  pub waiting_linked : (row : TableRow)
      → IfSome (link_waiting s row) (λ link. LinksTo moves start s.rows.items link row)
  pub known_open : (set : PropSet) → IsSome (cost_known s set) → IsSubset asked set → ⊥
  pub goal_linked : IfSome s.goal (λ g. LinksTo moves start s.rows.items g.link g.row
      × IsSubset asked g.row.set)
  pub goal_above : (row : TableRow) → Contains s.rows.items row
      → IfSome s.goal (λ g. IsBelow row.cost g.row.cost)

-- all that the moves lead to from the rows is met
abbrev pub IsClosed : List Move → PropSet → Search → Type 0
IsClosed moves asked s = (row : TableRow) → Contains s.rows.items row → (m : Move) → Contains moves m
    → IsOpen m.step row.set → Offered asked s (after row m)

-- the row waits with this link, and no row that waits comes before it
pub record IsNext (s : Search) (row : TableRow) (link : Option Link) : Type 0 where
  pub waits : link_waiting s row ≡ Some link
  pub first : (other : TableRow) → IsSome (link_waiting s other) → (row ≡ other) ⊎ IsTableRowBefore row other

-- the row that waits is settled
pub record Settles (old new : Search) (row : TableRow) (link : Option Link) : Type 0 where
  pub rows : new.rows.items ≡ old.rows.items ++ row ∷ []
  pub links : new.links.items ≡ old.links.items ++ link ∷ []
  pub here : link_waiting new row ≡ None
  pub others : (other : TableRow) → other ≢ row → link_waiting new other ≡ link_waiting old other
  pub known : (set : PropSet) → cost_known new set ≡ cost_known old set
  pub goal : new.goal ≡ old.goal

-- the row waits with this link in a map, and its set no longer waits at the cost that it had
pub record Waits (old new : BTreeMap Place (Option Link)) (had : Option Cost) (row : TableRow)
    (link : Option Link) : Type 0 where
  pub here : get place_cmp new (place_of row) ≡ Some link
  pub others : (other : TableRow) → other ≢ row → other.set ≢ row.set ⊎ had ≢ Some other.cost
      → get place_cmp new (place_of other) ≡ get place_cmp old (place_of other)
  pub gone : (other : TableRow) → other ≢ row → other.set ≡ row.set → had ≡ Some other.cost
      → get place_cmp new (place_of other) ≡ None

-- the row waits in place of a dearer one with its set
pub record Renews (old new : Search) (row : TableRow) (link : Option Link) : Type 0 where
  pub rows : new.rows.items ≡ old.rows.items
  pub links : new.links.items ≡ old.links.items
  pub goal : new.goal ≡ old.goal
  pub known_here : cost_known new row.set ≡ Some row.cost
  pub known_others : (set : PropSet) → set ≢ row.set → cost_known new set ≡ cost_known old set
  pub here : link_waiting new row ≡ Some link
  pub others : (other : TableRow) → other.set ≢ row.set → link_waiting new other ≡ link_waiting old other
  pub gone : (other : TableRow) → other ≢ row → other.set ≡ row.set
      → cost_known old row.set ≡ Some other.cost → link_waiting new other ≡ None
  pub rest : (other : TableRow) → other ≢ row → other.set ≡ row.set → IsSome (link_waiting new other)
      → IsSome (link_waiting old other)

-- a row that is reached with this link is met, and nothing that was met is lost
pub record Offers (asked : PropSet) (old new : Search) (row : TableRow) (link : Option Link) : Type 0 where
  pub rows : new.rows.items ≡ old.rows.items
  pub links : new.links.items ≡ old.links.items
  pub offered : Offered asked new row
  pub keeps : (other : TableRow) → Offered asked old other → Offered asked new other
  pub sound : (moves : List Move) (start : TableRow) → IsSoundSearch moves start asked old
      → LinksTo moves start old.rows.items link row
      → ((settled : TableRow) → Contains old.rows.items settled → IsBelow settled.cost row.cost)
      → IsSoundSearch moves start asked new

-- the first n moves are followed from the row, which is the row at this place
pub record Expands (moves : List Move) (n : ℕ) (asked : PropSet) (old new : Search) (row : TableRow)
    (from : ℕ) : Type 0 where
  pub rows : new.rows.items ≡ old.rows.items
  pub links : new.links.items ≡ old.links.items
  pub offered : (k : ℕ) (m : Move) → k < n → slice_get moves k ≡ Some m → IsOpen m.step row.set
      → Offered asked new (after row m)
  pub keeps : (other : TableRow) → Offered asked old other → Offered asked new other
  pub sound : (start : TableRow) → IsSoundSearch moves start asked old → slice_get old.rows.items from ≡ Some row
      → ((settled : TableRow) → Contains old.rows.items settled → IsAtMost settled.cost row.cost)
      → IsSoundSearch moves start asked new

-- nothing is met
pub record IsEmpty (s : Search) : Type 0 where
  pub rows : s.rows.items ≡ []
  pub links : s.links.items ≡ []
  pub known : (set : PropSet) → cost_known s set ≡ None
  pub waiting : (row : TableRow) → link_waiting s row ≡ None
  pub goal : s.goal ≡ None

pub record IsExplored (moves : List Move) (start : TableRow) (asked : PropSet) (s : Search) : Type 0 where
  pub sound : IsSoundSearch moves start asked s
  pub closed : IsClosed moves asked s
  pub begun : Offered asked s start
  pub few : length s.rows.items ≤ most_table_rows

-- what waits costs no less than the goal
abbrev pub IsDone : Search → Type 0
IsDone s = (row : TableRow) → IsSome (link_waiting s row) → HasGoal s row.cost

-- one more set waits that costs less than the goal
pub record IsFull (s : Search) : Type 0 where
  pub full : length s.rows.items ≡ most_table_rows
  pub next : TableRow
  pub link : Option Link
  pub is_next : IsNext s next link
  pub below : HasGoal s next.cost → ⊥
