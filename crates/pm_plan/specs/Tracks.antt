-- How the rows of a search were reached.
use Rattle.std.specs.Prelude.{◌≡◌, ◌<◌, ℕ, Option, Some, None, IfSome, List, [], ◌∷◌, ◌++◌, length, take, Contains, slice_get}
use Rattle.pm_props.specs.declared.kind.RuleId.{RuleId}
use Rattle.pm_rules.specs.declared.table.TableRow.{TableRow}
use Rattle.pm_rules.specs.Steps.{IsOpen}
use Rattle.pm_plan.specs.declared.moves.Move.{Move}
use Rattle.pm_plan.specs.declared.track.Link.{Link}
use Rattle.pm_plan.specs.Moves.{after}

-- the move of this rule leads from one row to the other
pub record Makes (moves : List Move) (id : RuleId) (row next : TableRow) : Type 0 where
  pub move : Move
  pub among : Contains moves move
  pub rule : move.id ≡ id
  pub opened : IsOpen move.step row.set
  pub leads : next ≡ after row move

-- the link ends a chain to the row: with no link the row is the start, else a move leads to it from one of the rows
abbrev pub LinksTo : List Move → TableRow → List TableRow → Option Link → TableRow → Type 0
LinksTo moves start rows None row = row ≡ start
LinksTo moves start rows (Some link) row = (before : TableRow) × (slice_get rows link.from ≡ Some before)
    × Makes moves link.id before row

-- each row has its link, which goes back to an earlier row
pub record AreLinked (moves : List Move) (start : TableRow) (rows : List TableRow)
    (links : List (Option Link)) : Type 0 where
  pub paired : length links ≡ length rows
  pub linked : (i : ℕ) (row : TableRow) (link : Option Link) → slice_get rows i ≡ Some row
      → slice_get links i ≡ Some link → LinksTo moves start (take i rows) link row

-- the moves of these rules, each open in turn, lead from the row to the end
abbrev pub Leads : List Move → TableRow → List RuleId → TableRow → Type 0
Leads moves row [] end = row ≡ end
Leads moves row (id ∷ chain) end = (next : TableRow) × Makes moves id row next × Leads moves next chain end

-- each link goes back to an earlier place, and the last one to one of them
pub record GoesBack (links : List (Option Link)) (last : Option Link) : Type 0 where
  pub here : IfSome last (λ link. link.from < length links)
  pub each : (i : ℕ) (link : Link) → slice_get links i ≡ Some (Some link) → link.from < i

-- the rules that the links name from the last one back, in the order in which they lead on
pub data IsTrack (links : List (Option Link)) : Option Link → List RuleId → Type 0 where
  begun : IsTrack links None []
  onward : {chain : List RuleId} (link : Link) (before : Option Link)
      → slice_get links link.from ≡ Some before → IsTrack links before chain
      → IsTrack links (Some link) (chain ++ link.id ∷ [])
