-- An object that is saved and loaded again.
use Rattle.pm_client.specs.Meanings.{unsaid}
use Rattle.std.specs.Prelude.{ℕ, ◌≡◌, ◌&&◌, ◌||◌, Bool, IsTrue, false, true, ◌⊎◌, not, List, [], None, Option, Some}
use Rattle.std.specs.List.{All, Contains}
use Rattle.pm_command.specs.Commands.{ShapeSeen, Spoken}
use Rattle.pm_command.specs.declared.building.Builder.{Builder}
use Rattle.pm_files.specs.Files.{SavedFile}
use Rattle.pm_filing.specs.Filing.{loaded_object}
use Rattle.pm_filing.specs.Whole.{IsLoadedAgain}
use Rattle.pm_geom.specs.Things.{Orders}
use Rattle.pm_machine.specs.Machines.{Machine}
use Rattle.pm_machine.specs.Steps.{settled_object}
use Rattle.pm_making.specs.Rows.{Makes, object_of, shape_file}
use Rattle.pm_object.specs.Honest.{HonestAnswer, IsHonest, based, facts}
use Rattle.pm_object.specs.State.{HeldValue, State, has_rounds, names_to_settle}
use Rattle.pm_laws_lineage.specs.Laws.{Leads, new_records}
use Rattle.pm_laws_lineage.specs.Provenances.{Provenances, Records, StandsFor, is_savable}
use Rattle.pm_laws_lineage.specs.Lineages.{Lineage}
use Rattle.pm_props.specs.Properties.{has_program}
use Rattle.pm_props.specs.Sets.{has}
use Rattle.pm_props.specs.declared.kind.Kind.{Kind}
use Rattle.pm_props.specs.declared.kind.RuleId.{RuleId}
use Rattle.pm_rules.specs.Rules.{rule_at}
use Rattle.pm_props.specs.declared.property.PropId.{PropId}
use Rattle.pm_props.specs.declared.property.PropId.TheVariants.{AffineHull, Equations, Facets, Inequalities, InputLineality, LinealitySpace, Points, Vertices}
use Rattle.pm_props.specs.declared.set.PropSet.{PropSet}
use Rattle.pm_rounds.specs.Events.{Configuration, Ensured}
use Rattle.pm_rounds.specs.declared.round.Ending.{Ending}
use Rattle.pm_standard.specs.Book.{standard_rules}
use Rattle.pm_standard.specs.Table.{standard_kinds_list}
use Rattle.pm_rules.specs.declared.rule.Rule.{Rule}
use Rattle.pm_script.specs.Replies.{ReplySeen}
use Rattle.pm_types.specs.Right.{RightAll}
use Rattle.pm_types.specs.Things.{Thing}

-- nothing goes without saying of what the object holds; and values of the object itself stand there
pub record IsSaid (o : State) : Type 0 where
  pub nothing : names_to_settle o.held ≡ []
  pub placed : (h : HeldValue) → Contains o.held h → has_program h.property ≡ false → h.place ≡ None

-- the same of an object for which a round was started
pub record IsSaidOnce (o : State) : Type 0 where
  pub nothing : has_rounds o ≡ true → names_to_settle o.held ≡ []
  pub placed : (h : HeldValue) → Contains o.held h → has_program h.property ≡ false → h.place ≡ None

-- For every thing, and all orders, for which the given and stored values of an honest object are right: what is loaded
-- of its file holds right values, those that were given or stored and all others, in the orders in which all values
-- of the object are right.
abbrev pub LoadedAgainIsRight : Type 0
LoadedAgainIsRight = (book : List Rule) (o : State) (f : SavedFile) → IsHonest o → IsSaid o
    → IsLoadedAgain book o f → (t : Thing) (p : Orders) → t.of ≡ o.of → RightAll (facts (based o.held)) t p
    → (a : HonestAnswer o.held t p) × RightAll (facts (loaded_object book f).held) t a.orders

-- Whatever the object stands for, what is loaded of its file stands for it too.
abbrev pub LoadedAgainStands : Type 0
LoadedAgainStands = (book : List Rule) (o : State) (f : SavedFile) (l : Lineage) → StandsFor l o → IsSaid o
    → IsLoadedAgain book o f → StandsFor l (loaded_object book f)

-- Whatever a savable object, in which values stand where they may, stands for once what goes without saying of it is
-- filled in: what is loaded of its file stands for it too.
abbrev pub LoadedUnaskedStands : Type 0
LoadedUnaskedStands = (book : List Rule) (o : State) (f : SavedFile) (l : Lineage) → StandsFor l (settled_object o)
    → IsTrue (is_savable o)
    → ((h : HeldValue) → Contains o.held h → has_program h.property ≡ false → h.place ≡ None)
    → IsLoadedAgain book o f → StandsFor l (loaded_object book f)

-- ---- when it is so
-- what commands make is savable before anything is asked of it
pub record MadeAreSavable : Type 0 where
  pub shapes : (s : ShapeSeen) → IsTrue (is_savable (object_of (shape_file s)))
  pub built : (b : Builder) (os : List State) (f : SavedFile) → Makes b os f → IsTrue (is_savable (object_of f))

-- the kind finds p, or finds other things from it
abbrev pub names : Kind → PropId → Bool
names kind p = has kind.targets p || has kind.sources p

-- where the kind finds one half of a description it finds the other, or has it: of these nothing goes without saying
abbrev pub keeps_halves : Kind → Bool
keeps_halves kind = (not (has kind.targets Points) || names kind InputLineality)
    && (not (has kind.targets Inequalities) || names kind Equations)
    && (not (has kind.targets Vertices) || names kind LinealitySpace || names kind Points || names kind Inequalities
    || (names kind Facets && names kind AffineHull))
    && (not (has kind.targets Facets) || names kind AffineHull || names kind Points || names kind Inequalities
    || names kind Vertices)

-- so are those of all rules of the book
abbrev pub KeepsHalves : List Rule → Type 0
KeepsHalves book = (id : RuleId) (rule : Rule) → rule_at book id ≡ Some rule → IsTrue (keeps_halves rule.kind)

-- so are all kinds of standard and wide clients
abbrev pub StandardKindsKeepHalves : Type 0
StandardKindsKeepHalves = All (λ kind. IsTrue (keeps_halves kind)) standard_kinds_list

-- so is each book of rules of such kinds, and the standard book
pub record StandardBooksKeepHalves : Type 0 where
  pub of_kinds : (book : List Rule) → All (λ rule. Contains standard_kinds_list rule.kind) book → KeepsHalves book
  pub standard : KeepsHalves standard_rules

-- By such a book an object that is ensured something is one of which nothing goes without saying; in it values stand
-- where they may stand.
abbrev pub EnsuredIsSaid : Type 0
EnsuredIsSaid = (book : List Rule) → KeepsHalves book → (sub : Option ℕ) (asked : PropSet) (ending : Ending)
    (old new : Configuration) → Ensured unsaid book sub asked ending old new → IsSaidOnce old.object
    → IsSaid new.object × IsSaidOnce new.object

-- Along every run that begins without objects each object is savable for which no round was started; and by such a book
-- each one is.
abbrev pub ObjectsAreSavable : Type 0
ObjectsAreSavable = (book : List Rule) (start end : Machine) (provenances : Provenances) (later : Records)
    (run : List (Spoken × ReplySeen)) → ((q : List ℕ) → start.object q ≡ None)
    → Leads book start (new_records provenances) run end later
    → (q : List ℕ) (o : State) → end.object q ≡ Some o → (has_rounds o ≡ false) ⊎ KeepsHalves book
    → IsTrue (is_savable o)
