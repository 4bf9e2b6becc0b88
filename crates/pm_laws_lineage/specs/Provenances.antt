-- How the object of each name came, along a run.
use Rattle.std.specs.Prelude.{ℕ, ◌≡◌, ◌&&◌, ◌||◌, Bool, false, true, length, nat_eq, not, List, [], ◌∷◌, filter, if◌then◌else◌, IfSome, map, None, Option, Some}
use Rattle.std.specs.List.{list_all}
use Rattle.std.specs.Option.{is_some, option_map}
use Rattle.std.specs.Str.{bytes_eq}
use Rattle.pm_command.specs.Commands.{Spoken, new_object, take_value, copy_object, load_object, save_object, make_object, build_object}
use Rattle.pm_command.specs.declared.building.Builder.{Builder}
use Rattle.pm_command.specs.declared.building.Builder.TheVariants.{One, Two}
use Rattle.pm_filing.specs.Whole.{is_kept}
use Rattle.pm_geom.specs.Things.{Orders}
use Rattle.pm_laws_lineage.specs.Lineages.{Denotes, Lineage, given, one, shape, two, with_objectives, with_value}
use Rattle.pm_machine.specs.Machines.{Machine}
use Rattle.pm_object.specs.Honest.{based, facts}
use Rattle.pm_machine.specs.Steps.{bytes_of, settled_object}
use Rattle.pm_object.specs.State.{HeldValue, State, agrees, cols_of, has_rounds, is_held, names_to_settle, read_at, value_of}
use Rattle.pm_props.specs.Names.{property_named_in}
use Rattle.pm_props.specs.Properties.{facets_tag, generators_tag, half_spaces_tag, rays_tag}
use Rattle.pm_props.specs.declared.property.PropId.{PropId}
use Rattle.pm_props.specs.declared.property.PropId.TheVariants.{ConeAmbientDim}
use Rattle.pm_rules.specs.declared.rule.Rule.{Rule}
use Rattle.pm_script.specs.Replies.{ReplySeen, done, loaded}
use Rattle.pm_types.specs.Right.{RightAll}
use Rattle.pm_types.specs.Things.{Thing}
use Rattle.pm_types.specs.Values.{PropertyValue}

-- an object stands for what its given and stored values are right for; or it was made by a command, so
pub data Provenance : Type 0 where
  of_its_values : Provenance
  made : Lineage → Provenance

-- the objectives that were given to linear programs
abbrev pub objectives : List HeldValue → List HeldValue
objectives held = filter (λ h. is_some h.place) held

-- its lineage now
abbrev pub lineage_of : Provenance → State → Lineage
lineage_of of_its_values o = given o.of (based o.held)
lineage_of (made l) o = with_objectives l (objectives (based o.held))

-- of each name; of one that no object has it says nothing
abbrev pub Provenances : Type 0
Provenances = List ℕ → Provenance

-- the object of this name came so; of the others as before
abbrev pub put : List ℕ → Provenance → Provenances → Provenances
put name provenance provenances q = if bytes_eq q name then provenance else provenances q

-- the lineage of the object of a name, if there is one
abbrev pub lineage_at : Provenances → Machine → List ℕ → Option Lineage
lineage_at provenances m name = option_map (lineage_of (provenances name)) (m.object name)

-- what a command made of objects of these lineages
abbrev pub provenance_of : Builder → List (Option Lineage) → Provenance
provenance_of (One b) (Some l ∷ []) = made (one b l)
provenance_of (Two b) (Some l ∷ Some k ∷ []) = made (two b l k)
provenance_of b ls = of_its_values

-- values of the property speak of no order, and are no half of a description
abbrev pub keeps_lineage : PropId → Bool
keeps_lineage p = not (rays_tag p) && not (facets_tag p) && not (generators_tag p) && not (half_spaces_tag p)

-- what was made of that lineage, with this value of the property
abbrev pub made_with : Lineage → PropId → Option PropertyValue → Provenance
made_with l p None = of_its_values
made_with l p (Some v) = made (with_value l p v)

-- Where the object holds now what was given to it itself: what was made keeps its lineage, with the value, if the
-- property allows it; else the object is one of its values, whatever it was before.
abbrev pub provenance_given : Provenance → Option PropId → State → Provenance
provenance_given (made l) (Some p) o = if keeps_lineage p then made_with l p (value_of p (read_at None o.held))
    else of_its_values
provenance_given provenance p o = of_its_values

-- a property that this text names was given to the object itself, or an objective to a linear program of it
abbrev pub after_taking : List ℕ → Option (List ℕ) → List ℕ → Option State → Provenances → Provenances
after_taking name None text (Some o) provenances =
    put name (provenance_given (provenances name) (property_named_in o.of text) o) provenances
after_taking name None text None provenances = put name of_its_values provenances
after_taking name (Some sub) text o provenances = provenances

abbrev pub after_new : List ℕ → Option (List ℕ) → Provenances → Provenances
after_new name None provenances = put name of_its_values provenances
after_new name (Some sub) provenances = provenances

-- after a command with this reply, and the machine as it is then; what is loaded has a place of its own, below
abbrev pub provenances_after : Spoken → ReplySeen → Machine → Provenances → Provenances
provenances_after (new_object ref text) (done t) m provenances = after_new ref.name ref.sub provenances
provenances_after (take_value ref text json) (done t) m provenances =
    after_taking ref.name ref.sub text (m.object ref.name) provenances
provenances_after (copy_object name to) (done t) m provenances = put to (provenances name) provenances
provenances_after (make_object to s) (done t) m provenances = put to (made (shape s)) provenances
provenances_after (build_object b names to) (done t) m provenances =
    put to (provenance_of b (map (lineage_at provenances m) names)) provenances
provenances_after command reply m provenances = provenances

-- ---- files
-- each value goes into the file of the object, and states no other column count than the object's
abbrev pub states_one_count : List HeldValue → Bool
states_one_count held = list_all (λ h. is_kept h && agrees (cols_of held) h.property h.value) held

-- What goes without saying of the object is filled in alike in what is loaded of its file: nothing does; or no round
-- was started, and the column count, where it is to be filled in, is that of each value.
abbrev pub is_savable : State → Bool
is_savable o = nat_eq (length (names_to_settle o.held)) 0
    || (not (has_rounds o) && (is_held ConeAmbientDim o.held || states_one_count o.held))

-- how the objects came; and the bytes that were saved, the latest first, each with the lineage of the object then
pub record Records : Type 0 where
  pub provenances : Provenances
  pub saved : List (List ℕ × Lineage)

-- what is loaded of bytes that were saved of an object came as that object did; what is loaded of others stands for
-- what its values are right for
abbrev pub provenance_loaded : List (List ℕ × Lineage) → List ℕ → Provenance
provenance_loaded [] bytes = of_its_values
provenance_loaded (s ∷ saved) bytes = if bytes_eq s.0 bytes then made s.1 else provenance_loaded saved bytes

-- the lineage of an object that is saved is kept where the object is savable
abbrev pub saved_if : Bool → List ℕ × Lineage → List (List ℕ × Lineage) → List (List ℕ × Lineage)
saved_if true s saved = s ∷ saved
saved_if false s saved = saved

-- the bytes of the object's file, and the lineage of the object with what goes without saying of it
abbrev pub saving : List Rule → Provenance → State → List ℕ × Lineage
saving book provenance o = (bytes_of book o, lineage_of provenance (settled_object o))

abbrev pub saved_at : List Rule → Provenance → Option State → List (List ℕ × Lineage) → List (List ℕ
    × Lineage)
saved_at book provenance None saved = saved
saved_at book provenance (Some o) saved =
    saved_if (is_savable o) (saving book provenance o) saved

-- after a command with this reply, where it has read these bytes if it loads, and the machine as it is then
abbrev pub records_after : List Rule → List ℕ → Spoken → ReplySeen → Machine → Records → Records
records_after book bytes (load_object name file) (loaded names) m f =
    record f { provenances = put name (provenance_loaded f.saved bytes) f.provenances }
records_after book bytes (save_object name file) (done t) m f =
    record f { saved = saved_at book (f.provenances name) (m.object name) f.saved }
records_after book bytes command reply m f = record f { provenances = provenances_after command reply m f.provenances }

-- ---- what objects stand for
-- for each thing that the lineage denotes, all values of the object are right together, in some orders
pub record StandsFor (l : Lineage) (o : State) : Type 0 where
  pub right : (u : Thing) → Denotes l u → (u.of ≡ o.of) × (p : Orders) × RightAll (facts o.held) u p

-- so each object of the machine stands for what its lineage denotes
pub record AllStandFor (provenances : Provenances) (m : Machine) : Type 0 where
  pub each : (q : List ℕ) → IfSome (m.object q) (λ o. StandsFor (lineage_of (provenances q) o) o)
