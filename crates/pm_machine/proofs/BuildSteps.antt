-- The steps of the commands that build objects, from what their functions do.
use Rattle.pm_client.specs.Meanings.{Meanings}
use Rattle.pm_client.specs.Starts.{Clients}
use Rattle.pm_command.specs.Commands.{ShapeSeen}
use Rattle.pm_command.specs.declared.building.Builder.{Builder}
use Rattle.pm_files.specs.Views.{file_of}
use Rattle.pm_files.specs.declared.file.FileObject.{FileObject}
use Rattle.pm_machine.proofs.Ensuring.{all_stay}
use Rattle.pm_machine.proofs.Growth.{all_have_read}
use Rattle.pm_machine.specs.Building.{BuildStep, EnsuresAll, MakeStep, ObjectsAre, are_of, is_made, not_fit, not_made, told_rounds, wanted_all, is_refused}
use Rattle.pm_making.specs.Rows.{Makes, Unfit, Unmade, object_of, row_of, same_type, shape_condition, shape_file}
use Rattle.pm_machine.specs.Built.{Builds, HasRead, HaveRead, IsBuilt, MakesBuilt, remarks_of}
use Rattle.pm_making.specs.Made.{IsRead, IsUnbuilt, of_built}
use Rattle.pm_making.specs.declared.unbuilt.Unbuilt.{Unbuilt}
use Rattle.pm_making.specs.declared.unbuilt.Unbuilt.TheVariants as unbuilt
use Rattle.pm_machine.specs.Machines.{Gains, IsNewName, Machine, Stays, no_rounds, shelf}
use Rattle.pm_object.specs.State.{IsRefused, RoundSeen, State}
use Rattle.pm_object.specs.declared.held.BuildFail.{BuildFail}
use Rattle.pm_object.specs.declared.held.BuildFail.TheVariants as fail
use Rattle.pm_object.specs.declared.held.Condition.{Condition}
use Rattle.pm_object_type.specs.declared.object_type.ObjectType.{ObjectType}
use Rattle.pm_props.specs.declared.property.PropId.{PropId}
use Rattle.pm_rules.specs.declared.rule.Rule.{Rule}
use Rattle.pm_script.specs.Replies.{NamesSeen, ReplySeen, Rounds, done, refused}
use Rattle.pm_script.specs.declared.refusal.NotMadeWhy.{NotMadeWhy}
use Rattle.pm_script.specs.declared.refusal.Refusal.TheVariants.{NotFit, NotMade}
use Rattle.std.proofs.Common.{ap, inl, inr, refl, subst, sym, true, ◌∙◌}
use Rattle.std.proofs.lemmas.Bool.{and_from}
use Rattle.std.proofs.lemmas.Option.{same_Some}
use Rattle.std.specs.List.{AllByRecursion, list_all}
use Rattle.std.specs.Prelude.{Bool, Err, IfErr, IfOk, List, None, Ok, OnErr, OnOk, Result, Some, [], drop, get_or, map, ℕ, ◌∷◌, ◌≡◌, ◌⊎◌}
use Rattle.pm_making.proofs.Fits.{IsOfItsType, reads_some}

-- the machine with these clients
abbrev pub with_clients : Clients → Machine → Machine
with_clients clients m = record m { clients = clients }

pub stays_with : (clients : Clients) (old new : Machine) → Stays old new → Stays (with_clients clients old) (with_clients clients new)
stays_with clients old new s = record { names = s.names; objects = s.objects; clients = refl; store = s.store }

gains_with : (clients : Clients) (to : List ℕ) (o : State) (old new : Machine) → Gains to o old new → Gains to o (with_clients clients old) (with_clients clients new)
gains_with clients to o old new g = record { names = g.names; object = g.object; others = g.others; clients = refl; store = g.store }

-- ---- what was built
-- made of a file with these values, or refused for this condition, or for this reason
abbrev pub MadeSo : List ℕ → Result FileObject Unbuilt → Rounds → ReplySeen → Machine → Machine → Type 0
MadeSo to built t reply old new = ((f : FileObject) × (built ≡ Ok f) × (reply ≡ done t) × Gains to (object_of (file_of f)) old new)
    ⊎ (((c : Condition) × (built ≡ Err (unbuilt.NotFit c)) × (reply ≡ refused (NotFit c) (remarks_of t)) × Stays old new)
    ⊎ ((why : NotMadeWhy) × (built ≡ Err (unbuilt.NotMade why)) × (reply ≡ refused (NotMade why) (remarks_of t)) × Stays old new))

made_so : (to : List ℕ) (built : Result FileObject Unbuilt) (t : Rounds) (reply : ReplySeen) (old new : Machine) → MakesBuilt to built t reply old new → MadeSo to built t reply old new
made_so to (Ok f) t (done told) old new (is, g) = inl (f, refl, ap done is, g)
made_so to (Err (unbuilt.NotFit c)) t (refused (NotFit d) more) old new (same, is, s) = inr (inl (c, refl, ap (λ z. refused (NotFit z) more) same ∙ ap (λ z. refused (NotFit c) z) is, s))
made_so to (Err (unbuilt.NotMade why)) t (refused (NotMade told) more) old new (same, is, s) = inr (inr (why, refl, ap (λ z. refused (NotMade z) more) same ∙ ap (λ z. refused (NotMade why) z) is, s))
made_so to built t reply old new h = absurd h

if_ok : {A E : Type 0} (P : A → Type 0) (r : Result A E) (a : A) → r ≡ Ok a → IfOk r P → P a
if_ok P r a is h = subst (λ z. IfOk z P) is h

on_ok : {A E : Type 0} (P : Type 0) (r : Result A E) (a : A) → r ≡ Ok a → OnOk r P → P
on_ok P r a is h = subst (λ z. OnOk z P) is h

if_err : {A E : Type 0} (P : E → Type 0) (r : Result A E) (e : E) → r ≡ Err e → IfErr r P → P e
if_err P r e is h = subst (λ z. IfErr z P) is h

-- nothing was ensured
pub none_told : {X : Type 0} (f : X → RoundSeen) (xs : List X) (names : NamesSeen) → xs ≡ [] → names ≡ no_rounds.names → record { rounds = map f xs; names = names } ≡ no_rounds
none_told f xs names none is = ap (λ z. record { rounds = map f z; names = names }) none ∙ ap (λ z. record { rounds = []; names = z }) is

-- `make`
made_step : (to : List ℕ) (shape : ShapeSeen) (built : Result FileObject BuildFail) (t : Rounds) (reply : ReplySeen) (clients : Clients) (old new : Machine) → IsNewName (shelf old) to → t ≡ no_rounds
    → IfOk built (λ f. file_of f ≡ shape_file shape) → OnOk built (shape_condition shape ≡ None) → IfErr built (IsRefused (shape_condition shape)) → MakesBuilt to (of_built built) t reply old new
    → MakeStep (with_clients clients old) to shape reply (with_clients clients new)
made_step to shape (Ok f) t (done told) clients old new free none file fits refused' (is, g) =
    is_made free fits (is ∙ none) (gains_with clients to _ old new (subst (λ z. Gains to (object_of z) old new) file g))
made_step to shape (Err (fail.NotFit c)) t (refused (NotFit d) more) clients old new free none file fits refused' (same, is, s) =
    subst (λ z. MakeStep (with_clients clients old) to shape z (with_clients clients new)) (sym (ap (λ z. refused (NotFit z) more) same ∙ ap (λ z. refused (NotFit c) z) (is ∙ ap remarks_of none)))
    (is_refused (not_fit free refused') (stays_with clients old new s))
made_step to shape built t reply clients old new free none file fits refused' h = absurd h

pub make_step : {F E : Type 0} (view : F → ReplySeen) (r : Result F E) (to : List ℕ) (shape : ShapeSeen) (built : Result FileObject BuildFail) (t : Rounds) (clients : Clients) (old new : Machine) → IsNewName (shelf old) to → t ≡ no_rounds
    → IfOk built (λ f. file_of f ≡ shape_file shape) → OnOk built (shape_condition shape ≡ None) → IfErr built (IsRefused (shape_condition shape)) → IfOk r (λ x. MakesBuilt to (of_built built) t (view x) old new)
    → IfOk r (λ x. MakeStep (with_clients clients old) to shape (view x) (with_clients clients new))
make_step view (Ok x) to shape built t clients old new free none file fits refused' h =
    made_step to shape built t (view x) clients old new free none file fits refused' h
make_step view (Err e) to shape built t clients old new free none file fits refused' h = tt

-- an object that was made of others
built_so : (b : Builder) (names : List (List ℕ)) (to : List ℕ) (built : Result FileObject Unbuilt) (t : Rounds) (reply : ReplySeen) (old new : Machine) → IsBuilt b old names built → MadeSo to built t reply old new → Builds b names to t reply old new
built_so b names to built t reply old new i (inl (f, is, said, g)) =
    subst (λ z. Builds b names to t z old new) (sym said)
    (i.objects, file_of f, i.are, if_ok (λ f. Makes b i.objects (file_of f)) built f is i.made, refl, g)
built_so b names to built t reply old new i (inr (inl (c, is, said, s))) =
    subst (λ z. Builds b names to t z old new) (sym said) (i.objects, i.are, if_err (IsUnbuilt (Unfit b i.objects) (Unmade b i.objects)) built (unbuilt.NotFit c) is i.unbuilt, refl, s)
built_so b names to built t reply old new i (inr (inr (why, is, said, s))) =
    subst (λ z. Builds b names to t z old new) (sym said) (i.objects, i.are, if_err (IsUnbuilt (Unfit b i.objects) (Unmade b i.objects)) built (unbuilt.NotMade why) is i.unbuilt, refl, s)

pub builds_all : {F E : Type 0} (view : F → ReplySeen) (r : Result F E) (b : Builder) (names : List (List ℕ)) (to : List ℕ) (built : Result FileObject Unbuilt) (t : Rounds) (old new : Machine) → IsBuilt b old names built
    → IfOk r (λ x. MakesBuilt to built t (view x) old new) → IfOk r (λ x. Builds b names to t (view x) old new)
builds_all view (Ok x) b names to built t old new i h = built_so b names to built t (view x) old new i (made_so to built t (view x) old new h)
builds_all view (Err e) b names to built t old new i h = tt

-- ---- where all was read
-- the objects that were read are of the type
read_types : (type : ObjectType) (ps : List PropId) (m : Machine) (names : List (List ℕ)) (os : List State) → AllByRecursion (λ n. HasRead type ps (m.object n)) names → ObjectsAre m names os → list_all (λ o. same_type type o.of) os ≡ true
read_types type ps m names [] read are = refl
read_types type ps m [] (o ∷ os) read are = absurd (cons_nil are)
  where
    cons_nil : [] ≡ Some o ∷ map (λ o. Some o) os → ⊥
    cons_nil e = cc
read_types type ps m (n ∷ ns) (o ∷ os) (r, rs) are =
    let at : m.object n ≡ Some o = ap (λ z. get_or z 0 None) are in
    and_from (same_type type o.of) (list_all (λ o. same_type type o.of) os) (subst (λ (z : State). same_type type z.of ≡ true) (same_Some _ _ (sym r.is ∙ at)) r.of_type) (read_types type ps m ns os rs (ap (drop 1) are))

-- ---- the objects that were found
pub read_there : (type : ObjectType) (ps : List PropId) (m : Machine) (name given : List ℕ) (o : State) → given ≡ name → m.object given ≡ Some o → HasRead type ps (m.object name) → IsRead ps o
read_there type ps m name given o same at r = subst (IsRead ps) (same_Some _ _ (sym r.is ∙ sym (ap m.object same) ∙ at)) r.read

pub one_object : (m : Machine) (name given : List ℕ) (o : State) → given ≡ name → m.object given ≡ Some o → ObjectsAre m (name ∷ []) (o ∷ [])
one_object m name given o same at = ap (λ z. z ∷ []) (sym (ap m.object same) ∙ at)

pub two_objects : (m : Machine) (first second given other : List ℕ) (o p : State) → given ≡ first → other ≡ second → m.object given ≡ Some o → m.object other ≡ Some p → ObjectsAre m (first ∷ second ∷ []) (o ∷ p ∷ [])
two_objects m first second given other o p same same' at at' = ap (λ z. z ∷ m.object second ∷ []) (sym (ap m.object same) ∙ at) ∙ ap (λ z. Some o ∷ z ∷ []) (sym (ap m.object same') ∙ at')

-- ---- objects that stay
same_objects : (old new : Machine) (names : List (List ℕ)) → Stays old new → map new.object names ≡ map old.object names
same_objects old new [] s = refl
same_objects old new (n ∷ ns) s = ap (λ z. z ∷ map new.object ns) (s.objects n) ∙ ap (λ z. old.object n ∷ z) (same_objects old new ns s)

-- ---- the steps where all was found
build_step : {M : Meanings} (book : List Rule) (b : Builder) (names : List (List ℕ)) (to : List ℕ) (rounds : List RoundSeen) (t : Rounds) (reply : ReplySeen) (clients : Clients) (old mid new : Machine) → IsNewName (shelf old) to → are_of (row_of b).of (shelf old) names ≡ true
    → EnsuresAll M book (wanted_all (row_of b).reads names) rounds old (with_clients clients mid) → t ≡ told_rounds book rounds → IsOfItsType b → HaveRead b mid names → Builds b names to t reply mid new
    → BuildStep M book b old names to reply (with_clients clients new)
build_step {M = M} book b names to rounds t (done told) clients old mid new free types all is of read (os, f, are, fits, same, g) =
    is_made {mid = with_clients clients mid} rounds os f (record { free = free; types = types; ensured = all; objects = are }) fits (gains_with clients to _ mid new g) (same ∙ is)
build_step {M = M} book b names to rounds t (refused (NotFit c) more) clients old mid new free types all is of read (os, are, fails, same, s) =
    not_fit rounds os
    (record {
      free = free;
      types = types;
      ensured = all_stay M book (wanted_all (row_of b).reads names) rounds old (with_clients clients mid) (with_clients clients new) all (stays_with clients mid new s);
      objects = same_objects mid new names s ∙ are;
    })
    (of os c (read_types (row_of b).of (row_of b).reads mid names os read are) fails) fails (same ∙ ap remarks_of is)
build_step {M = M} book b names to rounds t (refused (NotMade why) more) clients old mid new free types all is of read (os, are, shown, same, s) =
    not_made rounds os
    (record {
      free = free;
      types = types;
      ensured = all_stay M book (wanted_all (row_of b).reads names) rounds old (with_clients clients mid) (with_clients clients new) all (stays_with clients mid new s);
      objects = same_objects mid new names s ∙ are;
    })
    shown (same ∙ ap remarks_of is)
build_step {M = M} book b names to rounds t reply clients old mid new free types all is of read h = absurd h

pub build_answered : (M : Meanings) {F E : Type 0} (view : F → ReplySeen) (r : Result F E) (book : List Rule) (b : Builder) (names : List (List ℕ)) (to : List ℕ) (rounds : List RoundSeen) (t : Rounds) (clients : Clients) (old mid new : Machine) → IsNewName (shelf old) to → are_of (row_of b).of (shelf old) names ≡ true
    → EnsuresAll M book (wanted_all (row_of b).reads names) rounds old (with_clients clients mid) → t ≡ told_rounds book rounds → IsOfItsType b → HaveRead b mid names → IfOk r (λ x. Builds b names to t (view x) mid new)
    → IfOk r (λ x. BuildStep M book b old names to (view x) (with_clients clients new))
build_answered M view (Ok x) book b names to rounds t clients old mid new free types all is of read h = build_step book b names to rounds t (view x) clients old mid new free types all is of read h
build_answered M view (Err e) book b names to rounds t clients old mid new free types all is of read h = tt

-- ---- what is read
pub reads_done : (M : Meanings) (what : Builder) (book : List Rule) (names : List (List ℕ)) (rounds : List RoundSeen) (old new : Machine) → EnsuresAll M book (wanted_all (row_of what).reads names) rounds old new → are_of (row_of what).of (shelf old) names ≡ true → HaveRead what new names
reads_done M what book names rounds old new all types = let r = reads_some what in all_have_read M book rounds old new what r.0 r.1 names r.2 all types

-- what was asked of a type was asked of that of the row
pub of_row : {answer : Bool} (type : ObjectType) (b : Builder) (m : Machine) (names : List (List ℕ)) → type ≡ (row_of b).of → are_of type (shelf m) names ≡ answer → are_of (row_of b).of (shelf m) names ≡ answer
of_row {answer} type b m names same h = subst (λ z. are_of z (shelf m) names ≡ answer) same h

-- ---- where memory ran out
pub if_broken : {T E P Q : Type 0} (r : Result T E) → (P → Q) → OnErr r P → OnErr r Q
if_broken (Ok x) f p = tt
if_broken (Err e) f p = f p
