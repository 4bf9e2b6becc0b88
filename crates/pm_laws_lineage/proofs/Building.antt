-- What commands build of other objects is in line with them.
use Rattle.pm_client.specs.Meanings.{unsaid}
use Rattle.pm_command.specs.Commands.{ShapeSeen}
use Rattle.pm_command.specs.declared.building.Binary.{Binary}
use Rattle.pm_command.specs.declared.building.Binary.TheVariants.{Minkowski, Product, Refine}
use Rattle.pm_command.specs.declared.building.Builder.{Builder}
use Rattle.pm_command.specs.declared.building.Builder.TheVariants.{One, Two}
use Rattle.pm_command.specs.declared.building.Unary.{Unary}
use Rattle.pm_command.specs.declared.building.Unary.TheVariants.{FaceFan, NormalFan, Polar, Pyramid}
use Rattle.pm_files.specs.Files.{SavedFile}
use Rattle.pm_laws_lineage.proofs.Builds.{BuildLaws, IsRightFor, one_operand, one_right, refined_right, shape_right, two_operands, two_right}
use Rattle.pm_laws_lineage.proofs.Counts.{built_savable, shape_savable}
use Rattle.pm_laws_lineage.proofs.Lines.{AllInLine, InLine, in_line_ensured, in_line_made, in_line_stands, line_at, new_line, one_line, same_line}
use Rattle.pm_laws_lineage.proofs.Reading.{read_right, read_right_fan}
use Rattle.pm_laws_lineage.proofs.Sound.{Sound}
use Rattle.pm_laws_lineage.specs.Provenances.{Provenance, Provenances, provenance_of, lineage_at, lineage_of, made, put}
use Rattle.pm_laws_lineage.specs.Lineages.{Denotes, Lineage, one, shape, two}
use Rattle.pm_machine.proofs.Growth.{all_have_read, all_none}
use Rattle.pm_machine.specs.Building.{EndsAt, EnsuresAll, EnsuresOne, HasEnsured, ObjectsAre, Wanted, wanted_all}
use Rattle.pm_machine.specs.Built.{HasRead, HaveRead}
use Rattle.pm_machine.specs.Machines.{Gains, Machine}
use Rattle.pm_making.proofs.Fits.{reads_some}
use Rattle.pm_making.specs.Made.{IsRead}
use Rattle.pm_making.specs.Rows.{Makes, object_of, row_of, same_type, shape_condition, shape_file}
use Rattle.pm_object.specs.Honest.{based, facts}
use Rattle.pm_object.specs.State.{RoundSeen, State, file_value, settling}
use Rattle.pm_object.specs.declared.held.Origin.TheVariants as origin
use Rattle.pm_object_type.specs.declared.object_type.ObjectType.{ObjectType}
use Rattle.pm_object_type.specs.declared.object_type.ObjectType.TheVariants.{Cone, Fan, Polytope}
use Rattle.pm_props.specs.Sets.{only}
use Rattle.pm_props.specs.declared.property.PropId.{PropId}
use Rattle.pm_refine.specs.ObjectFans.{refine_reads}
use Rattle.pm_rounds.specs.Events.{configuration}
use Rattle.pm_rounds.specs.declared.round.Ending.{Ending}
use Rattle.pm_rounds.specs.declared.round.Ending.TheVariants as ending
use Rattle.pm_rules.specs.declared.rule.Rule.{Rule}
use Rattle.pm_types.specs.Right.{RightAll}
use Rattle.pm_types.specs.Things.{Thing}
use Rattle.pm_types.specs.Values.{PropertyValue}
use Rattle.std.proofs.Common.{ap, drop, get_or, inl, inr, refl, subst, sym, true, true≢false, ◌∙◌, ◌≢◌}
use Rattle.std.proofs.lemmas.Option.{none-some, same_Some}
use Rattle.std.specs.Option.{option_map}
use Rattle.std.specs.Prelude.{List, None, Some, [], map, ℕ, ◌++◌, ◌∷◌, ◌≡◌}

-- ---- new objects
all_given : (vs : List (PropId × PropertyValue)) → based (map (λ (v : PropId × PropertyValue). file_value origin.Given v.0 v.1) vs) ≡ map (λ (v : PropId × PropertyValue). file_value origin.Given v.0 v.1) vs
all_given [] = refl
all_given (v ∷ vs) = ap (λ z. file_value origin.Given v.0 v.1 ∷ z) (all_given vs)

pub made_sound : (l : Lineage) (f : SavedFile) → ((u : Thing) → Denotes l u → IsRightFor f u) → Sound (made l) (object_of f)
made_sound l f h = λ u d. let (of, p, r) = h u d.0 in (of, p, subst (λ z. RightAll (facts (z ++ settling (object_of f))) u p) (sym (all_given f.values)) r)

-- ---- types
polytope_type : (x : ObjectType) → same_type Polytope x ≡ true → x ≡ Polytope
polytope_type Polytope e = refl
polytope_type Cone e = absurd (true≢false (sym e))
polytope_type Fan e = absurd (true≢false (sym e))

fan_type : (x : ObjectType) → same_type Fan x ≡ true → x ≡ Fan
fan_type Fan e = refl
fan_type Cone e = absurd (true≢false (sym e))
fan_type Polytope e = absurd (true≢false (sym e))

one_type : (b : Unary) → (row_of (One b)).of ≡ Polytope
one_type Polar = refl
one_type Pyramid = refl
one_type NormalFan = refl
one_type FaceFan = refl

-- ---- operands
cons_nil : {A : Type 0} (x : A) (xs : List A) → [] ≡ x ∷ xs → ⊥
cons_nil x xs e = cc

nil_cons : {A : Type 0} (x : A) (xs : List A) → x ∷ xs ≡ [] → ⊥
nil_cons x xs e = cc

names_none : (m : Machine) (names : List (List ℕ)) → map m.object names ≡ [] → names ≡ []
names_none m [] e = refl
names_none m (n ∷ names) e = absurd (nil_cons (m.object n) (map m.object names) e)

names_cons : (m : Machine) (names : List (List ℕ)) (a : State) (os : List State) → ObjectsAre m names (a ∷ os) → (n : List ℕ) × (ns : List (List ℕ)) × (names ≡ n ∷ ns) × (m.object n ≡ Some a) × ObjectsAre m ns os
names_cons m [] a os e = absurd (cons_nil (Some a) (map (λ o. Some o) os) e)
names_cons m (n ∷ ns) a os e = (n, ns, refl, ap (λ z. get_or z 0 None) e, ap (drop 1) e)

read_of : (type : ObjectType) (ps : List PropId) (m : Machine) (n : List ℕ) (a : State) → m.object n ≡ Some a → HasRead type ps (m.object n) → IsRead ps a × (same_type type a.of ≡ true)
read_of type ps m n a at r =
    let same : r.object ≡ a = same_Some _ _ (sym r.is ∙ at) in
    (subst (IsRead ps) same r.read, subst (λ (z : State). same_type type z.of ≡ true) same r.of_type)

module _ (laws : BuildLaws) (book : List Rule) (provenances : Provenances) where
  -- ---- ensuring
  pub one_keeps : (w : Wanted) (e : Ending) (rounds : List RoundSeen) (old new : Machine) → EnsuresOne unsaid book w e rounds old new → AllInLine provenances old → AllInLine provenances new
  one_keeps w e rounds old new it all =
      one_line provenances w.name it.now.object old new it.becomes.object it.becomes.others
      (in_line_ensured book (provenances w.name) None (only w.property) e (configuration it.object old.clients) it.now it.ensured (line_at provenances old w.name it.object it.named all)) all

  pub all_keep : (ws : List Wanted) (rounds : List RoundSeen) (old new : Machine) → EnsuresAll unsaid book ws rounds old new → AllInLine provenances old → AllInLine provenances new
  all_keep [] rounds old new (none, s) all = same_line provenances old new s.objects all
  all_keep (w ∷ ws) rounds old new (m, first, more, it, others, are) all = all_keep ws more m new others (one_keeps w ending.Found first old m it all)

  pub ends_keep : (ws : List Wanted) (e : Ending) (rounds : List RoundSeen) (old new : Machine) → EndsAt unsaid book ws e rounds old new → AllInLine provenances old → AllInLine provenances new
  ends_keep [] e rounds old new h all = absurd h
  ends_keep (w ∷ ws) e rounds old new (inl (other, it)) all = one_keeps w e rounds old new it all
  ends_keep (w ∷ ws) e rounds old new (inr (m, first, more, it, others, are)) all = ends_keep ws e more m new others (one_keeps w ending.Found first old m it all)

  -- ---- standard polytopes
  pub shape_line : (to : List ℕ) (s : ShapeSeen) (old new : Machine) → shape_condition s ≡ None → Gains to (object_of (shape_file s)) old new → AllInLine provenances old → AllInLine (put to (made (shape s)) provenances) new
  shape_line to s old new fits g all =
      new_line provenances to (made (shape s)) (object_of (shape_file s)) old new g.object g.others
      (in_line_made book (made (shape s)) (shape_file s) (shape_savable s) (made_sound (shape s) (shape_file s) (λ u d. shape_right laws s u fits d.0 d.1))) all

  -- ---- one operand
  one_sound : (b : Unary) (a : State) (f : SavedFile) (provenance : Provenance) → Makes (One b) (a ∷ []) f → InLine provenance a → IsRead (row_of (One b)).reads a → a.of ≡ Polytope → Sound (made (one b (lineage_of provenance a))) (object_of f)
  one_sound b a f provenance makes line read of = made_sound (one b (lineage_of provenance a)) f right
    where
      right : (u : Thing) → Denotes (one b (lineage_of provenance a)) u → IsRightFor f u
      right u (thing, t, dt, is) =
          let (tof, p, r) = (in_line_stands provenance a line).right t dt in
          one_right laws b a f t p u makes (read_right (row_of (One b)).reads a t p read line.knows (tof ∙ of) r) thing is

  two_sound : (b : Binary) (a c : State) (f : SavedFile) (provenance other : Provenance) → Makes (Two b) (a ∷ c ∷ []) f → (row_of (Two b)).of ≡ Polytope → InLine provenance a → InLine other c → IsRead (row_of (Two b)).reads a → IsRead (row_of (Two b)).reads c → a.of ≡ Polytope → c.of ≡ Polytope
      → Sound (made (two b (lineage_of provenance a) (lineage_of other c))) (object_of f)
  two_sound b a c f provenance other makes poly line line' read read' of of' = made_sound (two b (lineage_of provenance a) (lineage_of other c)) f right
    where
      right : (u : Thing) → Denotes (two b (lineage_of provenance a) (lineage_of other c)) u → IsRightFor f u
      right u (thing, t, s, dt, ds, is) =
          let (tof, p, r) = (in_line_stands provenance a line).right t dt in
          let (sof, q, r') = (in_line_stands other c line').right s ds in
          two_right laws b a c f t p s q u makes poly (read_right (row_of (Two b)).reads a t p read line.knows (tof ∙ of) r) (read_right (row_of (Two b)).reads c s q read' line'.knows (sof ∙ of') r') thing is

  refined_sound : (a c : State) (f : SavedFile) (provenance other : Provenance) → Makes (Two Refine) (a ∷ c ∷ []) f → InLine provenance a → InLine other c → IsRead refine_reads a → IsRead refine_reads c → a.of ≡ Fan → c.of ≡ Fan
      → Sound (made (two Refine (lineage_of provenance a) (lineage_of other c))) (object_of f)
  refined_sound a c f provenance other makes line line' read read' of of' = made_sound (two Refine (lineage_of provenance a) (lineage_of other c)) f right
    where
      right : (u : Thing) → Denotes (two Refine (lineage_of provenance a) (lineage_of other c)) u → IsRightFor f u
      right u (thing, t, s, dt, ds, is) =
          let (tof, p, r) = (in_line_stands provenance a line).right t dt in
          let (sof, q, r') = (in_line_stands other c line').right s ds in
          refined_right laws a c f t p s q u makes (read_right_fan refine_reads a t p read line.knows (tof ∙ of) r) (read_right_fan refine_reads c s q read' line'.knows (sof ∙ of') r') thing is (ap (λ (z : SavedFile). z.of) makes.1.file_is)

  both_sound : (b : Binary) (a c : State) (f : SavedFile) (provenance other : Provenance) → Makes (Two b) (a ∷ c ∷ []) f → InLine provenance a → InLine other c → IsRead (row_of (Two b)).reads a → IsRead (row_of (Two b)).reads c
      → same_type (row_of (Two b)).of a.of ≡ true → same_type (row_of (Two b)).of c.of ≡ true → Sound (made (two b (lineage_of provenance a) (lineage_of other c))) (object_of f)
  both_sound Product a c f provenance other makes line line' read read' of of' = two_sound Product a c f provenance other makes refl line line' read read' (polytope_type a.of of) (polytope_type c.of of')
  both_sound Minkowski a c f provenance other makes line line' read read' of of' = two_sound Minkowski a c f provenance other makes refl line line' read read' (polytope_type a.of of) (polytope_type c.of of')
  both_sound Refine a c f provenance other makes line line' read read' of of' = refined_sound a c f provenance other makes line line' read read' (fan_type a.of of) (fan_type c.of of')

  -- ---- what is built
  module _ (rounds : List RoundSeen) (old mid new : Machine) (names : List (List ℕ)) (to : List ℕ) (f : SavedFile) (g : Gains to (object_of f) mid new) (all : AllInLine provenances mid) (free : mid.object to ≡ None) where
    other_name : (n : List ℕ) (a : State) → mid.object n ≡ Some a → n ≢ to
    other_name n a at e = none-some _ (sym free ∙ sym (ap mid.object e) ∙ at)

    lineage_is : (n : List ℕ) (a : State) → mid.object n ≡ Some a → lineage_at provenances new n ≡ Some (lineage_of (provenances n) a)
    lineage_is n a at = ap (option_map (lineage_of (provenances n))) (g.others n (other_name n a at) ∙ at)

    one_built : (b : Unary) (os : List State) → Makes (One b) os f → ObjectsAre mid names os → HaveRead (One b) mid names → AllInLine (put to (provenance_of (One b) (map (lineage_at provenances new) names)) provenances) new
    one_built b os makes are read =
        let (a, e) = one_operand b os f makes in
        let (n, ns, is, at, rest) = names_cons mid names a [] (subst (ObjectsAre mid names) e are) in
        let none : ns ≡ [] = names_none mid ns rest in
        let whole : names ≡ n ∷ [] = is ∙ ap (λ z. n ∷ z) none in
        let r = read_of (row_of (One b)).of (row_of (One b)).reads mid n a at (subst (λ z. HaveRead (One b) mid z) whole read).0 in
        let same : provenance_of (One b) (map (lineage_at provenances new) names) ≡ made (one b (lineage_of (provenances n) a)) = ap (λ z. provenance_of (One b) (map (lineage_at provenances new) z)) whole ∙ ap (λ z. provenance_of (One b) (z ∷ [])) (lineage_is n a at) in
        subst (λ z. AllInLine (put to z provenances) new) (sym same)
        (new_line provenances to (made (one b (lineage_of (provenances n) a))) (object_of f) mid new g.object g.others
        (in_line_made book _ f (built_savable (One b) (a ∷ []) f (subst (λ z. Makes (One b) z f) e makes)) (one_sound b a f (provenances n) (subst (λ z. Makes (One b) z f) e makes) (line_at provenances mid n a at all) r.0 (polytope_type a.of (subst (λ z. same_type z a.of ≡ true) (one_type b) r.1)))) all)

    two_built : (b : Binary) (os : List State) → Makes (Two b) os f → ObjectsAre mid names os → HaveRead (Two b) mid names → AllInLine (put to (provenance_of (Two b) (map (lineage_at provenances new) names)) provenances) new
    two_built b os makes are read =
        let (a, c, e) = two_operands b os f makes in
        let (n, ns, is, at, rest) = names_cons mid names a (c ∷ []) (subst (ObjectsAre mid names) e are) in
        let (k, ks, is', at', rest') = names_cons mid ns c [] rest in
        let none : ks ≡ [] = names_none mid ks rest' in
        let whole : names ≡ n ∷ k ∷ [] = is ∙ ap (λ z. n ∷ z) (is' ∙ ap (λ z. k ∷ z) none) in
        let reads = subst (λ z. HaveRead (Two b) mid z) whole read in
        let r = read_of (row_of (Two b)).of (row_of (Two b)).reads mid n a at reads.0 in
        let r' = read_of (row_of (Two b)).of (row_of (Two b)).reads mid k c at' reads.1.0 in
        let same : provenance_of (Two b) (map (lineage_at provenances new) names) ≡ made (two b (lineage_of (provenances n) a) (lineage_of (provenances k) c)) =
        ap (λ z. provenance_of (Two b) (map (lineage_at provenances new) z)) whole ∙ ap (λ z. provenance_of (Two b) (z ∷ lineage_at provenances new k ∷ [])) (lineage_is n a at) ∙ ap (λ z. provenance_of (Two b) (Some (lineage_of (provenances n) a) ∷ z ∷ [])) (lineage_is k c at') in
        subst (λ z. AllInLine (put to z provenances) new) (sym same)
        (new_line provenances to (made (two b (lineage_of (provenances n) a) (lineage_of (provenances k) c))) (object_of f) mid new g.object g.others
        (in_line_made book _ f (built_savable (Two b) (a ∷ c ∷ []) f (subst (λ z. Makes (Two b) z f) e makes))
        (both_sound b a c f (provenances n) (provenances k) (subst (λ z. Makes (Two b) z f) e makes) (line_at provenances mid n a at all) (line_at provenances mid k c at' all) r.0 r'.0 r.1 r'.1)) all)

  pub built_line : (b : Builder) (old mid new : Machine) (names : List (List ℕ)) (to : List ℕ) (rounds : List RoundSeen) (os : List State) (f : SavedFile) → HasEnsured unsaid book b names to rounds os old mid → Makes b os f → Gains to (object_of f) mid new
      → AllInLine provenances old → AllInLine (put to (provenance_of b (map (lineage_at provenances new) names)) provenances) new
  built_line b old mid new names to rounds os f h makes g all =
      let r = reads_some b in
      let read = all_have_read unsaid book rounds old mid b r.0 r.1 names r.2 h.ensured h.types in
      let kept = all_keep (wanted_all (row_of b).reads names) rounds old mid h.ensured all in
      by b os makes h.objects read kept (all_none unsaid book (wanted_all (row_of b).reads names) rounds old mid to h.ensured h.free.0)
    where
      by : (b : Builder) (os : List State) → Makes b os f → ObjectsAre mid names os → HaveRead b mid names → AllInLine provenances mid → mid.object to ≡ None → AllInLine (put to (provenance_of b (map (lineage_at provenances new) names)) provenances) new
      by (One b) os makes are read kept free = one_built rounds old mid new names to f g kept free b os makes are read
      by (Two b) os makes are read kept free = two_built rounds old mid new names to f g kept free b os makes are read
