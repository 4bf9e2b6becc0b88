-- The client of no rows answers soundly, and a list of it alone means what it says of itself.
use Rattle.pm_client.proofs.Puts.{IsPut, one_put, sound_puts}
use Rattle.pm_client.proofs.SameKind.{same_kind_is}
use Rattle.pm_client.specs.Meanings.{Meanings, Narrows, OfOne}
use Rattle.pm_client.specs.Sound.{IsSound}
use Rattle.pm_client.specs.Starts.{Clients, same_kind}
use Rattle.pm_client.specs.declared.ClientFail.{ClientFail}
use Rattle.pm_client.specs.declared.ClientFail.TheVariants.{Memory}
use Rattle.pm_embedded.specs.NoRows.{HasNoRows, no_rows, own}
use Rattle.pm_fraction.specs.Matrices.{IsFraction}
use Rattle.pm_geom.specs.Things.{Orders}
use Rattle.pm_object.specs.Reading.{DraftSeen, IsView, ViewSeen}
use Rattle.pm_props.proofs.Every.{has-set_of}
use Rattle.pm_props.proofs.Numbers.{number_is}
use Rattle.pm_props.specs.Places.{place_of}
use Rattle.pm_props.specs.Properties.{number}
use Rattle.pm_props.specs.Sets.{has, set_of}
use Rattle.pm_props.specs.declared.kind.Kind.{Kind}
use Rattle.pm_props.specs.declared.property.PropId.TheVariants.{Facets, Inequalities}
use Rattle.pm_run.proofs.Boxing.{map_as}
use Rattle.pm_run.specs.Ends.{EndedBy, World}
use Rattle.pm_run.specs.declared.status.Status.{Status}
use Rattle.pm_types.specs.Forms.{FormsIn, HasPrimitiveRow}
use Rattle.pm_types.specs.Right.{RightAll, RightFact, RightPair, RightTogether}
use Rattle.pm_types.specs.Things.{Thing}
use Rattle.pm_types.specs.Values.{Fact, matrix}
use Rattle.pm_vector.proofs.Lists.{Among, Contains_among, among_Contains, among_append}
use Rattle.pm_words.specs.Words.{WordsSeen}
use Rattle.std.proofs.Common.{ap, eqb, inl, inr, refl, subst, sym, true, false, ◌∙◌}
use Rattle.std.proofs.lemmas.Bool.{eqb-true}
use Rattle.std.proofs.lemmas.List.Elements.{All-nil}
use Rattle.std.specs.List.{All, Contains}
use Rattle.std.specs.declared.dyn_box.DynBox.{DynBox}
use Rattle.std.specs.Prelude.{Bool, IsTrue, List, Option, [], map, ℕ, ◌++◌, ◌∷◌, ◌≡◌, ◌||◌, ◌⊎◌}

-- ---- boxes: there is one table of members alone, and each has a value of its type
pub neither : ⊥ ⊎ ⊥ → ⊥
neither (inl e) = e
neither (inr e) = e

pub over_one : {Z E : Type 0} → (E → ⊥) → {F : Unit {0} ⊎ E → Type 0} (Q : DynBox (Unit {0} ⊎ E) Z F → Type 0) → ((x : F (inl tt)) (p : _) (a : Z) → Q (record { ptr = p; vtable = inl tt; alloc = a; value = x })) → (b : DynBox (Unit {0} ⊎ E) Z F) → Q b
over_one {Z} {E} empty {F} Q h b = by b.vtable b.value
  where
    by : (i : Unit {0} ⊎ E) (x : F i) → Q (record { ptr = b.ptr; vtable = i; alloc = b.alloc; value = x })
    by (inl u) x = h x b.ptr b.alloc
    by (inr e) x = absurd (empty e)

-- ---- the client
pub has_inequalities : (k : Kind) → k ≡ no_rows → IsTrue (has k.targets Inequalities)
has_inequalities k e = ap (λ z. has z.targets Inequalities) e ∙ has-set_of (Inequalities ∷ []) Inequalities

is_one : (b : Bool) → (b || false) ≡ true → b ≡ true
is_one true h = refl
is_one false h = h

only_one : {X : Type 0} {x y : X} → Among x (y ∷ []) → x ≡ y
only_one Among.here = refl
only_one (Among.there i) = elim i [ ]

module _ (v : ViewSeen) (kind : v.kind ≡ no_rows) (view : IsView v) where
  -- what the client reads is of FACETS
  only_facets : (f : Fact) → Contains v.facts f → f.property ≡ Facets
  only_facets f c =
      let t : IsTrue (has (set_of (Facets ∷ [])) f.property) = subst (λ k. IsTrue (has k.sources f.property)) kind (view.only f c) in
      sym (number_is Facets f.property (eqb-true (number Facets) (number f.property) (is_one (eqb (number Facets) (number f.property)) (sym (has-set_of (Facets ∷ []) f.property) ∙ t))))

  -- no rows, as the client puts them
  abbrev answer : Fact
  answer = record { place = place_of v.sub Inequalities; property = Inequalities; value = matrix 0 [] }

  form : FormsIn v.of v.cols Inequalities (matrix 0 [])
  form = record { formed = refl; columns = refl; rows = refl; entries = All-nil (All IsFraction); primitive = All-nil HasPrimitiveRow }

  right_with : (t : Thing) (o : Orders) → RightAll v.facts t o → RightAll (v.facts ++ answer ∷ []) t o
  right_with t o right = record { thing = right.thing; orders = right.orders; each = each; together = together }
    where
      each : (x : Fact) → Contains (v.facts ++ answer ∷ []) x → RightFact x t o
      each x c = elim (among_append v.facts (answer ∷ []) (among_Contains (v.facts ++ answer ∷ []) c)) [
        | inl i ↦ right.each x (Contains_among i)
        | inr i ↦ subst (λ z. RightFact z t o) (sym (only_one i)) (record { xs = []; stand = tt; cols = tt; each = All-nil _ })
      ]

      first : (x y : Fact) → x.property ≡ Facets → RightTogether t x y
      first x y e = subst (λ p. RightPair p x.value y.property y.value t) (sym e) tt

      second : (x y : Fact) → x ≡ answer → y.property ≡ Facets → RightTogether t x y
      second x y e is = subst (λ z. RightTogether t z y) (sym e) (subst (λ p. RightPair Inequalities (matrix 0 []) p y.value t) (sym is) tt)

      itself : (x y : Fact) → x ≡ answer → y ≡ answer → RightTogether t x y
      itself x y e d = subst (λ z. RightTogether t z y) (sym e) (subst (λ z. RightTogether t answer z) (sym d) tt)

      together : (x y : Fact) → Contains (v.facts ++ answer ∷ []) x → Contains (v.facts ++ answer ∷ []) y → RightTogether t x y
      together x y c d = elim (among_append v.facts (answer ∷ []) (among_Contains (v.facts ++ answer ∷ []) c)) [
        | inl i ↦ first x y (only_facets x (Contains_among i))
        | inr i ↦ elim (among_append v.facts (answer ∷ []) (among_Contains (v.facts ++ answer ∷ []) d)) [
          | inl j ↦ second x y (only_one i) (only_facets y (Contains_among j))
          | inr j ↦ itself x y (only_one i) (only_one j)
        ]
      ]

  pub no_rows_sound : (old new : DraftSeen) → IsPut v Inequalities (matrix 0 []) old new → IsSound v new
  no_rows_sound old new put =
      sound_puts v (record { property = Inequalities; value = matrix 0 [] } ∷ []) new (one_put v Inequalities (matrix 0 []) old new put) ((form, refl), tt)
      (λ t o of cols right meets. record {
        orders = o;
        keeps = record { rays = λ n. refl; facets = λ n. refl; cones = λ n. refl };
        right = right_with t o right;
        canonical = (tt, tt);
      })

-- ---- lists of such clients
-- it is of the kind, and says no more than that it puts no rows and wants memory
pub record SaysNoRows {B : Type 0} (k : B → Kind) (gives : B → ViewSeen → DraftSeen → Type 0) (fails : B → ViewSeen → ClientFail → Type 0) (b : B) : Type 0 where
  pub kind : k b ≡ no_rows
  pub puts : (v : ViewSeen) (d : DraftSeen) → gives b v d → HasNoRows d
  pub wants : (v : ViewSeen) (e : ClientFail) → fails b v e → e ≡ Memory

module _ {B : Type 0} (k : B → Kind) (gives : B → ViewSeen → DraftSeen → Type 0) (fails : B → ViewSeen → ClientFail → Type 0) (says : (b : B) → SaysNoRows k gives fails b) where
  gives_own : (v : ViewSeen) (d : DraftSeen) (bs : List B) → OfOne (λ b. (same_kind (k b) v.kind ≡ true) × gives b v d) bs → (no_rows ≡ v.kind) × HasNoRows d
  gives_own v d [] p = absurd p
  gives_own v d (b ∷ bs) (inl q) = (sym (says b).kind ∙ same_kind_is _ _ q.0, (says b).puts v d q.1)
  gives_own v d (b ∷ bs) (inr p) = gives_own v d bs p

  fails_own : (v : ViewSeen) (e : ClientFail) (bs : List B) → OfOne (λ b. (same_kind (k b) v.kind ≡ true) × fails b v e) bs → (no_rows ≡ v.kind) × (e ≡ Memory)
  fails_own v e [] p = absurd p
  fails_own v e (b ∷ bs) (inl q) = (sym (says b).kind ∙ same_kind_is _ _ q.0, (says b).wants v e q.1)
  fails_own v e (b ∷ bs) (inr p) = fails_own v e bs p

  pub all_narrow : (bs : List B) → Narrows own (record { Gives = λ v d. OfOne (λ b. (same_kind (k b) v.kind ≡ true) × gives b v d) bs; Fails = λ v e. OfOne (λ b. (same_kind (k b) v.kind ≡ true) × fails b v e) bs })
  all_narrow bs = record { gives = λ v d p. gives_own v d bs p; fails = λ v e p. fails_own v e bs p }

-- what g tells of one that was put into an empty list, f does
pub put_alone : {B C : Type 0} (f g : B → C) → ((b : B) → f b ≡ g b) → (old new : List B) (t : C) → old ≡ [] → map g new ≡ map g old ++ t ∷ [] → map f new ≡ t ∷ []
put_alone f g same old new t empty put = map_as f g same new ∙ put ∙ ap (λ bs. map g bs ++ t ∷ []) empty

-- ---- a run
-- the script was this one, and these were the clients before
pub ended_with : (m : Meanings) (said : Option WordsSeen) (status : Status) (w : World) (script : Option (List ℕ)) (before : Clients) → w.script ≡ script → w.before ≡ before → EndedBy m said status w → EndedBy m said status (record w { script = script; before = before })
ended_with m said status w script before is are e =
    subst (λ z. EndedBy m said status (record w { script = z; before = before })) is (subst (λ z. EndedBy m said status (record w { before = z })) are e)
