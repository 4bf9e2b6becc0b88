-- What is so of a view and of its kind: which properties the kind names; it is of no fan where the kind names a property that fans do not have; it has few columns, and no fact of a property that it has no value of.
use Rattle.pm_vector.proofs.Lists.{Among, among_Contains, here, there}
use Rattle.pm_object_type.specs.declared.object_type.ObjectType.TheVariants.{Fan}
use Rattle.pm_object.specs.Reading.{IsView, ViewSeen, fact_of}
use Rattle.pm_props.proofs.Every.{has-set_of}
use Rattle.pm_props.proofs.Places.{same_property_refl}
use Rattle.pm_props.proofs.Members.{has-union}
use Rattle.pm_props.specs.Kinds.{conditions_of, names_of}
use Rattle.pm_props.specs.Properties.{is_in_use}
use Rattle.pm_props.specs.Properties.{has_program, number, of_fans, row}
use Rattle.pm_props.specs.Places.{same_property}
use Rattle.pm_props.specs.Sets.{has, set_of, union}
use Rattle.pm_types.specs.Values.{Fact}
use Rattle.pm_props.specs.declared.kind.Kind.{Kind}
use Rattle.pm_props.specs.declared.property.PropId.{PropId}
use Rattle.std.proofs.Common.{ap, arith, eqb, false, refl, sym, true, true≢false, ◌∙◌}
use Rattle.std.proofs.lemmas.Bool.{leb-true, or_right}
use Rattle.std.specs.List.{Contains, list_any}
use Rattle.std.specs.Option.{is_some}
use Rattle.std.specs.Prelude.{Bool, List, None, Some, if◌then◌else◌, ℕ, ◌&&◌, ◌<◌, ◌^◌, ◌||◌, ◌≡◌}
use Rattle.pm_limits.specs.Limits.{most_columns}

-- a set of listed properties has exactly these
pub has_listed : (s : ℕ) (ps : List PropId) (p : PropId) → s ≡ set_of ps → has s p ≡ list_any (λ q. eqb (number q) (number p)) ps
has_listed s ps p e = ap (λ z. has z p) e ∙ has-set_of ps p

pub few_columns : (v : ViewSeen) → IsView v → v.cols < 2 ^ 63
few_columns v view = let l = leb-true v.cols most_columns view.few_cols in omega arith

pub target_named : (kind : Kind) (p : PropId) → has kind.targets p ≡ true → has (names_of kind) p ≡ true
target_named kind p h = has-union kind.targets (union kind.sources (conditions_of kind)) p ∙ ap (λ b. b || has (union kind.sources (conditions_of kind)) p) h

pub source_named : (kind : Kind) (p : PropId) → has kind.sources p ≡ true → has (names_of kind) p ≡ true
source_named kind p h =
    has-union kind.targets (union kind.sources (conditions_of kind)) p
    ∙ or_right (has kind.targets p) (has (union kind.sources (conditions_of kind)) p) (has-union kind.sources (conditions_of kind) p ∙ ap (λ b. b || has (conditions_of kind) p) h)

pub not_fan : (v : ViewSeen) (p : PropId) → IsView v → has (names_of v.kind) p ≡ true → of_fans (row p).tables ≡ false → has_program p ≡ false → ¬ (v.of ≡ Fan)
not_fan v p view named absent alone e =
    true≢false (sym (view.in_use p named) ∙ ap (λ of. is_in_use v.sub of p) e ∙ neither (of_fans (row p).tables) (is_some v.sub) (has_program p) absent alone)
  where
    neither : (a b c : Bool) → a ≡ false → c ≡ false → (a || b && c) ≡ false
    neither a b c e k = rw (e, k) (no b)
      where
        no : (b : Bool) → (false || b && false) ≡ false
        no true = refl
        no false = refl

some_among : {f : Fact} {facts : List Fact} (p : PropId) → Among f facts → f.property ≡ p → is_some (fact_of p facts) ≡ true
some_among {f} p (here {xs}) e = let same : same_property p f.property ≡ true = ap (λ q. same_property p q) e ∙ same_property_refl p in rw same refl
some_among {f} p (there {y = g} {xs} i) e = by (same_property p g.property) (some_among p i e)
  where
    by : (t : Bool) → is_some (fact_of p xs) ≡ true → is_some (if t then Some g.value else fact_of p xs) ≡ true
    by true h = refl
    by false h = h

pub none_among : (p : PropId) (facts : List Fact) → fact_of p facts ≡ None → (f : Fact) → Contains facts f → ¬ (f.property ≡ p)
none_among p facts h f c e = true≢false (sym (some_among p (among_Contains facts c) e) ∙ ap is_some h)

-- the view is of no fan where one of these sources is of no fan
pub no_fan_of : (v : ViewSeen) (ps : List PropId) (p : PropId) → IsView v → v.kind.sources ≡ set_of ps → list_any (λ q. eqb (number q) (number p)) ps ≡ true → of_fans (row p).tables ≡ false → has_program p ≡ false → ¬ (v.of ≡ Fan)
no_fan_of v ps p view sources listed absent alone = not_fan v p view (source_named v.kind p (has_listed v.kind.sources ps p sources ∙ listed)) absent alone
