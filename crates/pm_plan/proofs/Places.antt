-- Maps from places and from sets after a change.
use Rattle.std.proofs.Common.{◌≡◌, ◌≢◌, ℕ, true, Option, Some, None, ◌⊎◌, inl, inr, refl, sym, ap, ◌∙◌, subst, IsSome}
use Rattle.std.specs.declared.cmp.Ordering.{Ordering}
use Rattle.std.specs.declared.cmp.Ordering.TheVariants.{Less, Equal, Greater}
use Rattle.std.specs.Ordering.{nat_cmp, is_eq}
use Rattle.std.specs.BTreeMap.{BTreeMap, get, is_at, UpdatesBy}
use Rattle.std.proofs.lemmas.Bool.{false_from_ne_true}
use Rattle.std.proofs.lemmas.Map.Lookups.{exact_unsigned}
use Rattle.pm_weights.specs.declared.Cost.{Cost}
use Rattle.pm_rules.specs.declared.table.TableRow.{TableRow}
use Rattle.pm_plan.specs.declared.track.Link.{Link}
use Rattle.pm_plan.specs.declared.search.Place.{Place}
use Rattle.pm_plan.specs.Searches.{place_cmp, place_of, Waits}
use Rattle.pm_plan.proofs.Options.{same_some, none_is_not}
use Rattle.pm_rules.proofs.RowOrder.{same_row}
use Rattle.pm_plan.proofs.Order.{same_or_not, place_exact}

is_equal : (o : Ordering) → is_eq o ≡ true → o ≡ Equal
is_equal Less e = cc
is_equal Equal e = refl
is_equal Greater e = cc

pub rows_of_places : (a b : TableRow) → place_of a ≡ place_of b → a ≡ b
rows_of_places a b e = same_row a b (ap (λ (p : Place). p.set) e) (ap (λ (p : Place). p.cost) e)

pub other_place : {X : Type 0} (m n : BTreeMap Place X) (row other : TableRow) (w : Option X) → UpdatesBy place_cmp (place_cmp (place_of row)) m n w → other ≢ row
    → get place_cmp n (place_of other) ≡ get place_cmp m (place_of other)
other_place m n row other w u apart =
    u.2 (place_of other) (false_from_ne_true (is_at (place_cmp (place_of row)) (place_of other)) (λ e.
    apart (sym (rows_of_places row other (place_exact (place_of row) (place_of other) (is_equal (place_cmp (place_of row) (place_of other)) e))))))

pub other_set : {X : Type 0} (m n : BTreeMap ℕ X) (set other : ℕ) (w : Option X) → UpdatesBy nat_cmp (nat_cmp set) m n w → other ≢ set → get nat_cmp n other ≡ get nat_cmp m other
other_set m n set other w u apart =
    u.2 other (false_from_ne_true (is_at (nat_cmp set) other) (λ e. apart (sym (exact_unsigned set other (is_equal (nat_cmp set other) e)))))

-- ---- a set waits anew
pub waits_first : (old new : BTreeMap Place (Option Link)) (row : TableRow) (link : Option Link)
    → UpdatesBy place_cmp (place_cmp (place_of row)) old new (Some link) → Waits old new None row link
waits_first old new row link u = record {
  here = u.1;
  others = λ other apart either. other_place old new row other (Some link) u apart;
  gone = λ other apart same had. cc;
}

pub waits_again : (old mid new : BTreeMap Place (Option Link)) (had : Cost) (row : TableRow) (link : Option Link)
    → UpdatesBy place_cmp (place_cmp (record { cost = had; set = row.set })) old mid None
    → UpdatesBy place_cmp (place_cmp (place_of row)) mid new (Some link) → Waits old new (Some had) row link
waits_again old mid new had row link u v =
    let before : TableRow = record { set = row.set; cost = had } in
    record {
      here = v.1;
      others = λ other apart either.
          other_place mid new row other (Some link) v apart
          ∙ other_place old mid before other None u (λ e. elim either [
            | inl n ↦ n (ap (λ (r : TableRow). r.set) e)
            | inr n ↦ n (ap (λ (r : TableRow). Some r.cost) (sym e))
          ]);
      gone = λ other apart same at.
          let is : other ≡ before = same_row other before same (sym (same_some had other.cost at)) in
          other_place mid new row other (Some link) v apart ∙ ap (λ (r : TableRow). get place_cmp mid (place_of r)) is ∙ u.1;
    }

cost_or_not : (had : Option Cost) (cost : Cost) → (had ≡ Some cost) ⊎ (had ≡ Some cost → ⊥)
cost_or_not None cost = inr (λ e. cc)
cost_or_not (Some had) cost = elim (same_or_not had cost) [
  | inl e ↦ inl (ap (λ (c : Cost). Some c) e)
  | inr n ↦ inr (λ e. n (same_some had cost e))
]

-- what waits with the same set waited before
pub waits_rest : (old new : BTreeMap Place (Option Link)) (had : Option Cost) (row other : TableRow) (link : Option Link) → Waits old new had row link
    → other ≢ row → other.set ≡ row.set → IsSome (get place_cmp new (place_of other)) → IsSome (get place_cmp old (place_of other))
waits_rest old new had row other link h apart same waits = elim (cost_or_not had other.cost) [
  | inl e ↦ absurd (none_is_not (get place_cmp new (place_of other)) (h.gone other apart same e) waits)
  | inr n ↦ subst IsSome (h.others other apart (inr n)) waits
]
