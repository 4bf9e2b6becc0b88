-- A description that is held stays as it is.
use Rattle.pm_object.specs.State.{HeldValue, read_at, value_of}
use Rattle.pm_props.specs.Places.{same_property}
use Rattle.pm_props.specs.declared.property.PropId.{PropId}
use Rattle.pm_rounds.specs.Events.{Configuration, Event, after_event, begun, committed, excluded, settled, started, written}
use Rattle.pm_transact.proofs.Committing.{read_append}
use Rattle.pm_types.specs.Values.{PropertyValue}
use Rattle.pm_vector.specs.Rows.{Row}
use Rattle.pm_laws_fitting.specs.Objects.{DescriptionFits, EventsKeepFitting, HasAtMost, HasRows, HoldsFitting}
use Rattle.std.proofs.Common.{ap, refl, subst, sym, true≢false, ◌∙◌}
use Rattle.std.specs.Option.{is_some}
use Rattle.std.specs.Prelude.{Bool, IsTrue, List, None, Option, Some, [], false, if◌then◌else◌, true, ℕ, ◌++◌, ◌∷◌, ◌≡◌}

-- the first value counts
value_first : (p : PropId) (xs ys : List HeldValue) → is_some (value_of p xs) ≡ true → value_of p (xs ++ ys) ≡ value_of p xs
value_first p [] ys h = absurd (true≢false (sym h))
value_first p (x ∷ xs) ys h = by (value_first p xs ys) (same_property p x.property) h
  where
    by : (is_some (value_of p xs) ≡ true → value_of p (xs ++ ys) ≡ value_of p xs) → (b : Bool) → is_some (if b then Some x.value else value_of p xs) ≡ true → (if b then Some x.value else value_of p (xs ++ ys)) ≡ (if b then Some x.value else value_of p xs)
    by rest true k = refl
    by rest false k = rest k

module _ (sub : Option ℕ) (held more : List HeldValue) where
  value_stays : (p : PropId) → is_some (value_of p (read_at sub held)) ≡ true → value_of p (read_at sub (held ++ more)) ≡ value_of p (read_at sub held)
  value_stays p h = ap (value_of p) (read_append sub held more) ∙ value_first p (read_at sub held) (read_at sub more) h

  rows_back : (p : PropId) → is_some (value_of p (read_at sub held)) ≡ true → (A : List Row) → HasRows sub (held ++ more) p A → HasRows sub held p A
  rows_back p h A r = record { cols = r.cols; rows = r.rows; value = sym (value_stays p h) ∙ r.value; primitive = r.primitive }

  at_most_stays : (n M : ℕ) (p : PropId) → is_some (value_of p (read_at sub held)) ≡ true → HasAtMost sub held n M p → HasAtMost sub (held ++ more) n M p
  at_most_stays n M p h a = record { cols = λ A r. a.cols A (rows_back p h A r); size = λ A r. a.size A (rows_back p h A r) }

  fitting_stays : (first second : PropId) (n : ℕ) → HoldsFitting first second sub held n → HoldsFitting first second sub (held ++ more) n
  fitting_stays first second n f =
      let d = f.fits in
      record {
        has_first = ap is_some (value_stays first f.has_first) ∙ f.has_first;
        has_second = ap is_some (value_stays second f.has_second) ∙ f.has_second;
        fits = record {
          most = d.most;
          some = d.some;
          firsts = at_most_stays n d.most first f.has_first d.firsts;
          seconds = at_most_stays n d.most second f.has_second d.seconds;
          lines = d.lines;
          few = λ L r. d.few L (rows_back first f.has_first L r);
          basis = d.basis;
          minors = d.minors;
          grows = d.grows;
          size = d.size;
        };
      }

pub events_keep_fitting : EventsKeepFitting
events_keep_fitting first second sub n c settled f = fitting_stays sub c.object.held _ first second n f
events_keep_fitting first second sub n c (begun chain) f = f
events_keep_fitting first second sub n c (started kind) f = f
events_keep_fitting first second sub n c (committed answer) f = fitting_stays sub c.object.held _ first second n f
events_keep_fitting first second sub n c (excluded e) f = f
events_keep_fitting first second sub n c (written r) f = f
