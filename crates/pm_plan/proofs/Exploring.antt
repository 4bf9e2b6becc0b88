-- The search, from the start on.
use Rattle.std.proofs.Common.{◌≡◌, ℕ, zero, suc, ◌+◌, ◌*◌, ◌<◌, ◌≤◌, ◌^◌, Option, Some, None, List, [], ◌∷◌, length, take, inl, inr, refl, sym, ap, ◌∙◌, subst, arith, All, AllPairs, Contains}
use Rattle.std.specs.Prelude.{slice_get}
use Rattle.std.proofs.lemmas.List.{length-append}
use Rattle.std.proofs.lemmas.List.Elements.{All-contains, Contains-push_cases}
use Rattle.std.proofs.lemmas.Option.{slice_get-get_or, slice_get_within}
use Rattle.pm_props.specs.declared.set.PropSet.{PropSet}
use Rattle.pm_weights.specs.declared.Cost.{Cost}
use Rattle.pm_props.specs.Sets.{IsSubset}
use Rattle.pm_weights.specs.Weights.{IsWeight, IsAtMost}
use Rattle.pm_weights.proofs.CostOrder.{at_most_itself}
use Rattle.pm_rules.specs.declared.table.TableRow.{TableRow}
use Rattle.pm_rules.specs.Steps.{IsOpen}
use Rattle.pm_rules.specs.Certificates.{IsTableRowBefore}
use Rattle.pm_plan.specs.declared.moves.Move.{Move}
use Rattle.pm_plan.specs.declared.track.Link.{Link}
use Rattle.pm_plan.specs.declared.search.Search.{Search}
use Rattle.pm_plan.specs.Moves.{after}
use Rattle.pm_plan.specs.Tracks.{LinksTo, AreLinked}
use Rattle.pm_plan.specs.Searches.{cost_known, link_waiting, HasGoal, Offered, IsSoundSearch, IsNext, Settles, Offers, Expands, IsEmpty, IsExplored}
use Rattle.pm_plan.proofs.Options.{none_is_not, some_from, if_some_at, if_some_from, get_pushed, get_taken, at_contained}
use Rattle.pm_rules.proofs.RowOrder.{before_at_most}
use Rattle.pm_plan.proofs.Settling.{settled_sound, settled_offered}
use Rattle.pm_limits.specs.Limits.{most_table_rows, most_weight}

-- ---- the start
none_there : {X : Type 0} (xs : List X) (x : X) → xs ≡ [] → Contains xs x → ⊥
none_there [] x e (k, within, same) = omega arith
none_there (y ∷ xs) x e h = cc

no_pairs : {X : Type 0} (R : X → X → Type 0) (xs : List X) → xs ≡ [] → AllPairs R xs
no_pairs R xs e i j d low high = absurd (omega (arith, ap length e))

nowhere : {X : Type 0} (xs : List X) (i : ℕ) (x : X) → xs ≡ [] → slice_get xs i ≡ Some x → ⊥
nowhere xs i x e f = let within = slice_get_within xs i x f in omega (arith, ap length e)

empty_sound : (moves : List Move) (start : TableRow) (asked : PropSet) (s : Search) → IsEmpty s → IsSoundSearch moves start asked s
empty_sound moves start asked s h = record {
  linked = record { paired = ap length h.links ∙ sym (ap length h.rows); linked = λ i row link e f. absurd (nowhere s.rows.items i row h.rows e) };
  ordered = no_pairs IsTableRowBefore s.rows.items h.rows;
  rows_known = λ row there. absurd (none_there s.rows.items row h.rows there);
  waiting_known = λ row waits. absurd (none_is_not (link_waiting s row) (h.waiting row) waits);
  known_met = λ row known. absurd (let e = sym (h.known row.set) ∙ known in cc);
  later = λ row wait there waits. absurd (none_there s.rows.items row h.rows there);
  waiting_linked = λ row. if_some_from (link_waiting s row) (λ link. LinksTo moves start s.rows.items link row) (λ link e. absurd (let f = sym (h.waiting row) ∙ e in cc));
  known_open = λ set some has. none_is_not (cost_known s set) (h.known set) some;
  goal_linked = if_some_from s.goal (λ g. LinksTo moves start s.rows.items g.link g.row × IsSubset asked g.row.set) (λ g e. absurd (let f = sym h.goal ∙ e in cc));
  goal_above = λ row there. absurd (none_there s.rows.items row h.rows there);
}

pub begun_explored : (moves : List Move) (start : TableRow) (asked : PropSet) (old new : Search) → IsEmpty old → Offers asked old new start None → IsExplored moves start asked new
begun_explored moves start asked old new h o =
    let rows : new.rows.items ≡ [] = o.rows ∙ h.rows in
    record {
      sound = o.sound moves start (empty_sound moves start asked old h) refl (λ settled there. absurd (none_there old.rows.items settled h.rows there));
      closed = λ row there m among opened. absurd (none_there new.rows.items row rows there);
      begun = o.offered;
      few = omega (arith, ap length rows);
    }

-- ---- costs fit
-- both parts of the cost are at most a million times n
abbrev Fits : Cost → ℕ → Type 0
Fits cost n = (cost.class ≤ most_weight * n) × (cost.minor ≤ most_weight * n)

module _ (moves : List Move) (start : TableRow) (weights : All (λ m. IsWeight m.weight) moves) (free : Fits start.cost 0) where
  link_fits : (rows : List TableRow) (n : ℕ) (link : Option Link) (row : TableRow) → LinksTo moves start rows link row
      → ((j : ℕ) (before : TableRow) → slice_get rows j ≡ Some before → (j < n) × Fits before.cost j) → Fits row.cost n
  link_fits rows n None row e each =
      let class : row.cost.class ≡ start.cost.class = ap (λ (r : TableRow). r.cost.class) e in
      let minor : row.cost.minor ≡ start.cost.minor = ap (λ (r : TableRow). r.cost.minor) e in
      let none = free in
      (omega arith, omega arith)
  link_fits rows n (Some link) row (before, there, makes) each =
      let low = each link.from before there in
      let weight = All-contains (λ (x : Move). IsWeight x.weight) moves makes.move weights makes.among in
      let class : row.cost.class ≡ before.cost.class + makes.move.weight.class = ap (λ (r : TableRow). r.cost.class) makes.leads in
      let minor : row.cost.minor ≡ before.cost.minor + makes.move.weight.minor = ap (λ (r : TableRow). r.cost.minor) makes.leads in
      (omega (arith, weight.class), omega (arith, weight.minor))

  rows_fit : (rows : List TableRow) (links : List (Option Link)) → AreLinked moves start rows links → (n i : ℕ) (row : TableRow) → i < n → slice_get rows i ≡ Some row → Fits row.cost i
  rows_fit rows links h zero i row low e = absurd (omega arith)
  rows_fit rows links h (suc n) i row low e =
      let within = slice_get_within rows i row e in
      let link = slice_get-get_or links i None (omega (arith, h.paired)) in
      link_fits (take i rows) i _ row (h.linked i row _ e link) (λ j before f.
      let at = get_taken rows i j before f in
      (at.0, rows_fit rows links h n j before (omega arith) at.1))

  waiting_fits : (asked : PropSet) (s : Search) (row : TableRow) (link : Option Link) → IsSoundSearch moves start asked s → link_waiting s row ≡ Some link → Fits row.cost (length s.rows.items)
  waiting_fits asked s row link h e =
      link_fits s.rows.items (length s.rows.items) link row (if_some_at (link_waiting s row) (λ l. LinksTo moves start s.rows.items l row) link e (h.waiting_linked row))
      (λ j before f. let within = slice_get_within s.rows.items j before f in (within, rows_fit s.rows.items s.links.items h.linked (suc j) j before (omega arith) f))

  pub next_fits : (asked : PropSet) (s : Search) (row : TableRow) (link : Option Link) → IsSoundSearch moves start asked s → IsNext s row link → length s.rows.items < most_table_rows
      → (row.cost.class + most_weight < 2 ^ 64) × (row.cost.minor + most_weight < 2 ^ 64)
  next_fits asked s row link h next few = let fits = waiting_fits asked s row link h next.waits in (omega arith, omega arith)

-- ---- one set more is settled
pub explored_more : (moves : List Move) (start : TableRow) (asked : PropSet) (old mid new : Search) (row : TableRow) (link : Option Link) → IsExplored moves start asked old
    → IsNext old row link → (HasGoal old row.cost → ⊥) → length old.rows.items < most_table_rows → Settles old mid row link
    → Expands moves (length moves) asked mid new row (length old.rows.items) → IsExplored moves start asked new
explored_more moves start asked old mid new row link h next below few s e =
    let sound_mid : IsSoundSearch moves start asked mid = settled_sound moves start asked old mid row link h.sound s next below in
    let there : slice_get mid.rows.items (length old.rows.items) ≡ Some row = ap (λ (rows : List TableRow). slice_get rows (length old.rows.items)) s.rows ∙ get_pushed old.rows.items row in
    record {
      sound = e.sound start sound_mid there (λ settled t.
          elim (Contains-push_cases old.rows.items row settled (subst (λ (rows : List TableRow). Contains rows settled) s.rows t)) [
            | inl old_one ↦ before_at_most settled row (h.sound.later settled row old_one (some_from (link_waiting old row) link next.waits))
            | inr same ↦ subst (λ (r : TableRow). IsAtMost r.cost row.cost) same (at_most_itself row.cost)
          ]);
      closed = λ settled t m among opened.
          elim (Contains-push_cases old.rows.items row settled (subst (λ (rows : List TableRow). Contains rows settled) (e.rows ∙ s.rows) t)) [
            | inl old_one ↦ e.keeps (after settled m) (settled_offered moves start asked old mid row link h.sound s next below (after settled m) (h.closed settled old_one m among opened))
            | inr same ↦
                let at = at_contained moves m among in
                subst (λ (r : TableRow). Offered asked new (after r m)) same
                (e.offered at.0 m (slice_get_within moves at.0 m at.1) at.1 (subst (λ (r : TableRow). IsOpen m.step r.set) (sym same) opened))
          ];
      begun = e.keeps start (settled_offered moves start asked old mid row link h.sound s next below start h.begun);
      few = omega (arith, ap length (e.rows ∙ s.rows), length-append old.rows.items (row ∷ []));
    }
