-- Graphs that are the same but for the names of their nodes have one diameter.
use Rattle.pm_geom.specs.Graphs.{IsDiameter, IsDistance, IsWalk}
use Rattle.std.proofs.Common.{ap, inl, inr, subst}
use Rattle.std.specs.Prelude.{suc, zero, ℕ, ◌<◌, ◌≡◌}

-- each node of the one has its node in the other, and edges lead where edges lead
pub record IsSameGraph (m : ℕ) (E : ℕ → ℕ → Type 0) (k : ℕ) (D : ℕ → ℕ → Type 0) : Type 0 where
  pub to : ℕ → ℕ
  pub back : ℕ → ℕ
  pub to_within : (i : ℕ) → i < m → to i < k
  pub back_within : (j : ℕ) → j < k → back j < m
  pub back_to : (i : ℕ) → i < m → back (to i) ≡ i
  pub to_back : (j : ℕ) → j < k → to (back j) ≡ j
  pub end : (i j : ℕ) → E i j → j < m
  pub end_back : (i j : ℕ) → D i j → j < k
  pub edge : (i j : ℕ) → i < m → E i j → D (to i) (to j)
  pub edge_back : (i j : ℕ) → i < k → D i j → E (back i) (back j)

abbrev pub turned : {m k : ℕ} {E D : ℕ → ℕ → Type 0} → IsSameGraph m E k D → IsSameGraph k D m E
turned s = record {
  to = s.back;
  back = s.to;
  to_within = s.back_within;
  back_within = s.to_within;
  back_to = s.to_back;
  to_back = s.back_to;
  end = s.end_back;
  end_back = s.end;
  edge = s.edge_back;
  edge_back = s.edge;
}

pub walk_as : (m k : ℕ) (E D : ℕ → ℕ → Type 0) (s : IsSameGraph m E k D) (d i j : ℕ) → i < m → IsWalk E i j d → IsWalk D (s.to i) (s.to j) d
walk_as m k E D s zero i j l w = ap s.to w
walk_as m k E D s (suc d) i j l w = (s.to w.0, s.edge i w.0 l w.1, walk_as m k E D s d w.0 j (s.end i w.0 w.1) w.2)

module _ (m k : ℕ) (E D : ℕ → ℕ → Type 0) (s : IsSameGraph m E k D) where
  walk_back : (d i j : ℕ) → i < m → j < m → IsWalk D (s.to i) (s.to j) d → IsWalk E i j d
  walk_back d i j li lj w =
      let v = walk_as k m D E (turned s) d (s.to i) (s.to j) (s.to_within i li) w in
      subst (λ y. IsWalk E i y d) (s.back_to j lj) (subst (λ x. IsWalk E x (s.back (s.to j)) d) (s.back_to i li) v)

  pub distance_as : (d i j : ℕ) → i < m → j < m → IsDistance E i j d → IsDistance D (s.to i) (s.to j) d
  distance_as d i j li lj h = record { walk = walk_as m k E D s d i j li h.walk; least = λ c lc w. h.least c lc (walk_back c i j li lj w) }

pub diameter_as : (m k : ℕ) (E D : ℕ → ℕ → Type 0) → IsSameGraph m E k D → (d : ℕ) → IsDiameter m E d → IsDiameter k D d
diameter_as m k E D s d h = record {
  connected = λ i j li lj.
      let w = h.connected (s.back i) (s.back j) (s.back_within i li) (s.back_within j lj) in
      (w.0, subst (λ y. IsWalk D i y w.0) (s.to_back j lj) (subst (λ x. IsWalk D x (s.to (s.back j)) w.0) (s.to_back i li) (walk_as m k E D s w.0 (s.back i) (s.back j) (s.back_within i li) w.1)));
  greatest = record {
    bound = λ i j c li lj e. h.greatest.bound (s.back i) (s.back j) c (s.back_within i li) (s.back_within j lj) (distance_as k m D E (turned s) c i j li lj e);
    reached = elim h.greatest.reached [ inl e ↦ inl e | inr w ↦ inr (s.to w.0, s.to w.1, s.to_within w.0 w.2, s.to_within w.1 w.3, distance_as m k E D s d w.0 w.1 w.2 w.3 w.4) ];
  };
}
