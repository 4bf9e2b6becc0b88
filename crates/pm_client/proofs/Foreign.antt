-- A client of a name that no rule has may fail as each standard rule does that finds the same from the same, and in no
-- other way.
use Rattle.pm_props.specs.declared.kind.Kind.{Kind}
use Rattle.pm_standard.specs.Named.{does_the_same, has_way, row_named, ways_beside}
use Rattle.pm_standard.specs.Table.{standard_clients, table_row}
use Rattle.pm_standard.specs.Ways.{Way, is_way}
use Rattle.pm_standard.specs.declared.standard.StandardClient.{StandardClient}
use Rattle.pm_vector.proofs.Filters.{among_filter, any_from, any_to, filter_among}
use Rattle.pm_vector.proofs.Lists.{Among, Contains_among}
use Rattle.std.proofs.Common.{ap, refl, subst, sym, ◌∙◌}
use Rattle.std.proofs.lemmas.List.Folds.{list_any-append}
use Rattle.std.specs.List.{Contains, flat_map, list_any}
use Rattle.std.specs.Prelude.{Bool, List, None, [], filter, true, ◌∷◌, ◌||◌, ◌≡◌}

any_flat : {X Y : Type 0} (t : Y → Bool) (f : X → List Y) (xs : List X) → list_any t (flat_map f xs) ≡ list_any (λ x. list_any t (f x)) xs
any_flat t f [] = refl
any_flat t f (x ∷ xs) = list_any-append t (f x) (flat_map f xs) ∙ ap (λ b. list_any t (f x) || b) (any_flat t f xs)

module _ (kind : Kind) (w : Way) (unnamed : row_named kind.name ≡ None) where
  abbrev has : StandardClient → Bool
  has c = list_any (is_way w) (table_row c).ways

  by_rules : has_way kind w ≡ list_any has (filter (does_the_same kind) standard_clients)
  by_rules = ap (λ r. list_any (is_way w) (ways_beside kind r)) unnamed ∙ any_flat (is_way w) (λ c. (table_row c).ways) (filter (does_the_same kind) standard_clients)

  pub foreign_has_way : (c : StandardClient) → Among c standard_clients → does_the_same kind c ≡ true → has c ≡ true → has_way kind w ≡ true
  foreign_has_way c i same h = by_rules ∙ any_from has (among_filter (does_the_same kind) i same) h

  pub foreign_ways : has_way kind w ≡ true → (c : StandardClient) × Contains standard_clients c × (does_the_same kind c ≡ true) × (has c ≡ true)
  foreign_ways h =
      let (c, i, t) = any_to has (filter (does_the_same kind) standard_clients) (sym by_rules ∙ h) in
      let (j, same) = filter_among (does_the_same kind) standard_clients i in
      (c, Contains_among j, same, t)
