use Rattle.std.proofs.Common.{inl, refl, sym, true≢false}
use Rattle.pm_clients_geom.proofs.example_redundancy.Goals as goal

pub returns : goal.returns
returns c = record {
  thins = record { targets = refl; sources = refl; lists = refl; programs = refl };
  thins_otherwise = λ h. true≢false (sym h.programs);
  thins_halves = record { targets = refl; sources = refl; lists = refl; programs = refl; counts = refl };
  counts_no_facets = λ h. true≢false (sym h.counts);
  asks = record { targets = refl; sources = refl; asks = refl };
  asks_nothing = λ h. true≢false (sym h.asks);
  memory = tt;
  feasible_fails = tt;
  others_fail = tt;
  product = λ h. h.shown.shown;
  step = λ e h. inl h;
  no_step = λ e h. h.shown.shown;
}
