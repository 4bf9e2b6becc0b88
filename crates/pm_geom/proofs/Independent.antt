-- Independent rows, passed on.
pub use Rattle.pm_vector.proofs.Independent.{combination_append, decide_zero, in_units, independent_both, independent_more, orthogonal_are_few, self_zero, units, units_cols, units_entry, units_independent, units_length, units_past}
