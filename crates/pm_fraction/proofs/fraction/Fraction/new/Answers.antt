-- The sizes and the sign are those of the quotient, so its lowest terms are the quotient's.
use Rattle.std.proofs.lemmas.Int.{to_z-of_z}
use Rattle.std.proofs.lemmas.Result.{IfErr-at_err, IfOk-weaker}
use Rattle.std.specs.Int.{w128}
use Rattle.std.specs.Prelude.{unsigned_abs, ◌≡◌, ◌≢◌}
use Rattle.pm_fraction.proofs.Quotients.{lowest_same, sizes_same, wide_same}
use Rattle.pm_fraction.specs.Fractions.{is_quotient_negative, ratio_of, signed}
use lib.IntN.{pos}
use Rattle.pm_fraction.proofs.fraction.Fraction.new.Goals as goal
use Rattle.pm_fraction.proofs.fraction.Fraction.new.Goals.{After-of_sizes}

some : (c : After-of_sizes) → c.args.d ≢ pos 0
some c e = c.if-d-eq0.false (rw e)

is_negative : (c : After-of_sizes) → c.has_negative_quotient.result ≡ is_quotient_negative c.args.n c.args.d
is_negative c = rw (to_z-of_z w128 c.args.n c.ranges.n, to_z-of_z w128 c.args.d c.ranges.d) at c.has_negative_quotient.ensures

top : (c : After-of_sizes) → c.unsigned_abs.result ≡ unsigned_abs c.args.n
top c = rw (to_z-of_z w128 c.args.n c.ranges.n) at c.unsigned_abs.ensures.value

bottom : (c : After-of_sizes) → c.unsigned_abs-2.result ≡ unsigned_abs c.args.d
bottom c = rw (to_z-of_z w128 c.args.d c.ranges.d) at c.unsigned_abs-2.ensures.value

pub returns-clause-ok : goal.returns-clause-ok
returns-clause-ok c =
    let p = (goal.at.returns-clause-ok c).After-of_sizes in
    let ok = rw (is_negative p, top p, bottom p) at c.of_sizes.ensures.ok in
    IfOk-weaker c.of_sizes.result _ _ (λ r h. lowest_same (ratio_of (signed (is_quotient_negative c.args.n c.args.d) (unsigned_abs c.args.n)) (pos (unsigned_abs c.args.d))) (ratio_of c.args.n c.args.d) r (some p) (sizes_same c.args.n c.args.d) h) ok

pub returns-clause-wide : goal.returns-clause-wide
returns-clause-wide c =
    let p = (goal.at.returns-clause-wide c).After-of_sizes in
    λ e. let wide = rw (is_negative p, top p, bottom p) at (IfErr-at_err _ e c.of_sizes.ensures.wide) in
    wide_same (ratio_of (signed (is_quotient_negative c.args.n c.args.d) (unsigned_abs c.args.n)) (pos (unsigned_abs c.args.d))) (ratio_of c.args.n c.args.d) (some p) (sizes_same c.args.n c.args.d) wide.1
