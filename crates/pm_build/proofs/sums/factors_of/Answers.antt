use Rattle.pm_vector.specs.Rows.{entry}
use Rattle.pm_build.proofs.sums.factors_of.Goals as goal
use Rattle.pm_vector.proofs.Kept.{kept}
use Rattle.std.proofs.Common.{pos, unsigned_abs, ◌*ℤ◌, ◌≡◌}
use Rattle.std.specs.Int.{IsGcd}

pub part-requires-clause-divisor : goal.part-requires-clause-divisor
part-requires-clause-divisor c =
    let g = rw (c.unsigned_abs.ensures.value, c.unsigned_abs-2.ensures.value, kept c.get-first.result c.get-first.ensures.in_range, kept c.get-second.result c.get-second.ensures.in_range) at c.gcd-divisor.ensures in
    rw (kept c.get-second.result c.get-second.ensures.in_range) g.1

pub part-requires-2-clause-divisor : goal.part-requires-2-clause-divisor
part-requires-2-clause-divisor c =
    let g = rw (c.unsigned_abs.ensures.value, c.unsigned_abs-2.ensures.value, kept c.get-first.result c.get-first.ensures.in_range, kept c.get-second.result c.get-second.ensures.in_range) at c.gcd-divisor.ensures in
    rw (kept c.get-first.result c.get-first.ensures.in_range) g.0

pub returns-clause-in_range : goal.returns-clause-in_range
returns-clause-in_range c = rw (kept c.part.result c.part.ensures.in_range, kept c.part-2.result c.part-2.ensures.in_range) (c.part.ensures.in_range, c.part-2.ensures.in_range)

pub returns-clause-factors : goal.returns-clause-factors
returns-clause-factors c =
    let x : c.get-first.result ≡ entry c.args.v.now 0 = c.get-first.ensures.value in
    let y : c.get-second.result ≡ entry c.args.w.now 0 = c.get-second.ensures.value in
    let g : IsGcd (unsigned_abs c.get-first.result) (unsigned_abs c.get-second.result) c.gcd-divisor.result = rw (c.unsigned_abs.ensures.value, c.unsigned_abs-2.ensures.value, kept c.get-first.result c.get-first.ensures.in_range, kept c.get-second.result c.get-second.ensures.in_range) at c.gcd-divisor.ensures in
    let p : c.get-second.result ≡ c.part.result *ℤ pos c.gcd-divisor.result = rw (kept c.get-second.result c.get-second.ensures.in_range) at c.part.ensures.value in
    let q : c.get-first.result ≡ c.part-2.result *ℤ pos c.gcd-divisor.result = rw (kept c.get-first.result c.get-first.ensures.in_range) at c.part-2.ensures.value in
    rw (kept c.part.result c.part.ensures.in_range, kept c.part-2.result c.part-2.ensures.in_range) (record {
      g = c.gcd-divisor.result;
      divisor = rw (x, y) at g;
      first = rw y at p;
      second = rw x at q;
    })
