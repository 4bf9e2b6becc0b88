use Rattle.pm_dd.proofs.Arranged.{many_shown, pair_shown, product_shown, wide_ray_shown}
use Rattle.pm_dd.proofs.run.refusal_of.Goals as goal
use Rattle.pm_dd.proofs.run.refusal_of.Goals.{in-Pair, in-Product}
use Rattle.pm_dd.specs.Fronts.{HalfSpaces}
use Rattle.pm_dd.specs.Lost.{IsLostSource}
use Rattle.pm_dd.specs.StepFails.{AreTooMany, IsStepFail, IsWideSource}
use Rattle.pm_geom.specs.Faces.{ray}
use Rattle.pm_geom.specs.RayEvidence.{IsCrowded}
use Rattle.std.proofs.Common.{arith, length, subst, sym, take, ◌*◌, ◌+◌, ◌≡◌, ◌∙◌, ℕ}
use Rattle.std.proofs.lemmas.List.{get_or_read}
use Rattle.std.specs.Prelude.{[], suc}
use Rattle.pm_dd.specs.declared.fails.StepFail.TheVariants.{Product}

pub returns-in-Many-clause-shown : goal.returns-in-Many-clause-shown
returns-in-Many-clause-shown c = λ X hX a.
    let m : AreTooMany c.args.cols (HalfSpaces c.args.equations.now (take (suc c.args.front) c.args.rows.now)) c.in-Many.made.items = rw c.in-Many.is at c.requires.fail in
    let e : suc c.args.front + 2 * length c.args.equations.now ≡ c.args.front + 2 * length c.args.equations.now + 1 = omega arith in
    rw c.from_vec.ensures (subst (λ (k : ℕ). IsCrowded c.args.cols X k c.in-Many.made.items) e
    (many_shown c.args.cols X c.args.equations.now c.args.rows.now c.args.start hX a (suc c.args.front) (let l = c.requires.from in omega arith) (omega arith) c.in-Many.made.items m))

pub returns-in-Ok-clause-shown : goal.returns-in-Ok-clause-shown
returns-in-Ok-clause-shown c = λ X hX a. elim c.match-fail.branch [
  | in-Product w ↦
      let h : IsStepFail c.args.cols c.args.equations.now c.args.rows.now c.args.front c.args.rays.now (Product w.in-Product.k) = rw w.in-Product.is at c.requires.fail in
      let here : w.index-rays-k.result ≡ ray c.args.rays.now w.in-Product.k = get_or_read c.args.rays.now w.in-Product.k w.index-rays-k.result h.0 w.index-rays-k.is [] in
      let too : w.index-rays-k-in-Product.result ≡ ray c.args.rays.now w.in-Product.k = get_or_read c.args.rays.now w.in-Product.k w.index-rays-k-in-Product.result h.0 w.index-rays-k-in-Product.is [] in
      let e = rw (sym w.evidence-is ∙ c.in-Ok.is) at w.pair_evidence-evidence.ensures in
      rw (e, here, too) (product_shown c.args.cols X c.args.equations.now c.args.rows.now c.args.start hX a c.args.front c.requires.from c.requires.within c.args.rays.now c.requires.order c.requires.reduced w.in-Product.k h.0 h.1)
  | in-Pair w ↦
      let h : IsWideSource c.args.rows.now c.args.front c.args.rays.now w.in-Pair.first w.in-Pair.second w.in-Pair.column = rw w.in-Pair.is at c.requires.fail in
      let here : w.index-rays-first.result ≡ ray c.args.rays.now w.in-Pair.first = get_or_read c.args.rays.now w.in-Pair.first w.index-rays-first.result h.source.0 w.index-rays-first.is [] in
      let too : w.index-rays-second.result ≡ ray c.args.rays.now w.in-Pair.second = get_or_read c.args.rays.now w.in-Pair.second w.index-rays-second.result h.source.1 w.index-rays-second.is [] in
      let e = rw (sym w.evidence-is ∙ c.in-Ok.is) at w.pair_evidence-evidence-in-Pair.ensures in
      rw (e, here, too) (pair_shown c.args.cols X c.args.equations.now c.args.rows.now c.args.start hX a c.args.front c.requires.from c.requires.within c.args.rays.now c.requires.order c.requires.reduced w.in-Pair.first w.in-Pair.second w.in-Pair.column h)
]

pub returns-in-Ok-clause-lost : goal.returns-in-Ok-clause-lost
returns-in-Ok-clause-lost c = λ h X hX a. elim c.match-fail.branch [
  | in-Product w ↦
      let q : IsLostSource c.args.rows.now c.args.front c.args.rays.now = rw w.in-Product.is at h in
      wide_ray_shown c.args.cols X c.args.equations.now c.args.rows.now c.args.start hX a c.args.front c.requires.from c.requires.within c.args.rays.now c.requires.order c.requires.reduced q
  | in-Pair w ↦
      let q : IsLostSource c.args.rows.now c.args.front c.args.rays.now = rw w.in-Pair.is at h in
      wide_ray_shown c.args.cols X c.args.equations.now c.args.rows.now c.args.start hX a c.args.front c.requires.from c.requires.within c.args.rays.now c.requires.order c.requires.reduced q
]
