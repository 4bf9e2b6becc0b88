use Rattle.pm_clients_fans.proofs.Shown.{most_kept, most_next, most_of}
use Rattle.pm_clients_fans.proofs.dims.greatest.Goals as goal
use Rattle.pm_clients_fans.proofs.dims.greatest.Goals.{else-number-most, then-number-most}
use Rattle.std.proofs.Common.{ap, arith, get_or, pos, refl, subst, sym, take, ◌+◌, ◌≡◌}
use Rattle.std.proofs.lemmas.List.{take_all}
use Rattle.std.specs.List.{All, Contains}
use lib.Signed.{◌≤ℤ◌}

pub loop-number-preserved : goal.loop-number-preserved
loop-number-preserved c =
    let ks = c.args.numbers.now in
    let i = c.loop-number.number-index in
    let x = get_or ks i (pos 0) in
    elim c.if-number-most.branch [
      | then-number-most w ↦
          let is : c.if-number-most.most.now ≡ x = ap (λ r. r.now) w.most-is in
          let p = most_next ks c.requires.form i x (pos 0) c.loop-number.most.now c.loop-number-test.true refl c.loop-number.invariant.listed c.loop-number.invariant.above w.if-number-most.true in
          record { listed = subst (λ z. Contains ks z) (sym is) p.0; above = subst (λ z. All (λ y. y ≤ℤ z) (take (i + 1) ks)) (sym is) p.1 }
      | else-number-most w ↦
          let is : c.if-number-most.most.now ≡ c.loop-number.most.now = ap (λ r. r.now) w.most-is in
          let p = most_kept ks c.requires.form i x (pos 0) c.loop-number.most.now c.loop-number-test.true refl c.loop-number.invariant.listed c.loop-number.invariant.above w.if-number-most.false in
          record { listed = subst (λ z. Contains ks z) (sym is) p.0; above = subst (λ z. All (λ y. y ≤ℤ z) (take (i + 1) ks)) (sym is) p.1 }
    ]

pub returns : goal.returns
returns c =
    let ks = c.args.numbers.now in
    most_of ks c.loop-number.most.now c.loop-number.invariant.listed (subst (λ xs. All (λ y. y ≤ℤ c.loop-number.most.now) xs) (take_all c.loop-number.number-index ks (let l = c.loop-number-test.false in omega arith)) c.loop-number.invariant.above)
