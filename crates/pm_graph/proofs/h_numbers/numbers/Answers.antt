use Rattle.pm_graph.proofs.HNumbers.{all_fit, fit_at, numbers_more}
use Rattle.pm_graph.proofs.h_numbers.numbers.Goals as goal
use Rattle.std.proofs.Common.{arith, subst, sym, ◌≡◌, ◌∙◌}
use mir.Syntax.{w128, w64}
use mir.Val.{SFits, of_z, to_z}
use Rattle.std.proofs.lemmas.Int.{ints, to_z-of_z}
use Rattle.std.proofs.lemmas.List.Elements.{All-push}
use Rattle.std.specs.List.{All}

pub returns-in_default-clause-numbers : goal.returns-in_default-clause-numbers
returns-in_default-clause-numbers c = λ h.
    let k : to_z w128 (of_z w128 c.h_number.result) ≡ c.h_number.result = omega (arith, ints) in
    absurd (c.in_default.ensures (subst (λ z. SFits w64 z) (sym (k ∙ c.h_number.ensures)) (fit_at c.args.f.now c.args.d c.loop-k.k (omega arith) h)))

pub loop-k-preserved : goal.loop-k-preserved
loop-k-preserved c =
    let k : to_z w128 (of_z w128 c.h_number.result) ≡ c.h_number.result = omega (arith, ints) in
    let w = c.in-Ok.ensures in
    let fits = subst (λ z. SFits w64 z) (sym w.1) w.0 in
    let e = to_z-of_z w64 c.in-Ok.number fits ∙ w.1 ∙ k ∙ c.h_number.ensures in
    record {
      numbers = numbers_more c.args.f.now c.args.d c.loop-k.k c.loop-k.numbers.items c.push.new.self.items (to_z w64 (of_z w64 c.in-Ok.number)) c.in_ok-push.ensures.items e c.loop-k.invariant.numbers;
      fit = subst (λ xs. All (SFits w64) xs) (sym c.in_ok-push.ensures.items) (All-push (SFits w64) c.loop-k.numbers.items (to_z w64 (of_z w64 c.in-Ok.number)) c.loop-k.invariant.fit (subst (λ z. SFits w64 z) (sym (to_z-of_z w64 c.in-Ok.number fits)) fits));
    }

pub returns-clause-none : goal.returns-clause-none
returns-clause-none c = λ none. absurd (none (all_fit c.args.f.now c.args.d c.loop-k.k c.loop-k.numbers.items (omega arith) c.loop-k.invariant.numbers c.loop-k.invariant.fit))
