-- Each turn puts in the member of the lowest bit that is left.
use Rattle.pm_bits.proofs.MemberLists.{next_below, next_left, next_member, none_left}
use Rattle.pm_bits.proofs.words.push_members.Goals as goal
use Rattle.pm_bits.specs.Words.{has_bit}
use Rattle.std.proofs.Common.{ap, arith, get_or, refl, sym, ◌*◌, ◌+◌, ◌-◌, ◌/◌, ◌^◌, ◌<◌, ◌≡◌, ◌≢◌, ◌∙◌}
use Rattle.std.specs.Int.{trailing_zeros, w64}
use Rattle.std.specs.List.{filter, range_with_len}

pub overflow_cast-member-in-loop-rest : goal.overflow_cast-member-in-loop-rest
overflow_cast-member-in-loop-rest c =
    let b = c.loop-rest.next - c.args.k * 64 in
    let l = next_below c.args.words.now c.args.k b (c.type_inv.words c.args.k).fits c.loop-rest.rest c.loop-rest.invariant.left c.loop-rest-test.true c.loop-rest.auto.rest-fits.fits (trailing_zeros w64 c.loop-rest.rest) refl in
    record { fits = omega (arith, l, c.requires.place, c.requires.few, c.loop-rest.invariant.from) }

pub loop-rest-preserved : goal.loop-rest-preserved
loop-rest-preserved c =
    let b = c.loop-rest.next - c.args.k * 64 in
    let s = trailing_zeros w64 c.loop-rest.rest in
    let word = (c.type_inv.words c.args.k).fits in
    let fits = c.loop-rest.auto.rest-fits.fits in
    let from = c.loop-rest.invariant.from in
    let here : c.loop-rest.next ≡ c.args.k * 64 + b = omega (arith, from) in
    let l = next_below c.args.words.now c.args.k b word c.loop-rest.rest c.loop-rest.invariant.left c.loop-rest-test.true fits s refl in
    record {
      from = omega (arith, from);
      to = omega (arith, l, here);
      left = next_left c.args.words.now c.args.k b word c.loop-rest.rest c.loop-rest.invariant.left c.loop-rest-test.true fits s refl _ refl
          ∙ ap (λ i. get_or c.args.words.now c.args.k 0 / 2 ^ i) (omega (arith, from));
      list = next_member c.args.words.now c.args.k b word c.loop-rest.rest c.loop-rest.invariant.left c.loop-rest-test.true fits s refl
          c.loop-rest.list.items c.push.new.self.items (c.loop-rest.next + s) (omega (arith, here)) c.in_ok-push.ensures.items
          (c.loop-rest.invariant.list ∙ ap (λ j. filter (has_bit c.args.words.now) (range_with_len 0 j)) here);
    }

pub returns : goal.returns
returns c =
    let b = c.loop-rest.next - c.args.k * 64 in
    let here : c.loop-rest.next ≡ c.args.k * 64 + b = omega (arith, c.loop-rest.invariant.from) in
    none_left c.args.words.now c.args.k b (c.type_inv.words c.args.k).fits c.loop-rest.rest c.loop-rest.invariant.left (omega (arith, c.loop-rest-test.false))
    (omega (arith, c.loop-rest.invariant.to)) c.loop-rest.list.items (c.loop-rest.invariant.list ∙ ap (λ j. filter (has_bit c.args.words.now) (range_with_len 0 j)) here)
