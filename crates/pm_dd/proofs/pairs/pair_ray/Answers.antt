use Rattle.pm_bits.proofs.Common.{has-met_row, length-met_row, member_count-met_row, met_row}
use Rattle.pm_bits.specs.Sets.{has}
use Rattle.pm_dd.proofs.Building.{and_same}
use Rattle.pm_dd.proofs.pairs.pair_ray.Goals as goal
use Rattle.pm_dd.specs.Tables.{zero_set}
use Rattle.std.proofs.Common.{ap, arith, inl, length, refl, sym, ◌∙◌}

pub returns-then-common_count-need-clause-none : goal.returns-then-common_count-need-clause-none
returns-then-common_count-need-clause-none c =
    let first = zero_set c.args.rays.now.zeros.rows c.args.i in
    let second = zero_set c.args.rays.now.zeros.rows c.args.j in
    record {
      both = met_row first second;
      cols = length-met_row first second ∙ ap length (sym c.row-first.ensures.value) ∙ c.row-first.ensures.len;
      meet = has-met_row first second;
      dropped = inl (let e = member_count-met_row first second in let f = c.common_count.ensures in let t = c.if-common_count-need.true in omega arith);
    }

pub combined-requires-clause-pair : goal.combined-requires-clause-pair
combined-requires-clause-pair c = record {
  both = c.meet_into.new.out;
  meet = rw (c.row-first.ensures.value, c.row-second.ensures.value) at c.meet_into.ensures.members;
  alone = λ o. let t = c.other_contains.ensures.1 o in let f = c.if-other_contains.false in cc;
}

pub returns-clause-some : goal.returns-clause-some
returns-clause-some c =
    record {
      both = c.meet_into.new.out;
      cols = c.meet_into.ensures.len ∙ c.requires.both;
      meet = rw (c.row-first.ensures.value, c.row-second.ensures.value) at c.meet_into.ensures.members;
      alone = λ o. let t = c.other_contains.ensures.1 o in let f = c.if-other_contains.false in cc;
      combination = c.in_ok-made.ensures.combination;
      zeros = record {
        as_many = c.set.ensures.len ∙ c.meet_into-2.ensures.len ∙ c.in_ok-zeros.ensures.len ∙ c.len.ensures;
        on = λ e. c.set.ensures.member;
        others = λ p np. c.set.ensures.others p (λ q. np q refl) ∙ c.meet_into-2.ensures.members p ∙ and_same (has c.meet_into.new.out p);
      };
    }
