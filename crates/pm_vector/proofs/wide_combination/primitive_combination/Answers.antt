-- The quotients by the greatest common divisor are the primitive row.
use Rattle.pm_vector.proofs.WrittenQuotients.{divisor_divides, none_fits, primitive_written}
use Rattle.pm_vector.proofs.wide_combination.primitive_combination.Goals as goal
use Rattle.pm_vector.specs.Divisors.{IsGcdOf, IsPrimitiveOf}
use Rattle.pm_vector.specs.Magnitudes.{magnitude_of}
use Rattle.pm_vector.specs.Multiples.{AreQuotients, HaveQuotients}
use Rattle.pm_vector.specs.Numbers.{InRange}
use Rattle.pm_vector.specs.Rows.{Row, difference}
use Rattle.pm_vector.specs.WideInts.{value_of}
use Rattle.std.proofs.Common.{ap, arith, length, map, subst, sym, ◌≡◌, ◌∙◌}
use Rattle.std.proofs.lemmas.List.{length-map}
use Rattle.std.proofs.lemmas.Result.{IfOk-weaker}
use Rattle.std.specs.Prelude.{All, IfNone, IfSome, None, Option, Some}

weaker_some : {X : Type 0} (P Q : X → Type 0) → ((x : X) → P x → Q x) → (o : Option X) → IfSome o P → IfSome o Q
weaker_some P Q f None h = tt
weaker_some P Q f (Some x) h = f x h

weaker_none : {X : Type 0} (P Q : Type 0) → (P → Q) → (o : Option X) → IfNone o P → IfNone o Q
weaker_none P Q f None h = f h
weaker_none P Q f (Some x) h = tt

pub quotients-requires-clause-divisor : goal.quotients-requires-clause-divisor
quotients-requires-clause-divisor c =
    rw (c.deref-2.ensures.value, sym c.deref.ensures.value) (divisor_divides (map value_of c.deref.result.now) (magnitude_of c.gcd_of_all.result) (magnitude_of c.at_least_one-divisor.result) c.gcd_of_all.ensures c.at_least_one-divisor.ensures)

pub returns-clause-primitive : goal.returns-clause-primitive
returns-clause-primitive c =
    let x = difference (value_of c.args.p) c.args.v.now (value_of c.args.q) c.args.w.now in
    let found = map value_of c.deref-2.result.now in
    let g = magnitude_of c.gcd_of_all.result in
    let d = magnitude_of c.at_least_one-divisor.result in
    let numbers : map value_of c.in_ok-numbers.numbers.items ≡ x = rw (c.as_slice.ensures.value, c.as_slice-2.ensures.value) at c.in_ok-numbers.ensures in
    let divisor = subst (λ y. IsGcdOf y g) (ap (map value_of) c.deref.ensures.value ∙ numbers) c.gcd_of_all.ensures in
    let same = ap (map value_of) c.deref-2.ensures.value ∙ numbers in
    IfOk-weaker c.quotients.result (λ o. IfSome o (AreQuotients found d)) (λ o. IfSome o (IsPrimitiveOf x))
    (weaker_some (AreQuotients found d) (IsPrimitiveOf x) (λ new q. primitive_written x g d divisor c.at_least_one-divisor.ensures new (subst (λ y. AreQuotients y d new) same q)))
    c.quotients.ensures.quotients

pub returns-clause-wide : goal.returns-clause-wide
returns-clause-wide c =
    let x = difference (value_of c.args.p) c.args.v.now (value_of c.args.q) c.args.w.now in
    let found = map value_of c.deref-2.result.now in
    let g = magnitude_of c.gcd_of_all.result in
    let d = magnitude_of c.at_least_one-divisor.result in
    let numbers : map value_of c.in_ok-numbers.numbers.items ≡ x = rw (c.as_slice.ensures.value, c.as_slice-2.ensures.value) at c.in_ok-numbers.ensures in
    let divisor = subst (λ y. IsGcdOf y g) (ap (map value_of) c.deref.ensures.value ∙ numbers) c.gcd_of_all.ensures in
    let same = ap (map value_of) c.deref-2.ensures.value ∙ numbers in
    let as_many : length x ≡ length c.deref-2.result.now = ap length (sym same) ∙ length-map c.deref-2.result.now value_of in
    let Unfit : Type 0 = HaveQuotients found d (length c.deref-2.result.now) → ⊥ in
    let Unheard : Type 0 = (u : Row) → IsPrimitiveOf x u → All InRange u → ⊥ in
    IfOk-weaker c.quotients.result (λ o. IfNone o Unfit) (λ o. IfNone o Unheard)
    (weaker_none Unfit Unheard (λ h u p r. h (subst (λ y. HaveQuotients y d (length c.deref-2.result.now)) (sym same) (subst (λ n. HaveQuotients x d n) as_many (none_fits x g d divisor c.at_least_one-divisor.ensures u p r)))))
    c.quotients.ensures.none
