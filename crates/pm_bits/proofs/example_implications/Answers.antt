use Rattle.pm_bits.specs.Examples.{ImplicationsAreRead, bits, three_rows}
use Rattle.pm_bits.specs.Sets.{IsSubset}
use Rattle.pm_bits.specs.Table.{Implies}
use Rattle.std.proofs.Common.{arith, refl}
use Rattle.std.specs.Prelude.{Bool, IsTrue, false, suc, true, zero, ◌≡◌}
use Rattle.pm_bits.proofs.example_implications.Goals as goal

-- a row with the middle place has what {1} has
middle : (a b : Bool) → IsSubset (bits false true false) (bits a true b)
middle a b zero t = absurd (let e : false ≡ true = t in cc)
middle a b (suc zero) t = refl
middle a b (suc (suc zero)) t = absurd (let e : false ≡ true = t in cc)
middle a b (suc (suc (suc i))) t = t

-- and one with the first place has what {0} has
start : (a b : Bool) → IsSubset (bits true false false) (bits true a b)
start a b zero t = refl
start a b (suc zero) t = absurd (let e : false ≡ true = t in cc)
start a b (suc (suc zero)) t = absurd (let e : false ≡ true = t in cc)
start a b (suc (suc (suc i))) t = t

first : Implies three_rows (bits true false false) (bits false true false) 2
first zero l s = middle true false
first (suc zero) l s = middle false false
first (suc (suc k)) l s = absurd (omega arith)

pub returns : goal.returns
returns c = record {
  first = first;
  not_turned = λ h. let e : false ≡ true = h 1 (omega arith) (λ i t. t) 0 refl in cc;
  not_last = λ h. let e : false ≡ true = h 2 (omega arith) (start false true) 1 refl in cc;
  in_none = λ k l. absurd (omega arith);
}
