-- A number in 16 hexadecimal digits, as it is written.
use Rattle.std.proofs.Common.{Some, ap, arith, false, subst, ◌∙◌, ◌≡◌}
use Rattle.std.proofs.lemmas.List.{append-nil}
use Rattle.std.specs.Fmt.{AppendsText, char_count, digits, digits_output, format_spec, padded_integral, styled_digits_output}
use Rattle.std.specs.Prelude.{Err, List, Ok, OnOk, Result, [], length, replicate, ℕ, ◌++◌, ◌-◌, ◌^◌}

-- filled up with zeros to a width of 16
fills : (ds : List ℕ) → padded_integral (format_spec 32 0 4 16 (2 ^ 64 - 1)) false [] ds ≡ replicate (16 - length ds) 48 ++ ds
unfolding padded_integral char_count
fills ds =
    let short : 16 - length ds - 0 - 0 ≡ 16 - length ds = omega arith in
    ap (λ k. replicate k 48 ++ (ds ++ [])) short ∙ ap (λ z. replicate (16 - length ds) 48 ++ z) (append-nil ds)

appended : (old new : List ℕ) (d : _) (n : ℕ) → digits_output d ≡ Some (digits 16 false n) → AppendsText old new (styled_digits_output d (format_spec 32 0 4 16 (2 ^ 64 - 1))) → new ≡ old ++ (replicate (16 - length (digits 16 false n)) 48 ++ digits 16 false n)
appended old new d n is h =
    let at : new ≡ old ++ padded_integral (format_spec 32 0 4 16 (2 ^ 64 - 1)) false [] (digits 16 false n) = rw is at h in
    at ∙ ap (λ z. old ++ z) (fills (digits 16 false n))

pub half_written : {T E : Type 0} (r : Result T E) (old new : List ℕ) (d : _) (s : _) (n : ℕ) → digits_output d ≡ Some (digits 16 false n) → s ≡ (format_spec 32 0 4 16 (2 ^ 64 - 1)) → OnOk r (AppendsText old new (styled_digits_output d s))
    → OnOk r (new ≡ old ++ (replicate (16 - length (digits 16 false n)) 48 ++ digits 16 false n))
half_written (Ok x) old new d s n is spec h = appended old new d n is (subst (λ z. AppendsText old new (styled_digits_output d z)) spec h)
half_written (Err x) old new d s n is spec h = tt
