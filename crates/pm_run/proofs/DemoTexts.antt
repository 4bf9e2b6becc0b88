-- The text of the demo, piece by piece.
use Rattle.std.proofs.Common.{ap, append_assoc, codes, decimal, is_ok, ◌+◌, List, [], refl, ℕ, ◌++◌, ◌∙◌, ◌≡◌}
use Rattle.std.specs.Prelude.{Err, Ok, OnOk, Result, if◌then◌else◌}
use Rattle.std.specs.Char.{encode_utf8}
use Rattle.std.specs.Fmt.{digits}
use Rattle.std.specs.Str.{chars, is_utf8}
use Rattle.pm_run.specs.Demo.{asked_of_each, shown_shape}
use Rattle.pm_run.specs.DemoExamples.{DemoIsRead}

regroup : (old make shape end asked : List ℕ) → old ++ make ++ shape ++ (end ++ asked) ≡ old ++ (make ++ shape ++ end ++ asked)
regroup old make shape end asked = simp append_assoc

pub shape_written : {T E : Type 0} (r : Result T E) (old shape one two new : List ℕ) → one ≡ old ++ codes "make a " → two ≡ one ++ shape → new ≡ (if is_ok r then two ++ (codes "\n" ++ asked_of_each) else two)
    → OnOk r (new ≡ old ++ shown_shape shape)
shape_written (Ok x) old shape one two new a b is =
    is ∙ ap (λ z. z ++ (codes "\n" ++ asked_of_each)) (b ∙ ap (λ z. z ++ shape) a) ∙ regroup old (codes "make a ") shape (codes "\n") asked_of_each
shape_written (Err x) old shape one two new a b is = tt

pub shown_as : (old new given shape : List ℕ) → new ≡ old ++ shown_shape given → given ≡ shape → new ≡ old ++ shown_shape shape
shown_as old new given shape is same = is ∙ ap (λ z. old ++ shown_shape z) same

pub four_shown : (start one two three four a b d e : List ℕ) → start ≡ [] → one ≡ start ++ a → two ≡ one ++ b → three ≡ two ++ d → four ≡ three ++ e → four ≡ a ++ b ++ d ++ e
four_shown start one two three four a b d e s f g h k = k ∙ ap (λ z. z ++ e) (h ∙ ap (λ z. z ++ d) (g ∙ ap (λ z. z ++ b) (f ∙ ap (λ z. z ++ a) s)))

pub two_numbers : (n m : ℕ) → m ≡ n → codes "cyclic " ++ (decimal n ++ (codes " " ++ decimal (m + 3))) ≡ codes "cyclic " ++ decimal n ++ codes " " ++ decimal (n + 3)
two_numbers n m e = rw e (simp append_assoc)

pub demo_is_read : DemoIsRead
unfolding is_utf8 chars encode_utf8 digits
demo_is_read = record {
  one_shape = refl;
  in_turn = refl;
  other_numbers = refl;
  lines = refl;
  commands = refl;
  source_stays = λ said w outcome h. h.0;
  demo_runs = λ said w outcome h. (h.1, h.2);
  source_runs = λ said w outcome h. h;
}
