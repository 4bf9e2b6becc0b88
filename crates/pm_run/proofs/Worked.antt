-- The examples hold.
use Rattle.std.proofs.Common.{arith, inl, inr, refl, ◌≡◌, ◌≤◌, ◌++◌, ℕ, zero, suc, true, false, List, [], ◌∷◌, Option, Some, Err, append-nil, drop, take}
use Rattle.pm_lines.specs.Whole.{whole_lines}
use Rattle.pm_standard.specs.Table.{standard_kinds_list}
use Rattle.pm_props.specs.declared.kind.Kind.{Kind}
use Rattle.pm_run.specs.Chosen.{has_standard_name, kinds_of}
use Rattle.pm_run.specs.Ends.{IsRead}
use Rattle.pm_run.specs.Examples.{BooksAreChosen, LinesAreRead, LinesAreRefused, both, two_lines}
use Rattle.pm_run.specs.declared.status.RunFail.TheVariants.{SourceFault}

-- all three bytes were given, as nothing is left
three : (n : ℕ) → n ≤ 3 → ◌≡◌ {A = Option (List ℕ)} (Some []) (Some (drop n two_lines)) → n ≡ 3
three zero few e = cc
three (suc zero) few e = cc
three (suc (suc zero)) few e = cc
three (suc (suc (suc n))) few e = omega arith

fewer_are_not : IsRead (Some two_lines) (Some []) (Err SourceFault) [] → ⊥
fewer_are_not h =
    let all : h.0 ≡ 3 = three h.0 h.1 h.3 in
    let none : [] ≡ whole_lines (take 3 two_lines) = rw all at h.4 in
    cc

last_is_not : IsRead (Some two_lines) (Some []) (Err SourceFault) both → ⊥
last_is_not h =
    let all : h.0 ≡ 3 = three h.0 h.1 h.3 in
    let none : both ≡ whole_lines (take 3 two_lines) = rw all at h.4 in
    cc

pub lines_are_read : LinesAreRead
lines_are_read = record {
  whole = λ some. (refl, omega arith, refl);
  not_whole = λ some h. let e = h.2 in cc;
  broken = (3, omega arith, omega arith, refl, refl);
  broken_before = (2, omega arith, omega arith, refl, refl);
  not_last = last_is_not;
  not_fewer = fewer_are_not;
  untaken = inl (refl, omega arith, refl);
  untaken_before = inr (2, omega arith, omega arith, refl, refl);
  short = λ left lines h. let many = h.0 in omega arith;
}

pub lines_are_refused : LinesAreRefused
lines_are_refused = record {
  long = λ line e. rw e refl;
  short = refl;
  same = λ book old why. (refl, refl);
  not_other = λ book old new h. let e = h.0 in cc;
  not_silent = λ book old new why h. h;
}

adds : (kind : Kind) (starts : ℕ) → has_standard_name kind ≡ false → kinds_of ((kind, starts) ∷ []) ≡ standard_kinds_list ++ kind ∷ []
unfolding kinds_of
adds kind starts e = rw e refl

adds_none : (kind : Kind) (starts : ℕ) → has_standard_name kind ≡ true → kinds_of ((kind, starts) ∷ []) ≡ standard_kinds_list
unfolding kinds_of
adds_none kind starts e = rw e (append-nil standard_kinds_list)

pub books_are_chosen : BooksAreChosen
books_are_chosen = record {
  standard = λ clients files. refl;
  not_empty = λ clients files e. cc;
  absent = λ name clients. tt;
  not_absent = λ name clients book h. let e = h.1 in cc;
  adds = adds;
  adds_none = adds_none;
}
